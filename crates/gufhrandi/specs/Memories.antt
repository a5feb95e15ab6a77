-- The memories that a driver lends a switch. Assumes nothing: these are definitions.
use Rattle.std.specs.Prelude.{ℕ, List}
use Rattle.layout.specs.declared.answers.Answer.{Answer}

pub record Memories : Type 0 where
  pub cells : List ℕ
  pub links : List ℕ
  pub addresses : List ℕ

-- what a call comes to: its answer, the buffer that take was lent, the memories then
pub record Done : Type 0 where
  pub answer : Answer
  pub buffer : List ℕ
  pub memories : Memories
