-- What the table of refusals asks of a call over lent memory, whatever its lines are. Assumes nothing: these are
-- definitions.
use Rattle.std.specs.Prelude.{ℕ, ◌≡◌, ◌↔◌, List, []}
use Rattle.rules.specs.Choice.{Each}
use Rattle.rules.specs.Lines.{Fails, FirstOf}
use Rattle.rules.specs.LineTheorems.{InOrder}
use Rattle.rules.specs.Refusals.{Lines, refusal_number}
use Rattle.rules.specs.declared.refusals.Refusal.{Refusal}
use Rattle.layout.specs.declared.answers.Answer.{Answer}
use Rattle.layout.specs.Answers.{refused_by}

-- A promise is a function: for every argument and memory it gives one answer and one memory, so that two programs that
-- meet it do the same.
abbrev pub OfAFunction : {A : Type 0} → A → Type 0
OfAFunction {A} promised = (one other : A) → one ≡ promised → other ≡ promised → one ≡ other

-- a call with these lines, on this memory, that promises this answer and this memory
pub record Refuses {M : Type 0} (lines : Lines) (memory : M) (promised : Answer × M) : Type 0 where
  -- the lines stand in the order of their numbers, so that the lowest number wins
  pub in_order : InOrder lines
  -- "a refusal comes exactly when its line holds"
  pub refused_exactly : (r : Refusal) → (promised.0.refusal ≡ refusal_number r) ↔ FirstOf lines r
  -- "nothing changes, counters included; the answer is only the number"
  pub nothing_else : (r : Refusal) → FirstOf lines r → promised ≡ (refused_by r, memory)
  pub done_exactly : (promised.0.refusal ≡ 0) ↔ Each Fails lines
  pub of_a_function : OfAFunction promised

-- a call that tells refusal and queue and hands back a part: "a refusal hands back an empty part and writes nothing"
pub record HandsBack (lines : Lines) (memory : List ℕ) (promised : ℕ × ℕ × List ℕ × List ℕ) : Type 0 where
  pub empty_if_refused : (r : Refusal) → FirstOf lines r → promised ≡ (refusal_number r, 0, memory, [])
  pub of_a_function : OfAFunction promised
