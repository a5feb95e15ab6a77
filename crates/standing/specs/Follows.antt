-- A call over memory follows the machine: the same answer, the same bytes handed back, and memories that stand for the
-- machine's next state. Assumes nothing: these are definitions.
use Rattle.std.specs.Prelude.{ℕ, ◌≡◌, List, [], length}
use Rattle.std.proofs.lemmas.List.Edits.{sets}
use Rattle.rules.specs.Tags.{Bytes}
use Rattle.machine.specs.State.{State, Call, frame_in, take, age, counter, port, vlan, clear_vlan, static, remove, map}
use Rattle.machine.specs.State.{queue_switch, drain, bpdu, Answer, refused, done, Step}
use Rattle.machine.specs.Machine.{perform, next}
use Rattle.layout.specs.declared.answers.Answer as Lent
use Rattle.layout.specs.Answers.{refused_by, done_with}
use Rattle.gufhrandi.specs.Memories.{Memories, Done}
use Rattle.standing.specs.Stands.{Stands}
use Rattle.gufhrandi.specs.Runs.{run}

-- What a driver can hand over: a frame is of bytes, and the length that a take names is that of the buffer it lends.
-- The other numbers are any.
unfoldable pub Handed : Call → List ℕ → Type 0
Handed (frame_in c) buffer = Bytes c.packet.bytes
Handed (take c) buffer = c.buffer ≡ length buffer
Handed age buffer = Unit {0}
Handed (counter c) buffer = Unit {0}
Handed (port c) buffer = Unit {0}
Handed (vlan n) buffer = Unit {0}
Handed (clear_vlan vid) buffer = Unit {0}
Handed (static c) buffer = Unit {0}
Handed (remove c) buffer = Unit {0}
Handed (map c) buffer = Unit {0}
Handed (queue_switch c) buffer = Unit {0}
Handed (drain p) buffer = Unit {0}
Handed (bpdu on) buffer = Unit {0}

-- the numbers of the machine's answer, and the bytes that it hands back
unfoldable pub numbers_of : Answer → Lent.Answer
numbers_of (refused r) = refused_by r
numbers_of (done x y bytes) = done_with x y

unfoldable pub handed_back : Answer → List ℕ
handed_back (refused r) = []
handed_back (done x y bytes) = bytes

pub record Follows (d : Done) (buffer : List ℕ) (s : State) (step : Step) : Type 0 where
  pub same_answer : d.answer ≡ numbers_of step.answer
  -- "the rest of the buffer keeps its bytes"
  pub same_bytes : d.buffer ≡ sets buffer 0 (handed_back step.answer)
  pub stands_kept : Stands d.memories (next s step)

-- of one call: in every memory that stands for a state
abbrev pub CallFollows : Call → Type 0
CallFollows c =
    (m : Memories) (s : State) → Stands m s → (buffer : List ℕ) → Handed c buffer
    → Follows (run m c buffer) buffer s (perform s c)
