-- What makes the promises mean the rules: memory stands for the machine, over every history. `proofs/Theorems.antt`
-- proves it.
-- Assumes nothing: these are definitions.
use Rattle.std.specs.Prelude.{ℕ, ◌≡◌, true, false, List, []}
use Rattle.std.proofs.lemmas.List.Edits.{sets}
use Rattle.rules.specs.declared.refusals.Refusal.TheVariants.{MemoryLength as memory_length}
use Rattle.machine.specs.State.{State, Call}
use Rattle.machine.specs.Machine.{perform, next}
use Rattle.machine.specs.History.{fresh, life, current_after}
use Rattle.machine.specs.LifeTheorems as Machine
use Rattle.layout.specs.Answers.{done_with}
use Rattle.fresh_call.specs.Calls.{cells_lent}
use Rattle.gufhrandi.specs.Memories.{Memories}
use Rattle.standing.specs.Stands.{Stands}
use Rattle.gufhrandi.specs.Runs.{run}
use Rattle.standing.specs.Follows.{Handed, numbers_of, handed_back}
use Rattle.standing.specs.RefusalTheorems.{unchanged}
use Rattle.standing.specs.Demands.{MemoryHolds}
use Rattle.standing.specs.Histories.{Made, AllHanded, fits, begun, memories_after, seen, host_calls, expected}

-- a fresh call, whatever the memories held before
pub record FreshTheorems (x : Memories) : Type 0 where
  pub fresh_answers : fits x ≡ true → (begun x).answer ≡ done_with 0 0
  pub stands_fresh : fits x ≡ true → Stands (begun x).memories (fresh (cells_lent x.cells))
  pub fresh_refused : fits x ≡ false → begun x ≡ unchanged memory_length x []

-- any call with any arguments, on memories that stand for a state
pub record CallTheorems (m : Memories) (s : State) (stands : Stands m s) (c : Call) (buffer : List ℕ)
    (handed : Handed c buffer) : Type 0 where
  pub same_answer : (run m c buffer).answer ≡ numbers_of (perform s c).answer
  -- Take's written bytes are the machine's, and the rest of the buffer keeps its bytes; no other call writes to it.
  pub same_bytes : (run m c buffer).buffer ≡ sets buffer 0 (handed_back (perform s c).answer)
  pub stands_kept : Stands (run m c buffer).memories (next s (perform s c))
  -- Refusals 1 and 10 are of lent memory alone: the very memories of the switch's fresh call, touched only by our
  -- calls, never bring them.
  pub never_one : (run m c buffer).answer.refusal ≡ 1 → ⊥
  pub never_ten : (run m c buffer).answer.refusal ≡ 10 → ⊥

-- a fresh call that is done, and any list of the fourteen calls after it
pub record HistoryTheorems (x : Memories) (fit : fits x
    ≡ true) (made : List Made) (handed : AllHanded made) : Type 0 where
  -- What the driver sees of each call is what the machine says, and the memories stand for the machine's state.
  pub histories : seen (begun x).memories made ≡ expected (fresh (cells_lent x.cells)) made
  pub stands : Stands (memories_after (begun x).memories made) (life (fresh (cells_lent x.cells)) (host_calls made))
  -- Demand 3, of the memories themselves: of the history that is under way.
  pub holds : MemoryHolds (current_after (Machine.begun (cells_lent x.cells)) (host_calls made)).cells
      (memories_after (begun x).memories made)
      (current_after (Machine.begun (cells_lent x.cells)) (host_calls made)).calls
