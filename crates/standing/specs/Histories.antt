-- Histories on memory: a fresh call, then a driver's calls one after another, any of the fourteen, fresh calls and
-- calls on memory of another length among them. Assumes nothing: these are definitions.
use Rattle.std.specs.Prelude.{ℕ, ◌≡◌, Bool, false, List, [], ◌∷◌, map, if◌then◌else◌}
use Rattle.std.proofs.lemmas.List.Edits.{sets}
use Rattle.rules.specs.Choice.{Each}
use Rattle.machine.specs.State.{State, Call, Answer}
use Rattle.machine.specs.History.{HostCall, start, after₁, answer₁}
use Rattle.machine.specs.History as Machine
use Rattle.layout.specs.declared.answers.Answer as Lent
use Rattle.fresh_call.specs.Calls.{cells_lent, lengths_fit, fresh_call}
use Rattle.gufhrandi.specs.Memories.{Memories, Done}
use Rattle.gufhrandi.specs.Runs.{on_all, run}
use Rattle.standing.specs.Lines.{fits_for}
use Rattle.standing.specs.Follows.{Handed, numbers_of, handed_back}

-- A call as a driver makes it. `begin`: the fresh call, on memories that it lends, whatever they hold. `call`: one of
-- the thirteen on the switch's memories, with the buffer that it lends; only take writes there. `misfit`: one of the
-- thirteen on memories of which one has not the length that fits.
pub data Made : Type 0 where
  begin : Memories → Made
  call : Call → List ℕ → Made
  misfit : Call → Memories → List ℕ → Made

-- what a driver can hand over
abbrev pub MayBeMade : Made → Type 0
MayBeMade (begin x) = Unit {0}
MayBeMade (call c buffer) = Handed c buffer
MayBeMade (misfit c x buffer) = fits_for x c ≡ false

abbrev pub AllHanded : List Made → Type 0
AllHanded made = Each MayBeMade made

-- what a driver sees of a call: the answer, and the buffer then
abbrev pub Seen : Type 0
Seen = Lent.Answer × List ℕ

-- ---- over memory

abbrev pub fits : Memories → Bool
fits x = lengths_fit x.cells x.links x.addresses

abbrev pub begun : Memories → Done
begun x = on_all [] (fresh_call x.cells x.links x.addresses)

abbrev pub ran : Memories → Made → Done
ran m (begin x) = begun x
ran m (call c buffer) = run m c buffer
ran m (misfit c x buffer) = run x c buffer

-- the switch's memories then: a refused fresh call, and one on memories that do not fit, leave them alone
unfoldable pub memories_after₁ : Memories → Made → Memories
memories_after₁ m (begin x) = if fits x then (begun x).memories else m
memories_after₁ m (call c buffer) = (run m c buffer).memories
memories_after₁ m (misfit c x buffer) = m

unfoldable pub memories_after : Memories → List Made → Memories
memories_after m [] = m
memories_after m (c ∷ cs) = memories_after (memories_after₁ m c) cs

unfoldable pub seen : Memories → List Made → List Seen
seen m [] = []
seen m (c ∷ cs) = ((ran m c).answer, (ran m c).buffer) ∷ seen (memories_after₁ m c) cs

-- ---- by the machine

-- memories that do not fit are no number of cells
abbrev pub cells_of : Memories → ℕ
cells_of x = if fits x then cells_lent x.cells else 0

unfoldable pub host_call : Made → HostCall
host_call (begin x) = start (cells_of x)
host_call (call c buffer) = Machine.call c
host_call (misfit c x buffer) = Machine.misfit

abbrev pub host_calls : List Made → List HostCall
host_calls made = map host_call made

abbrev pub buffer_of : Made → List ℕ
buffer_of (begin x) = []
buffer_of (call c buffer) = buffer
buffer_of (misfit c x buffer) = buffer

abbrev pub shown : List ℕ → Answer → Seen
shown buffer answer = (numbers_of answer, sets buffer 0 (handed_back answer))

unfoldable pub expected : State → List Made → List Seen
expected s [] = []
expected s (c ∷ cs) = shown (buffer_of c) (answer₁ s (host_call c)) ∷ expected (after₁ s (host_call c)) cs
