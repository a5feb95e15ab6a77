-- Histories over all fourteen calls, fresh calls in the middle and refused ones included: each demand holds after every
-- such list. `proofs/Lives.antt` proves it. Assumes nothing: these are definitions.
use Rattle.std.specs.Prelude.{ℕ, ◌≤◌, ◌≡◌, List, []}
use Rattle.rules.specs.declared.refusals.Refusal.TheVariants.{MemoryLength as memory_length}
use Rattle.machine.specs.State.{State, Call, refused, done}
use Rattle.machine.specs.Machine.{perform, next}
use Rattle.machine.specs.History.{fresh, after, HostCall, start, call, misfit, after₁, answer₁, life, Current}
use Rattle.machine.specs.History.{current_after}
use Rattle.machine.specs.Demands.{Holds}

-- a switch of n cells at the beginning of its history
abbrev pub begun : ℕ → Current
begun n = record { cells = n; calls = [] }

pub record OneCall (s : State) : Type 0 where
  -- A fresh call gets 64 to 2,048 cells, or refusal 1 and nothing changes; it starts anew, whatever came before.
  pub fresh_done : (n : ℕ) → 64 ≤ n → n ≤ 2048 → (answer₁ s (start n) ≡ done 0 0 []) × (after₁ s (start n) ≡ fresh n)
  pub fresh_refused : (n : ℕ) → ((64 ≤ n) × (n ≤ 2048) → ⊥)
      → (answer₁ s (start n) ≡ refused memory_length) × (after₁ s (start n) ≡ s)
  -- A call that is lent memory of another length gets refusal 1, and nothing changes.
  pub misfit_refused : (answer₁ s misfit ≡ refused memory_length) × (after₁ s misfit ≡ s)
  pub call_performs : (c : Call)
      → (answer₁ s (call c) ≡ (perform s c).answer) × (after₁ s (call c) ≡ next s (perform s c))

pub record LifeTheorems : Type 0 where
  pub one_call : (s : State) → OneCall s
  -- The state after any list of the fourteen calls is that of the history under way: the calls since the last fresh
  -- call that was done.
  pub state_is : (n : ℕ) (cs : List HostCall)
      → life (fresh n) cs ≡ after (fresh (current_after (begun n) cs).cells) (current_after (begun n) cs).calls
  -- So each demand holds of it.
  pub demands : (n : ℕ) (cs : List HostCall)
      → Holds (current_after (begun n) cs).cells (current_after (begun n) cs).calls
