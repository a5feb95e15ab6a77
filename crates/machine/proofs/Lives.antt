-- Histories over all fourteen calls: what a list of them leaves is what the history under way leaves. Assumes nothing.
use Prim.Native.Nat.{ℕ, ◌≤◌}
use mathlib.Core.Path.{◌≡◌, refl, sym, ap, ◌∙◌}
use mathlib.Core.Bool.{◌&&◌}
use mathlib.Core.List.{List, [], ◌∷◌, ◌++◌}
use Rattle.std.specs.Prelude.{None as none, Some as some}
use lib.Dec.{leb}
use borrow.Author.Tests.{leb-true, le-leb}
use Rattle.rules.specs.Lines.{first}
use Rattle.rules.specs.Refusals.{fresh_lines}
use Rattle.rules.specs.declared.refusals.Refusal.TheVariants.{MemoryLength as memory_length}
use Rattle.rules.proofs.Choice.{on, on_option, and_left, and_right}
use Rattle.machine.specs.State.{State, Call}
use Rattle.machine.specs.Machine.{perform, next}
use Rattle.machine.specs.History.{fresh, after, HostCall, start, call, misfit, start_unless_refused, start_answer, after₁, answer₁, life, Current, start_current, current₁, current_after}
use Rattle.machine.specs.LifeTheorems.{begun, OneCall, LifeTheorems}
use Rattle.machine.proofs.Demands.{holds}

-- ---- one call

fits : (n : ℕ) → 64 ≤ n → n ≤ 2048 → first (fresh_lines n) ≡ none
unfolding fresh_lines first
fits n low high = rw (le-leb 64 n low, le-leb n 2048 high)

fits_not : (n : ℕ) → ((64 ≤ n) × (n ≤ 2048) → ⊥) → first (fresh_lines n) ≡ some memory_length
unfolding fresh_lines first
fits_not n outside =
    on (leb 64 n && leb n 2048)
    (λ e. absurd (outside (leb-true 64 n (and_left (leb 64 n) (leb n 2048) e), leb-true n 2048 (and_right (leb 64 n) (leb n 2048) e))))
    (λ e. rw e)

one_call : (s : State) → OneCall s
unfolding answer₁ after₁ start_answer start_unless_refused
one_call s =
    record {
      fresh_done = λ n low high. (rw (fits n low high), rw (fits n low high));
      fresh_refused = λ n outside. (rw (fits_not n outside), rw (fits_not n outside));
      misfit_refused = (refl, refl);
      call_performs = λ c. (refl, refl);
    }

-- ---- a list of calls

after_append : (s : State) (cs ds : List Call) → after s (cs ++ ds) ≡ after (after s cs) ds
unfolding after
after_append s [] ds = refl
after_append s (c ∷ cs) ds = after_append (next s (perform s c)) cs ds

-- the state that a history under way has come to
abbrev reached : Current → State
reached h = after (fresh h.cells) h.calls

step : (h : Current) (c : HostCall) → after₁ (reached h) c ≡ reached (current₁ h c)
unfolding after₁ current₁ start_unless_refused start_current after
step h (start n) = on_option (first (fresh_lines n)) (λ e. rw e) (λ r e. rw e)
step h (call c) = sym (after_append (fresh h.cells) h.calls (c ∷ []))
step h misfit = refl

lives : (h : Current) (cs : List HostCall) → life (reached h) cs ≡ reached (current_after h cs)
unfolding life current_after
lives h [] = refl
lives h (c ∷ cs) = ap (λ (s : State). life s cs) (step h c) ∙ lives (current₁ h c) cs

state_is : (n : ℕ) (cs : List HostCall) → life (fresh n) cs ≡ after (fresh (current_after (begun n) cs).cells) (current_after (begun n) cs).calls
unfolding after
state_is n cs = lives (begun n) cs

pub life_theorems : LifeTheorems
life_theorems =
    record {
      one_call = one_call;
      state_is = state_is;
      demands = λ n cs. holds (current_after (begun n) cs).cells (current_after (begun n) cs).calls;
    }
