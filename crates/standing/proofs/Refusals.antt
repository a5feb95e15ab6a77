-- The refusals of the machine are 2 to 9: 1 and 10 are of lent memory alone. Assumes nothing.
use Prim.Native.Nat.{ℕ, ◌≤◌}
use mathlib.Core.Path.{◌≡◌, refl, sym, ◌∙◌}
use mathlib.Core.Bool.{true, false, ◌&&◌}
use mathlib.Core.List.{[], ◌∷◌}
use Rattle.std.specs.Prelude.{Option, None as none, Some as some}
use native.Mathlib.Omega.{arith}
use lib.Dec.{leb}
use Rattle.rules.specs.Choice.{Each, nobody, also}
use Rattle.rules.specs.Lines.{Line, first}
use Rattle.rules.specs.Refusals.{Lines, refusal_number, frame_in_lines, take_lines, age_lines, counter_lines, port_lines, vlan_lines, clear_vlan_lines, static_lines, remove_lines, map_lines, queue_switch_lines, drain_lines, bpdu_lines}
use Rattle.rules.specs.declared.refusals.Refusal.{Refusal}
use Rattle.rules.specs.Outcomes.{Frame, Outcome, drops, queues, outcome_of}
use Rattle.rules.proofs.Choice.{on, on_option}
use Rattle.machine.specs.State.{State, Call, frame_in, take, age, counter, port, vlan, clear_vlan, static, remove, map, queue_switch, drain, bpdu}
use Rattle.machine.specs.FrameIn.{facts_at, outcome_answer, enters, frame_in_step}
use Rattle.machine.specs.TakeOut.{served, taken, take_step, drain_step}
use Rattle.machine.specs.SettingCalls.{silently, settle}
use Rattle.machine.specs.Machine.{lines_of, age_step, carry_out, refusing, unless_refused, perform}
use Rattle.standing.specs.Follows.{numbers_of}

-- a refusal that is not of lent memory
abbrev Own : ℕ → Type 0
Own r = (leb 2 r && leb r 9) ≡ true

abbrev OwnLine : Line Refusal → Type 0
OwnLine l = Own (refusal_number l.says)

first_own : (ls : Lines) → Each OwnLine ls → (r : Refusal) → first ls ≡ some r → Own (refusal_number r)
unfolding first
first_own [] h r e = absurd (let z : ◌≡◌ {A = ℕ} 0 1 = cc in omega arith)
first_own (l ∷ ls) (also h t) r e =
    on l.holds
    (λ f. let s : some l.says ≡ some r = rw f at e in let same : l.says ≡ r = cc in rw same at h)
    (λ f. first_own ls t r (rw f at e))

own_lines : (s : State) (c : Call) → Each OwnLine (lines_of s c)
unfolding lines_of frame_in_lines take_lines age_lines counter_lines port_lines vlan_lines clear_vlan_lines static_lines remove_lines map_lines queue_switch_lines drain_lines bpdu_lines refusal_number
own_lines s (frame_in c) = also refl nobody
own_lines s (take c) = also refl (also refl nobody)
own_lines s age = nobody
own_lines s (counter c) = also refl (also refl nobody)
own_lines s (port c) = also refl (also refl nobody)
own_lines s (vlan n) = also refl (also refl nobody)
own_lines s (clear_vlan vid) = also refl (also refl nobody)
own_lines s (static c) = also refl (also refl (also refl (also refl nobody)))
own_lines s (remove c) = also refl (also refl nobody)
own_lines s (map c) = also refl nobody
own_lines s (queue_switch c) = also refl (also refl nobody)
own_lines s (drain p) = also refl nobody
own_lines s (bpdu b) = also refl nobody

-- ---- a call that is not refused answers 0

outcome_zero : (o : Outcome) → (numbers_of (outcome_answer o)).refusal ≡ 0
unfolding numbers_of outcome_answer
outcome_zero (drops r) = refl
outcome_zero (queues f ports) = refl

taken_zero : (s : State) (p : ℕ) (o : Option Frame) → (numbers_of (taken s p o).answer).refusal ≡ 0
unfolding numbers_of taken
taken_zero s p none = refl
taken_zero s p (some f) = refl

carried_zero : (s : State) (c : Call) → (numbers_of (carry_out s c).answer).refusal ≡ 0
unfolding numbers_of carry_out age_step settle silently frame_in_step enters take_step drain_step
carried_zero s (frame_in c) = outcome_zero (outcome_of (facts_at s c.port c.packet))
carried_zero s (take c) = taken_zero s c.port (served s c.port)
carried_zero s age = refl
carried_zero s (counter c) = refl
carried_zero s (port c) = refl
carried_zero s (vlan n) = refl
carried_zero s (clear_vlan vid) = refl
carried_zero s (static c) = refl
carried_zero s (remove c) = refl
carried_zero s (map c) = refl
carried_zero s (queue_switch c) = refl
carried_zero s (drain p) = refl
carried_zero s (bpdu b) = refl

-- ---- so 0, or 2 to 9

true_is_not_false : true ≡ false → ⊥
true_is_not_false e = let z : ◌≡◌ {A = ℕ} 0 1 = cc in omega arith

module _ (s : State) (c : Call) (r : ℕ) (foreign : (leb 2 r && leb r 9) ≡ false) (some_number : 1 ≤ r) where
  pub never : (numbers_of (perform s c).answer).refusal ≡ r → ⊥
  unfolding perform unless_refused refusing numbers_of
  never =
      on_option (first (lines_of s c))
      (λ e h. let zero_is : 0 ≡ r = sym (carried_zero s c) ∙ (rw e at h) in omega arith)
      (λ x e h. apart x (first_own (lines_of s c) (own_lines s c) x e) (rw e at h))
    where
      apart : (x : Refusal) → Own (refusal_number x) → (numbers_of (refusing s x).answer).refusal ≡ r → ⊥
      apart x own h = let same : refusal_number x ≡ r = h in true_is_not_false (sym (rw same at own) ∙ foreign)
