-- The writes one after another: what each makes of memory. Assumes nothing.
use Prim.Native.Nat.{ℕ}
use mathlib.Core.Path.{◌≡◌, refl, ap, ◌∙◌}
use mathlib.Core.Bool.{Bool, true, false, ◌&&◌, not}
use mathlib.Core.List.{List}
use borrow.Author.Tests.{eqb-true}
use lib.Dec.{eqb}
use Rattle.rules.proofs.Choice.{and_left, and_right}
use Rattle.rules.specs.Arguments.{bit}
use Rattle.layout.proofs.BitLaws.{bit_less, no_bit_zero}
use Rattle.frame_in.proofs.Each.{each_none}
use Rattle.rules.specs.Counters.{counter_number}
use Rattle.rules.specs.declared.counters.Counter.TheVariants.{StateOut as state_out, QueueOut as queue_out}
use Rattle.arrival.specs.declared.plan.Masks.{Masks}
use Rattle.arrival.specs.Candidates.{ports_in}
use Rattle.layout.specs.Bits.{less}
use Rattle.frame_in.specs.Carried.{each_port, bump_at, counted_falls}

-- ---- counters

less_itself : (a : ℕ) → less a a ≡ 0
less_itself a = no_bit_zero (less a a) (λ i. bit_less a a i ∙ never (bit a i))
  where
    never : (b : Bool) → (b && not b) ≡ false
    never true = refl
    never false = refl

pub falls_counted : (m : Masks) (fell off : ℕ) (a : List ℕ) {b c : List ℕ} → fell ≡ less m.candidates m.passing → off ≡ less m.passing m.left
    → b ≡ each_port (bump_at (counter_number state_out)) (ports_in fell) a → c ≡ each_port (bump_at (counter_number queue_out)) (ports_in off) b → c ≡ counted_falls m a
unfolding counted_falls
falls_counted m fell off a p q r s = s ∙ rw (r, p, q)

-- no candidate falls out
pub falls_none : (m : Masks) (a : List ℕ) → (eqb m.candidates m.passing && eqb m.passing m.left) ≡ true → a ≡ counted_falls m a
unfolding counted_falls counter_number
falls_none m a e =
    let p = eqb-true _ _ (and_left (eqb m.candidates m.passing) (eqb m.passing m.left) e) in
    let q = eqb-true _ _ (and_right (eqb m.candidates m.passing) (eqb m.passing m.left) e) in
    each_none (bump_at 17) (less m.candidates m.passing) a (ap (λ (x : ℕ). less x m.passing) p ∙ less_itself m.passing)
    ∙ each_none (bump_at 18) (less m.passing m.left) _ (ap (λ (x : ℕ). less x m.left) q ∙ less_itself m.left)
