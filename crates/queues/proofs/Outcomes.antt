-- What each way through `push` and `pop` leaves in memory. Assumes nothing.
use Prim.Native.Nat.{ℕ}
use mathlib.Core.Path.{◌≡◌}
use mathlib.Core.Bool.{true, false}
use mathlib.Core.List.{List}
use lib.Dec.{eqb}
use lib.ListN.{length, set, length-set}
use borrow.Author.Tests.{eq-eqb, ne_eqb}
use Rattle.rules.proofs.Choice.{on}
use Rattle.layout.specs.Places.{waiting_word, oldest_word, youngest_word, behind_word}
use Rattle.layout.specs.Bits.{with_bit}
use Rattle.queues.specs.Lists.{waiting_of, youngest_of, oldest_cell, behind_of, clamped, bit, pushed, popped_at, popped}

-- ---- the ways

module _ (n p q : ℕ) (l : List ℕ) where
  pub push_behind : (x last : ℕ) → bit (waiting_of l p) q ≡ true → last ≡ clamped n (youngest_of l p q)
      → set (set l (behind_word p last) x) (youngest_word p q) x ≡ pushed n p q x l
  unfolding pushed
  push_behind x last e h = rw (e, h)

  pub push_first : (x w : ℕ) → bit (waiting_of l p) q ≡ false → w ≡ with_bit (waiting_of l p) q true
      → set (set (set l (oldest_word p q) x) (youngest_word p q) x) (waiting_word p) w ≡ pushed n p q x l
  unfolding pushed
  push_first x w e h = rw (e, h)

  pub pop_last : (first w : ℕ) → youngest_of l p q ≡ first → w ≡ with_bit (waiting_of l p) q false → set l (waiting_word p) w ≡ popped_at p q first l
  unfolding popped_at
  pop_last first w e h = rw (eq-eqb (youngest_of l p q) first e, h)

  pub pop_first : (first : ℕ) → (youngest_of l p q ≡ first → ⊥) → set l (oldest_word p q) (behind_of l p first) ≡ popped_at p q first l
  unfolding popped_at
  pop_first first ne = rw (ne_eqb (youngest_of l p q) first ne)

  -- by a caller who has the oldest
  pub popped_at_law : (first : ℕ) → first ≡ oldest_cell n l p q → popped_at p q first l ≡ popped n p q l
  unfolding popped
  popped_at_law first e = rw e

  pub length_pushed : (x : ℕ) → length (pushed n p q x l) ≡ length l
  unfolding pushed
  length_pushed x = on (bit (waiting_of l p) q) (λ e. rw e (simp length-set)) (λ e. rw e (simp length-set))

  pub length_popped_at : (first : ℕ) → length (popped_at p q first l) ≡ length l
  unfolding popped_at
  length_popped_at first = on (eqb (youngest_of l p q) first) (λ e. rw e (simp length-set)) (λ e. rw e (simp length-set))
