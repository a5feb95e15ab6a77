-- Turns while a queue waits, one after another. Assumes nothing.
use Prim.Native.Nat.{ℕ, zero, suc, ◌+◌, ◌-◌, ◌≤◌, ◌<◌}
use mathlib.Core.Path.{◌≡◌, refl, sym, ap, ◌∙◌}
use mathlib.Core.Bool.{true, false}
use mathlib.Core.List.{List}
use native.Mathlib.Omega.{arith}
use Rattle.queues.specs.Lists.{waiting_of, bit, turns, turn_count}

module _ (turn : List ℕ → List ℕ) (p q : ℕ) where
  less : (n t : ℕ) → t < n → n - t ≡ suc (n - (t + 1))
  less n t h = omega arith

  -- one turn more
  module _ (k : ℕ) (l : List ℕ) (waits : bit (waiting_of l p) q ≡ true) where
    pub turns_more : turns turn p q (suc k) l ≡ turns turn p q k (turn l)
    unfolding turns
    turns_more = rw waits

    pub count_more : turn_count turn p q (suc k) l ≡ suc (turn_count turn p q k (turn l))
    unfolding turn_count
    count_more = rw waits (omega arith)

  module _ (n t : ℕ) (more : t < n) (l m : List ℕ) (waits : bit (waiting_of l p) q ≡ true) (is : m ≡ turn l) where
    pub turns_next : turns turn p q (n - (t + 1)) m ≡ turns turn p q (n - t) l
    unfolding turns
    turns_next = sym (ap (λ (k : ℕ). turns turn p q k l) (less n t more) ∙ rw (waits, is))

    pub count_next : turn_count turn p q (n - t) l ≡ turn_count turn p q (n - (t + 1)) m + 1
    unfolding turn_count
    count_next = grind arith

  -- the queue does not wait
  pub turns_stop : (k : ℕ) (l : List ℕ) → bit (waiting_of l p) q ≡ false → turns turn p q k l ≡ l
  unfolding turns
  turns_stop zero l e = refl
  turns_stop (suc k) l e = rw e

  pub count_stop : (k : ℕ) (l : List ℕ) → bit (waiting_of l p) q ≡ false → turn_count turn p q k l ≡ 0
  unfolding turn_count
  count_stop zero l e = refl
  count_stop (suc k) l e = rw e

  -- no turn is left
  pub turns_end : (k : ℕ) (l : List ℕ) → k ≤ 0 → turns turn p q k l ≡ l
  unfolding turns
  turns_end k l h = grind arith

  pub count_end : (k : ℕ) (l : List ℕ) → k ≤ 0 → turn_count turn p q k l ≡ 0
  unfolding turn_count
  count_end k l h = grind arith
