-- A frame that joins or leaves a queue touches no word elsewhere: no cell's next, size and ports, no free cell, no setting and no counter.
-- Assumes nothing.
use Prim.Native.Nat.{ℕ, ◌<◌}
use mathlib.Core.Bool.{true, false}
use mathlib.Core.List.{List}
use lib.Dec.{eqb}
use lib.ListN.{set}
use lib.Seq.{get_or-set_other}
use Rattle.rules.proofs.Choice.{on}
use Rattle.layout.specs.Places.{waiting_word, oldest_word, youngest_word, behind_word}
use Rattle.layout.specs.Same.{OthersSame}
use Rattle.layout.proofs.Stores.{others_then}
use Rattle.layout.specs.Bits.{with_bit}
use Rattle.queues.specs.Lists.{waiting_of, youngest_of, behind_of, clamped, bit, pushed, popped_at}

module _ (n p q : ℕ) (l : List ℕ) (port : p < 5) (queue : q < 4) where
  waiting_others : (k : List ℕ) (v : ℕ) → OthersSame k (set k (waiting_word p) v)
  waiting_others k v = record { word = λ w else. get_or-set_other k (waiting_word p) w v 0 (else.waiting p port) }

  oldest_others : (k : List ℕ) (v : ℕ) → OthersSame k (set k (oldest_word p q) v)
  oldest_others k v = record { word = λ w else. get_or-set_other k (oldest_word p q) w v 0 (else.oldest p q port queue) }

  youngest_others : (k : List ℕ) (v : ℕ) → OthersSame k (set k (youngest_word p q) v)
  youngest_others k v = record { word = λ w else. get_or-set_other k (youngest_word p q) w v 0 (else.youngest p q port queue) }

  behind_others : (k : List ℕ) (c v : ℕ) → OthersSame k (set k (behind_word p c) v)
  behind_others k c v = record { word = λ w else. get_or-set_other k (behind_word p c) w v 0 (else.behind p c port) }

  pub pushed_others : (x : ℕ) → OthersSame l (pushed n p q x l)
  unfolding pushed
  pushed_others x =
      on (bit (waiting_of l p) q)
      (λ e. rw e
      (others_then (behind_others l (clamped n (youngest_of l p q)) x) (youngest_others (set l (behind_word p (clamped n (youngest_of l p q))) x) x)))
      (λ e. rw e
      (others_then
      (others_then (oldest_others l x) (youngest_others (set l (oldest_word p q) x) x))
      (waiting_others (set (set l (oldest_word p q) x) (youngest_word p q) x) (with_bit (waiting_of l p) q true))))

  pub popped_at_others : (first : ℕ) → OthersSame l (popped_at p q first l)
  unfolding popped_at
  popped_at_others first =
      on (eqb (youngest_of l p q) first)
      (λ e. rw e (waiting_others l (with_bit (waiting_of l p) q false)))
      (λ e. rw e (oldest_others l (behind_of l p first)))
