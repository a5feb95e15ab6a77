-- The laws of the lists that are read from memory: a frame that joins is the last, one that leaves was the first, and the other 19 queues
-- and all queues under other writes are as they were. Assumes nothing.
use Prim.Native.Nat.{ℕ, zero, suc, ◌≤◌, ◌<◌}
use mathlib.Core.Path.{◌≡◌, refl, ap, ◌∙◌}
use mathlib.Core.Bool.{◌&&◌}
use mathlib.Core.List.{List, [], ◌∷◌, ◌++◌}
use native.Mathlib.Omega.{arith}
use lib.Dec.{eqb}
use lib.ListN.{length}
use Rattle.layout.specs.Counting.{times}
use Rattle.std.specs.Prelude.{if◌then◌else◌}
use Rattle.rules.proofs.Choice.{on}
use Rattle.layout.specs.Places.{link_words}
use Rattle.layout.specs.Same.{QueuesSame}
use Rattle.queues.specs.Lists.{waiting_of, youngest_of, behind_of, clamped, oldest_cell, bit, list_from, list_of, pushed, popped}
use Rattle.queues.specs.Queued.{AllQueued, left}
use Rattle.queues.proofs.Changes.{list_is, queues_read, queues_same}
use Rattle.queues.proofs.Pushes.{queues_pushed, joined_here, joined_other}
use Rattle.queues.proofs.Pops.{queues_popped, left_here, left_other}

-- ---- as they were

from_same : (n : ℕ) (l m : List ℕ) (p last : ℕ) → ((c : ℕ) → behind_of m p c ≡ behind_of l p c) → (k c : ℕ) → list_from n m p last k c ≡ list_from n l p last k c
unfolding list_from
from_same n l m p last same zero c = refl
from_same n l m p last same (suc k) c =
    ap (λ (cs : List ℕ). c ∷ (if eqb c last then [] else cs)) (rw (same c) (from_same n l m p last same k (clamped n (behind_of l p c))))

-- of any memory
pub list_same : (n : ℕ) {l m : List ℕ} → QueuesSame l m → (p q : ℕ) → p < 5 → q < 4 → list_of n m p q ≡ list_of n l p q
unfolding list_of
list_same n {l} {m} same p q hp hq =
    rw (same.waiting p hp, same.youngest p q hp hq, same.oldest p q hp hq)
    (ap (λ (cs : List ℕ). if bit (waiting_of l p) q then cs else [])
    (from_same n l m p (youngest_of l p q) (λ c. same.behind p c hp) n (oldest_cell n l p q)))

pub all_same : (n : ℕ) {l m : List ℕ} → QueuesSame l m → AllQueued n l → AllQueued n m
all_same n {l} {m} same S = queues_read n m (list_of n l) (queues_same n l (list_of n l) S same)

-- ---- lengths

length_from : (n : ℕ) (l : List ℕ) (p last k c : ℕ) → length (list_from n l p last k c) ≤ k
unfolding list_from
length_from n l p last zero c = omega arith
length_from n l p last (suc k) c =
    on (eqb c last)
    (λ e. rw e (omega arith))
    (λ e. rw e (omega (arith, length_from n l p last k (clamped n (behind_of l p c)))))

-- of any memory
pub length_list : (n : ℕ) (l : List ℕ) (p q : ℕ) → length (list_of n l p q) ≤ n
unfolding list_of
length_list n l p q =
    on (bit (waiting_of l p) q)
    (λ e. rw e (length_from n l p (youngest_of l p q) n (oldest_cell n l p q)))
    (λ e. rw e (omega arith))

-- ---- a frame joins

module _ (n p q : ℕ) (l : List ℕ) (long : link_words n ≤ length l) (port : p < 5) (queue : q < 4) (S : AllQueued n l) where
  module _ (x : ℕ) (inside : x < n) (new : (s : ℕ) → s < 4 → times x (list_of n l p s) ≡ 0) where
    pub all_pushed : AllQueued n (pushed n p q x l)
    all_pushed = queues_read n (pushed n p q x l) _ (queues_pushed n p q x l long port queue inside (list_of n l) S new)

    pub list_pushed : list_of n (pushed n p q x l) p q ≡ list_of n l p q ++ (x ∷ [])
    list_pushed =
        list_is n (pushed n p q x l) _ (queues_pushed n p q x l long port queue inside (list_of n l) S new) p q port queue
        ∙ joined_here n p q x l long port queue inside (list_of n l) S

    pub list_pushed_other : (r s : ℕ) → r < 5 → s < 4 → (r ≡ p → s ≡ q → ⊥) → list_of n (pushed n p q x l) r s ≡ list_of n l r s
    list_pushed_other r s hr hs ne =
        list_is n (pushed n p q x l) _ (queues_pushed n p q x l long port queue inside (list_of n l) S new) r s hr hs
        ∙ joined_other n p q x l long port queue inside (list_of n l) S r s ne

  -- ---- the oldest leaves

  module _ (x : ℕ) (tail : List ℕ) (head : list_of n l p q ≡ x ∷ tail) where
    pub all_popped : AllQueued n (popped n p q l)
    all_popped = queues_read n (popped n p q l) _ (queues_popped n p q l long port queue x tail (list_of n l) S head)

    pub list_popped : list_of n (popped n p q l) p q ≡ tail
    list_popped =
        list_is n (popped n p q l) _ (queues_popped n p q l long port queue x tail (list_of n l) S head) p q port queue
        ∙ left_here n p q l long port queue x tail (list_of n l) S head

    pub list_popped_other : (r s : ℕ) → r < 5 → s < 4 → (r ≡ p → s ≡ q → ⊥) → list_of n (popped n p q l) r s ≡ list_of n l r s
    list_popped_other r s hr hs ne =
        list_is n (popped n p q l) _ (queues_popped n p q l long port queue x tail (list_of n l) S head) r s hr hs
        ∙ left_other n p q l long port queue x tail (list_of n l) S head r s ne

    -- each list: the rest of it if it is this queue's
    pub popped_lists : (r s : ℕ) → r < 5 → s < 4 → list_of n (popped n p q l) r s ≡ (if eqb p r && eqb q s then tail else list_of n l r s)
    unfolding left
    popped_lists r s hr hs = list_is n (popped n p q l) _ (queues_popped n p q l long port queue x tail (list_of n l) S head) r s hr hs
