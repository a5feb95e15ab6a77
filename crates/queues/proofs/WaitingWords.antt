-- The words of waiting queues stay in range as frames join and leave. Assumes nothing.
use Rattle.std.proofs.lemmas.Grind.{common_steps}
use Prim.Native.Nat.{ℕ, ◌≤◌, ◌<◌}
use mathlib.Core.Bool.{true, false}
use mathlib.Core.Path.{◌≡◌}
use mathlib.Core.List.{List}
use native.Mathlib.Omega.{arith}
use lib.Dec.{eqb}
use lib.ListN.{length, set, length-set}
use lib.Seq.{get_or-set_same, get_or-set_other}
use borrow.Author.Tests.{eqb-true, eqb-false}
use Rattle.rules.specs.Choice.{Each, nobody, also}
use Rattle.rules.proofs.Choice.{on}
use Rattle.layout.specs.Places.{link_words, waiting_word, oldest_word, youngest_word, behind_word}
use Rattle.layout.specs.Same.{QueuesSame}
use Rattle.layout.specs.Bits.{with_bit}
use Rattle.queues.specs.Lists.{waiting_of, youngest_of, behind_of, clamped, bit, pushed, popped_at, pushed_at}
use Rattle.queues.specs.Queued.{WaitingInRange}
use Rattle.layout.proofs.BitLaws.{written_small}
use Rattle.queues.proofs.Outcomes.{length_pushed}

-- another word, or this one
other_word : (l : List ℕ) (w v : ℕ) → ((r : ℕ) → r < 5 → waiting_word r ≡ w → ⊥) → WaitingInRange l → WaitingInRange (set l w v)
other_word l w v ne good r hr = rw (get_or-set_other l w (waiting_word r) v 0 (ne r hr)) (good r hr)

this_word : (l : List ℕ) (p v : ℕ) → waiting_word p < length l → v < 16 → WaitingInRange l → WaitingInRange (set l (waiting_word p) v)
this_word l p v long small good r hr = grind (arith, common_steps)

module _ (n p q : ℕ) (l : List ℕ) (long : link_words n ≤ length l) (port : p < 5) (queue : q < 4) (good : WaitingInRange l) where
  pub waiting_pushed : (x : ℕ) → WaitingInRange (pushed n p q x l)
  unfolding pushed
  waiting_pushed x =
      on (bit (waiting_of l p) q)
      (λ e. rw e
      (other_word (set l (behind_word p (clamped n (youngest_of l p q))) x) (youngest_word p q) x (λ r hr z. let same : r ≡ p = omega arith in omega arith)
      (other_word l (behind_word p (clamped n (youngest_of l p q))) x (λ r hr z. omega arith) good)))
      (λ e. rw e
      (this_word (set (set l (oldest_word p q) x) (youngest_word p q) x) p (with_bit (waiting_of l p) q true) (simp length-set (omega arith)) (written_small 4 (waiting_of l p) q true (good p port) queue)
      (other_word (set l (oldest_word p q) x) (youngest_word p q) x (λ r hr z. let same : r ≡ p = omega arith in omega arith)
      (other_word l (oldest_word p q) x (λ r hr z. let same : r ≡ p = omega arith in omega arith) good))))

  pub waiting_popped_at : (first : ℕ) → WaitingInRange (popped_at p q first l)
  unfolding popped_at
  waiting_popped_at first =
      on (eqb (youngest_of l p q) first)
      (λ e. rw e (this_word l p (with_bit (waiting_of l p) q false) (omega arith) (written_small 4 (waiting_of l p) q false (good p port) queue) good))
      (λ e. rw e (other_word l (oldest_word p q) (behind_of l p first) (λ r hr z. let same : r ≡ p = omega arith in omega arith) good))

pub waiting_pushed_at : (n queue x : ℕ) → queue < 4 → {ports : List ℕ} → Each (λ (p : ℕ). p < 5) ports → (l : List ℕ) → link_words n ≤ length l
    → WaitingInRange l → WaitingInRange (pushed_at n queue x ports l)
unfolding pushed_at
waiting_pushed_at n queue x low nobody l long good = good
waiting_pushed_at n queue x low (also {a = p} h t) l long good =
    waiting_pushed_at n queue x low t (pushed n p queue x l) (rw (length_pushed n p queue l x) long) (waiting_pushed n p queue l long h low good x)

pub waiting_same : {l m : List ℕ} → QueuesSame l m → WaitingInRange l → WaitingInRange m
waiting_same same good r hr = rw (same.waiting r hr) (good r hr)

pub words_none : (l : List ℕ) → ((p : ℕ) → p < 5 → waiting_of l p ≡ 0) → WaitingInRange l
words_none l none r hr = rw (none r hr) (omega arith)
