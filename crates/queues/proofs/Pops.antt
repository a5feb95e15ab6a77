-- The oldest frame leaves a queue: the others of that queue stay in order, and the other 19 queues are as they were. Assumes nothing.
use Prim.Native.Nat.{ℕ, ◌≤◌, ◌<◌}
use mathlib.Core.Bool.{false}
use mathlib.Core.Path.{◌≡◌, refl, sym, ap, ◌∙◌, subst}
use mathlib.Core.List.{List, [], ◌∷◌}
use native.Mathlib.Omega.{arith}
use lib.Dec.{eqb}
use lib.ListN.{length, get_or, set}
use lib.Seq.{get_or-set_same, get_or-set_other}
use borrow.Author.Tests.{eqb-true, eqb-false}
use Rattle.layout.specs.Counting.{times}
use Rattle.rules.specs.Choice.{nobody}
use Rattle.rules.proofs.Choice.{on, on_list, eqb_self, each_first, each_rest}
use Rattle.layout.specs.Places.{link_words, waiting_word, oldest_word, youngest_word, behind_word}
use Rattle.layout.specs.Bits.{with_bit}
use Rattle.queues.specs.Lists.{waiting_of, oldest_of, youngest_of, behind_of, clamped, oldest_cell, bit, popped}
use Rattle.queues.specs.Queued.{has_frames, Behind, Queued, Queues, left}
use Rattle.layout.proofs.BitLaws.{written_there, written_elsewhere}
use Rattle.layout.proofs.Cells.{clamped_below}
use Rattle.queues.proofs.Outcomes.{pop_last, pop_first, popped_at_law}
use Rattle.queues.proofs.Counts.{times_rest}
use Rattle.queues.proofs.Chains.{not_last, ListSame}
use Rattle.queues.proofs.Changes.{queues_changed}

module _ (n p q : ℕ) (l : List ℕ) (long : link_words n ≤ length l) (port : p < 5) (queue : q < 4) (c : ℕ) where
  -- the oldest is c
  first_is : (cs : List ℕ) → Queued n l p q (c ∷ cs) → oldest_cell n l p q ≡ c
  first_is cs Q = ap (clamped n) Q.chained.0 ∙ clamped_below n c (each_first Q.below)

  -- ---- it was the only one: its bit

  module _ (Q : Queued n l p q (c ∷ [])) where
    is_last : popped n p q l ≡ set l (waiting_word p) (with_bit (waiting_of l p) q false)
    is_last =
        sym (popped_at_law n p q l c (sym (first_is [] Q)))
        ∙ sym (pop_last n p q l c (with_bit (waiting_of l p) q false) (sym Q.chained.1) refl)

    last_word : (w : ℕ) → (w ≡ waiting_word p → ⊥) → get_or (popped n p q l) w 0 ≡ get_or l w 0
    last_word w a = rw is_last (get_or-set_other l (waiting_word p) w (with_bit (waiting_of l p) q false) 0 a)

    last_waiting : waiting_of (popped n p q l) p ≡ with_bit (waiting_of l p) q false
    last_waiting = rw is_last (get_or-set_same l (waiting_word p) (with_bit (waiting_of l p) q false) 0 (omega arith))

  -- ---- others are behind it: the oldest

  module _ (d : ℕ) (ds : List ℕ) (Q : Queued n l p q (c ∷ d ∷ ds)) where
    is_next : popped n p q l ≡ set l (oldest_word p q) d
    is_next =
        sym (popped_at_law n p q l c (sym (first_is (d ∷ ds) Q)))
        ∙ sym (pop_first n p q l c (λ e. not_last l p (youngest_of l p q) c d ds Q.chained.1.1 Q.once (sym e)))
        ∙ ap (set l (oldest_word p q)) Q.chained.1.0

    next_word : (w : ℕ) → (w ≡ oldest_word p q → ⊥) → get_or (popped n p q l) w 0 ≡ get_or l w 0
    next_word w a = rw is_next (get_or-set_other l (oldest_word p q) w d 0 a)

    next_oldest : oldest_of (popped n p q l) p q ≡ d
    next_oldest = rw is_next (get_or-set_same l (oldest_word p q) d 0 (omega arith))

  -- ---- the queue itself

  -- the words of the frames behind it do not move
  behind_kept : (m : List ℕ) (last d : ℕ) (ds : List ℕ) → ((x : ℕ) → behind_of m p x ≡ behind_of l p x) → Behind l p last d ds → Behind m p last d ds
  behind_kept m last d [] same b = b
  behind_kept m last d (e ∷ es) same b = (same d ∙ b.0, behind_kept m last e es same b.1)

  pub queued_popped : (cs : List ℕ) → Queued n l p q (c ∷ cs) → Queued n (popped n p q l) p q cs
  unfolding has_frames
  queued_popped [] Q =
      record {
        waits = ap (λ (w : ℕ). bit w q) (last_waiting Q) ∙ written_there (waiting_of l p) q false;
        below = nobody;
        once = λ x. omega (arith, Q.once x, times_rest x c []);
        chained = tt;
      }
  queued_popped (d ∷ ds) Q =
      let word = next_word d ds Q in
      record {
        waits = ap (λ (w : ℕ). bit w q) (word (waiting_word p) (λ e. omega arith)) ∙ Q.waits;
        below = each_rest Q.below;
        once = λ x. omega (arith, Q.once x, times_rest x c (d ∷ ds));
        chained = (
          next_oldest d ds Q,
          rw (word (youngest_word p q) (λ e. omega arith))
              (behind_kept (popped n p q l) (youngest_of l p q) d ds (λ x. word (behind_word p x) (λ e. omega arith)) Q.chained.1.1),
        );
      }

  -- ---- the other 19

  module _ (tail : List ℕ) (lists : ℕ → ℕ → List ℕ) (S : Queues n l lists) (head : lists p q ≡ c ∷ tail) where
    abbrev m : List ℕ
    m = popped n p q l

    mine : Queued n l p q (c ∷ tail)
    mine = grind arith

    module _ (r s : ℕ) (hr : r < 5) (hs : s < 4) (ne : r ≡ p → s ≡ q → ⊥) where
      same_last : Queued n l p q (c ∷ []) → ListSame r s (lists r s) l m
      same_last Q =
          let word = last_word Q in
          record {
            waits = on (eqb r p)
                (λ e. let same : r ≡ p = eqb-true r p e in
                rw same (ap (λ (w : ℕ). bit w s) (last_waiting Q) ∙ written_elsewhere (waiting_of l p) q false s (λ e. ne same (sym e))))
                (λ e. ap (λ (w : ℕ). bit w s) (word (waiting_word r) (λ z. eqb-false r p e (omega arith))));
            oldest = word (oldest_word r s) (λ z. let same : r ≡ p = omega arith in omega arith);
            youngest = word (youngest_word r s) (λ z. let same : r ≡ p = omega arith in omega arith);
            behind = λ d h. word (behind_word r d) (λ z. omega arith);
          }

      same_next : (d : ℕ) (ds : List ℕ) → Queued n l p q (c ∷ d ∷ ds) → ListSame r s (lists r s) l m
      same_next d ds Q =
          let word = next_word d ds Q in
          record {
            waits = ap (λ (w : ℕ). bit w s) (word (waiting_word r) (λ z. let same : r ≡ p = omega arith in omega arith));
            oldest = word (oldest_word r s) (λ z. let same : r ≡ p = omega arith in ne same (omega arith));
            youngest = word (youngest_word r s) (λ z. let same : r ≡ p = omega arith in omega arith);
            behind = λ y h. word (behind_word r y) (λ z. omega arith);
          }

      pub same_popped : ListSame r s (lists r s) l m
      same_popped =
          on_list tail
          (λ e. same_last (subst (λ (t : List ℕ). Queued n l p q (c ∷ t)) e mine))
          (λ d ds e. same_next d ds (subst (λ (t : List ℕ). Queued n l p q (c ∷ t)) e mine))

    pub left_here : left p q tail lists p q ≡ tail
    unfolding left
    left_here = rw (eqb_self p, eqb_self q)

    pub left_other : (r s : ℕ) → (r ≡ p → s ≡ q → ⊥) → left p q tail lists r s ≡ lists r s
    unfolding left
    left_other r s ne = grind arith

    pub queues_popped : Queues n m (left p q tail lists)
    queues_popped =
        queues_changed n p q l m lists (left p q tail lists) port queue S
        (rw left_here (queued_popped tail mine))
        (λ r s hr hs ne. left_other r s ne)
        (λ r s hr hs ne. same_popped r s hr hs ne)
        (λ s y hs ne. omega (arith, ap (times y) left_here, times_rest y c tail, ap (times y) head, S.apart p q s y port queue hs ne))
