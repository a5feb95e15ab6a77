-- Counters stand aside from cells and queues: a frame is stored and queued the same whether they go up before or behind it.
-- Assumes nothing.
use Prim.Native.Nat.{ℕ, zero, suc, ◌+◌, ◌-◌, ◌*◌, ◌<◌, ◌≤◌}
use mathlib.Core.Path.{◌≡◌, refl, sym, ap, ◌∙◌}
use mathlib.Core.Bool.{Bool, true, false}
use mathlib.Core.List.{List, [], ◌∷◌, ◌++◌}
use native.Mathlib.Omega.{arith}
use lib.ListN.{length}
use lib.Seq.{get_or-set_other}
use Rattle.rules.specs.Choice.{Each, nobody, also}
use Rattle.rules.specs.Cells.{cells}
use Rattle.rules.specs.Arguments.{bit}
use Rattle.rules.specs.Counters.{counter_number}
use Rattle.rules.specs.declared.counters.Counter.TheVariants.{Accepted as accepted}
use Rattle.layout.specs.Places.{free_count_word, first_free_word, frame_word, next_word, counter_word, size_unit}
use Rattle.cells.specs.Chains.{next_in, next, follow, walk, behind}
use Rattle.cells.specs.Bytes.{store_cells}
use Rattle.cells.specs.Stored.{stored_bytes}
use Rattle.cells.specs.Free.{free_count, first_free, room_for, taken}
use Rattle.cells.proofs.Paths.{follow_same}
use Rattle.arrival.specs.declared.plan.Masks.{Masks}
use Rattle.arrival.specs.declared.plan.Offer.{Offer}
use Rattle.arrival.specs.Candidates.{ports_in}
use Rattle.layout.specs.Bits.{less}
use Rattle.frame_in.specs.Carried.{each_port, bump_at, push_at, enqueue_at, counted_falls, count_if, counted_with, joined_at, stored_at}
use Rattle.frame_in.proofs.Each.{bump_apart}
use Rattle.frame_in.proofs.Queued.{past_three, push_apart, sift_small, five}

-- ---- one counter that is none of the queued copies'

module _ (p k : ℕ) (port : p < 5) (small : k < 32) (off : 16 ≡ k → ⊥) (l : List ℕ) where
  count_kept : free_count (bump_at k p l) ≡ free_count l
  count_kept = get_or-set_other l (counter_word p k) free_count_word _ 0 (λ e. omega (arith, e))

  first_kept : first_free (bump_at k p l) ≡ first_free l
  first_kept = get_or-set_other l (counter_word p k) first_free_word _ 0 (λ e. omega (arith, e))

  next_kept : (c : ℕ) → next_in (bump_at k p l) c ≡ next_in l c
  next_kept c = get_or-set_other l (counter_word p k) (next_word c) _ 0 (λ e. omega (arith, e))

  walk_kept : (n j c : ℕ) → walk n (bump_at k p l) j c ≡ walk n l j c
  walk_kept n zero c = refl
  walk_kept n (suc j) c = rw (next_kept c) (walk_kept n j (next n l c))

  behind_kept : (n j : ℕ) → behind n (bump_at k p l) j (first_free (bump_at k p l)) ≡ behind n l j (first_free l)
  behind_kept n j =
      ap (behind n (bump_at k p l) j) first_kept
      ∙ next_kept (walk n (bump_at k p l) (j - 1) (first_free l))
      ∙ ap (next_in l) (walk_kept n (j - 1) (first_free l))

  room_kept : (n j : ℕ) → room_for n j (bump_at k p l) ≡ room_for n j l
  unfolding room_for
  room_kept n j = rw (count_kept, first_kept)

  follow_kept : (n j : ℕ) → follow n (bump_at k p l) j (first_free (bump_at k p l)) ≡ follow n l j (first_free l)
  follow_kept n j = ap (follow n (bump_at k p l) j) first_kept ∙ follow_same n l (bump_at k p l) next_kept j (first_free l)

  taken_apart : (n j ports : ℕ) → taken n j ports (bump_at k p l) ≡ bump_at k p (taken n j ports l)
  unfolding taken
  taken_apart n j ports =
      rw (behind_kept n j, first_kept, count_kept)
      (sym (past_three (counter_word p k) l free_count_word (free_count l - j) first_free_word (behind n l j (first_free l)) (frame_word (first_free l)) (ports + size_unit * j)
      (λ e. omega (arith, e)) (λ e. omega (arith, e)) (λ e. omega (arith, e))))

module _ (n queue first : ℕ) (low : queue ≤ 3) (p k : ℕ) (port : p < 5) (small : k < 32) (off : 16 ≡ k → ⊥) where
  enqueue_apart : (q : ℕ) (l : List ℕ) → bump_at k p (enqueue_at n queue first q l) ≡ enqueue_at n queue first q (bump_at k p l)
  unfolding counter_number
  enqueue_apart q l =
      bump_apart 16 k (omega arith) small off q p (push_at n queue first q l)
      ∙ ap (bump_at 16 q) (push_apart n queue first low k small q p port l)

  enqueue_later : (ps : List ℕ) (l : List ℕ) → bump_at k p (each_port (enqueue_at n queue first) ps l) ≡ each_port (enqueue_at n queue first) ps (bump_at k p l)
  unfolding each_port
  enqueue_later [] l = refl
  enqueue_later (q ∷ ps) l = enqueue_later ps (enqueue_at n queue first q l) ∙ ap (each_port (enqueue_at n queue first) ps) (enqueue_apart q l)

-- ---- counters one after another

module _ (n : ℕ) (offer : Offer) (frame memory : List ℕ) where
  low : offer.queue.number ≤ 3
  low = let there = offer.queue.there in omega (arith, there)

  pub record Aside (f : List ℕ → List ℕ) : Type 0 where
    pub room : (l : List ℕ) (j : ℕ) → room_for n j (f l) ≡ room_for n j l
    pub stored : (l : List ℕ) → stored_at n offer memory (f l) frame ≡ stored_at n offer memory l frame
    pub joined : (l : List ℕ) → joined_at n offer frame (f l) ≡ f (joined_at n offer frame l)

  none : Aside (λ l. l)
  none = record { room = λ l j. refl; stored = λ l. refl; joined = λ l. refl }

  after : {f g : List ℕ → List ℕ} → Aside f → Aside g → Aside (λ l. g (f l))
  after {f} {g} a b =
      record {
        room = λ l j. b.room (f l) j ∙ a.room l j;
        stored = λ l. b.stored (f l) ∙ a.stored l;
        joined = λ l. b.joined (f l) ∙ ap g (a.joined l);
      }

  module _ (k : ℕ) (small : k < 32) (off : 16 ≡ k → ⊥) where
    one : (p : ℕ) → p < 5 → Aside (bump_at k p)
    unfolding stored_at joined_at
    one p port =
        record {
          room = λ l j. room_kept p k port small off l n j;
          stored = λ l. ap (λ (cs : List ℕ). store_cells memory cs (stored_bytes offer.header ++ frame)) (follow_kept p k port small off l n (cells (length frame)));
          joined = λ l. ap (λ (x : ℕ). each_port (enqueue_at n offer.queue.number x) (ports_in offer.masks.left) (taken n (cells (length frame)) offer.masks.left (bump_at k p l))) (first_kept p k port small off l)
              ∙ ap (each_port (enqueue_at n offer.queue.number (first_free l)) (ports_in offer.masks.left)) (taken_apart p k port small off l n (cells (length frame)) offer.masks.left)
              ∙ sym (enqueue_later n offer.queue.number (first_free l) low p k port small off (ports_in offer.masks.left) (taken n (cells (length frame)) offer.masks.left l));
        }

    each : {ps : List ℕ} → Each (λ (p : ℕ). p < 5) ps → Aside (each_port (bump_at k) ps)
    unfolding each_port
    each nobody = none
    each (also {a = p} h t) = after (one p h) (each t)

    each_in : (mask : ℕ) → Aside (each_port (bump_at k) (ports_in mask))
    unfolding ports_in
    each_in mask = each (sift_small (bit mask) five)

  falls : (m : Masks) → Aside (counted_falls m)
  unfolding counted_falls counter_number
  falls m =
      after (each_in 17 (omega arith) (λ e. omega arith) (less m.candidates m.passing)) (each_in 18 (omega arith) (λ e. omega arith) (less m.passing m.left))

  lesson : (unlearned : Bool) (p : ℕ) → p < 5 → Aside (count_if unlearned p)
  unfolding count_if counter_number
  lesson true p h = one 15 (omega arith) (λ e. omega arith) p h
  lesson false p h = none

  pub accepted_aside : (p : ℕ) → p < 5 → (unlearned : Bool) (m : Masks) → Aside (counted_with accepted p unlearned m)
  unfolding counted_with counter_number
  accepted_aside p h unlearned m =
      after (after (after (one 0 (omega arith) (λ e. omega arith) p h) (lesson unlearned p h)) (falls m)) (one 14 (omega arith) (λ e. omega arith) p h)
