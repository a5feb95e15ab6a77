-- The writes put together. Assumes nothing.
use Prim.Native.Nat.{ℕ, ◌<◌}
use mathlib.Core.Path.{◌≡◌, refl, sym, ap, ◌∙◌}
use mathlib.Core.Bool.{Bool, true, false}
use mathlib.Core.List.{List, ◌++◌}
use borrow.Author.Tests.{leb-true, ltb-true, lt-ltb, le-ltb, leb-false}
use lib.Dec.{leb, ltb}
use lib.ListN.{length}
use Rattle.rules.specs.Cells.{cells}
use Rattle.rules.specs.Reasons.{reason_number}
use Rattle.rules.specs.declared.reasons.Reason.{Reason}
use Rattle.rules.specs.declared.counters.Counter.TheVariants.{Reason as reason, Accepted as accepted}
use Rattle.rules.proofs.Choice.{on}
use Rattle.std.specs.Prelude.{Option, Result, Ok, Err}
use Rattle.layout.specs.declared.damage.Damaged.{Damaged}
use Rattle.layout.specs.declared.answers.Answer.{Answer}
use Rattle.layout.specs.Answers.{done_with}
use Rattle.cells.specs.Chains.{follow, behind}
use Rattle.cells.specs.Bytes.{store_cells, store_from}
use Rattle.cells.specs.Stored.{stored_bytes}
use Rattle.cells.specs.Free.{free_count, first_free, room_for, taken}
use Rattle.arrival.specs.declared.plan.Lesson.{Lesson}
use Rattle.arrival.specs.declared.plan.Masks.{Masks}
use Rattle.arrival.specs.declared.plan.Offer.{Offer}
use Rattle.arrival.specs.declared.plan.Plan.TheVariants.{Drop, Queue}
use Rattle.arrival.specs.Candidates.{ports_in}
use Rattle.frame_in.specs.Carried.{each_port, counted_with, enqueue_at, joined_at, stored_at, join_at, lesson_by, carried_out}
use Rattle.frame_in.proofs.Aside.{Aside, accepted_aside}
use Rattle.frame_in.specs.Call.{Memories}

-- ---- room

damaged_not_ok : {b : Bool} → ◌≡◌ {A = Result Bool Damaged} (Err (record {})) (Ok b) → ⊥
damaged_not_ok q = cc

false_not_true : ◌≡◌ {A = Result Bool Damaged} (Ok false) (Ok true) → ⊥
false_not_true q = cc

module _ (n k : ℕ) (l : List ℕ) where
  pub record Enough : Type 0 where
    pub few : ltb (free_count l) k ≡ false
    pub below : ltb (first_free l) n ≡ true

  pub enough : room_for n k l ≡ Ok true → Enough
  unfolding room_for
  enough h =
      on (leb (free_count l) n)
      (λ a. on (leb k (free_count l))
      (λ b. on (ltb (first_free l) n)
      (λ c. record { few = le-ltb (free_count l) k (leb-true k (free_count l) b); below = c })
      (λ c. absurd (damaged_not_ok (rw (a, b, c) at h))))
      (λ b. absurd (false_not_true (rw (a, b) at h))))
      (λ a. absurd (damaged_not_ok (rw a at h)))

  pub no_room_law : room_for n k l ≡ Ok false → ltb (free_count l) k ≡ true
  unfolding room_for
  no_room_law h =
      on (leb (free_count l) n)
      (λ a. on (leb k (free_count l))
      (λ b. on (ltb (first_free l) n)
      (λ c. absurd (false_not_true (sym (rw (a, b, c) at h))))
      (λ c. absurd (damaged_not_ok (rw (a, b, c) at h))))
      (λ b. lt-ltb (free_count l) k (leb-false k (free_count l) b)))
      (λ a. absurd (damaged_not_ok (rw a at h)))

pub first_below : (n k : ℕ) (l : List ℕ) → room_for n k l ≡ Ok true → first_free l < n
first_below n k l h = ltb-true (first_free l) n (enough n k l h).below

-- ---- cells and queues

pub after_is : {x k : ℕ} {mem : List ℕ} (n : ℕ) (l : List ℕ) (y c : ℕ) (bytes cells : List ℕ) → ◌≡◌ {A = ℕ × List ℕ} (x, mem) (store_from n l y c bytes cells)
    → k ≡ y → x ≡ behind n l k c
after_is n l y c bytes cells e f = rw f (ap (λ (p : ℕ × List ℕ). p.0) e)

memory_is : {x : ℕ} {mem : List ℕ} (n : ℕ) (l : List ℕ) (y c : ℕ) (bytes cells : List ℕ) → ◌≡◌ {A = ℕ × List ℕ} (x, mem) (store_from n l y c bytes cells)
    → mem ≡ store_cells cells (follow n l y c) bytes
memory_is n l y c bytes cells e = ap (λ (p : ℕ × List ℕ). p.1) e

both : {x x' y y' : List ℕ} → x ≡ x' → y ≡ y' → ◌≡◌ {A = List ℕ × List ℕ} (x, y) (x', y')
both p q = cc

module _ (n : ℕ) (offer : Offer) (frame m l : List ℕ) where
  stored : store_cells m (follow n l (cells (length frame)) (first_free l)) (stored_bytes offer.header ++ frame) ≡ stored_at n offer m l frame
  unfolding stored_at
  stored = refl

  joined : (k : ℕ) → k ≡ cells (length frame)
      → each_port (enqueue_at n offer.queue.number (first_free l)) (ports_in offer.masks.left) (taken n k offer.masks.left l) ≡ joined_at n offer frame l
  unfolding joined_at
  joined k a = rw a

  pub join_is : (k : ℕ) {m₁ l₁ l₂ : List ℕ} {after : ℕ} → k ≡ cells (length frame)
      → ◌≡◌ {A = ℕ × List ℕ} (after, m₁) (store_from n l (cells (length frame)) (first_free l) (stored_bytes offer.header ++ frame) m) → l₁ ≡ taken n k offer.masks.left l
      → l₂ ≡ each_port (enqueue_at n offer.queue.number (first_free l)) (ports_in offer.masks.left) l₁ → ◌≡◌ {A = List ℕ × List ℕ} (m₁, l₂) (join_at n offer frame m l)
  join_is k a d e f =
      both (memory_is n l (cells (length frame)) (first_free l) (stored_bytes offer.header ++ frame) m d ∙ stored)
      (f ∙ ap (each_port (enqueue_at n offer.queue.number (first_free l)) (ports_in offer.masks.left)) e ∙ joined k a)

four : {w w' : Answer} {x x' y y' z z' : List ℕ} → w ≡ w' → x ≡ x' → y ≡ y' → z ≡ z' → ◌≡◌ {A = Answer × Memories} (w, (x, y, z)) (w', (x', y', z'))
four p q r s = cc

module _ (n : ℕ) (lesson : Option Lesson) (frame m l a : List ℕ) (port : ℕ) {unlearned : Bool} {a₁ : List ℕ}
    (taught : ◌≡◌ {A = Bool × List ℕ} (unlearned, a₁) (lesson_by lesson port a)) where
  unlearned_is : unlearned ≡ (lesson_by lesson port a).0
  unlearned_is = ap (λ (p : Bool × List ℕ). p.0) taught

  addresses_are : a₁ ≡ (lesson_by lesson port a).1
  addresses_are = ap (λ (p : Bool × List ℕ). p.1) taught

  pub dropped_is : (masks : Masks) (r : Reason) {x : ℕ} {l₁ : List ℕ} → l₁ ≡ counted_with (reason r) port unlearned masks l → x ≡ reason_number r
      → ◌≡◌ {A = Answer × Memories} (done_with x 0, (m, l₁, a₁)) (carried_out n (Drop lesson masks r) port frame m l a)
  unfolding carried_out
  dropped_is masks r c e =
      four (ap (λ (k : ℕ). done_with k 0) e) refl (c ∙ ap (λ (b : Bool). counted_with (reason r) port b masks l) unlearned_is) addresses_are

  -- queued: the counters went up before
  module _ (offer : Offer) (there : port < 5) {l₁ : List ℕ} (counts : l₁ ≡ counted_with accepted port unlearned offer.masks l) where
    aside : Aside n offer frame m (counted_with accepted port unlearned offer.masks)
    aside = accepted_aside n offer frame m port there unlearned offer.masks

    pub room_counted : (k : ℕ) → room_for n k l ≡ Ok true → room_for n k l₁ ≡ Ok true
    room_counted k h = ap (room_for n k) counts ∙ aside.room l k ∙ h

    pub queued_is : {m₁ l₂ : List ℕ} → ◌≡◌ {A = List ℕ × List ℕ} (m₁, l₂) (join_at n offer frame m l₁)
        → ◌≡◌ {A = Answer × Memories} (done_with 0 offer.masks.left, (m₁, l₂, a₁)) (carried_out n (Queue lesson offer) port frame m l a)
    unfolding carried_out
    queued_is j =
        four refl
        (ap (λ (p : List ℕ × List ℕ). p.0) j ∙ ap (λ (x : List ℕ). stored_at n offer m x frame) counts ∙ aside.stored l)
        (ap (λ (p : List ℕ × List ℕ). p.1) j ∙ ap (joined_at n offer frame) counts ∙ aside.joined l
        ∙ ap (λ (b : Bool). counted_with accepted port b offer.masks (joined_at n offer frame l)) unlearned_is)
        addresses_are
