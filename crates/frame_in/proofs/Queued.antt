-- A copy is queued and counted in one turn for each port left: the same as one run that queues and, behind all other counters, one that
-- counts. Assumes nothing.
use Prim.Native.Nat.{ℕ, ◌+◌, ◌*◌, ◌%◌, ◌^◌, ◌<◌, ◌≤◌}
use mathlib.Core.Path.{◌≡◌, refl, sym, ap, ◌∙◌}
use mathlib.Core.Bool.{Bool, true, false}
use mathlib.Core.List.{List, [], ◌∷◌}
use native.Mathlib.Decide.{dec_le}
use native.Mathlib.Omega.{arith}
use lib.ListN.{get_or, set}
use lib.Seq.{set_comm, get_or-set_other}
use Rattle.std.specs.Prelude.{if◌then◌else◌}
use Rattle.rules.specs.Choice.{sift, Each, nobody, also}
use Rattle.rules.specs.Numbers.{all_ports}
use Rattle.rules.specs.Arguments.{bit}
use Rattle.rules.specs.Counters.{counter_number}
use Rattle.rules.proofs.Choice.{on}
use Rattle.layout.specs.Places.{counter_word, waiting_word, oldest_word, youngest_word, behind_word}
use Rattle.layout.specs.Cells.{clamped}
use Rattle.layout.specs.Bits.{with_bit}
use Rattle.queues.specs.Lists.{pushed}
use Rattle.layout.specs.Counters.{bumped}
use Rattle.arrival.specs.declared.plan.Masks.{Masks}
use Rattle.arrival.specs.Candidates.{ports_in}
use Rattle.layout.specs.Bits.{less}
use Rattle.frame_in.specs.Carried.{each_port, bump_at, push_at, enqueue_at, counted_falls, count_if}
use Rattle.frame_in.proofs.Each.{later, bump_apart}

-- ---- a counter of a port is no word of a queue

module _ (w : ℕ) where
  abbrev more : List ℕ → List ℕ
  more l = set l w ((get_or l w 0 + 1) % 2 ^ 32)

  past : (l : List ℕ) (i x : ℕ) → (w ≡ i → ⊥) → more (set l i x) ≡ set (more l) i x
  past l i x off =
      ap (λ (v : ℕ). set (set l i x) w ((v + 1) % 2 ^ 32)) (get_or-set_other l i w x 0 off)
      ∙ set_comm l i w x ((get_or l w 0 + 1) % 2 ^ 32) (λ e. off (sym e))

  past_two : (l : List ℕ) (i x j y : ℕ) → (w ≡ i → ⊥) → (w ≡ j → ⊥) → more (set (set l i x) j y) ≡ set (set (more l) i x) j y
  past_two l i x j y a b = past (set l i x) j y b ∙ ap (λ (m : List ℕ). set m j y) (past l i x a)

  pub past_three : (l : List ℕ) (i x j y k z : ℕ) → (w ≡ i → ⊥) → (w ≡ j → ⊥) → (w ≡ k → ⊥)
      → more (set (set (set l i x) j y) k z) ≡ set (set (set (more l) i x) j y) k z
  past_three l i x j y k z a b c = past (set (set l i x) j y) k z c ∙ ap (λ (m : List ℕ). set m k z) (past_two l i x j y a b)

-- the counters are the first words of a port's record
no_counter : (p q k r : ℕ) → k < 32 → 32 ≤ r → r < 128 → counter_word q k ≡ counter_word p r → ⊥
no_counter p q k r h i j e =
    elim (dec_le q p) as (λ _. ⊥) [
      | yes a ↦ omega arith
      | no a ↦ omega arith
    ]

module _ (n queue first : ℕ) (low : queue ≤ 3) (k : ℕ) (small : k < 32) where
  pub push_apart : (p q : ℕ) → q < 5 → (l : List ℕ) → bump_at k q (push_at n queue first p l) ≡ push_at n queue first p (bump_at k q l)
  unfolding pushed
  push_apart p q h l =
      let w = counter_word q k in
      let no_waiting : w ≡ waiting_word p → ⊥ = λ e. no_counter p q k 34 small (omega arith) (omega arith) (e ∙ omega arith) in
      let no_oldest : w ≡ oldest_word p queue → ⊥ = λ e. no_counter p q k (40 + 2 * queue) small (omega arith) (omega arith) (e ∙ omega arith) in
      let no_youngest : w ≡ youngest_word p queue → ⊥ = λ e. no_counter p q k (41 + 2 * queue) small (omega arith) (omega arith) (e ∙ omega arith) in
      let waits : get_or (more w l) (waiting_word p) 0 ≡ get_or l (waiting_word p) 0 = get_or-set_other l w (waiting_word p) _ 0 (λ e. no_waiting (sym e)) in
      let young : get_or (more w l) (youngest_word p queue) 0 ≡ get_or l (youngest_word p queue) 0 = get_or-set_other l w (youngest_word p queue) _ 0 (λ e. no_youngest (sym e)) in
      on (bit (get_or l (waiting_word p) 0) queue)
      (λ e. rw (waits, young, e)
      (past_two w l (behind_word p (clamped n (get_or l (youngest_word p queue) 0))) first (youngest_word p queue) first (λ e. omega (arith, e)) no_youngest))
      (λ e. rw (waits, e)
      (past_three w l (oldest_word p queue) first (youngest_word p queue) first (waiting_word p) (with_bit (get_or l (waiting_word p) 0) queue true) no_oldest no_youngest no_waiting))

  push_later : (q : ℕ) → q < 5 → (ps : List ℕ) (l : List ℕ) → bump_at k q (each_port (push_at n queue first) ps l) ≡ each_port (push_at n queue first) ps (bump_at k q l)
  unfolding each_port
  push_later q h [] l = refl
  push_later q h (p ∷ ps) l = push_later q h ps (push_at n queue first p l) ∙ ap (each_port (push_at n queue first) ps) (push_apart p q h l)

module _ (n queue first : ℕ) (low : queue ≤ 3) where
  runs : {ps : List ℕ} → Each (λ (p : ℕ). p < 5) ps → (l : List ℕ)
      → each_port (enqueue_at n queue first) ps l ≡ each_port (bump_at 16) ps (each_port (push_at n queue first) ps l)
  unfolding each_port counter_number
  runs nobody l = refl
  runs (also {a = p} {rest = ps} h t) l =
      runs t (enqueue_at n queue first p l) ∙ ap (each_port (bump_at 16) ps) (sym (push_later n queue first low 16 (omega arith) p h ps (push_at n queue first p l)))

sifted : (b : Bool) (f : ℕ → Bool) {p : ℕ} (ps : List ℕ) → p < 5 → Each (λ (q : ℕ). q < 5) (sift f ps) → Each (λ (q : ℕ). q < 5) (if b then (p ∷ sift f ps) else sift f ps)
sifted true f ps h t = also h t
sifted false f ps h t = t

pub sift_small : (f : ℕ → Bool) {ps : List ℕ} → Each (λ (q : ℕ). q < 5) ps → Each (λ (q : ℕ). q < 5) (sift f ps)
unfolding sift
sift_small f nobody = nobody
sift_small f (also {a = p} {rest = ps} h t) = sifted (f p) f ps h (sift_small f t)

pub five : Each (λ (q : ℕ). q < 5) all_ports
five =
    also {a = 0} (omega arith) (also {a = 1} (omega arith) (also {a = 2} (omega arith) (also {a = 3} (omega arith) (also {a = 4} (omega arith) nobody))))

pub two_runs : (n queue first : ℕ) → queue ≤ 3 → (left : ℕ) (l : List ℕ) → each_port (enqueue_at n queue first) (ports_in left) l
    ≡ each_port (bump_at 16) (ports_in left) (each_port (push_at n queue first) (ports_in left) l)
unfolding ports_in
two_runs n queue first low left l = runs n queue first low (sift_small (bit left) five) l

-- ---- counters of other numbers come before or behind it

module _ (ps : List ℕ) where
  abbrev queued_all : List ℕ → List ℕ
  queued_all l = each_port (bump_at 16) ps l

  other : (k : ℕ) → k < 32 → (16 ≡ k → ⊥) → (port : ℕ) (l : List ℕ) → bump_at k port (queued_all l) ≡ queued_all (bump_at k port l)
  other k h off port l = later (bump_at 16) (bump_at k) (λ p q m. bump_apart 16 k (omega arith) h off p q m) port ps l

  others : (k : ℕ) → k < 32 → (16 ≡ k → ⊥) → (qs : List ℕ) (l : List ℕ) → each_port (bump_at k) qs (queued_all l) ≡ queued_all (each_port (bump_at k) qs l)
  unfolding each_port
  others k h off [] l = refl
  others k h off (q ∷ qs) l = ap (each_port (bump_at k) qs) (other k h off q l) ∙ others k h off qs (bump_at k q l)

  falls : (m : Masks) (l : List ℕ) → counted_falls m (queued_all l) ≡ queued_all (counted_falls m l)
  unfolding counted_falls counter_number
  falls m l =
      ap (each_port (bump_at 18) (ports_in (less m.passing m.left))) (others 17 (omega arith) (λ e. omega arith) (ports_in (less m.candidates m.passing)) l)
      ∙ others 18 (omega arith) (λ e. omega arith) (ports_in (less m.passing m.left)) _

  lesson : (unlearned : Bool) (port : ℕ) (l : List ℕ) → count_if unlearned port (queued_all l) ≡ queued_all (count_if unlearned port l)
  unfolding count_if counter_number
  lesson true port l = other 15 (omega arith) (λ e. omega arith) port l
  lesson false port l = refl

  pub queued_last : (m : Masks) (unlearned : Bool) (port : ℕ) (l : List ℕ)
      → bumped port 14 (counted_falls m (count_if unlearned port (bumped port 0 (queued_all l))))
      ≡ queued_all (bumped port 14 (counted_falls m (count_if unlearned port (bumped port 0 l))))
  queued_last m unlearned port l =
      ap (λ (x : List ℕ). bumped port 14 (counted_falls m (count_if unlearned port x))) (other 0 (omega arith) (λ e. omega arith) port l)
      ∙ ap (λ (x : List ℕ). bumped port 14 (counted_falls m x)) (lesson unlearned port (bumped port 0 l))
      ∙ ap (bumped port 14) (falls m (count_if unlearned port (bumped port 0 l)))
      ∙ other 14 (omega arith) (λ e. omega arith) port (counted_falls m (count_if unlearned port (bumped port 0 l)))
