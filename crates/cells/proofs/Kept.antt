-- Taking cells and giving them back keeps link memory sound. Assumes nothing.
use mathlib.Core.Path.{◌≡◌, refl, sym, ap, ap₂, ◌∙◌}
use mathlib.Core.List.{List, [], ◌∷◌, ◌++◌, append_assoc}
use Prim.Native.Nat.{ℕ, suc, ◌+◌, ◌-◌, ◌/◌, ◌%◌, ◌≤◌, ◌<◌}
use native.Mathlib.Decide.{ℕ_discrete, dec_le}
use native.Mathlib.Omega.{arith}
use lib.ListN.{length, get_or, set}
use lib.Seq.{get_or-set_same, get_or-set_other}
use lib.Dec.{ltb}
use borrow.Author.Tests.{eq-eqb, ne_eqb}
use Rattle.layout.specs.Counting.{times}
use Rattle.layout.specs.Places.{link_words, free_count_word, first_free_word, next_word, frame_word}
use Rattle.layout.specs.Cells.{clamped}
use Rattle.layout.proofs.Cells.{clamped_below}
use Rattle.cells.specs.Chains.{next_in, next, follow, walk}
use Rattle.cells.specs.Free.{free_count, first_free, word_of, size_of, ports_of, free_cells, frame_cells, last_cell, taken, given_back}
use Rattle.cells.specs.Sound.{waiting_cells, Sound}
use Rattle.layout.proofs.Counting.{times_append, times_here}
use Rattle.cells.proofs.Counts.{one_le}
use Rattle.cells.proofs.Steps.{follow_cons, walk_in}
use Rattle.cells.proofs.Moves.{Taking, last_in}
use Rattle.cells.proofs.Paths.{follow_split, behind_walk, follow_same, follow_past, walk_past}
use Rattle.cells.proofs.Words.{word_size, word_ports, taken_next, taken_follow, taken_size, taken_size_other, taken_ports, taken_ports_other, taken_count, taken_first, given_next, given_next_other, given_size_other, given_ports, given_ports_other, given_count, given_first}
use Rattle.cells.proofs.Sums.{all_same, all_change, waiting_in, two_in}

-- ---- a frame's cells

pub waiting_none : (n : ℕ) (l : List ℕ) (c : ℕ) → ports_of l c ≡ 0 → waiting_cells n l c ≡ []
unfolding waiting_cells
waiting_none n l c e = rw (eq-eqb (ports_of l c) 0 e)

pub waiting_some : (n : ℕ) (l : List ℕ) (c : ℕ) → 1 ≤ ports_of l c → waiting_cells n l c ≡ frame_cells n l c
unfolding waiting_cells
waiting_some n l c h = rw (ne_eqb (ports_of l c) 0 (λ e. omega arith))

-- the same ports and the same cells
pub waiting_same : (n : ℕ) (l m : List ℕ) (c : ℕ) → ports_of m c ≡ ports_of l c → frame_cells n m c ≡ frame_cells n l c → waiting_cells n m c ≡ waiting_cells n l c
unfolding waiting_cells
waiting_same n l m c e f = rw (e, f)

-- ---- taking

module _ (n k ports : ℕ) (l : List ℕ) (long : link_words n ≤ length l) (some : 1 ≤ k) (waits : 1 ≤ ports) (mask : ports < 32) (t : Taking n k l) (sound : Sound n l) where
  -- the frame that was taken has the first free cells
  pub taken_cells : frame_cells n (taken n k ports l) (first_free l) ≡ follow n l k (first_free l)
  taken_cells = rw (taken_size n k ports l long t.first mask) (taken_follow n k ports l k (first_free l))

  pub taken_waiting : waiting_cells n (taken n k ports l) (first_free l) ≡ follow n l k (first_free l)
  taken_waiting = waiting_some n (taken n k ports l) (first_free l) (rw (taken_ports n k ports l long t.first mask) waits) ∙ taken_cells

  pub taken_others : (s : ℕ) → (s ≡ first_free l → ⊥) → waiting_cells n (taken n k ports l) s ≡ waiting_cells n l s
  taken_others s ne =
      waiting_same n l (taken n k ports l) s (taken_ports_other n k ports l s ne)
      (rw (taken_size_other n k ports l s ne) (taken_follow n k ports l (size_of l s) s))

  -- the free cells are those taken, and then those left
  pub free_taken : free_cells n (taken n k ports l) ≡ follow n l (free_count l - k) (walk n l k (first_free l))
  free_taken =
      rw (taken_count n k ports l long, taken_first n k ports l long, behind_walk n l sound.nexts k (first_free l) some t.first)
      (taken_follow n k ports l (free_count l - k) (walk n l k (first_free l)))

  split : (c : ℕ) → times c (free_cells n l) ≡ times c (follow n l k (first_free l)) + times c (follow n l (free_count l - k) (walk n l k (first_free l)))
  split c =
      let sum : free_count l ≡ k + (free_count l - k) = omega arith in
      ap (λ (f : ℕ). times c (follow n l f (first_free l))) sum
      ∙ ap (times c) (follow_split n l k (free_count l - k) (first_free l))
      ∙ times_append c (follow n l k (first_free l)) (follow n l (free_count l - k) (walk n l k (first_free l)))

  -- the cells taken are distinct, and in no frame that waits
  pub taken_once : (c : ℕ) → times c (follow n l k (first_free l)) ≤ 1
  taken_once c = omega (arith, split c, sound.once c, one_le (ltb c n))

  pub taken_apart : (s : ℕ) → s < n → (c : ℕ) → times c (follow n l k (first_free l)) + times c (waiting_cells n l s) ≤ 1
  taken_apart s h c = omega (arith, split c, waiting_in n l c s n h, sound.once c, one_le (ltb c n))

  -- no frame began at the first free cell
  none_there : (c : ℕ) → times c (waiting_cells n l (first_free l)) ≡ 0
  none_there c =
      elim (dec_le 1 (ports_of l (first_free l))) as (λ _. times c (waiting_cells n l (first_free l)) ≡ 0) [
        | yes p ↦
            elim (dec_le 1 (size_of l (first_free l))) as (λ _. times c (waiting_cells n l (first_free l)) ≡ 0) [
              | yes q ↦
                  absurd
                  (omega (
                    arith,
                    split (first_free l),
                    ap (times (first_free l)) (follow_cons n l k (first_free l) some),
                    times_here (first_free l) (follow n l (k - 1) (next n l (first_free l))),
                    ap (times (first_free l)) (waiting_some n l (first_free l) p ∙ follow_cons n l (size_of l (first_free l)) (first_free l) q),
                    times_here (first_free l) (follow n l (size_of l (first_free l) - 1) (next n l (first_free l))),
                    waiting_in n l (first_free l) (first_free l) n t.first,
                    sound.once (first_free l),
                    one_le (ltb (first_free l) n),
                  ))
              | no q ↦
                  let empty : size_of l (first_free l) ≡ 0 = omega arith in
                  ap (times c) (waiting_some n l (first_free l) p) ∙ (rw empty)
            ]
        | no p ↦ ap (times c) (waiting_none n l (first_free l) (omega arith))
      ]

  pub taken_sound : Sound n (taken n k ports l)
  taken_sound =
      record {
        once = λ c.
            omega (
              arith,
              split c,
              ap (times c) free_taken,
              sound.once c,
              none_there c,
              ap (times c) taken_waiting,
              all_change n l (taken n k ports l) c (first_free l) n t.first (λ s h. taken_others s),
            );
        nexts = λ c h. rw (taken_next n k ports l c) (sound.nexts c h);
        first = rw (taken_first n k ports l long, behind_walk n l sound.nexts k (first_free l) some t.first) (walk_in n l k (first_free l) sound.first);
      }

-- ---- giving back

module _ (n s : ℕ) (l : List ℕ) (long : link_words n ≤ length l) (first : s < n) (some : 1 ≤ size_of l s) (waits : 1 ≤ ports_of l s)
    (sound : Sound n l) where
  p : ℕ
  p = last_cell n l s

  below : p < n
  unfolding p
  below = last_in n s l first

  is_last : walk n l (size_of l s - 1) s ≡ p
  unfolding p
  is_last = refl

  -- a frame's cells are all but the last, and the last
  ends : frame_cells n l s ≡ follow n l (size_of l s - 1) s ++ (p ∷ [])
  unfolding p
  ends =
      let sum : size_of l s ≡ size_of l s - 1 + 1 = omega (arith, some) in
      ap (λ (k : ℕ). follow n l k s) sum ∙ follow_split n l (size_of l s - 1) 1 s

  ends_count : (c : ℕ) → times c (waiting_cells n l s) ≡ times c (follow n l (size_of l s - 1) s) + times c (p ∷ [])
  ends_count c = ap (times c) (waiting_some n l s waits ∙ ends) ∙ times_append c (follow n l (size_of l s - 1) s) (p ∷ [])

  last_once : (times p (follow n l (size_of l s - 1) s) ≡ 0) × (times p (free_cells n l) ≡ 0)
  last_once = omega (arith, ends_count p, times_here p [], waiting_in n l p s n first, sound.once p, one_le (ltb p n))

  next_other : (c : ℕ) → (c ≡ p → ⊥) → next_in (given_back n s l) c ≡ next_in l c
  unfolding p
  next_other = given_next_other n s l

  next_last : next_in (given_back n s l) p ≡ first_free l
  unfolding p
  next_last = given_next n s l long below

  pub given_others : (r : ℕ) → r < n → (r ≡ s → ⊥) → waiting_cells n (given_back n s l) r ≡ waiting_cells n l r
  given_others r h ne =
      elim (dec_le 1 (ports_of l r)) as (λ _. waiting_cells n (given_back n s l) r ≡ waiting_cells n l r) [
        | yes w ↦
            let none : times p (follow n l (size_of l r) r) ≡ 0 =
            omega (arith, ap (times p) (waiting_some n l r w), ends_count p, times_here p [], two_in n l p r s n h first ne, sound.once p, one_le (ltb p n)) in
            waiting_same n l (given_back n s l) r (given_ports_other n s l r ne) (rw (given_size_other n s l r ne) (follow_past n p l (given_back n s l) next_other (size_of l r) r none))
        | no w ↦
            let none : ports_of l r ≡ 0 = omega arith in
            waiting_none n (given_back n s l) r (given_ports_other n s l r ne ∙ none) ∙ sym (waiting_none n l r none)
      ]

  pub free_given : free_cells n (given_back n s l) ≡ frame_cells n l s ++ free_cells n l
  free_given =
      let m : List ℕ = given_back n s l in
      let k : ℕ = size_of l s - 1 in
      let free : ℕ = free_count l in
      let sum : free + size_of l s ≡ k + suc free = omega (arith, some) in
      let front : follow n m k s ≡ follow n l k s = follow_past n p l m next_other k s last_once.0 in
      let last : walk n m k s ≡ p = walk_past n p l m next_other k s last_once.0 ∙ is_last in
      let back : follow n m free (first_free l) ≡ free_cells n l = follow_past n p l m next_other free (first_free l) last_once.1 in
      let next_first : next n m p ≡ first_free l = ap (clamped n) next_last ∙ clamped_below n (first_free l) sound.first in
      let rest : follow n m (suc free) (walk n m k s) ≡ p ∷ free_cells n l =
      ap (follow n m (suc free)) last ∙ ap (λ (h : ℕ). p ∷ follow n m free h) next_first ∙ ap (λ (r : List ℕ). p ∷ r) back in
      ap₂ (follow n m) (given_count n s l long ∙ sum) (given_first n s l long)
      ∙ follow_split n m k (suc free) s
      ∙ ap₂ ◌++◌ front rest
      ∙ sym (append_assoc (follow n l k s) (p ∷ []) (free_cells n l))
      ∙ ap (λ (r : List ℕ). r ++ free_cells n l) (sym ends)

  pub given_sound : Sound n (given_back n s l)
  given_sound =
      record {
        once = λ c.
            omega (
              arith,
              ap (times c) free_given,
              times_append c (frame_cells n l s) (free_cells n l),
              sound.once c,
              ap (times c) (waiting_some n l s waits),
              ap (times c) (waiting_none n (given_back n s l) s (given_ports n s l long first)),
              all_change n l (given_back n s l) c s n first given_others,
            );
        nexts = λ c h.
            elim (ℕ_discrete c p) as (λ _. next_in (given_back n s l) c < n) [
              | yes e ↦ rw (e, next_last) sound.first
              | no e ↦ rw (next_other c e) (sound.nexts c h)
            ];
        first = rw (given_first n s l long) first;
      }

-- ---- a frame that waits at fewer ports

module _ (n s word : ℕ) (l : List ℕ) (long : link_words n ≤ length l) (waits : 1 ≤ ports_of l s) (size : word / 32 ≡ size_of l s) (left : 1 ≤ word % 32)
    (sound : Sound n l) where
  fewer : List ℕ
  fewer = set l (frame_word s) word

  other_word : (w : ℕ) → (w ≡ frame_word s → ⊥) → get_or fewer w 0 ≡ get_or l w 0
  unfolding fewer
  other_word w ne = get_or-set_other l (frame_word s) w word 0 ne

  same_cells : (k c : ℕ) → follow n fewer k c ≡ follow n l k c
  same_cells = follow_same n l fewer (λ c. other_word (next_word c) (λ e. omega arith))

  here : s < n → word_of fewer s ≡ word
  unfolding fewer
  here h = get_or-set_same l (frame_word s) word 0 (omega arith)

  same_size : (c : ℕ) → c < n → size_of fewer c ≡ size_of l c
  same_size c h =
      elim (ℕ_discrete c s) as (λ _. size_of fewer c ≡ size_of l c) [
        | yes e ↦ rw e (ap (◌/ 32) (here (rw (← e) h)) ∙ size)
        | no e ↦ word_size l fewer c (other_word (frame_word c) (λ f. e (omega arith)))
      ]

  same_frame : (c : ℕ) → c < n → frame_cells n fewer c ≡ frame_cells n l c
  same_frame c h = rw (same_size c h) (same_cells (size_of l c) c)

  same_waiting : (c : ℕ) → c < n → waiting_cells n fewer c ≡ waiting_cells n l c
  same_waiting c h =
      elim (ℕ_discrete c s) as (λ _. waiting_cells n fewer c ≡ waiting_cells n l c) [
        | yes e ↦
            let some : 1 ≤ ports_of fewer c = rw e (rw (here (rw (← e) h)) left) in
            waiting_some n fewer c some ∙ same_frame c h ∙ sym (waiting_some n l c (rw e waits))
        | no e ↦ waiting_same n l fewer c (word_ports l fewer c (other_word (frame_word c) (λ f. e (omega arith)))) (same_frame c h)
      ]

  pub ports_sound : Sound n (set l (frame_word s) word)
  unfolding fewer
  ports_sound =
      let free : free_cells n fewer ≡ free_cells n l =
      rw (other_word free_count_word (λ e. omega arith), other_word first_free_word (λ e. omega arith)) (same_cells (free_count l) (first_free l)) in
      record {
        once = λ c. omega (arith, ap (times c) free, ap (times c) (all_same n l fewer n same_waiting), sound.once c);
        nexts = λ c h. rw (other_word (next_word c) (λ e. omega arith)) (sound.nexts c h);
        first = rw (other_word first_free_word (λ e. omega arith)) sound.first;
      }
