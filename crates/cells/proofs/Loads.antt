-- The laws of storing and loading: what is stored is read back, what is stored in other cells is not touched, and where the stored
-- header and the first bytes of a frame stand. That cells are distinct is said by counting: `count c cs + count c ds ≤ 1` for every c
-- says that no cell is in both, nor twice in one. Assumes nothing.
use mathlib.Core.Path.{◌≡◌, refl, sym, ap, ap₂, ◌∙◌}
use mathlib.Core.Bool.{true}
use mathlib.Core.List.{List, [], ◌∷◌, ◌++◌}
use Prim.Native.Nat.{ℕ, ◌+◌, ◌*◌, ◌-◌, ◌≤◌, ◌<◌}
use native.Mathlib.Decide.{dec_le}
use native.Mathlib.Omega.{arith}
use lib.ListN.{length, take, drop, length-append, length-take, length-drop, take-append-drop}
use lib.Seq.{sets, length-sets, take_all, take-append-le, take-append-add, take-take, drop-append-le, drop-append_seam}
use Rattle.layout.specs.Counting.{times}
use Rattle.slices.proofs.Runs.{part_before, part_after, part_run, length_part, drop_take, drop_part}
use Rattle.cells.specs.Chains.{next, follow}
use Rattle.cells.specs.Bytes.{store_cells, load_cells, header_in, front_in, frame_in}
use Rattle.layout.proofs.Counting.{times_here}
use Rattle.cells.proofs.Counts.{all_below, count_ne, below_head, below_tail}
use Rattle.cells.proofs.Steps.{follow_cons}

pub length_store : (mem cs bytes : List ℕ) → length (store_cells mem cs bytes) ≡ length mem
length_store mem [] bytes = refl
length_store mem (c ∷ cs) bytes = length_store (sets mem (80 * c) (take 80 bytes)) cs (drop 80 bytes) ∙ length-sets mem (80 * c) (take 80 bytes)

pub length_load : (n : ℕ) (mem cs : List ℕ) → 80 * n ≤ length mem → all_below n cs ≡ true → length (load_cells mem cs) ≡ 80 * length cs
length_load n mem [] f b = refl
length_load n mem (c ∷ cs) f b =
    let below : c < n = below_head n c cs b in
    simp length-append (omega (arith, length_part mem (80 * c) 80 (omega arith), length_load n mem cs f (below_tail n c cs b)))

-- ---- a store elsewhere

short : (bytes : List ℕ) → length (take 80 bytes) ≤ 80
short bytes = simp length-take (omega arith)

-- a cell is as it was where another is overwritten
cell_over : (c d : ℕ) (mem bytes : List ℕ) → (d ≡ c → ⊥) → length bytes ≤ 80 → take 80 (drop (80 * d) (sets mem (80 * c) bytes)) ≡ take 80 (drop (80 * d) mem)
cell_over c d mem bytes ne h =
    elim (dec_le c d) as (λ _. take 80 (drop (80 * d) (sets mem (80 * c) bytes)) ≡ take 80 (drop (80 * d) mem)) [
      | yes p ↦ part_after (80 * d) 80 mem (80 * c) bytes (omega arith)
      | no p ↦ part_before (80 * d) 80 mem (80 * c) bytes (omega arith)
    ]

-- a cell that is not in the chain is as it was
pub cell_store : (d : ℕ) (mem cs bytes : List ℕ) → times d cs ≡ 0 → take 80 (drop (80 * d) (store_cells mem cs bytes)) ≡ take 80 (drop (80 * d) mem)
cell_store d mem [] bytes h = refl
cell_store d mem (c ∷ cs) bytes h =
    cell_store d (sets mem (80 * c) (take 80 bytes)) cs (drop 80 bytes) (omega arith)
    ∙ cell_over c d mem (take 80 bytes) (λ e. count_ne d c cs h (sym e)) (short bytes)

-- a chain that shares no cell with the one stored into is read as before
pub load_other : (mem cs ds bytes : List ℕ) → ((c : ℕ) → times c cs + times c ds ≤ 1) → load_cells (store_cells mem cs bytes) ds ≡ load_cells mem ds
load_other mem cs [] bytes h = refl
load_other mem cs (d ∷ ds) bytes h =
    ap₂ ◌++◌ (cell_store d mem cs bytes (omega (arith, h d, times_here d ds))) (load_other mem cs ds bytes (λ c. omega (arith, h c)))

-- ---- what was stored is read back

-- a first cell that holds the first 80 bytes, and a rest that holds the others, are read as the bytes
joined : (x rest bytes : List ℕ) → length x ≡ 80 → take (length (take 80 bytes)) x ≡ take 80 bytes → take (length (drop 80 bytes)) rest ≡ drop 80 bytes
    → take (length bytes) (x ++ rest) ≡ bytes
joined x rest bytes lx hx hr =
    elim (dec_le (length bytes) 80) as (λ _. take (length bytes) (x ++ rest) ≡ bytes) [
      | yes p ↦ take-append-le (length bytes) x rest (omega arith) ∙ (rw (take_all 80 bytes p) at hx)
      | no p ↦
          let first : x ≡ take 80 bytes = sym (take_all (length (take 80 bytes)) x (simp length-take (omega arith))) ∙ hx in
          let long : length bytes ≡ length x + length (drop 80 bytes) = simp length-drop (omega arith) in
          ap (λ (n : ℕ). take n (x ++ rest)) long ∙ take-append-add x rest (length (drop 80 bytes)) ∙ ap₂ ◌++◌ first hr ∙ take-append-drop 80 bytes
    ]

pub load_stored : (n : ℕ) (mem cs bytes : List ℕ) → 80 * n ≤ length mem → all_below n cs ≡ true → ((c : ℕ) → times c cs ≤ 1) → length bytes ≤ 80 * length cs
    → take (length bytes) (load_cells (store_cells mem cs bytes) cs) ≡ bytes
load_stored n mem [] [] f b d h = refl
load_stored n mem [] (x ∷ bytes) f b d h = absurd (omega arith)
load_stored n mem (c ∷ cs) bytes f b d h =
    let below : c < n = below_head n c cs b in
    let first : List ℕ = sets mem (80 * c) (take 80 bytes) in
    let long : length first ≡ length mem = length-sets mem (80 * c) (take 80 bytes) in
    let last : List ℕ = store_cells first cs (drop 80 bytes) in
    let kept : take 80 (drop (80 * c) last) ≡ take 80 (drop (80 * c) first) = cell_store c first cs (drop 80 bytes) (omega (arith, d c, times_here c cs)) in
    let x_long : length (take 80 (drop (80 * c) last)) ≡ 80 = length_part last (80 * c) 80 (omega (arith, length_store first cs (drop 80 bytes))) in
    joined (take 80 (drop (80 * c) last)) (load_cells last cs) bytes x_long
    (ap (take (length (take 80 bytes))) kept ∙ take-take (length (take 80 bytes)) 80 (drop (80 * c) first) (short bytes) ∙ part_run mem (80 * c) (take 80 bytes) (omega (arith, short bytes)))
    (load_stored n first cs (drop 80 bytes) (omega arith) (below_tail n c cs b) (λ x. omega (arith, d x)) (simp length-drop (omega arith)))

-- a frame that was stored behind n its header, and the header
module _ (n : ℕ) (mem cs header frame : List ℕ) (fits : 80 * n ≤ length mem) (below : all_below n cs ≡ true) (distinct : (c : ℕ) → times c cs ≤ 1)
    (eight : length header ≡ 8) (room : 8 + length frame ≤ 80 * length cs) where
  stored : List ℕ
  stored = load_cells (store_cells mem cs (header ++ frame)) cs

  all_bytes : take (8 + length frame) stored ≡ header ++ frame
  unfolding stored
  all_bytes =
      let long : length (header ++ frame) ≡ 8 + length frame = simp length-append (omega arith) in
      ap (λ (m : ℕ). take m (load_cells (store_cells mem cs (header ++ frame)) cs)) (sym long)
      ∙ load_stored n mem cs (header ++ frame) fits below distinct (omega arith)

  pub frame_stored : frame_in (store_cells mem cs (header ++ frame)) cs (length frame) ≡ frame
  unfolding stored frame_in
  frame_stored =
      let times : 8 + length frame - 8 ≡ length frame = omega arith in
      ap (λ (m : ℕ). take m (drop 8 stored)) (sym times)
      ∙ sym (drop_take 8 (8 + length frame) stored (omega arith))
      ∙ ap (drop 8) all_bytes
      ∙ (rw eight at (drop-append_seam header frame))

  pub header_stored : take 8 (load_cells (store_cells mem cs (header ++ frame)) cs) ≡ header
  unfolding stored
  header_stored =
      sym (take-take 8 (8 + length frame) stored (omega arith))
      ∙ ap (take 8) all_bytes
      ∙ take-append-le 8 header frame (omega arith)
      ∙ take_all 8 header (omega arith)

-- ---- the first cell

module _ (n : ℕ) (l mem : List ℕ) (k c : ℕ) (some : 0 < k) (fits : 80 * c + 80 ≤ length mem) where
  cell : List ℕ
  cell = take 80 (drop (80 * c) mem)

  rest : List ℕ
  rest = load_cells mem (follow n l (k - 1) (next n l c))

  whole : load_cells mem (follow n l k c) ≡ cell ++ rest
  unfolding cell rest
  whole = rw (follow_cons n l k c some)

  cell_long : length cell ≡ 80
  unfolding cell
  cell_long = length_part mem (80 * c) 80 fits

  pub header_first : take 8 (load_cells mem (follow n l k c)) ≡ header_in mem c
  unfolding cell
  header_first = ap (take 8) whole ∙ take-append-le 8 cell rest (omega (arith, cell_long)) ∙ take-take 8 80 (drop (80 * c) mem) (omega arith)

  pub frame_first : (long m : ℕ) → m ≤ long → m ≤ 72 → take m (frame_in mem (follow n l k c) long) ≡ front_in mem c m
  unfolding frame_in cell
  frame_first long m h g =
      take-take m long (drop 8 (load_cells mem (follow n l k c))) h
      ∙ ap (λ (v : List ℕ). take m (drop 8 v)) whole
      ∙ ap (take m) (drop-append-le 8 cell rest (omega (arith, cell_long)))
      ∙ take-append-le m (drop 8 cell) rest (simp length-drop (omega (arith, cell_long)))
      ∙ ap (take m) (drop_part 8 (80 * c) 80 mem (omega arith))
      ∙ take-take m 72 (drop (80 * c + 8) mem) g
