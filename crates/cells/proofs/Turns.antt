-- What a turn of the loops over a chain does, and what the first cell takes and gives. Assumes nothing.
use mathlib.Core.Path.{◌≡◌, sym, ap, ap₂, ◌∙◌}
use mathlib.Core.List.{List, [], ◌++◌}
use Prim.Native.Nat.{ℕ, suc, ◌+◌, ◌*◌, ◌-◌, ◌≤◌, ◌<◌}
use native.Mathlib.Nat.{sub-zero}
use native.Mathlib.Omega.{arith}
use lib.ListN.{length, take, drop, length-append, length-take, length-drop}
use lib.Seq.{sets, length-sets, take_all, take-take, drop-drop, drop-append-le, take-append-le, take-append-add, drop-append-add}
use borrow.Rule.Slice.PartMut.{put_mid}
use Rattle.rules.specs.Cells.{cells}
use Rattle.slices.proofs.Runs.{sets_append, sets_whole, length_part, drop_take, drop_part}
use Rattle.cells.specs.Chains.{next_in, next, follow, walk}
use Rattle.cells.specs.Bytes.{cells_for, store_from, load_cells, frame_in, load_from}
use Rattle.cells.proofs.Steps.{follow_cons, follow_below, walk_cons, behind_cons}
use Rattle.cells.proofs.Paths.{length_follow}
use Rattle.cells.proofs.Loads.{length_load}
use Rattle.cells.proofs.Parts.{written}

module _ (n : ℕ) (l : List ℕ) (c : ℕ) where
  -- ---- storing: a cell takes 80 bytes

  pub store_goes_on : (mem bytes : List ℕ) → 80 < length bytes
      → store_from n l (cells_for (length (drop 80 bytes))) (next n l c) (drop 80 bytes) (sets mem (80 * c) (take 80 bytes))
      ≡ store_from n l (cells_for (length bytes)) c bytes mem
  store_goes_on mem bytes h =
      let k : ℕ = cells_for (length bytes) in
      let less : cells_for (length (drop 80 bytes)) ≡ k - 1 = simp length-drop (omega arith) in
      rw less
      (ap₂ (λ (x : ℕ) (y : List ℕ). (x, y))
      (sym (behind_cons n l k c (omega arith)))
      (rw (follow_cons n l k c (omega arith))))

  -- the last takes what is left
  pub store_ends : (mem bytes : List ℕ) → 0 < length bytes → length bytes ≤ 80
      → (next_in l c, sets mem (80 * c) bytes) ≡ store_from n l (cells_for (length bytes)) c bytes mem
  store_ends mem bytes h g =
      let one : cells_for (length bytes) ≡ 1 = omega arith in
      rw (one, take_all 80 bytes g)

  -- the first takes the header, and as much of the frame as there is room for
  module _ (mem header frame : List ℕ) (eight : length header ≡ 8) where
    times : cells_for (length (header ++ frame)) ≡ cells (length frame)
    times = simp length-append (omega arith)

    pub store_short : length frame ≤ 72
        → (next_in l c, sets (sets mem (80 * c) header) (80 * c + 8) frame) ≡ store_from n l (cells (length frame)) c (header ++ frame) mem
    store_short h =
        let whole : sets mem (80 * c) (header ++ frame) ≡ sets (sets mem (80 * c) header) (80 * c + 8) frame = rw eight at (sets_append mem (80 * c) header frame) in
        rw (times, whole) at (store_ends mem (header ++ frame) (simp length-append (omega arith)) (simp length-append (omega arith)))

    pub store_long : 72 < length frame
        → store_from n l (cells_for (length (drop 72 frame))) (next n l c) (drop 72 frame) (sets (sets mem (80 * c) header) (80 * c + 8) (take 72 frame))
        ≡ store_from n l (cells (length frame)) c (header ++ frame) mem
    store_long h =
        let first : take 80 (header ++ frame) ≡ header ++ take 72 frame = rw eight at (take-append-add header frame 72) in
        let others : drop 80 (header ++ frame) ≡ drop 72 frame = rw eight at (drop-append-add header frame 72) in
        let whole : sets mem (80 * c) (header ++ take 72 frame) ≡ sets (sets mem (80 * c) header) (80 * c + 8) (take 72 frame) = rw eight at (sets_append mem (80 * c) header (take 72 frame)) in
        rw (times, first, others, whole) at (store_goes_on mem (header ++ frame) (simp length-append (omega arith)))

  -- ---- the last cell

  pub walk_goes_on : (d end : ℕ) → d + 80 < end → walk n l (cells_for (end - (d + 80)) - 1) (next n l c) ≡ walk n l (cells_for (end - d) - 1) c
  walk_goes_on d end h =
      let k : ℕ = cells_for (end - d) in
      let less : cells_for (end - (d + 80)) - 1 ≡ k - 1 - 1 = omega arith in
      rw less (sym (walk_cons n l (k - 1) c (omega arith)))

  -- ---- loading: a cell gives 80 bytes

  module _ (mem out : List ℕ) where
    pub load_starts : 80 * n ≤ length mem → c < n
        → sets out 0 (take (length out - 0) (load_cells mem (follow n l (cells_for (length out - 0)) c))) ≡ take (length out) (load_cells mem (follow n l (cells_for (length out)) c))
    load_starts fits below =
        let k : ℕ = cells_for (length out) in
        let long : length (load_cells mem (follow n l k c)) ≡ 80 * length (follow n l k c) = length_load n mem (follow n l k c) fits (follow_below n l k c below) in
        rw sub-zero (sets_whole out (take (length out) (load_cells mem (follow n l k c))) (simp length-take (omega (arith, long, length_follow n l k c))))

  module _ (mem out : List ℕ) (fits : 80 * c + 80 ≤ length mem) where
    abbrev cell : List ℕ
    cell = take 80 (drop (80 * c) mem)

    cell_long : length cell ≡ 80
    cell_long = length_part mem (80 * c) 80 fits

    pub load_goes_on : (d end : ℕ) → d + 80 < end
        → sets (sets out d cell) (d + 80) (take (end - (d + 80)) (load_cells mem (follow n l (cells_for (end - (d + 80))) (next n l c))))
        ≡ sets out d (take (end - d) (load_cells mem (follow n l (cells_for (end - d)) c)))
    load_goes_on d end h =
        let k : ℕ = cells_for (end - (d + 80)) in
        let more : cells_for (end - d) ≡ suc k = omega arith in
        let rest : List ℕ = load_cells mem (follow n l k (next n l c)) in
        let left : end - d ≡ length cell + (end - (d + 80)) = omega (arith, cell_long) in
        rw more
        (sym
        (ap (λ (m : ℕ). sets out d (take m (cell ++ rest))) left
        ∙ ap (sets out d) (take-append-add cell rest (end - (d + 80)))
        ∙ sets_append out d cell (take (end - (d + 80)) rest)
        ∙ rw cell_long))

    -- the last is read up to place end
    pub load_ends : (d end : ℕ) → d < end → end ≤ d + 80
        → sets out d (take (80 * c + (end - d) - 80 * c) (drop (80 * c) mem)) ≡ sets out d (take (end - d) (load_cells mem (follow n l (cells_for (end - d)) c)))
    load_ends d end h g =
        let one : cells_for (end - d) ≡ 1 = omega arith in
        let times : 80 * c + (end - d) - 80 * c ≡ end - d = omega arith in
        rw (one, times)
        (ap (sets out d) (sym (take-append-le (end - d) cell [] (omega (arith, cell_long)) ∙ take-take (end - d) 80 (drop (80 * c) mem) (omega arith))))

    -- the first is read past the header and the bytes that are left out
    module _ (from long at : ℕ) (small : from ≤ 72) (some : from ≤ long) where
      abbrev place : ℕ
      place = 80 * c + 8 + from

      -- what is read of cells of which it is the first
      read : (rest : List ℕ) → drop from (take long (drop 8 (cell ++ rest))) ≡ take (long - from) (take (72 - from) (drop place mem) ++ rest)
      read rest =
          let count : 80 - (8 + from) ≡ 72 - from = omega arith in
          let from_there : 80 * c + (8 + from) ≡ place = omega arith in
          drop_take from long (drop 8 (cell ++ rest)) some
          ∙ ap (take (long - from))
          (drop-drop from 8 (cell ++ rest)
          ∙ drop-append-le (8 + from) cell rest (omega (arith, cell_long))
          ∙ ap (λ (v : List ℕ). v ++ rest) (drop_part (8 + from) (80 * c) 80 mem (omega arith) ∙ rw (count, from_there)))

      part_long : length (take (72 - from) (drop place mem)) ≡ 72 - from
      part_long = length_part mem place (72 - from) (omega arith)

      pub load_short : long ≤ 72 → sets out at (take (place + (long - from) - place) (drop place mem)) ≡ load_from from out mem at long (follow n l (cells long) c)
      unfolding frame_in
      load_short h =
          let one : cells long ≡ 1 = omega arith in
          let count : place + (long - from) - place ≡ long - from = omega arith in
          let part : List ℕ = take (72 - from) (drop place mem) in
          rw (one, count)
          (ap (sets out at) (sym (read [] ∙ take-append-le (long - from) part [] (omega (arith, part_long)) ∙ take-take (long - from) (72 - from) (drop place mem) (omega arith))))

      long_read : 72 < long
          → sets (sets out at (take (72 - from) (drop place mem))) (at + (72 - from)) (take (long - 72) (load_cells mem (follow n l (cells_for (long - 72)) (next n l c))))
          ≡ load_from from out mem at long (follow n l (cells long) c)
      unfolding frame_in
      long_read h =
          let more : cells long ≡ suc (cells_for (long - 72)) = omega arith in
          let part : List ℕ = take (72 - from) (drop place mem) in
          let rest : List ℕ = load_cells mem (follow n l (cells_for (long - 72)) (next n l c)) in
          let left : long - from ≡ length part + (long - 72) = omega (arith, part_long) in
          rw more
          (sym
          (ap (sets out at) (read rest ∙ ap (λ (m : ℕ). take m (part ++ rest)) left ∙ take-append-add part rest (long - 72))
          ∙ sets_append out at part (take (long - 72) rest)
          ∙ rw part_long))

      -- the others go into the part of out behind it
      pub load_long : 72 < long → at + (long - from) ≤ length out → (first rest : List ℕ) (d : ℕ)
          → let a = at + (72 - from) in
          let k = at + (long - from) - a in
          let part = take k (drop a first) in
          first ≡ sets out at (take (place + (72 - from) - place) (drop place mem)) → d ≡ next n l c
          → rest ≡ take (length part) (load_cells mem (follow n l (cells_for (length part)) d)) → length rest ≡ length part
          → put_mid a k first rest ≡ load_from from out mem at long (follow n l (cells long) c)
      load_long h room first rest d f e r j =
          let a : ℕ = at + (72 - from) in
          let end : ℕ = at + (long - from) in
          let long_first : length first ≡ length out = rw f (simp length-sets) in
          let long_part : length (take (end - a) (drop a first)) ≡ long - 72 = length_part first a (end - a) (omega arith) ∙ (omega arith) in
          let back : put_mid a (end - a) first rest ≡ sets first a rest = written first a end rest (omega arith) (omega arith) (omega arith) in
          let count : place + (72 - from) - place ≡ 72 - from = omega arith in
          rw back (rw (r, long_part, e, f, count) (long_read h))
