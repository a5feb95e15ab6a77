-- In sound link memory every cell is counted, and no test before taking or giving back finds damage. Assumes nothing.
use mathlib.Core.Path.{◌≡◌, ap, ◌∙◌}
use mathlib.Core.Bool.{true, false}
use mathlib.Core.List.{List}
use Prim.Native.Nat.{ℕ, ◌+◌, ◌≤◌, ◌<◌}
use native.Mathlib.Omega.{arith}
use lib.ListN.{length}
use borrow.Author.Tests.{le-leb, lt-leb, lt-ltb}
use Rattle.layout.specs.Counting.{times, one}
use Rattle.std.specs.Prelude.{Ok as ok}
use Rattle.cells.specs.Free.{free_count, first_free, size_of, ports_of, free_cells, room_for, is_frame, can_give_back}
use Rattle.cells.specs.Sound.{waiting_cells, all_waiting, Sound}
use Rattle.cells.proofs.Counts.{all_below, counted_below}
use Rattle.cells.proofs.Paths.{length_follow}
use Rattle.cells.proofs.Totals.{total_same, total_sum, total_ones, length_total, waiting_few}
use Rattle.cells.proofs.Kept.{waiting_some}

module _ (n : ℕ) (l : List ℕ) (sound : Sound n l) where
  pub free_below : all_below n (free_cells n l) ≡ true
  free_below = counted_below n (free_cells n l) (λ c. omega (arith, sound.once c))

  pub waiting_below : all_below n (all_waiting n l n) ≡ true
  waiting_below = counted_below n (all_waiting n l n) (λ c. omega (arith, sound.once c))

  -- the free cells and those of the waiting frames are all cells
  pub all_cells : free_count l + length (all_waiting n l n) ≡ n
  all_cells =
      let free : ℕ → ℕ = λ c. times c (free_cells n l) in
      let waiting : ℕ → ℕ = λ c. times c (all_waiting n l n) in
      omega (
        arith,
        length_follow n l (free_count l) (first_free l),
        length_total n (free_cells n l) free_below,
        length_total n (all_waiting n l n) waiting_below,
        total_sum free waiting n,
        total_same (λ c. free c + waiting c) (λ c. 1) n (λ c h. sound.once c ∙ ap one (lt-ltb c n h)),
        total_ones n,
      )

  pub room_enough : (k : ℕ) → k ≤ free_count l → room_for n k l ≡ ok true
  unfolding room_for
  room_enough k h =
      let few : free_count l ≤ n = omega (arith, all_cells) in
      rw (le-leb (free_count l) n few, le-leb k (free_count l) h, lt-ltb (first_free l) n sound.first)

  pub room_none : (k : ℕ) → free_count l < k → room_for n k l ≡ ok false
  unfolding room_for
  room_none k h =
      let few : free_count l ≤ n = omega (arith, all_cells) in
      rw (le-leb (free_count l) n few, lt-leb k (free_count l) h)

  module _ (c : ℕ) where
    pub frame_is : 1 ≤ size_of l c → size_of l c ≤ 52 → is_frame c l ≡ true
    unfolding is_frame
    frame_is h g = rw (le-leb 1 (size_of l c) h, le-leb (size_of l c) 52 g)

    pub give_back_can : c < n → 1 ≤ ports_of l c → can_give_back n c l ≡ true
    unfolding can_give_back
    give_back_can first waits =
        let size : length (waiting_cells n l c) ≡ size_of l c = ap length (waiting_some n l c waits) ∙ length_follow n l (size_of l c) c in
        let fits : free_count l + size_of l c ≤ n = omega (arith, all_cells, waiting_few n l c n first, size) in
        rw (le-leb (free_count l + size_of l c) n fits, lt-ltb (first_free l) n sound.first)
