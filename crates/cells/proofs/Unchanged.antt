-- A write that leaves the cells' words alone leaves alone what they say. Assumes nothing.
use mathlib.Core.Path.{◌≡◌, ap, ap₂, ◌∙◌}
use mathlib.Core.List.{List}
use Prim.Native.Nat.{ℕ}
use native.Mathlib.Omega.{arith}
use Rattle.layout.specs.Counting.{times}
use Rattle.layout.specs.Same.{CellsSame}
use Rattle.cells.specs.Chains.{follow}
use Rattle.cells.specs.Free.{free_count, first_free, size_of, ports_of, free_cells, frame_cells}
use Rattle.cells.specs.Sound.{waiting_cells, Sound}
use Rattle.cells.proofs.Paths.{follow_same}
use Rattle.cells.proofs.Words.{word_size, word_ports}
use Rattle.cells.proofs.Sums.{all_same}
use Rattle.cells.proofs.Kept.{waiting_same}

module _ {l m : List ℕ} (same : CellsSame l m) where
  pub same_size : (c : ℕ) → size_of m c ≡ size_of l c
  same_size c = word_size l m c (same.frame c)

  pub same_ports : (c : ℕ) → ports_of m c ≡ ports_of l c
  same_ports c = word_ports l m c (same.frame c)

  pub same_follow : (n k c : ℕ) → follow n m k c ≡ follow n l k c
  same_follow n = follow_same n l m same.next

  pub same_free : (n : ℕ) → free_cells n m ≡ free_cells n l
  same_free n = ap₂ (follow n m) same.free_count same.first_free ∙ same_follow n (free_count l) (first_free l)

  pub same_frame : (n c : ℕ) → frame_cells n m c ≡ frame_cells n l c
  same_frame n c = ap (λ (k : ℕ). follow n m k c) (same_size c) ∙ same_follow n (size_of l c) c

  pub same_waiting : (n c : ℕ) → waiting_cells n m c ≡ waiting_cells n l c
  same_waiting n c = waiting_same n l m c (same_ports c) (same_frame n c)

  pub same_sound : {n : ℕ} → Sound n l → Sound n m
  same_sound {n} sound =
      record {
        once = λ c. omega (arith, ap (times c) (same_free n), ap (times c) (all_same n l m n (λ s h. same_waiting n s)), sound.once c);
        nexts = λ c h. rw (same.next c) (sound.nexts c h);
        first = rw same.first_free sound.first;
      }
