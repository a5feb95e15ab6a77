-- How often a cell stands in the frames whose first cells are below m, and how that changes with one frame. Assumes nothing.
use mathlib.Core.Path.{◌≡◌, refl, ap, ap₂}
use mathlib.Core.List.{List, ◌++◌}
use Prim.Native.Nat.{ℕ, zero, suc, ◌+◌, ◌≤◌, ◌<◌}
use native.Mathlib.Decide.{ℕ_discrete}
use native.Mathlib.Omega.{arith}
use Rattle.layout.specs.Counting.{times}
use Rattle.cells.specs.Sound.{waiting_cells, all_waiting}
use Rattle.layout.proofs.Counting.{times_append}

all_count : (n : ℕ) (l : List ℕ) (c m : ℕ) → times c (all_waiting n l (suc m)) ≡ times c (all_waiting n l m) + times c (waiting_cells n l m)
unfolding all_waiting
all_count n l c m = times_append c (all_waiting n l m) (waiting_cells n l m)

module _ (n : ℕ) (l m : List ℕ) where
  pub all_same : (k : ℕ) → ((s : ℕ) → s < k → waiting_cells n m s ≡ waiting_cells n l s) → all_waiting n m k ≡ all_waiting n l k
  unfolding all_waiting
  all_same zero h = refl
  all_same (suc k) h = ap₂ ◌++◌ (all_same k (λ s p. h s (omega arith))) (h k (omega arith))

  -- one frame has other cells, and the rest are as they were
  pub all_change : (c t k : ℕ) → t < k → ((s : ℕ) → s < k → (s ≡ t → ⊥) → waiting_cells n m s ≡ waiting_cells n l s)
      → times c (all_waiting n m k) + times c (waiting_cells n l t) ≡ times c (all_waiting n l k) + times c (waiting_cells n m t)
  all_change c t zero p h = absurd (omega arith)
  all_change c t (suc k) p h =
      let new : times c (all_waiting n m (suc k)) ≡ times c (all_waiting n m k) + times c (waiting_cells n m k) = all_count n m c k in
      let old : times c (all_waiting n l (suc k)) ≡ times c (all_waiting n l k) + times c (waiting_cells n l k) = all_count n l c k in
      elim (ℕ_discrete k t) as (λ _. times c (all_waiting n m (suc k)) + times c (waiting_cells n l t) ≡ times c (all_waiting n l (suc k)) + times c (waiting_cells n m t)) [
        | yes e ↦
            let below : times c (all_waiting n m k) ≡ times c (all_waiting n l k) = ap (times c) (all_same k (λ s q. h s (omega arith) (λ f. omega arith))) in
            rw (← e) (omega arith)
        | no e ↦
            let same : times c (waiting_cells n m k) ≡ times c (waiting_cells n l k) = ap (times c) (h k (omega arith) e) in
            omega (arith, all_change c t k (omega arith) (λ s q. h s (omega arith)))
      ]

module _ (n : ℕ) (l : List ℕ) where
  -- a frame's cells are among all
  pub waiting_in : (c s m : ℕ) → s < m → times c (waiting_cells n l s) ≤ times c (all_waiting n l m)
  waiting_in c s zero p = absurd (omega arith)
  waiting_in c s (suc m) p =
      elim (ℕ_discrete s m) as (λ _. times c (waiting_cells n l s) ≤ times c (all_waiting n l (suc m))) [
        | yes e ↦ rw e (omega (arith, all_count n l c m))
        | no e ↦ omega (arith, all_count n l c m, waiting_in c s m (omega arith))
      ]

  -- and so are those of two
  pub two_in : (c s t m : ℕ) → s < m → t < m → (s ≡ t → ⊥) → times c (waiting_cells n l s) + times c (waiting_cells n l t) ≤ times c (all_waiting n l m)
  two_in c s t zero p q e = absurd (omega arith)
  two_in c s t (suc m) p q e =
      elim (ℕ_discrete s m) as (λ _. times c (waiting_cells n l s) + times c (waiting_cells n l t) ≤ times c (all_waiting n l (suc m))) [
        | yes f ↦ rw f (omega (arith, all_count n l c m, waiting_in c t m (omega arith)))
        | no f ↦
            elim (ℕ_discrete t m) as (λ _. times c (waiting_cells n l s) + times c (waiting_cells n l t) ≤ times c (all_waiting n l (suc m))) [
              | yes g ↦ rw g (omega (arith, all_count n l c m, waiting_in c s m (omega arith)))
              | no g ↦ omega (arith, all_count n l c m, two_in c s t m (omega arith) (omega arith) e)
            ]
      ]
