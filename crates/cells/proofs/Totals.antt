-- The length of a list of cells is the sum of how often each cell stands in it. Assumes nothing.
use mathlib.Core.Path.{◌≡◌, refl, ap₂, sym, ◌∙◌}
use mathlib.Core.Bool.{true}
use mathlib.Core.List.{List, [], ◌∷◌}
use Prim.Native.Nat.{ℕ, zero, suc, ◌+◌, ◌≤◌, ◌<◌}
use native.Mathlib.Decide.{ℕ_discrete}
use native.Mathlib.Omega.{arith}
use lib.ListN.{length, length-append}
use lib.Dec.{eqb}
use borrow.Author.Tests.{eq-eqb, ne_eqb}
use Rattle.layout.specs.Counting.{one, times}
use Rattle.cells.specs.Sound.{waiting_cells, all_waiting}
use Rattle.cells.proofs.Counts.{all_below, below_head, below_tail}

-- f 0 + .. + f (n - 1)
unfoldable pub total : (ℕ → ℕ) → ℕ → ℕ
total f zero = 0
total f (suc n) = total f n + f n

pub total_same : (f g : ℕ → ℕ) (n : ℕ) → ((c : ℕ) → c < n → f c ≡ g c) → total f n ≡ total g n
unfolding total
total_same f g zero h = refl
total_same f g (suc n) h = ap₂ ◌+◌ (total_same f g n (λ c b. h c (omega arith))) (h n (omega arith))

pub total_sum : (f g : ℕ → ℕ) (n : ℕ) → total (λ c. f c + g c) n ≡ total f n + total g n
unfolding total
total_sum f g zero = refl
total_sum f g (suc n) = omega (arith, total_sum f g n)

pub total_ones : (n : ℕ) → total (λ c. 1) n ≡ n
unfolding total
total_ones zero = refl
total_ones (suc n) = omega (arith, total_ones n)

total_zero : (n : ℕ) → total (λ c. 0) n ≡ 0
unfolding total
total_zero zero = refl
total_zero (suc n) = omega (arith, total_zero n)

total_one : (x n : ℕ) → x < n → total (λ c. one (eqb x c)) n ≡ 1
unfolding total
total_one x zero h = absurd (omega arith)
total_one x (suc n) h =
    elim (ℕ_discrete x n) as (λ _. total (λ c. one (eqb x c)) (suc n) ≡ 1) [
      | yes e ↦
          let before : total (λ c. one (eqb x c)) n ≡ 0 = total_same (λ c. one (eqb x c)) (λ c. 0) n (λ c b. rw (ne_eqb x c (λ f. omega arith))) ∙ total_zero n in
          let here : one (eqb x n) ≡ 1 = rw (eq-eqb x n e) in
          omega arith
      | no e ↦
          let here : one (eqb x n) ≡ 0 = rw (ne_eqb x n e) in
          omega (arith, total_one x n (omega arith))
    ]

pub length_total : (n : ℕ) (xs : List ℕ) → all_below n xs ≡ true → length xs ≡ total (λ c. times c xs) n
length_total n [] b = sym (total_zero n)
length_total n (x ∷ xs) b =
    omega (
      arith,
      total_sum (λ c. one (eqb x c)) (λ c. times c xs) n,
      total_one x n (below_head n x xs b),
      length_total n xs (below_tail n x xs b),
    )

-- a frame's cells are no more than all
pub waiting_few : (n : ℕ) (l : List ℕ) (s m : ℕ) → s < m → length (waiting_cells n l s) ≤ length (all_waiting n l m)
unfolding all_waiting
waiting_few n l s zero h = absurd (omega arith)
waiting_few n l s (suc m) h =
    elim (ℕ_discrete s m) as (λ _. length (waiting_cells n l s) ≤ length (all_waiting n l (suc m))) [
      | yes e ↦ rw e (simp length-append (omega arith))
      | no e ↦ simp length-append (omega (arith, waiting_few n l s m (omega arith)))
    ]
