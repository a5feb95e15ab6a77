-- A step from a cell to its next: cells that are followed are below n, whatever their next words are. Assumes nothing.
use mathlib.Core.Path.{◌≡◌, refl, ap}
use mathlib.Core.Bool.{true}
use mathlib.Core.List.{List, ◌∷◌}
use Prim.Native.Nat.{ℕ, zero, suc, ◌-◌, ◌≤◌, ◌<◌}
use native.Mathlib.Decide.{dec_lt}
use native.Mathlib.Omega.{arith}
use borrow.Author.Tests.{lt-ltb}
use Rattle.layout.specs.Cells.{clamped}
use Rattle.layout.proofs.Cells.{clamped_below, clamped_above}
use Rattle.cells.specs.Chains.{next_in, next, follow, walk, behind}
use Rattle.cells.proofs.Counts.{all_below}

pub clamped_in : (n c : ℕ) → 1 ≤ n → clamped n c < n
clamped_in n c some =
    elim (dec_lt c n) as (λ _. clamped n c < n) [
      | yes h ↦ rw (clamped_below n c h) h
      | no h ↦ let above : n ≤ c = omega arith in rw (clamped_above n c above) some
    ]

module _ (n : ℕ) (l : List ℕ) where
  pub next_in_law : (c : ℕ) → 1 ≤ n → next n l c < n
  next_in_law c some = clamped_in n (next_in l c) some

  pub follow_cons : (k c : ℕ) → 0 < k → follow n l k c ≡ c ∷ follow n l (k - 1) (next n l c)
  follow_cons zero c h = absurd (omega arith)
  follow_cons (suc k) c h = let e : suc k - 1 ≡ k = omega arith in rw e

  pub walk_cons : (k c : ℕ) → 0 < k → walk n l k c ≡ walk n l (k - 1) (next n l c)
  walk_cons zero c h = absurd (omega arith)
  walk_cons (suc k) c h = let e : suc k - 1 ≡ k = omega arith in rw e

  pub walk_in : (k c : ℕ) → c < n → walk n l k c < n
  walk_in zero c h = h
  walk_in (suc k) c h = walk_in k (next n l c) (next_in_law c (omega arith))

  pub follow_below : (k c : ℕ) → c < n → all_below n (follow n l k c) ≡ true
  follow_below zero c h = refl
  follow_below (suc k) c h = rw (lt-ltb c n h) (follow_below k (next n l c) (next_in_law c (omega arith)))

  -- the last of more than one cell is the last of those after the first
  pub behind_cons : (k c : ℕ) → 1 < k → behind n l k c ≡ behind n l (k - 1) (next n l c)
  behind_cons k c h = ap (next_in l) (walk_cons (k - 1) c (omega arith))
