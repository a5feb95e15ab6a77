-- Chains in two parts, and chains after next words were changed. Assumes nothing.
use mathlib.Core.Path.{◌≡◌, refl, ap, ◌∙◌}
use mathlib.Core.List.{List, ◌++◌}
use Prim.Native.Nat.{ℕ, zero, suc, ◌+◌, ◌-◌, ◌≤◌, ◌<◌}
use native.Mathlib.Nat.{zero-add, suc-add}
use native.Mathlib.Omega.{arith}
use lib.ListN.{length}
use Rattle.layout.specs.Counting.{times}
use Rattle.layout.proofs.Cells.{clamped_below}
use Rattle.cells.specs.Chains.{next_in, next, follow, walk, behind}
use Rattle.cells.proofs.Counts.{count_ne}
use Rattle.cells.proofs.Steps.{walk_in}

module _ (n : ℕ) where
  pub length_follow : (l : List ℕ) (k c : ℕ) → length (follow n l k c) ≡ k
  length_follow l zero c = refl
  length_follow l (suc k) c = ap suc (length_follow l k (next n l c))

  pub follow_split : (l : List ℕ) (a b c : ℕ) → follow n l (a + b) c ≡ follow n l a c ++ follow n l b (walk n l a c)
  follow_split l zero b c = rw zero-add
  follow_split l (suc a) b c = rw (suc-add, follow_split l a b (next n l c))

  pub walk_more : (l : List ℕ) (k c : ℕ) → walk n l (suc k) c ≡ next n l (walk n l k c)
  walk_more l zero c = refl
  walk_more l (suc k) c = walk_more l k (next n l c)

  -- where next words are in range, the cell behind some is their last one's next word
  pub behind_walk : (l : List ℕ) → ((c : ℕ) → c < n → next_in l c < n) → (k c : ℕ) → 1 ≤ k → c < n → behind n l k c ≡ walk n l k c
  behind_walk l h k c some below =
      let last : ℕ = walk n l (k - 1) c in
      let more : k ≡ suc (k - 1) = omega arith in
      let same : walk n l k c ≡ next_in l last =
      ap (λ (j : ℕ). walk n l j c) more ∙ walk_more l (k - 1) c ∙ clamped_below n (next_in l last) (h last (walk_in n l (k - 1) c below)) in
      rw same

  pub follow_same : (l m : List ℕ) → ((c : ℕ) → next_in m c ≡ next_in l c) → (k c : ℕ) → follow n m k c ≡ follow n l k c
  follow_same l m h zero c = refl
  follow_same l m h (suc k) c = rw (h c, follow_same l m h k (next n l c))

  module _ (p : ℕ) (l m : List ℕ) (h : (c : ℕ) → (c ≡ p → ⊥) → next_in m c ≡ next_in l c) where
    -- a chain that does not go through p, where only p's next word is another
    pub follow_past : (k c : ℕ) → times p (follow n l k c) ≡ 0 → follow n m k c ≡ follow n l k c
    follow_past zero c z = refl
    follow_past (suc k) c z = rw (h c (count_ne p c (follow n l k (next n l c)) z), follow_past k (next n l c) (omega arith))

    pub walk_past : (k c : ℕ) → times p (follow n l k c) ≡ 0 → walk n m k c ≡ walk n l k c
    walk_past zero c z = refl
    walk_past (suc k) c z = rw (h c (count_ne p c (follow n l k (next n l c)) z)) (walk_past k (next n l c) (omega arith))
