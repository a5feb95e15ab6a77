-- How often a number stands in a list, and lists whose numbers are all below n. Assumes nothing.
use mathlib.Core.Path.{◌≡◌, refl}
use mathlib.Core.Bool.{Bool, true, false, ◌&&◌, and-eq-true_iff}
use mathlib.Core.List.{List, [], ◌∷◌}
use Prim.Native.Nat.{ℕ, ◌≤◌, ◌<◌}
use native.Mathlib.Omega.{arith}
use lib.Dec.{ltb}
use borrow.Author.Tests.{ltb-true, eq-eqb}
use Rattle.layout.proofs.Counting.{times_here}
use Rattle.layout.specs.Counting.{one, times}

-- each of the numbers is below n
abbrev pub all_below : ℕ → List ℕ → Bool
all_below n [] = true
all_below n (c ∷ cs) = ltb c n && all_below n cs

pub one_le : (b : Bool) → one b ≤ 1
one_le true = omega arith
one_le false = omega arith

-- what is not in a list is not its first
pub count_ne : (c x : ℕ) (xs : List ℕ) → times c (x ∷ xs) ≡ 0 → x ≡ c → ⊥
count_ne c x xs h e = omega (arith, rw (eq-eqb x c e) at h)

pub below_head : (n c : ℕ) (cs : List ℕ) → all_below n (c ∷ cs) ≡ true → c < n
below_head n c cs h = ltb-true c n ((and-eq-true_iff (ltb c n) (all_below n cs)).0 h).0

pub below_tail : (n c : ℕ) (cs : List ℕ) → all_below n (c ∷ cs) ≡ true → all_below n cs ≡ true
below_tail n c cs h = ((and-eq-true_iff (ltb c n) (all_below n cs)).0 h).1

-- numbers that are counted only below n are below n
pub counted_below : (n : ℕ) (xs : List ℕ) → ((c : ℕ) → times c xs ≤ one (ltb c n)) → all_below n xs ≡ true
counted_below n [] h = refl
counted_below n (x ∷ xs) h =
    let rest : all_below n xs ≡ true = counted_below n xs (λ c. omega (arith, h c)) in
    go (ltb x n) refl rest
  where
    go : (b : Bool) → ltb x n ≡ b → all_below n xs ≡ true → all_below n (x ∷ xs) ≡ true
    go true e r = rw (e, r)
    go false e r = absurd (omega (arith, times_here x xs, rw e at (h x)))
