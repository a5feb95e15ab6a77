-- What is counted in a list: nothing in an empty one, one where it is the first, the sum of two lists. Assumes nothing.
use Rattle.std.proofs.Common.{◌≡◌, ℕ, ◌+◌, List, [], ◌∷◌, ◌++◌, sym, refl, arith, eq-eqb, ne_eqb}
use Rattle.layout.specs.Counting.{times}

pub times_none : (c : ℕ) → times c [] ≡ 0
times_none c = refl

pub times_here : (c : ℕ) (cs : List ℕ) → times c (c ∷ cs) ≡ 1 + times c cs
times_here c cs = rw (eq-eqb c c refl)

pub times_there : (c d : ℕ) (cs : List ℕ) → (c ≡ d → ⊥) → times c (d ∷ cs) ≡ times c cs
times_there c d cs ne = rw (ne_eqb d c (λ e. ne (sym e))) (omega arith)

pub times_append : (c : ℕ) (xs ys : List ℕ) → times c (xs ++ ys) ≡ times c xs + times c ys
times_append c [] ys = omega arith
times_append c (x ∷ xs) ys = omega (arith, times_append c xs ys)
