-- Lists of bytes: their parts, and one behind another. Assumes nothing.
use Prim.Native.Nat.{ℕ, zero, suc, ◌+◌}
use mathlib.Core.List.{List, [], ◌∷◌, ◌++◌}
use native.Mathlib.Omega.{arith}
use lib.ListN.{take, drop}
use lib.Seq.{get_or-drop}
use Rattle.rules.specs.Tags.{Bytes}

pub append_bytes : (xs ys : List ℕ) → Bytes xs → Bytes ys → Bytes (xs ++ ys)
append_bytes [] ys h g i = g i
append_bytes (x ∷ xs) ys h g zero = h zero
append_bytes (x ∷ xs) ys h g (suc i) = append_bytes xs ys (λ j. h (suc j)) g i

pub take_bytes : (k : ℕ) (xs : List ℕ) → Bytes xs → Bytes (take k xs)
take_bytes zero xs h i = omega arith
take_bytes (suc k) [] h i = h i
take_bytes (suc k) (x ∷ xs) h zero = h zero
take_bytes (suc k) (x ∷ xs) h (suc i) = take_bytes k xs (λ j. h (suc j)) i

pub drop_bytes : (k : ℕ) (xs : List ℕ) → Bytes xs → Bytes (drop k xs)
drop_bytes k xs h i = rw (get_or-drop k xs i 0) (h (k + i))
