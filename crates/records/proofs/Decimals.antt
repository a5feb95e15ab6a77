-- The digits of a line are those that the library prints. Assumes nothing.
use Rattle.std.proofs.Common.{◌≡◌, ℕ, zero, suc, ◌+◌, ◌/◌, ◌%◌, ◌^◌, ◌≤◌, ◌<◌, List, [], ◌∷◌, ◌++◌, refl, sym, ap, ◌∙◌, append_assoc, rules, arith, ltb, lt-ltb}
use Rattle.std.specs.Prelude.{if◌then◌else◌}
use Rattle.std.specs.Fmt as fmt
use Rattle.std.proofs.lemmas.Fmt.{decimal_from_appends, length-decimal-le_succ}
use Rattle.records.specs.Lines.{digit, digits, decimal}

-- a bound that is larger gives the same
digits_enough : (j k n : ℕ) → n ≤ j → n ≤ k → digits j n ≡ digits k n
unfolding digits
digits_enough zero zero n h g = refl
digits_enough zero (suc k) n h g = rw (lt-ltb n 10 (omega arith))
digits_enough (suc j) zero n h g = rw (lt-ltb n 10 (omega arith))
digits_enough (suc j) (suc k) n h g =
    ap (λ (l : List ℕ). if ltb n 10 then (digit n ∷ []) else (l ++ (digit (n % 10) ∷ [])))
    (digits_enough j k (n / 10) (omega arith) (omega arith))

pub decimal_is : (n : ℕ) → n < 2 ^ 64 → fmt.decimal n ≡ decimal n
unfolding decimal digits
decimal_is n h =
    sym (decimal_from_appends digits (search rules) (suc n) n h (omega (arith, length-decimal-le_succ n h)))
    ∙ digits_enough (suc n) n n (omega arith) (omega arith)

-- text behind text, and numbers in it
pub ruleset printed = (decimal_is, append_assoc)
