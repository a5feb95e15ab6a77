-- The bits of a number: of joined numbers, of a power of two, behind a shift; numbers with the same bits are equal; one bit written.
-- Assumes nothing.
use Rattle.std.proofs.Common.{◌≡◌, ℕ, zero, suc, ◌+◌, ◌-◌, ◌/◌, ◌%◌, ◌^◌, ◌<◌, Bool, true, false, not, ◌&&◌, ◌||◌, eqb, min, max, sym, refl, ap, ◌∙◌, arith, w32, shr-shr, eq-eqb, ne_eqb, eqb-true}
use Rattle.std.specs.Int.{bit_at}
use Rattle.std.proofs.lemmas.Nat.Bits.{bit_at-lt, bit_at-zero, bit_at_and, bit_at_or, bit_at_not, bit_at_xor, bit_at-pow_same, bit_at-pow_other, same_from_bits, same_from_bits_below}
use native.Mathlib.Decide.{dec_lt}
use lib.Pow.{pow-lt}
use lib.Bits.{bit_and, bit_or, bit_xor, and_lt, or_lt, xor_lt}
use borrow.Author.Tests.{eqb-false}
use Rattle.rules.proofs.Choice.{on, and_left, and_right}
use Rattle.std.specs.Prelude.{if◌then◌else◌}
use Rattle.rules.specs.Arguments.{bit}
use Rattle.layout.specs.Bits.{less, with_bit}

-- ---- each bit of two numbers joined

-- what holds of two digits holds of the two bits at a place
digits : (P : ℕ → ℕ → Type 0) → P 0 0 → P 0 1 → P 1 0 → P 1 1 → (x y : ℕ) → x < 2 → y < 2 → P x y
digits P a b c d zero zero h k = a
digits P a b c d zero (suc zero) h k = b
digits P a b c d (suc zero) zero h k = c
digits P a b c d (suc zero) (suc zero) h k = d
digits P a b c d zero (suc (suc y)) h k = absurd (omega (arith, k))
digits P a b c d (suc zero) (suc (suc y)) h k = absurd (omega (arith, k))
digits P a b c d (suc (suc x)) y h k = absurd (omega (arith, h))

at_place : (P : ℕ → ℕ → Type 0) → P 0 0 → P 0 1 → P 1 0 → P 1 1 → (a b i : ℕ) → P (bit_at a i) (bit_at b i)
at_place P p q r s a b i = digits P p q r s (bit_at a i) (bit_at b i) (bit_at-lt a i) (bit_at-lt b i)

module _ (a b i : ℕ) where
  pub bit_and_law : bit (bit_and a b) i ≡ (bit a i && bit b i)
  unfolding bit
  bit_and_law =
      ap (λ (x : ℕ). eqb x 1) (bit_at_and a b i) ∙ at_place (λ x y. eqb (min x y) 1 ≡ (eqb x 1 && eqb y 1)) refl refl refl refl a b i

  pub bit_or_law : bit (bit_or a b) i ≡ (bit a i || bit b i)
  unfolding bit
  bit_or_law =
      ap (λ (x : ℕ). eqb x 1) (bit_at_or a b i) ∙ at_place (λ x y. eqb (max x y) 1 ≡ (eqb x 1 || eqb y 1)) refl refl refl refl a b i

  pub bit_less : bit (less a b) i ≡ (bit a i && not (bit b i))
  unfolding less bit
  bit_less =
      ap (λ (x : ℕ). eqb x 1) (bit_at_xor a (bit_and a b) i ∙ ap (λ (x : ℕ). (bit_at a i + x) % 2) (bit_at_and a b i))
      ∙ at_place (λ x y. eqb ((x + min x y) % 2) 1 ≡ (eqb x 1 && not (eqb y 1))) refl refl refl refl a b i

-- the same of a word of 32 bits, as the code has it
pub less_of_word : (a b : ℕ) → a < 2 ^ 32 → b < 2 ^ 32 → bit_and a (4294967295 - b) ≡ less a b
unfolding less
less_of_word a b ha hb =
    same_from_bits_below 32 (bit_and a (4294967295 - b)) (bit_xor a (bit_and a b)) (and_lt 32 a (4294967295 - b) ha (omega arith))
    (xor_lt 32 a (bit_and a b) ha (and_lt 32 a b ha hb))
    (λ i h. bit_at_and a (4294967295 - b) i ∙ ap (λ (x : ℕ). min (bit_at a i) x) (bit_at_not w32 b i hb h)
    ∙ at_place (λ x y. min x (1 - y) ≡ (x + min x y) % 2) refl refl refl refl a b i
    ∙ sym (bit_at_xor a (bit_and a b) i ∙ ap (λ (x : ℕ). (bit_at a i + x) % 2) (bit_at_and a b i)))

pub bit_shift : (n k i : ℕ) → bit (n / 2 ^ k) i ≡ bit n (k + i)
unfolding bit
bit_shift n k i = ap (λ (x : ℕ). eqb (x % 2) 1) (shr-shr n k i)

pub bit_power : (i j : ℕ) → bit (2 ^ i) j ≡ eqb i j
unfolding bit
bit_power i j =
    on (eqb i j)
    (λ e. ap (λ (x : ℕ). eqb x 1) (ap (λ (k : ℕ). bit_at (2 ^ k) j) (eqb-true i j e) ∙ bit_at-pow_same j) ∙ sym e)
    (λ e. ap (λ (x : ℕ). eqb x 1) (bit_at-pow_other i j (λ s. eqb-false i j e (sym s))) ∙ sym e)

-- ---- numbers with the same bits are equal

same_place : (a b i : ℕ) → bit a i ≡ bit b i → bit_at a i ≡ bit_at b i
unfolding bit
same_place a b i =
    at_place (λ x y. eqb x 1 ≡ eqb y 1 → x ≡ y) (λ e. refl) (λ e. let z : ◌≡◌ {A = Bool} false true = e in cc) (λ e. let z : ◌≡◌ {A = Bool} true false = e in cc) (λ e. refl) a b i

pub same_bits : (k a b : ℕ) → a < 2 ^ k → b < 2 ^ k → ((i : ℕ) → i < k → bit a i ≡ bit b i) → a ≡ b
same_bits k a b h m e = same_from_bits_below k a b h m (λ i l. same_place a b i (e i l))

no_bits : (i : ℕ) → bit 0 i ≡ false
unfolding bit
no_bits i = ap (λ (x : ℕ). eqb x 1) (bit_at-zero i)

pub zero_bits : (k a : ℕ) → a < 2 ^ k → ((i : ℕ) → i < k → bit a i ≡ false) → a ≡ 0
zero_bits k a h e = same_bits k a 0 h (omega arith) (λ i l. e i l ∙ sym (no_bits i))

pub no_bit_zero : (a : ℕ) → ((i : ℕ) → bit a i ≡ false) → a ≡ 0
no_bit_zero a e = same_from_bits a 0 (λ i. same_place a 0 i (e i ∙ sym (no_bits i)))

pub bits_zero : (a : ℕ) → a ≡ 0 → (i : ℕ) → bit a i ≡ false
bits_zero a e i = ap (λ (n : ℕ). bit n i) e ∙ no_bits i

-- ---- one bit written

or_at : (a b : Bool) → (a || b) ≡ (if b then true else a)
or_at true true = refl
or_at true false = refl
or_at false true = refl
or_at false false = refl

and_at : (a b : Bool) → (a && not b) ≡ (if b then false else a)
and_at true true = refl
and_at true false = refl
and_at false true = refl
and_at false false = refl

pub bit_written : (w i : ℕ) (b : Bool) (j : ℕ) → bit (with_bit w i b) j ≡ (if eqb i j then b else bit w j)
unfolding with_bit
bit_written w i true j = bit_or_law w (2 ^ i) j ∙ or_at (bit w j) (bit (2 ^ i) j) ∙ ap (λ (c : Bool). if c then true else bit w j) (bit_power i j)
bit_written w i false j =
    bit_less w (2 ^ i) j ∙ and_at (bit w j) (bit (2 ^ i) j) ∙ ap (λ (c : Bool). if c then false else bit w j) (bit_power i j)

pub written_there : (w i : ℕ) (b : Bool) → bit (with_bit w i b) i ≡ b
written_there w i b = bit_written w i b i ∙ rw (eq-eqb i i refl)

pub written_elsewhere : (w i : ℕ) (b : Bool) (j : ℕ) → (i ≡ j → ⊥) → bit (with_bit w i b) j ≡ bit w j
written_elsewhere w i b j o = bit_written w i b j ∙ rw (ne_eqb i j o)

pub written_small : (k w i : ℕ) (b : Bool) → w < 2 ^ k → i < k → with_bit w i b < 2 ^ k
unfolding with_bit less
written_small k w i true h l = or_lt k w (2 ^ i) h (pow-lt l)
written_small k w i false h l = xor_lt k w (bit_and w (2 ^ i)) h (and_lt k w (2 ^ i) h (pow-lt l))

-- ---- the ports, 0 to 4

pub five : (P : ℕ → Type 0) → P 0 → P 1 → P 2 → P 3 → P 4 → (p : ℕ) → p < 5 → P p
five P a b c d e zero h = a
five P a b c d e (suc zero) h = b
five P a b c d e (suc (suc zero)) h = c
five P a b c d e (suc (suc (suc zero))) h = d
five P a b c d e (suc (suc (suc (suc zero)))) h = e
five P a b c d e (suc (suc (suc (suc (suc p))))) h = absurd (omega (arith, h))

-- ---- what holds of each number below another, by a test that is computed

unfoldable pub all : ℕ → (ℕ → Bool) → Bool
all zero f = true
all (suc k) f = f k && all k f

pub each : (k : ℕ) (f : ℕ → Bool) → all k f ≡ true → (i : ℕ) → i < k → f i ≡ true
unfolding all
each zero f h i l = absurd (omega (arith, l))
each (suc k) f h i l =
    on (eqb i k)
    (λ e. ap f (eqb-true i k e) ∙ and_left (f k) (all k f) h)
    (λ e. each k f (and_right (f k) (all k f) h) i (let o = eqb-false i k e in below i k l o))
  where
    below : (i k : ℕ) → i < suc k → (i ≡ k → ⊥) → i < k
    below i k l o = elim (dec_lt i k) as (λ _. i < k) [ yes p ↦ p | no p ↦ absurd (o (omega arith)) ]
