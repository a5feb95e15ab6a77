-- One bit of a number written, and the bits of a number that another lacks. Assumes nothing: these are definitions.
use Rattle.std.specs.Prelude.{ℕ, ◌^◌, Bool, true, false, bit_and, bit_or, bit_xor}

-- the part of a number that another has too, taken out
unfoldable pub less : ℕ → ℕ → ℕ
less a b = bit_xor a (bit_and a b)

-- ---- one bit written

unfoldable pub with_bit : ℕ → ℕ → Bool → ℕ
with_bit w i true = bit_or w (2 ^ i)
with_bit w i false = less w (2 ^ i)
