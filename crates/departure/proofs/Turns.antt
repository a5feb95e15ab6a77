-- A port's bit turned over in a frame word: taken away where it stands, else put there. Assumes nothing.
use Prim.Native.Nat.{ℕ, ◌+◌, ◌-◌, ◌*◌, ◌/◌, ◌^◌, ◌%◌, ◌≤◌, ◌<◌}
use mathlib.Core.Path.{◌≡◌, sym, ap, ◌∙◌}
use mathlib.Core.Bool.{true, false}
use native.Mathlib.Omega.{arith}
use lib.Bits.{xor_add_and}
use borrow.Author.Tests.{eqb-true, eqb-false}
use Rattle.std.proofs.Math.Nat.{le-div_iff_mul-le}
use Rattle.std.proofs.lemmas.Nat.{pow_pos}
use Rattle.std.proofs.lemmas.Nat.Bits.{and_pow, bit_at_cat_low}
use Rattle.std.specs.Int.{bit_at}
use Rattle.rules.specs.Arguments.{bit}
use Rattle.rules.proofs.Choice.{on}
use Rattle.departure.specs.Leaving.{turned}

module _ (port word : ℕ) where
  by_digit : turned word port + bit_at word port * 2 ^ port * 2 ≡ word + 2 ^ port
  unfolding turned
  by_digit = rw and_pow at (xor_add_and word (2 ^ port))

  -- the mask is the word's five lowest bits
  module _ (known : port < 5) where
    digit_is : bit_at (word % 32) port ≡ bit_at word port
    digit_is =
        let is : word / 32 * 2 ^ 5 + word % 32 ≡ word = omega arith in
        sym (bit_at_cat_low (word / 32) 5 (word % 32) port known) ∙ ap (λ (w : ℕ). bit_at w port) is

    module _ (waits : bit (word % 32) port ≡ true) where
      digit_one : bit_at word port ≡ 1
      unfolding bit
      digit_one = sym digit_is ∙ eqb-true (bit_at (word % 32) port) 1 waits

      pub bit_le : 2 ^ port ≤ word % 32
      bit_le =
          let one : 1 ≤ word % 32 / 2 ^ port = let d = digit_is ∙ digit_one in omega (arith, d) in
          omega (arith, (le-div_iff_mul-le (pow_pos port)).0 one)

      pub turned_waits : turned word port ≡ word - 2 ^ port
      turned_waits = let e : turned word port + 1 * 2 ^ port * 2 ≡ word + 2 ^ port = rw digit_one at by_digit in omega arith

    turned_absent : bit (word % 32) port ≡ false → word < turned word port
    unfolding bit
    turned_absent absent =
        let none : bit_at word port ≡ 0 = let n = eqb-false (bit_at (word % 32) port) 1 absent in omega (arith, digit_is, n) in
        let e : turned word port + 0 * 2 ^ port * 2 ≡ word + 2 ^ port = rw none at by_digit in
        omega (arith, pow_pos port)

    -- so the comparison tells whether the frame waits at the port
    pub less_waits : turned word port < word → bit (word % 32) port ≡ true
    less_waits h = on (bit (word % 32) port) (λ e. e) (λ e. absurd (omega (arith, turned_absent e)))

    pub more_absent : word ≤ turned word port → bit (word % 32) port ≡ false
    more_absent h =
        on (bit (word % 32) port)
        (λ e. absurd (omega (arith, turned_waits e, bit_le e, pow_pos port)))
        (λ e. e)
