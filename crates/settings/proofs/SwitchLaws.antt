-- The switches' word: a switch set is read back, the others are kept, the word stays in range. Assumes nothing.
use Rattle.std.proofs.Common.{◌≡◌, ℕ, ◌+◌, ◌*◌, ◌/◌, ◌%◌, ◌^◌, ◌<◌, Bool, true, false, not, ◌||◌, leb, arith, eqb-true, eq-eqb, refl}
use Rattle.std.proofs.lemmas.Bool.Decides.{nat_tests}
use Rattle.std.specs.Int.Bits.{bit_and}
use Rattle.rules.specs.Arguments.{bit}
use Rattle.layout.proofs.BitLaws.{bit_and_law, bit_shift, bits_zero, no_bit_zero, bit_written, all, each}
use Rattle.layout.specs.Bits.{with_bit}
use Rattle.settings.specs.Switches.{unused_switches, is_switches_word, switch_in, with_switch}

-- the switches of one queue as a mask of ports
pub switches_of_law : (w port queue : ℕ) → bit (w / 2 ^ (8 * queue)) port ≡ switch_in w port queue
unfolding switch_in
switches_of_law w port queue = bit_shift w (8 * queue) port

-- ---- one switch set

pub switch_set : (w port queue : ℕ) (b : Bool) → switch_in (with_switch w port queue b) port queue ≡ b
unfolding switch_in with_switch
switch_set w port queue b = grind (arith, nat_tests, bit_written)

-- another queue's, or another port's, is kept
pub switch_kept :
    (w port queue other from : ℕ) (b : Bool) → port < 5 → other < 5 → ((port ≡ other) × (queue ≡ from) → ⊥)
    → switch_in (with_switch w port queue b) other from ≡ switch_in w other from
unfolding switch_in with_switch
switch_kept w port queue other from b h k o = grind (arith, nat_tests, bit_written)

-- a port's bits are used
used_test : ℕ → Bool
used_test i = not (bit unused_switches i) || leb 5 (i % 8)

used : (i : ℕ) → i < 32 → i % 8 < 5 → bit unused_switches i ≡ false
unfolding bit all used_test
used i h k = grind (arith, nat_tests, each 32 used_test refl i h)

-- the word stays in range
pub switch_good :
    (w port queue : ℕ) (b : Bool) → port < 5 → queue < 4 → is_switches_word w ≡ true → is_switches_word (with_switch w port queue b) ≡ true
unfolding is_switches_word with_switch
switch_good w port queue b h k g =
    eq-eqb _ 0
    (no_bit_zero (bit_and (with_bit w (8 * queue + port) b) unused_switches)
    (λ i. grind (arith, nat_tests, bit_and_law, bit_written, used i, bits_zero _ (eqb-true _ _ g) i)))
