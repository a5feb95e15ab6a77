-- The queue switches in one word: bit 8 * queue + port, that queue of that port is on; the rest is 0, which one `&` and
-- one comparison say. Assumes nothing: these are definitions.
use Rattle.std.specs.Prelude.{ℕ, ◌+◌, ◌*◌, Bool, eqb}
use Rattle.std.specs.Int.Bits.{bit_and}
use Rattle.rules.specs.Arguments.{bit}
use Rattle.layout.specs.Bits.{with_bit}

-- bits 5 to 7 of each byte
abbrev pub unused_switches : ℕ
unused_switches = 0xE0E0_E0E0

unfoldable pub is_switches_word : ℕ → Bool
is_switches_word w = eqb (bit_and w unused_switches) 0

unfoldable pub switch_in : ℕ → ℕ → ℕ → Bool
switch_in w port queue = bit w (8 * queue + port)

unfoldable pub with_switch : ℕ → ℕ → ℕ → Bool → ℕ
with_switch w port queue on = with_bit w (8 * queue + port) on
