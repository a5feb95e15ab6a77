-- The queue map and BPDU handling in one word: bits 2 * pcp and 2 * pcp + 1, the queue of a PCP; bit 16, BPDU handling;
-- the rest is 0, which one comparison says. Every other bit pattern has a meaning. Assumes nothing: these are
-- definitions.
use Rattle.std.specs.Prelude.{ℕ, ◌+◌, ◌*◌, ◌/◌, ◌%◌, ◌^◌, Bool, ltb}
use Rattle.rules.specs.Arguments.{bit}
use Rattle.layout.specs.Bits.{with_bit}

abbrev pub is_map_word : ℕ → Bool
is_map_word w = ltb w 131072

unfoldable pub queue_in : ℕ → ℕ → ℕ
queue_in w pcp = w / 2 ^ (2 * pcp) % 4

unfoldable pub bpdu_in : ℕ → Bool
bpdu_in w = bit w 16

unfoldable pub with_queue : ℕ → ℕ → ℕ → ℕ
with_queue w pcp queue = with_bit (with_bit w (2 * pcp) (bit queue 0)) (2 * pcp + 1) (bit queue 1)

unfoldable pub with_bpdu : ℕ → Bool → ℕ
with_bpdu w on = with_bit w 16 on
