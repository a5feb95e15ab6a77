-- The five ports' states in one word of three masks: bit p, port p is open (Disabled, Forwarding); bit 8 + p, it is
-- Listening; bit 16 + p, it is Learning or Forwarding. No port has a bit beside a bit, which leaves five patterns for
-- the five states, and the rest of the word is 0: one `&` and one comparison say both. Assumes nothing: these are
-- definitions.
use Rattle.std.specs.Prelude.{ℕ, ◌+◌, ◌/◌, Bool, true, false, ◌||◌, eqb, ltb, if◌then◌else◌}
use Rattle.std.specs.Prelude.{Option, None as none, Some as some}
use Rattle.std.specs.Int.Bits.{bit_and, bit_or}
use Rattle.rules.specs.Arguments.{bit}
use Rattle.rules.specs.Settings.{is_blocking, is_listening}
use Rattle.rules.specs.declared.states.PortState.{PortState}
use Rattle.rules.specs.declared.states.PortState.TheVariants.{Disabled as disabled, Blocking as blocking, Listening as listening, Learning as learning, Forwarding as forwarding}
use Rattle.rules.specs.declared.reasons.Reason.{Reason}
use Rattle.rules.specs.declared.reasons.Reason.TheVariants.{PortBlocking as port_blocking, PortListening as port_listening}
use Rattle.layout.specs.Bits.{with_bit}

-- bits 5 to 7, 13 to 15 and 21 to 31
abbrev pub unused_states : ℕ
unused_states = 0xFFE0_E0E0

unfoldable pub is_states_word : ℕ → Bool
is_states_word w = eqb (bit_and w (bit_or (w / 256) unused_states)) 0

-- open, Listening, upper: the state's number
unfoldable pub state_number : Bool → Bool → Bool → ℕ
state_number true n true = 4
state_number true n false = 0
state_number false true t = 2
state_number false false true = 3
state_number false false false = 1

unfoldable pub state_in : ℕ → ℕ → ℕ
state_in w p = state_number (bit w p) (bit w (8 + p)) (bit w (16 + p))

-- the number of a state
unfoldable pub number_of : PortState → ℕ
number_of disabled = 0
number_of blocking = 1
number_of listening = 2
number_of learning = 3
number_of forwarding = 4

-- Disabled or Forwarding
unfoldable pub opens : ℕ → Bool
opens s = eqb s 0 || eqb s 4

unfoldable pub with_state : ℕ → ℕ → ℕ → ℕ
with_state w p s = with_bit (with_bit (with_bit w p (opens s)) (8 + p) (eqb s 2)) (16 + p) (ltb 2 s)

-- the reason at a Blocking or a Listening port
unfoldable pub bar_of : PortState → Option Reason
bar_of st = if is_blocking st then some port_blocking else (if is_listening st then some port_listening else none)
