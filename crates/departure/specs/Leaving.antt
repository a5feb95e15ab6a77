-- A copy leaves a port: what is tested before, and what is written to link memory, in this order. Assumes nothing:
-- these are definitions.
use Rattle.std.specs.Prelude.{ℕ, ◌-◌, ◌^◌, Bool, true, ◌&&◌, List, eqb, ltb, set, if◌then◌else◌}
use Rattle.std.specs.Prelude.{Option, Some as some, None as none}
use Rattle.std.specs.Int.Bits.{bit_xor}
use Rattle.rules.specs.Arguments.{bit}
use Rattle.rules.specs.Counters.{counter_number}
use Rattle.rules.specs.declared.counters.Counter.{Counter}
use Rattle.layout.specs.Places.{frame_word}
use Rattle.cells.specs.Free.{word_of, ports_of, is_frame, can_give_back, given_back}
use Rattle.queues.specs.Lists.{popped_at}
use Rattle.layout.specs.Counters.{bumped}

-- the frame whose first cell is c waits at this port alone
unfoldable pub is_last : ℕ → ℕ → List ℕ → Bool
is_last port c links = eqb (ports_of links c) (2 ^ port)

-- a frame word with a port's bit turned over
unfoldable pub turned : ℕ → ℕ → ℕ
turned word port = bit_xor word (2 ^ port)

-- the free cells are met "if this is the last copy"
unfoldable pub has_room : ℕ → ℕ → ℕ → List ℕ → Bool
has_room n port c links = if is_last port c links then can_give_back n c links else true

-- "ports must have this port's bit"
unfoldable pub can_leave : ℕ → ℕ → ℕ → List ℕ → Bool
can_leave n port c links =
    ltb c n
    && (is_frame c links && (bit (ports_of links c) port && has_room n port c links))

-- then the frame word when the copy has left
unfoldable pub word_left : ℕ → ℕ → ℕ → List ℕ → Option ℕ
word_left n port c links = if can_leave n port c links then some (word_of links c - 2 ^ port) else none

-- "its cells are free when its last copy is sent or drained"
unfoldable pub departed : ℕ → ℕ → ℕ → List ℕ → List ℕ
departed n port c links =
    if is_last port c links then given_back n c links else set links (frame_word c) (word_of links c - 2 ^ port)

-- the frame, which is its queue's oldest, leaves the queue, and its port counts it
unfoldable pub left : ℕ → ℕ → ℕ → Counter → List ℕ → List ℕ
left port queue c counter links = bumped port (counter_number counter) (popped_at port queue c links)
