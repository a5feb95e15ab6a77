-- The frame that memory holds, as the rules have it, and what is met of its bytes when it leaves. Assumes nothing:
-- these are definitions.
use Rattle.std.specs.Prelude.{ℕ, ◌+◌, ◌-◌, Bool, true, false, ◌&&◌, ◌||◌, List, eqb, length, drop, replicate, if◌then◌else◌}
use Rattle.std.proofs.lemmas.List.Edits.{sets}
use Rattle.rules.specs.Cells as Rules
use Rattle.rules.specs.Tags.{Tag, tags_of}
use Rattle.rules.specs.Operations.{Operation, leaving_tags, retagged}
use Rattle.rules.specs.declared.operations.Kind.{Kind}
use Rattle.rules.specs.declared.operations.Kind.TheVariants.{Nothing as none, Pop as pop, Push as push, Swap as swap, PopAll as pop_all}
use Rattle.rules.specs.Arguments.{operation_of}
use Rattle.rules.specs.Outcomes.{Frame}
use Rattle.cells.specs.Free.{size_of, frame_cells}
use Rattle.cells.specs.Bytes.{header_in, frame_in}
use Rattle.cells.specs.Stored.{stored_of, stored_in_range, stored_operation}
use Rattle.cells.specs.declared.stored.StoredHeader.{StoredHeader}
use Rattle.settings.specs.Operations.{is_operation_word, is_exempt}
use Rattle.settings.specs.Ports.{default_of}
use Rattle.settings.specs.Records.{port_operation_at, port_at}
use Rattle.departure.specs.Leaving.{can_leave}

-- the frame of a stored header and these bytes, in this queue
unfoldable pub frame_of : StoredHeader → List ℕ → ℕ → Frame
frame_of h bytes queue =
    record {
      packet = record { bytes = bytes };
      origin = record { tags = tags_of bytes; default = default_of h.default };
      vlan_operation = stored_operation h;
      exempt = is_exempt h.operation;
      queue = queue;
    }

-- the tags with which a frame leaves a port of this operation; on a BPDU no operation acts
unfoldable pub leaving_of : StoredHeader → Operation → List Tag → List Tag
leaving_of h port tags =
    if is_exempt h.operation then tags else leaving_tags (record { tags = tags; default = default_of h.default })
    (stored_operation h) port

-- no operation acts: for a BPDU, or because both are none
unfoldable pub does_nothing : Kind → Bool
does_nothing none = true
does_nothing pop = false
does_nothing push = false
does_nothing swap = false
does_nothing pop_all = false

unfoldable pub leaves_plain : StoredHeader → Operation → Bool
leaves_plain h port = is_exempt h.operation || (does_nothing (stored_operation h).kind && does_nothing port.kind)

-- the stored header and the bytes of the frame whose first cell is c
abbrev pub stored_at : List ℕ → ℕ → StoredHeader
stored_at cells c = stored_of (header_in cells c)

abbrev pub bytes_at : ℕ → List ℕ → List ℕ → ℕ → List ℕ
bytes_at n cells links c = frame_in cells (frame_cells n links c) (stored_at cells c).length

abbrev pub frame_at : ℕ → List ℕ → List ℕ → ℕ → ℕ → Frame
frame_at n cells links c queue = frame_of (stored_at cells c) (bytes_at n cells links c) queue

-- the departing port's operation
abbrev pub operation_of_port : List ℕ → ℕ → Operation
operation_of_port links port = operation_of (port_at links port).operation

-- the bytes that leave
abbrev pub leaving_from : ℕ → List ℕ → List ℕ → ℕ → ℕ → List ℕ
leaving_from n cells links port c =
    retagged (bytes_at n cells links c) (leaving_of (stored_at cells c) (operation_of_port links port)
    (tags_of (bytes_at n cells links c)))

-- "the departing port's operation (not for a frame on which none acts)"
abbrev pub operation_fits : StoredHeader → List ℕ → ℕ → Bool
operation_fits h links port = if is_exempt h.operation then true else is_operation_word (port_operation_at links port)

-- "size must be the cells of the length"
unfoldable pub header_fits : StoredHeader → ℕ → ℕ → List ℕ → Bool
header_fits h port c links =
    stored_in_range h
    && (eqb (size_of links c) (Rules.cells h.length)
    && operation_fits h links port)

-- all that a take meets of the frame
unfoldable pub can_send : List ℕ → ℕ → ℕ → ℕ → List ℕ → Bool
can_send cells n port c links = can_leave n port c links && header_fits (stored_at cells c) port c links

-- a result at the front of the lent buffer: its length, and the buffer then
abbrev pub written : List ℕ → List ℕ → ℕ × List ℕ
written out bytes = (length bytes, sets out 0 bytes)

-- what is left to be written: the frame's bytes behind its first ones, up to place end, and zeros up to 60
abbrev pub finished : List ℕ → ℕ → ℕ → List ℕ → ℕ → ℕ × List ℕ
finished out from at bytes end = (end + (60 - end), sets (sets out at (drop from bytes)) end (replicate (60 - end) 0))
