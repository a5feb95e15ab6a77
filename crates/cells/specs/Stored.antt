-- The layout paper, "Cell memory": the 8 bytes of stored header, read, written, and their ranges. Assumes nothing.
use Rattle.std.specs.Prelude.{ℕ, ◌+◌, ◌*◌, ◌/◌, ◌%◌, Bool, ◌&&◌, List, [], ◌∷◌, get_or, leb, ltb, if◌then◌else◌}
use Rattle.rules.specs.Cells.{shortest, longest}
use Rattle.rules.specs.Operations.{Operation}
use Rattle.rules.specs.Settings.{no_operation}
use Rattle.rules.specs.Arguments.{operation_of}
use Rattle.settings.specs.Operations.{operation_in, is_stored_word, is_exempt}
use Rattle.cells.specs.declared.stored.StoredHeader.{StoredHeader}

-- two bytes of length, two of the default header, four of the operation, each low byte first
unfoldable pub stored_bytes : StoredHeader → List ℕ
stored_bytes h =
    h.length % 256
    ∷ h.length / 256
    ∷ h.default % 256
    ∷ h.default / 256
    ∷ h.operation % 256
    ∷ h.operation / 256 % 256
    ∷ h.operation / 65536 % 256
    ∷ h.operation / 16777216
    ∷ []

unfoldable pub stored_of : List ℕ → StoredHeader
stored_of bytes =
    record {
      length = get_or bytes 0 0 + get_or bytes 1 0 * 256;
      default = get_or bytes 2 0 + get_or bytes 3 0 * 256;
      operation = get_or bytes 4 0 + get_or bytes 5 0 * 256 + get_or bytes 6 0 * 65536 + get_or bytes 7 0 * 16777216;
    }

-- the default header from 16 to 4095 · 16 - 1: VID 1 to 4,094 stands on top of it
unfoldable pub stored_in_range : StoredHeader → Bool
stored_in_range h =
    leb shortest h.length
    && leb h.length longest
    && leb 16 h.default
    && ltb h.default 65520
    && is_stored_word h.operation

-- ---- the VLAN operation; that of a BPDU, on which none acts, is no operation

unfoldable pub stored_operation : StoredHeader → Operation
stored_operation h = if is_exempt h.operation then no_operation else operation_of (operation_in h.operation)
