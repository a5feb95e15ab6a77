-- The layout paper, "Cell memory": what is stored with a frame of the rules. Assumes nothing: these are definitions.
use Rattle.std.specs.Prelude.{ℕ, List, length, get_or, None as none, Some as some, Ok, Err, if◌then◌else◌}
use Rattle.rules.specs.Outcomes.{Frame}
use Rattle.layout.specs.Places.{vlan_operation_word}
use Rattle.settings.specs.Operations.{operation_end}
use Rattle.settings.specs.Ports.{default_number}
use Rattle.settings.specs.Fresh.{fresh_operation_word}
use Rattle.settings.specs.Table.{Found, found_vlan}
use Rattle.cells.specs.declared.stored.StoredHeader.{StoredHeader}

-- the word of the operation of the entry that a search found; that of no operation where there is none
unfoldable pub operation_found : List ℕ → Found → ℕ
operation_found links (Ok (some e)) = get_or links (vlan_operation_word e) 0
operation_found links (Ok none) = fresh_operation_word
operation_found links (Err damage) = fresh_operation_word

-- the word of the operation of the VLAN of a VID
abbrev pub operation_for : List ℕ → ℕ → ℕ
operation_for links vid = operation_found links (found_vlan links vid)

-- with the word of the VLAN's operation as it stands in link memory; a BPDU has the first word past the operations'
-- range
unfoldable pub stored_header : ℕ → Frame → StoredHeader
stored_header operation f =
    record {
      length = length f.packet.bytes;
      default = default_number f.origin.default;
      operation = if f.exempt then operation_end else operation;
    }
