-- The layout paper, "What a call reads, for refusal 10": is a word out of its range met on a frame-in's way?
-- Assumes nothing: these are definitions.
use Rattle.std.specs.Prelude.{ℕ, Bool, true, false, ◌||◌, not, List, length, get_or, if◌then◌else◌}
use Rattle.std.specs.Prelude.{Option, None as none, Some as some, Ok, Err}
use Rattle.rules.specs.Lines.{first}
use Rattle.rules.specs.Numbers.{bpdu_queue}
use Rattle.rules.specs.Tags.{destination, source, tags_of}
use Rattle.rules.specs.declared.reasons.Reason.{Reason}
use Rattle.rules.specs.Settings.{is_learning}
use Rattle.rules.specs.Addresses.{key}
use Rattle.rules.specs.Arguments.{VlanNumbers, bit}
use Rattle.rules.specs.ReasonTable.{reading, rows_of}
use Rattle.layout.specs.Places.{port_word, vlan_operation_word}
use Rattle.layout.specs.Lengths.{cell_count}
use Rattle.settings.specs.Operations.{is_operation_word}
use Rattle.settings.specs.Ports.{is_vid_word}
use Rattle.settings.specs.States.{is_states_word}
use Rattle.settings.specs.Switches.{is_switches_word}
use Rattle.settings.specs.Maps.{is_map_word}
use Rattle.settings.specs.Records.{states_at, vlan_at}
use Rattle.settings.specs.Table.{Found, found_vlan}
use Rattle.settings.specs.SettingsOf.{map_at, switches_at, settings_of}
use Rattle.addresses.specs.Search.{look_up, found_by, damaged}
use Rattle.arrival.specs.declared.plan.Masks.{Masks}
use Rattle.arrival.specs.Arrivals.{port_rules}
use Rattle.arrival.specs.Candidates.{every_port, management_mask, destination_look_up, chosen_mask}
use Rattle.arrival.specs.Candidates.{candidates_in, masks_of}
use Rattle.arrival.specs.Room.{met_room}
use Rattle.frame_in.specs.Facts.{facts_in}

-- nothing is met past a reason
unfoldable pub unless_dropped : Option Reason → Bool → Bool
unless_dropped none met = met
unless_dropped (some r) met = false

-- the masks of an ordinary frame, and of a BPDU: "the one candidate 4, queue 3"; only its queue switch applies
unfoldable pub masks_in : List ℕ → List ℕ → ℕ → List ℕ → VlanNumbers → Masks
masks_in links addresses port frame v =
    masks_of (candidates_in v.members (chosen_mask (found_by (destination_look_up addresses v.gid (destination frame)))) port)
    (states_at links) (switches_at links) (facts_in links addresses port frame).queue

unfoldable pub bpdu_masks : List ℕ → Masks
bpdu_masks links = masks_of management_mask every_port (switches_at links) bpdu_queue

-- past reason 10, with a port left, the room
unfoldable pub met_tests : List ℕ → List ℕ → ℕ → List ℕ → Masks → Bool
met_tests links addresses port frame masks =
    if is_learning (facts_in links addresses port frame).state
    then false
    else met_room (cell_count links) links (length frame) masks.left

-- past reason 9: both searches and, also if 10 or 11 follows, the switches' word
unfoldable pub met_member : List ℕ → List ℕ → ℕ → List ℕ → VlanNumbers → Bool
met_member links addresses port frame v =
    damaged (destination_look_up addresses v.gid (destination frame))
    || (damaged (look_up addresses (key v.gid (source frame)))
    || (not (is_switches_word (switches_at links))
    || met_tests links addresses port frame (masks_in links addresses port frame v)))

-- the entry of the VID: its operation's word too
unfoldable pub met_entry : List ℕ → List ℕ → ℕ → List ℕ → ℕ → Bool
met_entry links addresses port frame e =
    not (is_operation_word (get_or links (vlan_operation_word e) 0))
    || (if bit (vlan_at links e).members port then met_member links addresses port frame (vlan_at links e) else false)

-- past reason 6, also under 7: the VLANs in use and the words of the entries from 0 on to the one of the VID
unfoldable pub met_table : List ℕ → List ℕ → ℕ → List ℕ → Found → Bool
met_table links addresses port frame (Err damage) = true
met_table links addresses port frame (Ok none) = false
met_table links addresses port frame (Ok (some e)) = met_entry links addresses port frame e

unfoldable pub met_entering : List ℕ → List ℕ → ℕ → List ℕ → Bool
met_entering links addresses port frame =
    unless_dropped (first (port_rules ((settings_of links).port port) (length (tags_of frame))))
    (met_table links addresses port frame (found_vlan links (facts_in links addresses port frame).vid))

-- no BPDU: the states' word
unfoldable pub met_frame : List ℕ → List ℕ → ℕ → List ℕ → Bool
met_frame links addresses port frame = not (is_states_word (states_at links)) || met_entering links addresses port frame

-- a BPDU: the switches' word, then the room
unfoldable pub met_bpdu : List ℕ → List ℕ → Bool
met_bpdu links frame =
    not (is_switches_word (switches_at links))
    || met_room (cell_count links) links (length frame) (bpdu_masks links).left

-- past reason 3: the arrival port's word and the map's
unfoldable pub met_port : List ℕ → List ℕ → ℕ → List ℕ → Bool
met_port links addresses port frame =
    not (is_vid_word (get_or links (port_word port) 0))
    || (not (is_map_word (map_at links))
    || (if (facts_in links addresses port frame).bpdu then met_bpdu links frame else met_frame links addresses port frame))

unfoldable pub met : List ℕ → List ℕ → ℕ → List ℕ → Bool
met links addresses port frame =
    unless_dropped (first (rows_of reading (facts_in links addresses port frame))) (met_port links addresses port frame)
