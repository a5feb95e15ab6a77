-- The refusal lines of each call over lent memories, by one list; and the lengths that each call asks. Assumes nothing:
-- these are definitions.
use Rattle.std.specs.Prelude.{ℕ, Bool, ◌&&◌, List}
use Rattle.rules.specs.Refusals.{Lines}
use Rattle.machine.specs.State.{Call, frame_in, take, age, counter, port, vlan, clear_vlan, static, remove, map}
use Rattle.machine.specs.State.{queue_switch, drain, bpdu}
use Rattle.layout.specs.Lengths.{cell_count, links_fit, cells_fit, addresses_fit}
use Rattle.frame_in.specs.Call.{frame_in_refusals}
use Rattle.take_out.specs.Serving.{served}
use Rattle.take_out.specs.Take.{take_refusals}
use Rattle.take_out.specs.Drain.{drain_refusals}
use Rattle.address_calls.specs.Calls.{age_refusals, static_refusals, remove_refusals}
use Rattle.setting_calls.specs.Calls.{counter_refusals, port_refusals, map_refusals, queue_switch_refusals, bpdu_refusals}
use Rattle.setting_calls.specs.Vlans.{vlan_refusals, clear_vlan_refusals}
use Rattle.gufhrandi.specs.Memories.{Memories}

unfoldable pub lines_on : Memories → Call → List ℕ → Lines
lines_on m (frame_in c) buffer = frame_in_refusals m.cells m.links m.addresses c.port c.packet.bytes
lines_on m (take c) buffer =
    take_refusals m.cells m.links c.port buffer (served (cell_count m.links) c.port m.links)
lines_on m age buffer = age_refusals m.addresses
lines_on m (counter c) buffer = counter_refusals m.links c.port c.number
lines_on m (port c) buffer = port_refusals m.links c.port c.new
lines_on m (vlan n) buffer = vlan_refusals m.links n
lines_on m (clear_vlan vid) buffer = clear_vlan_refusals m.links vid
lines_on m (static c) buffer = static_refusals m.addresses c.gid c.port c.address
lines_on m (remove c) buffer = remove_refusals m.addresses c.gid c.address
lines_on m (map c) buffer = map_refusals m.links c.pcp c.queue
lines_on m (queue_switch c) buffer = queue_switch_refusals m.links c.port c.queue c.on
lines_on m (drain p) buffer = drain_refusals m.links p
lines_on m (bpdu on) buffer = bpdu_refusals m.links on

-- each memory that the call is lent has a length that fits
unfoldable pub fits_for : Memories → Call → Bool
fits_for m (frame_in c) = links_fit m.links && (cells_fit m.cells m.links && addresses_fit m.addresses)
fits_for m (take c) = links_fit m.links && cells_fit m.cells m.links
fits_for m age = addresses_fit m.addresses
fits_for m (counter c) = links_fit m.links
fits_for m (port c) = links_fit m.links
fits_for m (vlan n) = links_fit m.links
fits_for m (clear_vlan vid) = links_fit m.links
fits_for m (static c) = addresses_fit m.addresses
fits_for m (remove c) = addresses_fit m.addresses
fits_for m (map c) = links_fit m.links
fits_for m (queue_switch c) = links_fit m.links
fits_for m (drain p) = links_fit m.links
fits_for m (bpdu on) = links_fit m.links
