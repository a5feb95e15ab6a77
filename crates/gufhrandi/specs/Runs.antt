-- The machine's calls as the promises of the public calls over lent memories: each line cites the very function that
-- stands in the `ensures` of the Rattle function, as `src/perform.rt` shows. Assumes nothing: these are definitions.
use Rattle.std.specs.Prelude.{ℕ, List}
use Rattle.machine.specs.State.{Call, frame_in, take, age, counter, port, vlan, clear_vlan, static, remove, map}
use Rattle.machine.specs.State.{queue_switch, drain, bpdu}
use Rattle.layout.specs.declared.answers.Answer.{Answer}
use Rattle.frame_in.specs.Call.{frame_in_call}
use Rattle.take_out.specs.Take.{take_call}
use Rattle.take_out.specs.Drain.{drain_call}
use Rattle.address_calls.specs.Calls.{age_call, static_call, remove_call}
use Rattle.setting_calls.specs.Calls.{counter_call, port_call, map_call, queue_switch_call, bpdu_call}
use Rattle.setting_calls.specs.Vlans.{vlan_call, clear_vlan_call}
use Rattle.gufhrandi.specs.Memories.{Memories, Done}

-- ---- by the memories that a call is lent to write

abbrev pub on_all : List ℕ → Answer × (List ℕ × List ℕ × List ℕ) → Done
on_all buffer r =
    record {
      answer = r.0;
      buffer = buffer;
      memories = record { cells = r.1.0; links = r.1.1; addresses = r.1.2 };
    }

abbrev pub on_buffer : Memories → Answer × (List ℕ × List ℕ) → Done
on_buffer m r =
    record {
      answer = r.0;
      buffer = r.1.1;
      memories = record { cells = m.cells; links = r.1.0; addresses = m.addresses };
    }

abbrev pub on_links : Memories → List ℕ → Answer × List ℕ → Done
on_links m buffer r =
    record {
      answer = r.0;
      buffer = buffer;
      memories = record { cells = m.cells; links = r.1; addresses = m.addresses };
    }

abbrev pub on_addresses : Memories → List ℕ → Answer × List ℕ → Done
on_addresses m buffer r =
    record {
      answer = r.0;
      buffer = buffer;
      memories = record { cells = m.cells; links = m.links; addresses = r.1 };
    }

-- ---- a call: only take writes to the buffer, and the length that it is handed is the buffer's

unfoldable pub run : Memories → Call → List ℕ → Done
run m (frame_in c) buffer = on_all buffer (frame_in_call m.cells m.links m.addresses c.port c.packet.bytes)
run m (take c) buffer = on_buffer m (take_call m.cells m.links c.port buffer)
run m age buffer = on_addresses m buffer (age_call m.addresses)
run m (counter c) buffer = on_links m buffer (counter_call m.links c.port c.number)
run m (port c) buffer = on_links m buffer (port_call m.links c.port c.new)
run m (vlan n) buffer = on_links m buffer (vlan_call m.links n)
run m (clear_vlan vid) buffer = on_links m buffer (clear_vlan_call m.links vid)
run m (static c) buffer = on_addresses m buffer (static_call m.addresses c.gid c.port c.address)
run m (remove c) buffer = on_addresses m buffer (remove_call m.addresses c.gid c.address)
run m (map c) buffer = on_links m buffer (map_call m.links c.pcp c.queue)
run m (queue_switch c) buffer = on_links m buffer (queue_switch_call m.links c.port c.queue c.on)
run m (drain p) buffer = on_links m buffer (drain_call m.links p)
run m (bpdu on) buffer = on_links m buffer (bpdu_call m.links on)
