-- Every call over lent memory is refused exactly by its lines, and its promise is a function. `proofs/Calls.antt`
-- proves it.
-- Assumes nothing: these are definitions.
use Rattle.std.specs.Prelude.{ℕ, List}
use Rattle.rules.specs.Arguments.{PortNumbers, VlanNumbers}
use Rattle.layout.specs.Lengths.{cell_count}
use Rattle.fresh_call.specs.Calls.{fresh_refusals, fresh_call}
use Rattle.frame_in.specs.Call.{frame_in_refusals, frame_in_call}
use Rattle.take_out.specs.Serving.{served}
use Rattle.take_out.specs.Take.{take_refusals, take_call, handed_back}
use Rattle.take_out.specs.Drain.{drain_refusals, drain_call}
use Rattle.address_calls.specs.Calls.{age_refusals, age_call, static_refusals, static_call, remove_refusals, remove_call}
use Rattle.setting_calls.specs.Calls.{counter_refusals, counter_call, port_refusals, port_call, map_refusals, map_call}
use Rattle.setting_calls.specs.Calls.{queue_switch_refusals, queue_switch_call, bpdu_refusals, bpdu_call}
use Rattle.setting_calls.specs.Vlans.{vlan_refusals, vlan_call, clear_vlan_refusals, clear_vlan_call}
use Rattle.standing.specs.Promises.{Refuses, HandsBack}

pub record RefusalTheorems : Type 0 where
  pub fresh : (cells links addresses : List ℕ)
      → Refuses (fresh_refusals cells links addresses) (cells, links, addresses) (fresh_call cells links addresses)
  pub frame_in_law : (cells links addresses : List ℕ) (port : ℕ) (frame : List ℕ)
      → Refuses (frame_in_refusals cells links addresses port frame) (cells, links, addresses)
      (frame_in_call cells links addresses port frame)
  pub take_into : (cells links : List ℕ) (port : ℕ) (out : List ℕ)
      → Refuses (take_refusals cells links port out (served (cell_count links) port links)) (links, out)
      (take_call cells links port out)
  pub take : (cells links : List ℕ) (port : ℕ) (out : List ℕ)
      → HandsBack (take_refusals cells links port out (served (cell_count links) port links)) links
      (handed_back (take_call cells links port out))
  pub age : (addresses : List ℕ) → Refuses (age_refusals addresses) addresses (age_call addresses)
  pub counter : (links : List ℕ) (port number : ℕ)
      → Refuses (counter_refusals links port number) links (counter_call links port number)
  pub port : (links : List ℕ) (port : ℕ) (new : PortNumbers)
      → Refuses (port_refusals links port new) links (port_call links port new)
  pub vlan : (links : List ℕ) (new : VlanNumbers) → Refuses (vlan_refusals links new) links (vlan_call links new)
  pub clear_vlan_law : (links : List ℕ) (vid : ℕ) → Refuses (clear_vlan_refusals links vid) links (clear_vlan_call links vid)
  pub static : (addresses : List ℕ) (gid port address : ℕ)
      → Refuses (static_refusals addresses gid port address) addresses (static_call addresses gid port address)
  pub remove : (addresses : List ℕ) (gid address : ℕ)
      → Refuses (remove_refusals addresses gid address) addresses (remove_call addresses gid address)
  pub queue_map : (links : List ℕ) (pcp queue : ℕ)
      → Refuses (map_refusals links pcp queue) links (map_call links pcp queue)
  pub queue_switch_law : (links : List ℕ) (port queue on : ℕ)
      → Refuses (queue_switch_refusals links port queue on) links (queue_switch_call links port queue on)
  pub drain : (links : List ℕ) (port : ℕ) → Refuses (drain_refusals links port) links (drain_call links port)
  pub bpdu : (links : List ℕ) (on : ℕ) → Refuses (bpdu_refusals links on) links (bpdu_call links on)
