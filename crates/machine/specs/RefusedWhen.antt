-- When each call gets each of its refusals, in the words of the table of refusals. (1 and 10 are of lent memory; 1 of
-- the fresh call: `LifeTheorems`.) `proofs/RefusedWhen.antt` proves it. Assumes nothing: these are definitions.
use Rattle.std.specs.Prelude.{ℕ, ◌^◌, ◌≤◌, ◌<◌, ◌≡◌, ◌↔◌, true, false, length}
use Rattle.std.specs.Prelude.{None as none}
use Rattle.rules.specs.Tags.{is_group}
use Rattle.rules.specs.Settings.{is_there}
use Rattle.rules.specs.Tables.{nowhere}
use Rattle.rules.specs.Addresses.{key, find, empty_for}
use Rattle.rules.specs.Arguments.{VlanNumbers}
use Rattle.rules.specs.RangeTheorems.{PortFits, VlanFits}
use Rattle.rules.specs.declared.refusals.Refusal.{Refusal}
use Rattle.rules.specs.declared.refusals.Refusal.TheVariants.{PortAboveFour as port_above_four, OutOfRange as out_of_range, GroupAddress as group_address, ShortBuffer as short_buffer, VlansInUse as vlans_in_use}
use Rattle.rules.specs.declared.refusals.Refusal.TheVariants.{VlanNotThere as vlan_not_there, PlacesInUse as places_in_use, AddressNotThere as address_not_there}
use Rattle.rules.specs.Requests.{FrameInRequest, TakeRequest, CounterRequest, PortRequest, StaticRequest, RemoveRequest}
use Rattle.rules.specs.Requests.{MapRequest, SwitchRequest}
use Rattle.machine.specs.State.{State, Call, frame_in, take, age, counter, port, vlan, clear_vlan, static, remove}
use Rattle.machine.specs.State.{map, queue_switch, drain, bpdu, refused}
use Rattle.machine.specs.Machine.{perform}

-- the call gets this refusal exactly if this holds
abbrev pub ExactlyIf : State → Call → Refusal → Type 0 → Type 0
ExactlyIf s c r Holds = ((perform s c).answer ≡ refused r) ↔ Holds

-- a GID and an address in range
abbrev pub KeyFits : ℕ → ℕ → Type 0
KeyFits gid address = (gid ≤ 15) × (address < 2 ^ 48)

pub record RefusedWhen (s : State) : Type 0 where
  -- 2: port above 4
  pub frame_in_2 : (c : FrameInRequest) → ExactlyIf s (frame_in c) port_above_four (4 < c.port)
  pub take_2 : (c : TakeRequest) → ExactlyIf s (take c) port_above_four (4 < c.port)
  pub counter_2 : (c : CounterRequest) → ExactlyIf s (counter c) port_above_four (4 < c.port)
  pub port_2 : (c : PortRequest) → ExactlyIf s (port c) port_above_four (4 < c.port)
  pub static_2 : (c : StaticRequest) → ExactlyIf s (static c) port_above_four (4 < c.port)
  pub switch_2 : (c : SwitchRequest) → ExactlyIf s (queue_switch c) port_above_four (4 < c.port)
  pub drain_2 : (p : ℕ) → ExactlyIf s (drain p) port_above_four (4 < p)
  -- 3: another value outside its range
  pub counter_3 : (c : CounterRequest) → ExactlyIf s (counter c) out_of_range ((c.port ≤ 4) × (20 < c.number))
  pub port_3 : (c : PortRequest) → ExactlyIf s (port c) out_of_range ((c.port ≤ 4) × (PortFits c.new → ⊥))
  pub vlan_3 : (n : VlanNumbers) → ExactlyIf s (vlan n) out_of_range (VlanFits n → ⊥)
  pub clear_3 : (vid : ℕ) → ExactlyIf s (clear_vlan vid) out_of_range ((1 ≤ vid) × (vid ≤ 4094) → ⊥)
  pub static_3 : (c : StaticRequest)
      → ExactlyIf s (static c) out_of_range ((c.port ≤ 4) × (KeyFits c.gid c.address → ⊥))
  pub remove_3 : (c : RemoveRequest) → ExactlyIf s (remove c) out_of_range (KeyFits c.gid c.address → ⊥)
  pub map_3 : (c : MapRequest) → ExactlyIf s (map c) out_of_range ((c.pcp ≤ 7) × (c.queue ≤ 3) → ⊥)
  pub switch_3 : (c : SwitchRequest)
      → ExactlyIf s (queue_switch c) out_of_range ((c.port ≤ 4) × ((c.queue ≤ 3) × (c.on ≤ 1) → ⊥))
  pub bpdu_3 : (on : ℕ) → ExactlyIf s (bpdu on) out_of_range (1 < on)
  -- 4: setting a static address with the group bit; 8: new, and all its 20 places in use
  pub static_4 : (c : StaticRequest)
      → ExactlyIf s (static c) group_address ((c.port ≤ 4) × KeyFits c.gid c.address
      × (is_group c.address ≡ true))
  pub static_8 : (c : StaticRequest) → ExactlyIf s (static c) places_in_use
      ((c.port ≤ 4) × KeyFits c.gid c.address × (is_group c.address ≡ false)
      × (find s.core.table (key c.gid c.address) ≡ nowhere)
      × (empty_for s.core.table (key c.gid c.address) ≡ none))
  -- 5: take-out buffer under 4,091 bytes
  pub take_5 : (c : TakeRequest) → ExactlyIf s (take c) short_buffer ((c.port ≤ 4) × (c.buffer < 4091))
  -- 6: new VLAN, 16 in use; 7: clearing a VLAN not there
  pub vlan_6 : (n : VlanNumbers) → ExactlyIf s (vlan n) vlans_in_use
      (VlanFits n × (is_there s.core.settings.vlans n.vid ≡ false) × (16 ≤ length s.core.settings.vlans))
  pub clear_7 : (vid : ℕ)
      → ExactlyIf s (clear_vlan vid) vlan_not_there (((1 ≤ vid) × (vid ≤ 4094))
      × (is_there s.core.settings.vlans vid ≡ false))
  -- 9: removing an address not there
  pub remove_9 : (c : RemoveRequest) → ExactlyIf s (remove c) address_not_there
      (KeyFits c.gid c.address × (find s.core.table (key c.gid c.address) ≡ nowhere))
  -- an ageing call has no refusal of its own
  pub age_never : (r : Refusal) → (perform s age).answer ≡ refused r → ⊥
