-- Each setting call changes its own thing and nothing else; and the fresh switch. `proofs/SettingCalls.antt` proves it.
-- Assumes nothing: these are definitions.
use Rattle.std.specs.Prelude.{ℕ, ◌≤◌, ◌≡◌, true, false, [], ◌∷◌}
use Rattle.std.specs.Prelude.{None as none}
use Rattle.rules.specs.Settings.{Settings, Vlan, no_operation, is_there, vlan_of}
use Rattle.rules.specs.declared.states.PortState.TheVariants.{Disabled as disabled}
use Rattle.rules.specs.Addresses.{key, set_static}
use Rattle.rules.specs.Addresses as Addresses
use Rattle.rules.specs.Arguments.{VlanNumbers, port_of, vlan_entry}
use Rattle.rules.specs.Requests.{PortRequest, StaticRequest, RemoveRequest, MapRequest, SwitchRequest}
use Rattle.machine.specs.State.{State, Step, port, vlan, clear_vlan, static, remove, map, queue_switch, bpdu, age}
use Rattle.machine.specs.State.{done}
use Rattle.machine.specs.Machine.{perform}
use Rattle.machine.specs.History.{fresh}
use Rattle.machine.specs.CallTheorems.{Allowed}

-- it answers 0 0, counts nothing, and touches no waiting frame
pub record Quiet (s : State) (d : Step) : Type 0 where
  pub answers : d.answer ≡ done 0 0 []
  pub counts_nothing : d.events ≡ []
  pub waiting_stays : d.core.waiting ≡ s.core.waiting

-- the parts of the settings
abbrev pub SamePorts : Settings → Settings → Type 0
SamePorts a b = (r : ℕ) → a.port r ≡ b.port r

abbrev pub SameVlans : Settings → Settings → Type 0
SameVlans a b = a.vlans ≡ b.vlans

abbrev pub SameMap : Settings → Settings → Type 0
SameMap a b = (pcp : ℕ) → a.queue_of pcp ≡ b.queue_of pcp

abbrev pub SameSwitches : Settings → Settings → Type 0
SameSwitches a b = (r q : ℕ) → a.queue_on r q ≡ b.queue_on r q

abbrev pub SameBpdu : Settings → Settings → Type 0
SameBpdu a b = a.bpdu_handling ≡ b.bpdu_handling

module _ (s : State) where
  abbrev pub before : Settings
  before = s.core.settings

  pub record PortSets (c : PortRequest) (allowed : Allowed s (port c)) : Type 0 where
    pub quiet : Quiet s (perform s (port c))
    pub this_port : (perform s (port c)).core.settings.port c.port ≡ port_of c.new
    pub other_ports : (r : ℕ) → (r ≡ c.port → ⊥) → (perform s (port c)).core.settings.port r ≡ before.port r
    pub vlans : SameVlans (perform s (port c)).core.settings before
    pub queue_map : SameMap (perform s (port c)).core.settings before
    pub switches : SameSwitches (perform s (port c)).core.settings before
    pub handling : SameBpdu (perform s (port c)).core.settings before
    pub table : (perform s (port c)).core.table ≡ s.core.table

  -- "One entry a VID; setting a VID that is there replaces its entry."
  pub record VlanSets (n : VlanNumbers) (allowed : Allowed s (vlan n)) : Type 0 where
    pub quiet : Quiet s (perform s (vlan n))
    pub this_vid : (is_there (perform s (vlan n)).core.settings.vlans n.vid ≡ true)
        × (vlan_of (perform s (vlan n)).core.settings.vlans n.vid ≡ vlan_entry n)
    pub other_vids : (v : ℕ) → (v ≡ n.vid → ⊥)
        → (is_there (perform s (vlan n)).core.settings.vlans v ≡ is_there before.vlans v)
        × (vlan_of (perform s (vlan n)).core.settings.vlans v ≡ vlan_of before.vlans v)
    pub ports : SamePorts (perform s (vlan n)).core.settings before
    pub queue_map : SameMap (perform s (vlan n)).core.settings before
    pub switches : SameSwitches (perform s (vlan n)).core.settings before
    pub handling : SameBpdu (perform s (vlan n)).core.settings before
    pub table : (perform s (vlan n)).core.table ≡ s.core.table

  pub record VlanClears (vid : ℕ) (allowed : Allowed s (clear_vlan vid)) : Type 0 where
    pub quiet : Quiet s (perform s (clear_vlan vid))
    pub this_vid : is_there (perform s (clear_vlan vid)).core.settings.vlans vid ≡ false
    pub other_vids : (v : ℕ) → (v ≡ vid → ⊥)
        → (is_there (perform s (clear_vlan vid)).core.settings.vlans v ≡ is_there before.vlans v)
        × (vlan_of (perform s (clear_vlan vid)).core.settings.vlans v ≡ vlan_of before.vlans v)
    pub ports : SamePorts (perform s (clear_vlan vid)).core.settings before
    pub queue_map : SameMap (perform s (clear_vlan vid)).core.settings before
    pub switches : SameSwitches (perform s (clear_vlan vid)).core.settings before
    pub handling : SameBpdu (perform s (clear_vlan vid)).core.settings before
    pub table : (perform s (clear_vlan vid)).core.table ≡ s.core.table

  pub record MapSets (c : MapRequest) (allowed : Allowed s (map c)) : Type 0 where
    pub quiet : Quiet s (perform s (map c))
    pub this_pcp : (perform s (map c)).core.settings.queue_of c.pcp ≡ c.queue
    pub other_pcps : (pcp : ℕ) → (pcp ≡ c.pcp → ⊥)
        → (perform s (map c)).core.settings.queue_of pcp ≡ before.queue_of pcp
    pub ports : SamePorts (perform s (map c)).core.settings before
    pub vlans : SameVlans (perform s (map c)).core.settings before
    pub switches : SameSwitches (perform s (map c)).core.settings before
    pub handling : SameBpdu (perform s (map c)).core.settings before
    pub table : (perform s (map c)).core.table ≡ s.core.table

  pub record SwitchSets (c : SwitchRequest) (allowed : Allowed s (queue_switch c)) : Type 0 where
    pub quiet : Quiet s (perform s (queue_switch c))
    pub turned_on : c.on ≡ 1 → (perform s (queue_switch c)).core.settings.queue_on c.port c.queue ≡ true
    pub turned_off : c.on ≡ 0 → (perform s (queue_switch c)).core.settings.queue_on c.port c.queue ≡ false
    pub other_ports : (r q : ℕ) → (r ≡ c.port → ⊥)
        → (perform s (queue_switch c)).core.settings.queue_on r q ≡ before.queue_on r q
    pub other_queues : (q : ℕ) → (q ≡ c.queue → ⊥)
        → (perform s (queue_switch c)).core.settings.queue_on c.port q ≡ before.queue_on c.port q
    pub ports : SamePorts (perform s (queue_switch c)).core.settings before
    pub vlans : SameVlans (perform s (queue_switch c)).core.settings before
    pub queue_map : SameMap (perform s (queue_switch c)).core.settings before
    pub handling : SameBpdu (perform s (queue_switch c)).core.settings before
    pub table : (perform s (queue_switch c)).core.table ≡ s.core.table

  pub record BpduSets (on : ℕ) (allowed : Allowed s (bpdu on)) : Type 0 where
    pub quiet : Quiet s (perform s (bpdu on))
    pub turned_on : on ≡ 1 → (perform s (bpdu on)).core.settings.bpdu_handling ≡ true
    pub turned_off : on ≡ 0 → (perform s (bpdu on)).core.settings.bpdu_handling ≡ false
    pub ports : SamePorts (perform s (bpdu on)).core.settings before
    pub vlans : SameVlans (perform s (bpdu on)).core.settings before
    pub queue_map : SameMap (perform s (bpdu on)).core.settings before
    pub switches : SameSwitches (perform s (bpdu on)).core.settings before
    pub table : (perform s (bpdu on)).core.table ≡ s.core.table

  -- the address calls change the table as `rules/specs/AddressTheorems` says, under the key of the GID and the address
  -- that were handed over
  pub record StaticSets (c : StaticRequest) (allowed : Allowed s (static c)) : Type 0 where
    pub quiet : Quiet s (perform s (static c))
    pub table : (perform s (static c)).core.table ≡ set_static s.core.table (key c.gid c.address) c.port
    pub settings : (perform s (static c)).core.settings ≡ before

  pub record Removes (c : RemoveRequest) (allowed : Allowed s (remove c)) : Type 0 where
    pub quiet : Quiet s (perform s (remove c))
    pub table : (perform s (remove c)).core.table ≡ Addresses.remove s.core.table (key c.gid c.address)
    pub settings : (perform s (remove c)).core.settings ≡ before

  pub record Ages : Type 0 where
    pub counts_nothing : (perform s age).events ≡ []
    pub waiting_stays : (perform s age).core.waiting ≡ s.core.waiting
    pub table : (perform s age).core.table ≡ Addresses.aged s.core.table
    pub settings : (perform s age).core.settings ≡ before

pub record Mapped (queue_of : ℕ → ℕ) : Type 0 where
  pub pcp_0 : queue_of 0 ≡ 0
  pub pcp_1 : queue_of 1 ≡ 0
  pub pcp_2 : queue_of 2 ≡ 1
  pub pcp_3 : queue_of 3 ≡ 1
  pub pcp_4 : queue_of 4 ≡ 2
  pub pcp_5 : queue_of 5 ≡ 2
  pub pcp_6 : queue_of 6 ≡ 3
  pub pcp_7 : queue_of 7 ≡ 3

-- "Fresh: VID 1 with all ports, GID 0, no operation; ports Disabled, assignment 1, default VID 1, PCP and DEI 0, no
-- flags, no operation; queues on; BPDU handling on; counters 0; no address known; all cells free"; "fresh map PCP / 2
-- rounded down"
pub record FreshIs (n : ℕ) : Type 0 where
  pub one_vlan : (v : Vlan) × ((fresh n).core.settings.vlans ≡ v ∷ []) × (v.vid ≡ 1) × (v.gid ≡ 0)
      × (v.operation ≡ no_operation)
      × ((p : ℕ) → p ≤ 4 → v.member p ≡ true)
  pub port_state : (p : ℕ) → ((fresh n).core.settings.port p).state ≡ disabled
  pub port_assignment : (p : ℕ) → ((fresh n).core.settings.port p).assignment ≡ 1
  pub port_default : (p : ℕ) → ((fresh n).core.settings.port p).default ≡ record { pcp = 0; dei = 0; vid = 1 }
  pub port_bars_none : (p t : ℕ) → ((fresh n).core.settings.port p).bars t ≡ false
  pub port_operation_law : (p : ℕ) → ((fresh n).core.settings.port p).operation ≡ no_operation
  pub queue_map : Mapped (fresh n).core.settings.queue_of
  pub queues_on : (p q : ℕ) → (fresh n).core.settings.queue_on p q ≡ true
  pub handling_on : (fresh n).core.settings.bpdu_handling ≡ true
  pub no_address : (i : ℕ) → (fresh n).core.table i ≡ none
  pub nothing_waits : (fresh n).core.waiting ≡ []
  pub counters_zero : (p k : ℕ) → (fresh n).counters p k ≡ 0
  pub cell_count_law : (fresh n).cell_count ≡ n

pub record SettingTheorems : Type 0 where
  pub port_sets : (s : State) (c : PortRequest) (allowed : Allowed s (port c)) → PortSets s c allowed
  pub vlan_sets : (s : State) (n : VlanNumbers) (allowed : Allowed s (vlan n)) → VlanSets s n allowed
  pub vlan_clears : (s : State) (vid : ℕ) (allowed : Allowed s (clear_vlan vid)) → VlanClears s vid allowed
  pub map_sets : (s : State) (c : MapRequest) (allowed : Allowed s (map c)) → MapSets s c allowed
  pub switch_sets : (s : State) (c : SwitchRequest) (allowed : Allowed s (queue_switch c)) → SwitchSets s c allowed
  pub bpdu_sets : (s : State) (on : ℕ) (allowed : Allowed s (bpdu on)) → BpduSets s on allowed
  pub static_sets : (s : State) (c : StaticRequest) (allowed : Allowed s (static c)) → StaticSets s c allowed
  pub removes : (s : State) (c : RemoveRequest) (allowed : Allowed s (remove c)) → Removes s c allowed
  pub ages : (s : State) → Ages s
  pub fresh_is : (n : ℕ) → FreshIs n
