-- When lent memories stand for a state of the machine: part by part, and all of them. Assumes nothing: these are
-- definitions.
use Rattle.std.specs.Prelude.{ℕ, ◌≤◌, ◌<◌, ◌≡◌, true, List, get_or}
use Rattle.rules.specs.Choice.{Distinct}
use Rattle.rules.specs.Settings.{Settings}
use Rattle.rules.specs.Addresses.{Table}
use Rattle.rules.specs.Numbers.{last_counter}
use Rattle.machine.specs.Events.{Counts}
use Rattle.machine.specs.State.{State}
use Rattle.machine.specs.Demands.{vids}
use Rattle.layout.specs.Places.{port_word, vlan_operation_word}
use Rattle.layout.specs.Lengths.{cell_count, links_fit, cells_fit, addresses_fit}
use Rattle.settings.specs.Operations.{is_operation_word}
use Rattle.settings.specs.Ports.{is_vid_word}
use Rattle.settings.specs.States.{is_states_word}
use Rattle.settings.specs.Switches.{is_switches_word}
use Rattle.settings.specs.Maps.{is_map_word}
use Rattle.settings.specs.Records.{states_at, port_operation_at}
use Rattle.settings.specs.Table.{vlan_count, entry_at}
use Rattle.settings.specs.SettingsOf.{map_at, switches_at, settings_of}
use Rattle.layout.specs.Counters.{counter_at}
use Rattle.addresses.specs.Numbers.{table_of, all_in_range}
use Rattle.standing.specs.Traffic.{Traffic}
use Rattle.gufhrandi.specs.Memories.{Memories}

-- the settings' words are in the layout paper's ranges
pub record SettingsInRange (links : List ℕ) : Type 0 where
  pub map : is_map_word (map_at links) ≡ true
  pub switches : is_switches_word (switches_at links) ≡ true
  pub states : is_states_word (states_at links) ≡ true
  pub ports : (p : ℕ) → p < 5 → is_vid_word (get_or links (port_word p) 0) ≡ true
  pub operations : (p : ℕ) → p < 5 → is_operation_word (port_operation_at links p) ≡ true
  pub vlan_count_law : vlan_count links ≤ 16
  pub vlans : (e : ℕ) → e < vlan_count links → is_vid_word (entry_at links e) ≡ true
  pub vlan_operations : (e : ℕ) → e < vlan_count links → is_operation_word (get_or links (vlan_operation_word e) 0) ≡ true

pub record SettingsStand (links : List ℕ) (s : Settings) : Type 0 where
  pub says : settings_of links ≡ s
  pub in_range : SettingsInRange links
  -- "one entry a VID"
  pub once : Distinct (vids s.vlans)

pub record AddressesStand (addresses : List ℕ) (t : Table) : Type 0 where
  pub fit : addresses_fit addresses ≡ true
  pub says : table_of addresses ≡ t
  pub in_range : all_in_range addresses ≡ true

-- a counter for each number 0 to 20 of each port
abbrev pub CountersStand : List ℕ → Counts → Type 0
CountersStand links counts = (p k : ℕ) → p < 5 → k ≤ last_counter → counter_at links p k ≡ counts p k

pub record Stands (m : Memories) (s : State) : Type 0 where
  pub links_fit_law : links_fit m.links ≡ true
  pub cells_fit_law : cells_fit m.cells m.links ≡ true
  pub cell_count_law : cell_count m.links ≡ s.cell_count
  pub settings : SettingsStand m.links s.core.settings
  pub addresses : AddressesStand m.addresses s.core.table
  pub counters : CountersStand m.links s.counters
  pub traffic : Traffic s.cell_count m.cells m.links s.core.waiting
