-- Memory in which every word that a frame-in may meet is in the layout paper's range.
-- Assumes nothing: these are definitions.
use Rattle.std.specs.Prelude.{ℕ, ◌≤◌, ◌<◌, ◌≡◌, true, List, get_or, Err}
use Rattle.layout.specs.Places.{port_word, vlan_operation_word}
use Rattle.layout.specs.Lengths.{cell_count}
use Rattle.settings.specs.Operations.{is_operation_word}
use Rattle.settings.specs.Ports.{is_vid_word}
use Rattle.settings.specs.States.{is_states_word}
use Rattle.settings.specs.Switches.{is_switches_word}
use Rattle.settings.specs.Maps.{is_map_word}
use Rattle.settings.specs.Records.{states_at}
use Rattle.settings.specs.Table.{vlan_count, entry_at}
use Rattle.settings.specs.SettingsOf.{map_at, switches_at}
use Rattle.addresses.specs.Numbers.{all_in_range}
use Rattle.cells.specs.Free.{room_for}
use Rattle.queues.specs.Lists.{waiting_of}

pub record InRange (links addresses : List ℕ) : Type 0 where
  pub map : is_map_word (map_at links) ≡ true
  pub switches : is_switches_word (switches_at links) ≡ true
  pub states : is_states_word (states_at links) ≡ true
  pub ports : (p : ℕ) → p < 5 → is_vid_word (get_or links (port_word p) 0) ≡ true
  pub vlan_count_law : vlan_count links ≤ 16
  pub vlans : (e : ℕ) → e < vlan_count links → is_vid_word (entry_at links e) ≡ true
  pub vlan_operations : (e : ℕ) → e < vlan_count links → is_operation_word (get_or links (vlan_operation_word e) 0) ≡ true
  pub places : all_in_range addresses ≡ true
  -- the free cells are as many as they are said to be
  pub cells : (k : ℕ) → room_for (cell_count links) k links ≡ Err (record {}) → ⊥
  pub queues : (p : ℕ) → p < 5 → waiting_of links p < 16
