-- What link memory says: the rules' settings that its words mean. Assumes nothing: these are definitions.
use Rattle.std.specs.Prelude.{ℕ, zero, suc, ◌+◌, ◌/◌, min, Bool, true, List, [], ◌∷◌, ltb, get_or, if◌then◌else◌}
use Rattle.rules.specs.Settings.{Port, Vlan, Settings}
use Rattle.rules.specs.Arguments.{OperationNumbers, PortNumbers, VlanNumbers, port_of, vlan_entry}
use Rattle.layout.specs.Places.{map_word, switches_word}
use Rattle.settings.specs.Maps.{queue_in, bpdu_in}
use Rattle.settings.specs.Switches.{switch_in}
use Rattle.settings.specs.Records.{port_at, vlan_at}
use Rattle.settings.specs.Table.{vlan_count}

-- ---- the layout paper's column "fresh"

unfoldable pub fresh_operation : OperationNumbers
fresh_operation = record { kind = 0; type = 0; vid_source = 2; pcp_source = 2; vid = 0; pcp = 0; dei = 0 }

unfoldable pub fresh_port : PortNumbers
fresh_port = record { state = 0; assignment = 1; vid = 1; pcp = 0; dei = 0; flags = 0; operation = fresh_operation }

unfoldable pub fresh_vlan : VlanNumbers
fresh_vlan = record { vid = 1; members = 31; gid = 0; operation = fresh_operation }

-- ---- the parts

-- Numbers that no port, PCP or queue has are as on a fresh switch: no call reads or changes them.
unfoldable pub ports_of : List ℕ → ℕ → Port
ports_of links port = if ltb port 5 then port_of (port_at links port) else port_of fresh_port

-- by the map's word
unfoldable pub queues_of : ℕ → ℕ → ℕ
queues_of word pcp = if ltb pcp 8 then queue_in word pcp else (pcp / 2)

-- by the switches' word
unfoldable pub switch_of : ℕ → ℕ → ℕ → Bool
switch_of word port queue = if ltb queue 4 then switch_in word port queue else true

unfoldable pub switches_of : ℕ → ℕ → ℕ → Bool
switches_of word port = if ltb port 5 then switch_of word port else (λ queue. true)

abbrev pub map_at : List ℕ → ℕ
map_at links = get_or links map_word 0

abbrev pub switches_at : List ℕ → ℕ
switches_at links = get_or links switches_word 0

-- so many entries, from one on
unfoldable pub vlans_from : ℕ → List ℕ → ℕ → List Vlan
vlans_from zero links entry = []
vlans_from (suc left) links entry = vlan_entry (vlan_at links entry) ∷ vlans_from left links (entry + 1)

-- the entries in use: sixteen at most
unfoldable pub vlans_of : List ℕ → List Vlan
vlans_of links = vlans_from (min (vlan_count links) 16) links 0

unfoldable pub settings_of : List ℕ → Settings
settings_of links =
    record {
      port = ports_of links;
      vlans = vlans_of links;
      queue_of = queues_of (map_at links);
      queue_on = switches_of (switches_at links);
      bpdu_handling = bpdu_in (map_at links);
    }
