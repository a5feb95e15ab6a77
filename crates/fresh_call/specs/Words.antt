-- The layout paper's column "fresh": link memory of a fresh switch with n cells, word after word. Assumes nothing:
-- these are definitions.
use Rattle.std.specs.Prelude.{ℕ, zero, suc, ◌+◌, List, [], ◌∷◌, ◌++◌, ltb, replicate, if◌then◌else◌}
use Rattle.settings.specs.Fresh.{fresh_map, fresh_switches, fresh_states}
use Rattle.settings.specs.Records.{port_words, vlan_words}
use Rattle.settings.specs.SettingsOf.{fresh_port, fresh_vlan}

-- so many words of one value
unfoldable pub copies : ℕ → ℕ → List ℕ
copies count value = replicate count value

-- ---- the words of the whole switch

-- the cell count, the map, the switches, free cells, the first free cell, VLANs in use
unfoldable pub fresh_front : ℕ → List ℕ
fresh_front n = n ∷ fresh_map ∷ fresh_switches ∷ n ∷ 0 ∷ 1 ∷ []

-- behind them the states, between words that are not used
unfoldable pub fresh_switch : ℕ → List ℕ
fresh_switch n = fresh_front n ++ (copies 2 0 ++ (fresh_states ∷ copies 23 0))

-- ---- VLANs, ports

-- VLAN entry 0; the other entries and the unused words are 0
unfoldable pub fresh_vlans : List ℕ
fresh_vlans = vlan_words fresh_vlan ++ copies 350 0

-- a port's record: its counters, its two words, and words that are not used
unfoldable pub fresh_port_record : List ℕ
fresh_port_record = copies 32 0 ++ (port_words fresh_port ++ copies 94 0)

-- so many ports
unfoldable pub fresh_ports : ℕ → List ℕ
fresh_ports zero = []
fresh_ports (suc left) = fresh_port_record ++ fresh_ports left

-- ---- the cells' records

-- the free list: each cell's next is the one after it, the last one's is 0
unfoldable pub fresh_next : ℕ → ℕ → ℕ
fresh_next n cell = if ltb (cell + 1) n then (cell + 1) else 0

unfoldable pub fresh_cell : ℕ → List ℕ
fresh_cell next = next ∷ copies 19 0

-- so many cells, from one on
unfoldable pub fresh_cells : ℕ → ℕ → ℕ → List ℕ
fresh_cells zero n cell = []
fresh_cells (suc left) n cell = fresh_cell (fresh_next n cell) ++ fresh_cells left n (cell + 1)

-- ---- all words

unfoldable pub fresh_links : ℕ → List ℕ
fresh_links n = fresh_switch n ++ (fresh_vlans ++ (fresh_ports 5 ++ fresh_cells n n 0))
