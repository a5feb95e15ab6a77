-- The layout paper's settings: what the words of a port and of a VLAN entry say, and the words that say it.
-- Assumes nothing: these are definitions.
use Rattle.std.specs.Prelude.{ℕ, List, [], ◌∷◌, get_or, set}
use Rattle.std.proofs.lemmas.List.Edits.{sets}
use Rattle.rules.specs.Arguments.{PortNumbers, VlanNumbers}
use Rattle.layout.specs.Places.{states_word, port_word, port_operation_word, vlan_word, vlan_operation_word}
use Rattle.settings.specs.Operations.{operation_word}
use Rattle.settings.specs.Ports as Packed
use Rattle.settings.specs.States.{with_state}
use Rattle.settings.specs.Settings.{port_of_words, vlan_of_words}

-- ---- what stands in link memory

abbrev pub states_at : List ℕ → ℕ
states_at links = get_or links states_word 0

abbrev pub port_operation_at : List ℕ → ℕ → ℕ
port_operation_at links port = get_or links (port_operation_word port) 0

abbrev pub port_at : List ℕ → ℕ → PortNumbers
port_at links port = port_of_words (states_at links) (get_or links (port_word port) 0) (port_operation_at links port) port

abbrev pub vlan_at : List ℕ → ℕ → VlanNumbers
vlan_at links entry = vlan_of_words (get_or links (vlan_word entry) 0) (get_or links (vlan_operation_word entry) 0)

-- ---- the words of a port and of a VLAN entry, in their order

abbrev pub port_words : PortNumbers → List ℕ
port_words n = Packed.port_word n ∷ operation_word n.operation ∷ []

abbrev pub vlan_words : VlanNumbers → List ℕ
vlan_words n = Packed.vlan_word n ∷ operation_word n.operation ∷ []

-- a port's settings written: its state among the states, and its two words
unfoldable pub port_written : List ℕ → ℕ → PortNumbers → List ℕ
port_written links port new =
    sets (set links states_word (with_state (states_at links) port new.state)) (port_word port) (port_words new)
