-- A port is three words and a VLAN two: what a call writes is what is read, the other ports keep theirs, and words in range are the
-- rules' settings. Assumes nothing.
use Rattle.std.proofs.Common.{◌≡◌, ℕ, ◌<◌, true, arith}
use Rattle.rules.specs.Arguments.{PortNumbers, port_in_range, VlanNumbers, vlan_in_range}
use Rattle.settings.specs.Operations.{operation_word, is_operation_word}
use Rattle.settings.specs.Ports.{port_word, is_vid_word, vlan_word}
use Rattle.settings.specs.States.{with_state}
use Rattle.settings.specs.Settings.{port_of_words, vlan_of_words}
use Rattle.settings.proofs.RangeLaws.{port_range, vlan_range}
use Rattle.settings.proofs.OperationLaws.{range_back, operation_in_range_law}
use Rattle.settings.proofs.PortLaws.{port_back, port_in_range_law, vlan_back, vlan_in_range_law}
use Rattle.settings.proofs.StateLaws.{state_set, state_kept, state_small}

pub port_words_back :
    (states port : ℕ) (n : PortNumbers) → port < 5 → port_in_range n ≡ true
    → port_of_words (with_state states port n.state) (port_word n) (operation_word n.operation) port ≡ n
port_words_back states port n h good = grind (arith, port_range, state_set, range_back, port_back)

pub other_port_kept :
    (states port state own operation other : ℕ) → port < 5 → other < 5 → (other ≡ port → ⊥)
    → port_of_words (with_state states port state) own operation other ≡ port_of_words states own operation other
other_port_kept states port state own operation other h k o = grind (arith, state_kept)

pub port_words_good :
    (states own operation port : ℕ) → is_vid_word own ≡ true → is_operation_word operation ≡ true
    → port_in_range (port_of_words states own operation port) ≡ true
port_words_good states own operation port v o = grind (arith, port_in_range_law, state_small, operation_in_range_law)

pub vlan_words_back : (n : VlanNumbers) → vlan_in_range n ≡ true → vlan_of_words (vlan_word n) (operation_word n.operation) ≡ n
vlan_words_back n good = grind (arith, vlan_range, range_back, vlan_back)

pub vlan_words_good :
    (own operation : ℕ) → is_vid_word own ≡ true → is_operation_word operation ≡ true → vlan_in_range (vlan_of_words own operation) ≡ true
vlan_words_good own operation v o = grind (arith, vlan_in_range_law, operation_in_range_law)
