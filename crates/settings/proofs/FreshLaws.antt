-- The words of a fresh switch: in range, and what they hold. Assumes nothing.
use Rattle.std.proofs.Common.{◌≡◌, ℕ, ◌+◌, ◌*◌, ◌/◌, ◌%◌, ◌<◌, Bool, true, ◌||◌, eqb, leb, refl, arith, eqb-true}
use Rattle.std.proofs.lemmas.Bool.Decides.{nat_tests}
use Rattle.rules.specs.Arguments.{OperationNumbers, bit}
use Rattle.layout.proofs.BitLaws.{five, all, each}
use Rattle.settings.specs.Operations.{operation_in, is_operation_word}
use Rattle.settings.specs.Ports.{port_in, vlan_in, is_vid_word}
use Rattle.settings.specs.States.{state_in, state_number, is_states_word}
use Rattle.settings.specs.Switches.{switch_in, is_switches_word}
use Rattle.settings.specs.Maps.{queue_in, bpdu_in, is_map_word}
use Rattle.settings.specs.Fresh.{fresh_states, fresh_switches, fresh_map, fresh_port_word, fresh_vlan_word, fresh_operation_word}

pub fresh_states_law : (is_states_word fresh_states ≡ true) × ((p : ℕ) → p < 5 → state_in fresh_states p ≡ 0)
unfolding is_states_word state_in state_number bit
fresh_states_law = (refl, five (λ p. state_in fresh_states p ≡ 0) refl refl refl refl refl)

pub fresh_switches_good : is_switches_word fresh_switches ≡ true
unfolding is_switches_word
fresh_switches_good = refl

-- every port's bit is on
on_test : ℕ → Bool
on_test i = leb 5 (i % 8) || bit fresh_switches i

pub fresh_switches_law : (p q : ℕ) → p < 5 → q < 4 → switch_in fresh_switches p q ≡ true
unfolding switch_in bit all on_test
fresh_switches_law p q h k = grind (arith, nat_tests, each 32 on_test refl (8 * q + p) (omega arith))

queue_test : ℕ → Bool
queue_test pcp = eqb (queue_in fresh_map pcp) (pcp / 2)

pub fresh_map_law : (is_map_word fresh_map ≡ true) × (bpdu_in fresh_map ≡ true) × ((pcp : ℕ) → pcp < 8 → queue_in fresh_map pcp ≡ pcp / 2)
unfolding bpdu_in queue_in bit all queue_test
fresh_map_law = (refl, refl, λ pcp h. eqb-true _ _ (each 8 queue_test refl pcp h))

pub fresh_operation_law :
    (is_operation_word fresh_operation_word ≡ true)
    × (operation_in fresh_operation_word ≡ record { kind = 0; type = 0; vid_source = 2; pcp_source = 2; vid = 0; pcp = 0; dei = 0 })
unfolding operation_in
fresh_operation_law = (refl, refl)

pub fresh_port_law : (o : OperationNumbers)
    → (is_vid_word fresh_port_word ≡ true)
    × (port_in 0 o fresh_port_word ≡ record { state = 0; assignment = 1; vid = 1; pcp = 0; dei = 0; flags = 0; operation = o })
unfolding port_in
fresh_port_law o = (refl, refl)

pub fresh_vlan_law : (o : OperationNumbers)
    → (is_vid_word fresh_vlan_word ≡ true) × (vlan_in o fresh_vlan_word ≡ record { vid = 1; members = 31; gid = 0; operation = o })
unfolding vlan_in
fresh_vlan_law o = (refl, refl)
