-- The words of a fresh switch. Assumes nothing: these are definitions.
use Rattle.std.specs.Prelude.{ℕ}

-- ---- all states Disabled, all switches on, queue pcp / 2, BPDU handling on

abbrev pub fresh_states : ℕ
fresh_states = 31

abbrev pub fresh_switches : ℕ
fresh_switches = 0x1F1F_1F1F

abbrev pub fresh_map : ℕ
fresh_map = 0x1_FA50

abbrev pub fresh_port_word : ℕ
fresh_port_word = 513

abbrev pub fresh_vlan_word : ℕ
fresh_vlan_word = 543

abbrev pub fresh_operation_word : ℕ
fresh_operation_word = 160
