-- Settings in range stay in range where their words are kept, and a word that is written is in range. Assumes nothing.
use Prim.Native.Nat.{ℕ, ◌≤◌, ◌<◌}
use mathlib.Core.Path.{◌≡◌, sym}
use mathlib.Core.Bool.{Bool, true}
use mathlib.Core.List.{List}
use native.Mathlib.Omega.{arith}
use borrow.Author.Tests.{eqb-true, eqb-false}
use lib.Dec.{eqb}
use lib.ListN.{length, set}
use lib.Seq.{get_or-set_same, get_or-set_other}
use Rattle.rules.specs.Arguments.{PortNumbers, port_in_range}
use Rattle.rules.proofs.Choice.{on}
use Rattle.layout.specs.Places.{fixed_words, map_word, switches_word, vlan_count_word, states_word, port_word, port_operation_word, vlan_word, vlan_operation_word}
use Rattle.settings.specs.States.{is_states_word}
use Rattle.settings.specs.Switches.{is_switches_word, with_switch}
use Rattle.settings.specs.Maps.{is_map_word, with_queue, with_bpdu}
use Rattle.settings.proofs.RangeLaws.{port_range}
use Rattle.settings.proofs.OperationLaws.{range_good}
use Rattle.settings.proofs.PortLaws.{port_word_good}
use Rattle.settings.proofs.StateLaws.{state_good}
use Rattle.settings.proofs.SwitchLaws.{switch_good}
use Rattle.settings.proofs.MapLaws.{queue_good, bpdu_good}
use Rattle.settings.specs.Records.{states_at, port_written}
use Rattle.settings.proofs.RecordLaws.{port_keeps, states_written, own_written, operation_written}
use Rattle.settings.specs.Table.{vlan_count}
use Rattle.settings.specs.SettingsOf.{map_at, switches_at}
use Rattle.standing.specs.Stands.{SettingsInRange}

module _ (l : List ℕ) (long : fixed_words ≤ length l) (range : SettingsInRange l) where
  -- ---- a port

  pub port_in_range_law : (p : ℕ) (n : PortNumbers) → p < 5 → port_in_range n ≡ true → SettingsInRange (port_written l p n)
  port_in_range_law p n hp good =
      let r = port_range n good in
      let count = port_keeps l p n vlan_count_word (λ e. omega arith) (λ e. omega arith) (λ e. omega arith) in
      record {
        map = rw (port_keeps l p n map_word (λ e. omega arith) (λ e. omega arith) (λ e. omega arith)) range.map;
        switches = rw (port_keeps l p n switches_word (λ e. omega arith) (λ e. omega arith) (λ e. omega arith)) range.switches;
        states = rw (states_written l p n long hp) (state_good (states_at l) p n.state hp r.state range.states);
        ports = λ j hj. on (eqb j p)
            (λ same. rw (eqb-true j p same, own_written l p n long hp) (port_word_good n good))
            (λ other.
            rw (port_keeps l p n (port_word j) (λ e. omega arith) (λ e. eqb-false j p other (omega arith)) (λ e. omega arith)) (range.ports j hj));
        operations = λ j hj. on (eqb j p)
            (λ same. rw (eqb-true j p same, operation_written l p n long hp) (range_good n.operation r.operation))
            (λ other.
            rw (port_keeps l p n (port_operation_word j) (λ e. omega arith) (λ e. omega arith) (λ e. eqb-false j p other (omega arith)))
            (range.operations j hj));
        vlan_count_law = rw count range.vlan_count_law;
        vlans = λ e he.
            let used : e < vlan_count l = omega (arith, count) in
            let few : e < 16 = omega (arith, used, range.vlan_count_law) in
            rw (port_keeps l p n (vlan_word e) (λ z. omega arith) (λ z. omega arith) (λ z. omega arith)) (range.vlans e used);
        vlan_operations = λ e he.
            let used : e < vlan_count l = omega (arith, count) in
            let few : e < 16 = omega (arith, used, range.vlan_count_law) in
            rw (port_keeps l p n (vlan_operation_word e) (λ z. omega arith) (λ z. omega arith) (λ z. omega arith)) (range.vlan_operations e used);
      }

  -- ---- a word before the VLANs', but not their count

  word_in_range :
      (at v : ℕ) → at < vlan_word 0 → (at ≡ vlan_count_word → ⊥)
      → is_map_word (map_at (set l at v)) ≡ true → is_switches_word (switches_at (set l at v)) ≡ true → is_states_word (states_at (set l at v)) ≡ true
      → SettingsInRange (set l at v)
  word_in_range at v low apart map switches states =
      let count = get_or-set_other l at vlan_count_word v 0 (λ e. apart (sym e)) in
      record {
        map = map;
        switches = switches;
        states = states;
        ports = λ p h. rw (get_or-set_other l at (port_word p) v 0 (λ e. omega arith)) (range.ports p h);
        operations = λ p h. rw (get_or-set_other l at (port_operation_word p) v 0 (λ e. omega arith)) (range.operations p h);
        vlan_count_law = rw count range.vlan_count_law;
        vlans = λ e he.
            let used : e < vlan_count l = omega (arith, count) in
            rw (get_or-set_other l at (vlan_word e) v 0 (λ z. omega arith)) (range.vlans e used);
        vlan_operations = λ e he.
            let used : e < vlan_count l = omega (arith, count) in
            rw (get_or-set_other l at (vlan_operation_word e) v 0 (λ z. omega arith)) (range.vlan_operations e used);
      }

  map_word_in_range : (v : ℕ) → is_map_word v ≡ true → SettingsInRange (set l map_word v)
  map_word_in_range v good =
      word_in_range map_word v (omega arith) (λ e. omega arith)
      (rw (get_or-set_same l map_word v 0 (omega arith)) good)
      (rw (get_or-set_other l map_word switches_word v 0 (λ e. omega arith)) range.switches)
      (rw (get_or-set_other l map_word states_word v 0 (λ e. omega arith)) range.states)

  pub map_in_range : (pcp queue : ℕ) → pcp < 8 → SettingsInRange (set l map_word (with_queue (map_at l) pcp queue))
  map_in_range pcp queue h = map_word_in_range (with_queue (map_at l) pcp queue) (queue_good (map_at l) pcp queue h range.map)

  pub bpdu_in_range : (on : Bool) → SettingsInRange (set l map_word (with_bpdu (map_at l) on))
  bpdu_in_range state = map_word_in_range (with_bpdu (map_at l) state) (bpdu_good (map_at l) state range.map)

  pub switch_in_range : (p q : ℕ) (on : Bool) → p < 5 → q < 4 → SettingsInRange (set l switches_word (with_switch (switches_at l) p q on))
  switch_in_range p q state hp hq =
      let v = with_switch (switches_at l) p q state in
      word_in_range switches_word v (omega arith) (λ e. omega arith)
      (rw (get_or-set_other l switches_word map_word v 0 (λ e. omega arith)) range.map)
      (rw (get_or-set_same l switches_word v 0 (omega arith)) (switch_good (switches_at l) p q state hp hq range.switches))
      (rw (get_or-set_other l switches_word states_word v 0 (λ e. omega arith)) range.states)
