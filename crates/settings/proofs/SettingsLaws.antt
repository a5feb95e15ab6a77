-- What a write makes of the settings: the one thing that it sets is changed, and the others are kept. Assumes nothing.
use Rattle.std.proofs.Common.{◌≡◌, ℕ, ◌+◌, ◌<◌, ◌≤◌, Bool, true, List, [], ◌∷◌, ◌++◌, length, set, take, drop, replicate, arith}
use Rattle.std.proofs.lemmas.Bool.Decides.{nat_tests}
use Rattle.std.proofs.lemmas.Grind.{common_steps}
use Rattle.std.proofs.lemmas.List.Edits.{sets}
use mathlib.Core.Path.{fun_ext}
use Rattle.slices.proofs.Runs.{get_d_sets_before, get_d_sets_after}
use Rattle.rules.specs.Choice.{changed}
use Rattle.rules.specs.Settings.{Vlan, Settings}
use Rattle.rules.specs.Arguments.{PortNumbers, port_in_range, VlanNumbers, vlan_in_range, port_of, vlan_entry}
use Rattle.layout.specs.Places.{fixed_words, map_word, switches_word, vlan_count_word, states_word, port_record, vlan_word}
use Rattle.settings.specs.Maps.{bpdu_in, with_queue, with_bpdu}
use Rattle.settings.specs.Switches.{with_switch}
use Rattle.settings.proofs.MapLaws.{queue_set, queue_kept, queue_keeps_bpdu, bpdu_set, bpdu_keeps_queue}
use Rattle.settings.proofs.SwitchLaws.{switch_set, switch_kept}
use Rattle.settings.specs.Records.{port_written, vlan_words}
use Rattle.settings.proofs.RecordLaws.{port_keeps, port_read_back, port_elsewhere}
use Rattle.settings.specs.Table.{vlan_count, later_words, added_vlan, cleared_vlan}
use Rattle.settings.proofs.TableLaws.{same_vlans, vlans_replaced, vlans_added, vlans_cleared, run_length}
use Rattle.settings.specs.SettingsOf.{ports_of, queues_of, switch_of, switches_of, map_at, switches_at, vlans_of, settings_of}
use Rattle.settings.proofs.SettingsAlike.{changed_is, ports_alike}

-- ---- a port

module _ (l : List ℕ) (p : ℕ) (n : PortNumbers) (long : fixed_words ≤ length l) (h : p < 5) (good : port_in_range n ≡ true) where
  port_changed : ports_of (port_written l p n) ≡ changed p (port_of n) (ports_of l)
  unfolding ports_of
  port_changed =
      changed_is p (port_of n) (ports_of l) (ports_of (port_written l p n))
      (grind (arith, nat_tests, port_read_back l p n long h good))
      (λ j o. grind (arith, nat_tests, port_elsewhere l p n long h j))

  vlans_same : vlans_of (port_written l p n) ≡ vlans_of l
  vlans_same =
      same_vlans l (port_written l p n) (grind (arith, port_keeps)) (λ e k. grind (arith, port_keeps))

  pub port_written_law :
      settings_of (port_written l p n)
      ≡ record {
        port = changed p (port_of n) (settings_of l).port;
        vlans = (settings_of l).vlans;
        queue_of = (settings_of l).queue_of;
        queue_on = (settings_of l).queue_on;
        bpdu_handling = (settings_of l).bpdu_handling;
      }
  unfolding settings_of
  port_written_law = grind (arith, port_changed, vlans_same, port_keeps)

-- ---- one word before the VLANs' written: all that does not stand in it is kept

module _ (l : List ℕ) (at v : ℕ) (low : at < vlan_word 0) where
  word_keeps_ports : (at ≡ states_word → ⊥) → ports_of (set l at v) ≡ ports_of l
  word_keeps_ports o =
      ports_alike l (set l at v) (grind (arith, common_steps)) (λ p h. grind (arith, common_steps)) (λ p h. grind (arith, common_steps))

  word_keeps_vlans : (at ≡ vlan_count_word → ⊥) → vlans_of (set l at v) ≡ vlans_of l
  word_keeps_vlans o = same_vlans l (set l at v) (grind (arith, common_steps)) (λ e k. grind (arith, common_steps))

-- ---- the map's word: the queue of a PCP, and BPDU handling

module _ (l : List ℕ) (v : ℕ) (long : fixed_words ≤ length l) where
  pub map_set :
      settings_of (set l map_word v)
      ≡ record {
        port = (settings_of l).port;
        vlans = (settings_of l).vlans;
        queue_of = queues_of v;
        queue_on = (settings_of l).queue_on;
        bpdu_handling = bpdu_in v;
      }
  unfolding settings_of
  map_set = grind (arith, common_steps, word_keeps_ports, word_keeps_vlans)

queue_changed : (word pcp queue : ℕ) → pcp < 8 → queue ≤ 3 → queues_of (with_queue word pcp queue) ≡ changed pcp queue (queues_of word)
unfolding queues_of
queue_changed word pcp queue h small =
    changed_is pcp queue (queues_of word) (queues_of (with_queue word pcp queue))
    (grind (arith, nat_tests, queue_set)) (λ j o. grind (arith, nat_tests, queue_kept word pcp queue j))

pub queue_written_law :
    (l : List ℕ) (pcp queue : ℕ) → fixed_words ≤ length l → pcp < 8 → queue ≤ 3
    → settings_of (set l map_word (with_queue (map_at l) pcp queue))
    ≡ record {
      port = (settings_of l).port;
      vlans = (settings_of l).vlans;
      queue_of = changed pcp queue (settings_of l).queue_of;
      queue_on = (settings_of l).queue_on;
      bpdu_handling = (settings_of l).bpdu_handling;
    }
unfolding settings_of
queue_written_law l pcp queue long h small =
    grind (arith, map_set l (with_queue (map_at l) pcp queue) long, queue_changed, queue_keeps_bpdu)

queues_kept : (word : ℕ) (b : Bool) → queues_of (with_bpdu word b) ≡ queues_of word
unfolding queues_of
queues_kept word b = fun_ext (λ pcp. grind (arith, nat_tests, bpdu_keeps_queue))

pub bpdu_written_law :
    (l : List ℕ) (on : Bool) → fixed_words ≤ length l
    → settings_of (set l map_word (with_bpdu (map_at l) on))
    ≡ record {
      port = (settings_of l).port;
      vlans = (settings_of l).vlans;
      queue_of = (settings_of l).queue_of;
      queue_on = (settings_of l).queue_on;
      bpdu_handling = on;
    }
unfolding settings_of
bpdu_written_law l on long = grind (arith, map_set l (with_bpdu (map_at l) on) long, queues_kept, bpdu_set)

-- ---- a queue's switch

module _ (word p q : ℕ) (b : Bool) (hp : p < 5) (hq : q < 4) where
  switch_changed : switch_of (with_switch word p q b) p ≡ changed q b (switch_of word p)
  unfolding switch_of
  switch_changed =
      changed_is q b (switch_of word p) (switch_of (with_switch word p q b) p)
      (grind (arith, nat_tests, switch_set)) (λ j o. grind (arith, nat_tests, switch_kept word p q p j b))

  switch_elsewhere : (j : ℕ) → j < 5 → (j ≡ p → ⊥) → switch_of (with_switch word p q b) j ≡ switch_of word j
  unfolding switch_of
  switch_elsewhere j hj o = fun_ext (λ i. grind (arith, nat_tests, switch_kept word p q j i b))

  switches_changed : switches_of (with_switch word p q b) ≡ changed p (changed q b (switches_of word p)) (switches_of word)
  unfolding switches_of
  switches_changed =
      changed_is p (changed q b (switches_of word p)) (switches_of word) (switches_of (with_switch word p q b))
      (grind (arith, nat_tests, switch_changed)) (λ j o. grind (arith, nat_tests, switch_elsewhere))

pub switch_written_law :
    (l : List ℕ) (p q : ℕ) (on : Bool) → fixed_words ≤ length l → p < 5 → q < 4
    → settings_of (set l switches_word (with_switch (switches_at l) p q on))
    ≡ record {
      port = (settings_of l).port;
      vlans = (settings_of l).vlans;
      queue_of = (settings_of l).queue_of;
      queue_on = changed p (changed q on ((settings_of l).queue_on p)) (settings_of l).queue_on;
      bpdu_handling = (settings_of l).bpdu_handling;
    }
unfolding settings_of
switch_written_law l p q on long hp hq = grind (arith, common_steps, word_keeps_ports, word_keeps_vlans, switches_changed)

-- ---- the VLAN table

-- the settings with another list of VLANs
abbrev pub with_vlans : List Vlan → Settings → Settings
with_vlans new s =
    record { port = s.port; vlans = new; queue_of = s.queue_of; queue_on = s.queue_on; bpdu_handling = s.bpdu_handling }

-- a run in the table, and the count, keep all the rest
table_kept :
    (l : List ℕ) (at : ℕ) (ws : List ℕ) → vlan_word 0 ≤ at → at + length ws ≤ port_record 0
    → settings_of (sets l at ws) ≡ with_vlans (vlans_of (sets l at ws)) (settings_of l)
unfolding settings_of
table_kept l at ws h k = grind (arith, ports_alike l (sets l at ws), get_d_sets_before {A = ℕ}, get_d_sets_after {A = ℕ})

count_kept : (l : List ℕ) (count : ℕ) → settings_of (set l vlan_count_word count) ≡ with_vlans (vlans_of (set l vlan_count_word count)) (settings_of l)
unfolding settings_of
count_kept l count = grind (arith, common_steps, word_keeps_ports)

pub vlan_replaced :
    (l : List ℕ) (e : ℕ) (n : VlanNumbers) → fixed_words ≤ length l → vlan_in_range n ≡ true → vlan_count l ≤ 16 → e < vlan_count l
    → settings_of (sets l (vlan_word e) (vlan_words n)) ≡ with_vlans (set (vlans_of l) e (vlan_entry n)) (settings_of l)
vlan_replaced l e n long good few there = grind (arith, table_kept l (vlan_word e) (vlan_words n), vlans_replaced)

pub vlan_added_law :
    (l : List ℕ) (n : VlanNumbers) → fixed_words ≤ length l → vlan_in_range n ≡ true → vlan_count l < 16
    → settings_of (added_vlan l n) ≡ with_vlans (vlans_of l ++ (vlan_entry n ∷ [])) (settings_of l)
unfolding added_vlan
vlan_added_law l n long good few =
    grind (arith, count_kept, table_kept l (vlan_word (vlan_count l)) (vlan_words n), vlans_added l n)

pub vlan_cleared_law :
    (l : List ℕ) (e : ℕ) → fixed_words ≤ length l → e < vlan_count l → vlan_count l ≤ 16
    → settings_of (cleared_vlan l e) ≡ with_vlans (take e (vlans_of l) ++ drop (e + 1) (vlans_of l)) (settings_of l)
unfolding cleared_vlan
vlan_cleared_law l e long there few =
    grind (arith, count_kept, table_kept l (vlan_word e) (later_words l e ++ replicate 2 0), run_length l e, vlans_cleared l e)
