-- After a frame-in that met no damage, address memory says the rules' table. Assumes nothing.
use Prim.Native.Nat.{ℕ, ◌^◌, ◌≤◌, ◌<◌}
use mathlib.Core.Path.{◌≡◌, sym, ap, ◌∙◌}
use mathlib.Core.Bool.{Bool, true, false, ◌||◌, not, true≢false}
use mathlib.Core.List.{List}
use Rattle.std.specs.Prelude.{None as none, Some as some, Ok, Err}
use native.Mathlib.Omega.{arith}
use lib.Dec.{eqb}
use lib.ListN.{length, get_or}
use Rattle.std.specs.Prelude.{if◌then◌else◌}
use Rattle.rules.specs.Lines.{first}
use Rattle.rules.specs.Tags.{Bytes, destination, source, tags_of}
use Rattle.rules.specs.declared.reasons.Reason.{Reason}
use Rattle.rules.specs.Settings.{Vlan}
use Rattle.rules.specs.Addresses.{key}
use Rattle.rules.specs.Arguments.{bit, vlan_entry}
use Rattle.rules.specs.Facts.{Facts}
use Rattle.rules.specs.ReasonTable.{reading, entering, rows_of}
use Rattle.rules.specs.Outcomes.{learns, table_after}
use Rattle.rules.proofs.Choice.{on, on_option, or_left, or_right}
use Rattle.rules.proofs.Lines.{first_append_some}
use Rattle.rules.proofs.Parts.{learns_exactly}
use Rattle.layout.specs.Places.{port_word, vlan_operation_word}
use Rattle.settings.specs.Operations.{is_operation_word}
use Rattle.settings.specs.Ports.{is_vid_word, vlan_in}
use Rattle.settings.specs.States.{is_states_word}
use Rattle.settings.specs.Maps.{is_map_word}
use Rattle.settings.specs.Records.{states_at, vlan_at}
use Rattle.settings.specs.Table.{found_vlan}
use Rattle.settings.specs.SettingsOf.{map_at, settings_of}
use Rattle.settings.proofs.FindLaws.{found_there, found_nowhere, on_found}
use Rattle.addresses.specs.Numbers.{table_of}
use Rattle.addresses.specs.Search.{look_up, damaged}
use Rattle.arrival.specs.Arrivals.{port_rules}
use Rattle.arrival.specs.Candidates.{destination_look_up}
use Rattle.frame_in.specs.Met.{unless_dropped, met_member, met_entry, met_table, met_entering, met_frame, met_bpdu, met_port, met}
use Rattle.frame_in.specs.Call.{facts_in, lesson_in, learned_in}
use Rattle.frame_in.proofs.Facts.{facts_port, facts_there, facts_vlan, facts_gid}
use Rattle.frame_in.proofs.Barring.{later_rules, rules_split, rules_later}
use Rattle.frame_in.proofs.Lessons.{address_below, table_is}

some_not_none : {r : Reason} → some r ≡ none → ⊥
some_not_none e = let z : ◌≡◌ {A = ℕ} 0 1 = cc in omega arith

module _ (links addresses frame : List ℕ) (port : ℕ) where
  abbrev f : Facts
  f = facts_in links addresses port frame

  -- nothing is learned
  unlearned : learns f ≡ false → table_of (learned_in links addresses port frame) ≡ table_after f (table_of addresses)
  unfolding learned_in table_after
  unlearned l = rw l

  -- the look-ups took place, in memory without damage
  module _ (learnt : learns f ≡ true) where
    passed : first (rows_of reading f) ≡ none
    passed = ((learns_exactly f).0 learnt).1.read

    ordinary : f.bpdu ≡ false
    ordinary = ((learns_exactly f).0 learnt).0

    free : first (rows_of entering f) ≡ none
    free = ((learns_exactly f).0 learnt).1.entered ordinary

    not_barred : first (port_rules ((settings_of links).port port) (length (tags_of frame))) ≡ none
    not_barred =
        on_option (first (port_rules ((settings_of links).port port) (length (tags_of frame))))
        (λ e. e)
        (λ r e. absurd (some_not_none (sym (ap first (rules_split links addresses frame port) ∙ first_append_some (port_rules ((settings_of links).port port) (length (tags_of frame))) (later_rules f) r e) ∙ free)))

    later : first (later_rules f) ≡ none
    later = sym (rules_later links addresses frame port not_barred) ∙ free

    pub record Known : Type 0 where
      pub there : f.there ≡ true
      pub member : f.vlan.member f.port ≡ true

    known : Known
    unfolding later_rules first
    known =
        on (eqb f.vid 4095)
        (λ a. absurd (some_not_none (rw a at later)))
        (λ a. on f.there
        (λ b. on (f.vlan.member f.port)
        (λ c. record { there = b; member = c })
        (λ c. absurd (some_not_none (rw (a, b, c) at later))))
        (λ b. absurd (some_not_none (rw (a, b) at later))))

    module _ (fine : met links addresses port frame ≡ false) where
      abbrev rest : Bool
      rest = if f.bpdu then met_bpdu links frame else met_frame links addresses port frame

      port_met_law : met_port links addresses port frame ≡ false
      unfolding met unless_dropped
      port_met_law = rw passed at fine

      way_met : rest ≡ false
      unfolding met_port
      way_met =
          or_right (not (is_map_word (map_at links))) rest
          (or_right (not (is_vid_word (get_or links (port_word port) 0))) (not (is_map_word (map_at links)) || rest) port_met_law)

      entering_met : met_entering links addresses port frame ≡ false
      unfolding met_frame
      entering_met = or_right (not (is_states_word (states_at links))) (met_entering links addresses port frame) (rw ordinary at way_met)

      table_met : met_table links addresses port frame (found_vlan links f.vid) ≡ false
      unfolding met_entering unless_dropped
      table_met = rw not_barred at entering_met

      not_damaged : found_vlan links f.vid ≡ Err (record {}) → ⊥
      unfolding met_table
      not_damaged e = true≢false (rw e at table_met)

      not_nowhere : found_vlan links f.vid ≡ Ok none → ⊥
      unfolding settings_of
      not_nowhere e = true≢false (sym known.there ∙ facts_there links addresses frame port ∙ found_nowhere links f.vid e)

      module _ (long : length addresses ≡ 4112) (there : port ≤ 4) (each : Bytes frame) (e : ℕ) (found : found_vlan links f.vid ≡ Ok (some e)) where
        entry_met : met_entry links addresses port frame e ≡ false
        unfolding met_table
        entry_met = rw found at table_met

        entry_is_law : f.vlan ≡ vlan_entry (vlan_at links e)
        unfolding settings_of
        entry_is_law = facts_vlan links addresses frame port ∙ (found_there links f.vid e found).is_entry

        member_bit : bit (vlan_at links e).members port ≡ true
        unfolding vlan_entry
        member_bit =
            sym (ap (λ (v : Vlan). v.member port) entry_is_law) ∙ sym (ap f.vlan.member (facts_port links addresses frame port)) ∙ known.member

        gid_is : f.gid ≡ (vlan_at links e).gid
        unfolding vlan_entry
        gid_is = facts_gid links addresses frame port ∙ ap (λ (v : Vlan). v.gid) entry_is_law

        member_met : met_member links addresses port frame (vlan_at links e) ≡ false
        unfolding met_entry
        member_met = rw member_bit at (or_right (not (is_operation_word (get_or links (vlan_operation_word e) 0))) _ entry_met)

        whole : damaged (destination_look_up addresses (vlan_at links e).gid (destination frame)) ≡ false
        unfolding met_member
        whole = or_left (damaged (destination_look_up addresses (vlan_at links e).gid (destination frame))) _ member_met

        sound : damaged (look_up addresses (key (vlan_at links e).gid (source frame))) ≡ false
        unfolding met_member
        sound =
            or_left (damaged (look_up addresses (key (vlan_at links e).gid (source frame)))) _
            (or_right (damaged (destination_look_up addresses (vlan_at links e).gid (destination frame))) _ member_met)

        small : key (vlan_at links e).gid (source frame) < 2 ^ 52
        unfolding key source vlan_in
        small = omega (arith, address_below frame 6 each)

        learned_at : learned_in links addresses port frame ≡ (lesson_in addresses (vlan_at links e).gid port frame).1
        unfolding learned_in
        learned_at = rw (learnt, gid_is)

        learned_table : table_of (learned_in links addresses port frame) ≡ table_after f (table_of addresses)
        unfolding table_after
        learned_table =
            ap table_of learned_at
            ∙ rw learnt (table_is links addresses frame port (vlan_at links e).gid gid_is whole long sound small there)

-- whatever the frame: the table that the machine goes on with
pub table_stands :
    (links addresses frame : List ℕ) (port : ℕ) → length addresses ≡ 4112 → port ≤ 4 → Bytes frame → met links addresses port frame ≡ false
    → table_of (learned_in links addresses port frame) ≡ table_after (facts_in links addresses port frame) (table_of addresses)
table_stands links addresses frame port long there each fine =
    on (learns (facts_in links addresses port frame))
    (λ l. on_found (found_vlan links (facts_in links addresses port frame).vid)
    (λ d. absurd (not_damaged links addresses frame port l fine d))
    (λ d. absurd (not_nowhere links addresses frame port l fine d))
    (λ e d. learned_table links addresses frame port l fine long there each e d))
    (λ l. unlearned links addresses frame port l)
