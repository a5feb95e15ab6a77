-- An ordinary frame: rules 4 to 9, stage by stage. Assumes nothing.
use Prim.Native.Nat.{ℕ, zero, suc, ◌+◌}
use mathlib.Core.Path.{◌≡◌, refl, sym, ap, ◌∙◌}
use mathlib.Core.Bool.{Bool, true, false, not}
use mathlib.Core.List.{List, [], ◌∷◌, ◌++◌}
use Rattle.std.specs.Prelude.{Option, None as none, Some as some, Ok, Err}
use native.Mathlib.Omega.{arith}
use borrow.Author.Tests.{ne_eqb}
use lib.Dec.{eqb, leb}
use lib.ListN.{length, get_or}
use Rattle.std.specs.Prelude.{if◌then◌else◌}
use Rattle.rules.specs.Choice.{sift}
use Rattle.rules.specs.Lines.{Line, line, first}
use Rattle.rules.specs.Tags.{tags_of}
use Rattle.rules.specs.declared.reasons.Reason.{Reason}
use Rattle.rules.specs.declared.reasons.Reason.TheVariants.{Vid4095 as vid4095, NoVlan as no_vlan, NoMember as no_member}
use Rattle.rules.specs.Settings.{Vlan, is_there, vlan_of, state_for}
use Rattle.rules.specs.Arguments.{VlanNumbers, bit, vlan_in_range, vlan_entry}
use Rattle.rules.specs.Facts.{Facts, facts_of}
use Rattle.rules.specs.ReasonTable.{entering, part_number, reason_table, lines_in, rows_of}
use Rattle.rules.proofs.Choice.{on}
use Rattle.rules.proofs.Lines.{first_append_none, first_append_some}
use Rattle.rules.proofs.Parts.{reason_entering, entering_stops}
use Rattle.layout.specs.Places.{vlan_word, vlan_operation_word}
use Rattle.settings.specs.Operations.{is_operation_word}
use Rattle.settings.specs.Ports.{is_vid_word, vlan_in}
use Rattle.settings.specs.Settings.{vlan_of_words}
use Rattle.settings.proofs.RangeLaws.{vlan_range}
use Rattle.settings.proofs.SettingLaws.{vlan_words_good}
use Rattle.settings.specs.Records.{vlan_at}
use Rattle.settings.specs.Table.{Found, vlan_count, entry_at, vid_at, find_from, found_vlan}
use Rattle.settings.specs.SettingsOf.{vlans_of, settings_of}
use Rattle.settings.proofs.FindLaws.{found_there, found_nowhere}
use Rattle.layout.specs.declared.damage.Damaged.{Damaged}
use Rattle.arrival.specs.declared.entering.Arrival.{Arrival}
use Rattle.arrival.specs.declared.plan.Plan.TheVariants.{Drop}
use Rattle.arrival.specs.Plans.{no_masks}
use Rattle.arrival.specs.Stored.{operation_found, operation_for}
use Rattle.arrival.specs.Arrivals.{port_rules, absent_reason}
use Rattle.settings.specs.declared.vlan.Entry.{Entry}
use Rattle.settings.specs.Entries.{entry_is}
use Rattle.frame_in.specs.Met.{met, unless_dropped, met_member, met_entry, met_table, met_entering}
use Rattle.frame_in.specs.Call.{facts_in}
use Rattle.frame_in.specs.Judged.{Right, Way}
use Rattle.frame_in.specs.Stages.{Ordinary, InEntry, Member}
use Rattle.frame_in.proofs.Facts.{facts_port, facts_vid, facts_there, facts_vlan}
use Rattle.frame_in.proofs.Judgements.{unlearned_right}
use Rattle.frame_in.proofs.Steps.{way_on}

-- ---- the entry that a search finds has its word in range

hit_same : (b e : ℕ) → ◌≡◌ {A = Found} (Ok (some b)) (Ok (some e)) → b ≡ e
hit_same b e q = cc

not_nowhere : (e : ℕ) → ◌≡◌ {A = Found} (Ok none) (Ok (some e)) → ⊥
not_nowhere e q = cc

not_damaged : (e : ℕ) → ◌≡◌ {A = Found} (Err (record {})) (Ok (some e)) → ⊥
not_damaged e q = cc

-- what a search answered, part by part
pub found_at : {r : Found} {o o' : Option ℕ} {s : Found} → r ≡ s → r ≡ Ok o → o ≡ o' → s ≡ Ok o'
found_at p q e = sym p ∙ q ∙ ap (λ (o : Option ℕ). Ok o) e

in_range_from : (k : ℕ) (l : List ℕ) (b vid e : ℕ) → find_from k l b vid ≡ Ok (some e) → is_vid_word (entry_at l e) ≡ true
unfolding find_from
in_range_from zero l b vid e q = absurd (not_nowhere e q)
in_range_from (suc k) l b vid e q =
    on (is_vid_word (entry_at l b))
    (λ good. on (eqb (vid_at l b) vid)
    (λ hit. rw (← hit_same b e (rw (good, hit) at q)) good)
    (λ miss. in_range_from k l (b + 1) vid e (rw (good, miss) at q)))
    (λ bad. absurd (not_damaged e (rw bad at q)))

found_in_range : (l : List ℕ) (vid e : ℕ) → found_vlan l vid ≡ Ok (some e) → is_vid_word (entry_at l e) ≡ true
unfolding found_vlan
found_in_range l vid e q =
    on (leb (vlan_count l) 16)
    (λ few. in_range_from (vlan_count l) l 0 vid e (rw few at q))
    (λ many. absurd (not_damaged e (rw many at q)))

-- 7 to 9
unfoldable pub later_rules : Facts → List (Line Reason)
later_rules f =
    line vid4095 (eqb f.vid 4095)
    ∷ line no_vlan (not f.there)
    ∷ line no_member (not (f.vlan.member f.port))
    ∷ []

module _ (links addresses frame : List ℕ) (port : ℕ) where
  -- the arrival port bars by 4 to 6, the VLAN table by 7 to 9
  pub rules_split : rows_of entering (facts_in links addresses port frame)
      ≡ port_rules ((settings_of links).port port) (length (tags_of frame)) ++ later_rules (facts_in links addresses port frame)
  unfolding rows_of lines_in sift part_number reason_table port_rules later_rules facts_in facts_of state_for
  rules_split = refl

  rules_some : (r : Reason) → first (port_rules ((settings_of links).port port) (length (tags_of frame))) ≡ some r
      → first (rows_of entering (facts_in links addresses port frame)) ≡ some r
  rules_some r e =
      ap first rules_split ∙ first_append_some (port_rules ((settings_of links).port port) (length (tags_of frame))) (later_rules (facts_in links addresses port frame)) r e

  pub rules_later : first (port_rules ((settings_of links).port port) (length (tags_of frame))) ≡ none
      → first (rows_of entering (facts_in links addresses port frame)) ≡ first (later_rules (facts_in links addresses port frame))
  rules_later e =
      ap first rules_split ∙ first_append_none (port_rules ((settings_of links).port port) (length (tags_of frame))) (later_rules (facts_in links addresses port frame)) e

module _ (links addresses frame : List ℕ) (n port : ℕ) where
  abbrev f : Facts
  f = facts_in links addresses port frame

  -- a reason of 4 to 9 that was found
  rule_right : {m : Bool} → Way links addresses frame n port m → f.bpdu ≡ false → m ≡ false → (r : Reason)
      → first (rows_of entering f) ≡ some r → Right links addresses frame n port (Drop none no_masks r)
  rule_right w o a r e =
      unlearned_right links addresses frame n port r (w.meets_is ∙ a) (reason_entering f w.read o r e) (entering_stops f o r e)

  -- ---- 4 to 8

  module _ (arrival : Arrival) (o : Ordinary links addresses frame n port arrival) where
    met_none : (r : Reason) → first (port_rules ((settings_of links).port port) (length (tags_of frame))) ≡ some r → met_entering links addresses port frame ≡ false
    unfolding met_entering unless_dropped
    met_none r e = rw e

    pub barred_right : (r : Reason) → arrival.barred ≡ some r → Right links addresses frame n port (Drop none no_masks r)
    barred_right r q =
        let e = sym o.arrival_is.barred ∙ q in
        rule_right o.way o.ordinary (met_none r e) r (rules_some links addresses frame port r e)

    module _ (free : arrival.barred ≡ none) where
      not_barred : first (port_rules ((settings_of links).port port) (length (tags_of frame))) ≡ none
      not_barred = sym o.arrival_is.barred ∙ free

      vid_at_law : arrival.vid ≡ f.vid
      vid_at_law = o.arrival_is.vid ∙ sym (facts_vid links addresses frame port)

      table_meets : met_entering links addresses port frame ≡ met_table links addresses port frame (found_vlan links arrival.vid)
      unfolding met_entering unless_dropped
      table_meets = rw not_barred (ap (λ (v : ℕ). met_table links addresses port frame (found_vlan links v)) (sym vid_at_law))

      pub table_damaged : {d : Damaged} → found_vlan links arrival.vid ≡ Err d → met links addresses port frame ≡ true
      unfolding met_table
      table_damaged e = o.way.meets_is ∙ table_meets ∙ rw e

      absent_meets : found_vlan links arrival.vid ≡ Ok none → met_entering links addresses port frame ≡ false
      unfolding met_table
      absent_meets e = table_meets ∙ rw e

      not_there : found_vlan links arrival.vid ≡ Ok none → f.there ≡ false
      unfolding settings_of
      not_there e = facts_there links addresses frame port ∙ ap (is_there (vlans_of links)) (sym vid_at_law) ∙ found_nowhere links arrival.vid e

      seven : eqb arrival.vid 4095 ≡ true → first (rows_of entering f) ≡ some vid4095
      unfolding later_rules first
      seven e = rules_later links addresses frame port not_barred ∙ rw (ap (λ (v : ℕ). eqb v 4095) (sym vid_at_law) ∙ e)

      eight : eqb arrival.vid 4095 ≡ false → found_vlan links arrival.vid ≡ Ok none → first (rows_of entering f) ≡ some no_vlan
      unfolding later_rules first
      eight e a = rules_later links addresses frame port not_barred ∙ rw (ap (λ (v : ℕ). eqb v 4095) (sym vid_at_law) ∙ e, not_there a)

      absent_rule : found_vlan links arrival.vid ≡ Ok none → first (rows_of entering f) ≡ some (absent_reason arrival.vid)
      unfolding absent_reason
      absent_rule a = on (eqb arrival.vid 4095) (λ e. rw e (seven e)) (λ e. rw e (eight e a))

      pub absent_right : found_vlan links arrival.vid ≡ Ok none → Right links addresses frame n port (Drop none no_masks (absent_reason arrival.vid))
      absent_right a = rule_right o.way o.ordinary (absent_meets a) (absent_reason arrival.vid) (absent_rule a)

      module _ (e : ℕ) (found : found_vlan links arrival.vid ≡ Ok (some e)) where
        entry_meets : met_entering links addresses port frame ≡ met_entry links addresses port frame e
        unfolding met_table
        entry_meets = table_meets ∙ rw found

        entry_there : f.there ≡ true
        unfolding settings_of
        entry_there = facts_there links addresses frame port ∙ ap (is_there (vlans_of links)) (sym vid_at_law) ∙ (found_there links arrival.vid e found).is_there_law

        entry_is_law : f.vlan ≡ vlan_entry (vlan_at links e)
        unfolding settings_of
        entry_is_law = facts_vlan links addresses frame port ∙ ap (vlan_of (vlans_of links)) (sym vid_at_law) ∙ (found_there links arrival.vid e found).is_entry

        entry_vid : (vlan_at links e).vid ≡ f.vid
        unfolding vlan_in
        entry_vid = (found_there links arrival.vid e found).has_vid ∙ vid_at_law

        operation_at_law : operation_for links f.vid ≡ get_or links (vlan_operation_word e) 0
        unfolding operation_found
        operation_at_law = ap (operation_for links) (sym vid_at_law) ∙ rw found

        pub in_entry : InEntry links addresses frame n port arrival e
        in_entry =
            record {
              way = way_on links addresses frame n port o.way entry_meets;
              ordinary = o.ordinary;
              arrival_is = o.arrival_is;
              not_barred = not_barred;
              there = entry_there;
              vlan_is_law = entry_is_law;
              vid_is = entry_vid;
              operation_is_law = operation_at_law;
              entry_small = let t = found_there links arrival.vid e found in omega (arith, t.few, t.in_use);
              in_range = found_in_range links arrival.vid e found;
            }

  -- ---- 9

  module _ (arrival : Arrival) (e : ℕ) (i : InEntry links addresses frame n port arrival e) (word : ℕ) (word_is : word ≡ get_or links (vlan_operation_word e) 0) where
    pub entry_damaged : is_operation_word word ≡ false → met links addresses port frame ≡ true
    unfolding met_entry
    entry_damaged b = i.way.meets_is ∙ rw (ap is_operation_word (sym word_is) ∙ b)

    module _ (good : is_operation_word word ≡ true) (own : ℕ) (own_is : own ≡ get_or links (vlan_word e) 0) (vlan : Entry)
        (read : (entry_is vlan ≡ vlan_of_words own word) × (vlan.operation.word ≡ word)) where
      vlan_read : entry_is vlan ≡ vlan_at links e
      vlan_read = read.0 ∙ rw (word_is, own_is)

      entry_good : vlan_in_range (vlan_at links e) ≡ true
      entry_good = vlan_words_good (entry_at links e) (get_or links (vlan_operation_word e) 0) i.in_range (ap is_operation_word (sym word_is) ∙ good)

      vid_known : eqb f.vid 4095 ≡ false
      vid_known = ne_eqb f.vid 4095 (λ q. omega (arith, (vlan_range (vlan_at links e) entry_good).vid.most, i.vid_is))

      members_are : (vlan_at links e).members ≡ vlan.members
      members_are = sym (ap (λ (v : VlanNumbers). v.members) vlan_read)

      member_is : f.vlan.member f.port ≡ bit vlan.members port
      unfolding vlan_entry
      member_is =
          ap f.vlan.member (facts_port links addresses frame port)
          ∙ ap (λ (v : Vlan). v.member port) i.vlan_is_law
          ∙ ap (λ (m : ℕ). bit m port) members_are

      member_rule : (b : Bool) → bit vlan.members port ≡ b → first (rows_of entering f) ≡ (if not b then some no_member else none)
      unfolding later_rules first
      member_rule b q = rules_later links addresses frame port i.not_barred ∙ rw (vid_known, i.there, member_is ∙ q)

      entry_meets_by : (b : Bool) → bit vlan.members port ≡ b
          → met_entry links addresses port frame e ≡ (if b then met_member links addresses port frame (vlan_at links e) else false)
      unfolding met_entry
      entry_meets_by b q = rw (ap is_operation_word (sym word_is) ∙ good, ap (λ (m : ℕ). bit m port) members_are ∙ q)

      pub nine : bit vlan.members port ≡ false → Right links addresses frame n port (Drop none no_masks no_member)
      nine q = rule_right i.way i.ordinary (entry_meets_by false q) no_member (member_rule false q)

      pub as_member : bit vlan.members port ≡ true → Member links addresses frame n port arrival vlan
      as_member q =
          record {
            way = way_on links addresses frame n port i.way (entry_meets_by true q ∙ ap (met_member links addresses port frame) (sym vlan_read));
            ordinary = i.ordinary;
            entered = member_rule true q;
            arrival_is = i.arrival_is;
            not_barred = i.arrival_is.barred ∙ i.not_barred;
            vlan_is_law = i.vlan_is_law ∙ ap vlan_entry (sym vlan_read);
            operation_is_law = read.1 ∙ word_is ∙ sym i.operation_is_law;
            in_range = ap vlan_in_range vlan_read ∙ entry_good;
          }
