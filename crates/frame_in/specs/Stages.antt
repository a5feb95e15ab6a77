-- What is known where each stage of the judgement begins: which parts of the table of reasons are past, and what the
-- code has read so far of the frame's facts. Assumes nothing: these are definitions.
use Rattle.std.specs.Prelude.{ℕ, ◌<◌, ◌≡◌, Bool, true, false, List, length, get_or}
use Rattle.std.specs.Prelude.{None as none, Some as some}
use Rattle.rules.specs.Lines.{first}
use Rattle.rules.specs.Tags.{tags_of}
use Rattle.rules.specs.Settings.{is_learning}
use Rattle.rules.specs.Arguments.{vlan_entry, vlan_in_range}
use Rattle.rules.specs.ReasonTable.{entering, rows_of}
use Rattle.rules.specs.Outcomes.{frame_of, is_not_learned}
use Rattle.layout.specs.Places.{port_word, vlan_operation_word}
use Rattle.addresses.specs.Numbers.{table_of}
use Rattle.settings.specs.Ports.{is_vid_word, default_of}
use Rattle.settings.specs.Records.{vlan_at}
use Rattle.settings.specs.Table.{entry_at}
use Rattle.settings.specs.SettingsOf.{map_at, settings_of}
use Rattle.arrival.specs.declared.entering.Arrival.{Arrival}
use Rattle.arrival.specs.declared.plan.Lesson.{Lesson}
use Rattle.arrival.specs.declared.plan.Offer.{Offer}
use Rattle.arrival.specs.Stored.{operation_for, stored_header}
use Rattle.arrival.specs.Arrivals.{port_rules, ArrivalIs}
use Rattle.arrival.specs.Candidates.{MasksAre}
use Rattle.settings.specs.declared.vlan.Entry.{Entry}
use Rattle.settings.specs.Entries.{entry_is}
use Rattle.frame_in.specs.Carried.{lesson_by}
use Rattle.frame_in.specs.Met.{met_port, met_bpdu, met_frame, met_entering, met_entry, met_member, met_tests}
use Rattle.frame_in.specs.Call.{facts_in, learned_in}
use Rattle.frame_in.specs.Judged.{Way}

module _ (links addresses frame : List ℕ) (n port : ℕ) where
  -- no reason of 1 to 3
  pub record PastEarly : Type 0 where
    pub way : Way links addresses frame n port (met_port links addresses port frame)

  pub record AsBpdu (default : ℕ) : Type 0 where
    pub way : Way links addresses frame n port (met_bpdu links frame)
    pub bpdu : (facts_in links addresses port frame).bpdu ≡ true
    pub default_is : default_of default ≡ ((settings_of links).port port).default

  -- no BPDU
  pub record NoBpdu (word map : ℕ) : Type 0 where
    pub way : Way links addresses frame n port (met_frame links addresses port frame)
    pub ordinary : (facts_in links addresses port frame).bpdu ≡ false
    pub word_is : word ≡ get_or links (port_word port) 0
    pub map_is : map ≡ map_at links

  -- what the arrival port gives it
  pub record Ordinary (arrival : Arrival) : Type 0 where
    pub way : Way links addresses frame n port (met_entering links addresses port frame)
    pub ordinary : (facts_in links addresses port frame).bpdu ≡ false
    pub arrival_is : ArrivalIs ((settings_of links).port port) (map_at links) frame arrival

  -- no reason of 4 to 8, and the entry of the VID
  pub record InEntry (arrival : Arrival) (entry : ℕ) : Type 0 where
    pub way : Way links addresses frame n port (met_entry links addresses port frame entry)
    pub ordinary : (facts_in links addresses port frame).bpdu ≡ false
    pub arrival_is : ArrivalIs ((settings_of links).port port) (map_at links) frame arrival
    pub not_barred : first (port_rules ((settings_of links).port port) (length (tags_of frame))) ≡ none
    pub there : (facts_in links addresses port frame).there ≡ true
    pub vlan_is_law : (facts_in links addresses port frame).vlan ≡ vlan_entry (vlan_at links entry)
    pub vid_is : (vlan_at links entry).vid ≡ (facts_in links addresses port frame).vid
    pub operation_is_law : operation_for links (facts_in links addresses port frame).vid
        ≡ get_or links (vlan_operation_word entry) 0
    pub entry_small : entry < 16
    pub in_range : is_vid_word (entry_at links entry) ≡ true

  -- no reason of 1 to 9
  pub record Member (arrival : Arrival) (vlan : Entry) : Type 0 where
    pub way : Way links addresses frame n port (met_member links addresses port frame (entry_is vlan))
    pub ordinary : (facts_in links addresses port frame).bpdu ≡ false
    pub entered : first (rows_of entering (facts_in links addresses port frame)) ≡ none
    pub arrival_is : ArrivalIs ((settings_of links).port port) (map_at links) frame arrival
    pub not_barred : arrival.barred ≡ none
    pub vlan_is_law : (facts_in links addresses port frame).vlan ≡ vlan_entry (entry_is vlan)
    pub operation_is_law : vlan.operation.word ≡ operation_for links (facts_in links addresses port frame).vid
    pub in_range : vlan_in_range (entry_is vlan) ≡ true

  -- the look-ups are done, and the ports' tests
  pub record Tested (learning : Bool) (lesson : Lesson) (offer : Offer) : Type 0 where
    pub way : Way links addresses frame n port (met_tests links addresses port frame offer.masks)
    pub ordinary : (facts_in links addresses port frame).bpdu ≡ false
    pub entered : first (rows_of entering (facts_in links addresses port frame)) ≡ none
    pub learning_is : learning ≡ is_learning (facts_in links addresses port frame).state
    pub masks_are : MasksAre (facts_in links addresses port frame).test offer.masks
    pub queue_is : offer.queue.number ≡ (facts_in links addresses port frame).queue
    pub header_is : offer.header
        ≡ stored_header (operation_for links (facts_in links addresses port frame).vid)
        (frame_of (facts_in links addresses port frame))
    pub lesson_is : lesson_by (some lesson) port addresses
        ≡ (is_not_learned (facts_in links addresses port frame) (table_of addresses), learned_in links addresses port frame)
