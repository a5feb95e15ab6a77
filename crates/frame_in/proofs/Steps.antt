-- From stage to stage of the judgement, and the outcomes of each. Assumes nothing.
use Prim.Native.Nat.{ℕ, ◌≤◌}
use mathlib.Core.Path.{◌≡◌, sym, ap, ◌∙◌}
use mathlib.Core.Bool.{Bool, true, false, ◌&&◌, not, true≢false}
use mathlib.Core.List.{List}
use Rattle.std.specs.Prelude.{Option, None as none, Some as some}
use native.Mathlib.Omega.{arith}
use borrow.Author.Tests.{ltb-false}
use lib.Dec.{eqb, ltb}
use lib.ListN.{length, get_or}
use Rattle.std.specs.Prelude.{if◌then◌else◌}
use Rattle.rules.specs.Choice.{sift}
use Rattle.rules.specs.Lines.{first}
use Rattle.rules.specs.Numbers.{management_port, bpdu_address}
use Rattle.rules.specs.Tags.{destination}
use Rattle.rules.specs.declared.reasons.Reason.{Reason}
use Rattle.rules.specs.Settings.{Port}
use Rattle.rules.specs.Arguments.{OperationNumbers, port_of}
use Rattle.rules.specs.Facts.{Facts, is_bpdu}
use Rattle.rules.specs.ReasonTable.{reading, part_number, reason_table, lines_in, rows_of}
use Rattle.rules.specs.Outcomes.{frame_of, counts_tests}
use Rattle.rules.proofs.Choice.{on}
use Rattle.rules.proofs.Parts.{reason_reading, reason_bpdu, read_stops, counts_then, bpdu_learns_nothing}
use Rattle.layout.specs.Places.{port_word, port_operation_word}
use Rattle.settings.specs.Operations.{operation_in, operation_end}
use Rattle.settings.specs.Ports.{is_vid_word, port_in, default_in, default_of, default_number}
use Rattle.settings.specs.States.{is_states_word, state_in}
use Rattle.settings.specs.Switches.{is_switches_word}
use Rattle.settings.specs.Maps.{is_map_word, bpdu_in}
use Rattle.settings.specs.Settings.{port_of_words}
use Rattle.settings.specs.Records.{states_at}
use Rattle.settings.specs.SettingsOf.{map_at, switches_at, settings_of}
use Rattle.arrival.specs.declared.entering.Arrival.{Arrival}
use Rattle.arrival.specs.declared.plan.Masks.{Masks}
use Rattle.arrival.specs.declared.plan.Offer.{Offer}
use Rattle.arrival.specs.declared.plan.Plan.TheVariants.{Drop}
use Rattle.arrival.specs.Plans.{no_masks}
use Rattle.arrival.specs.Stored.{operation_for, stored_header}
use Rattle.arrival.specs.Arrivals.{ArrivalIs}
use Rattle.arrival.specs.Candidates.{every_port, management_mask, masks_of, MasksAre}
use Rattle.arrival.specs.Room.{met_room, plan_offered}
use Rattle.frame_in.specs.Met.{unless_dropped, bpdu_masks, met_entering, met_frame, met_bpdu, met_port, met}
use Rattle.frame_in.specs.Call.{facts_in}
use Rattle.frame_in.specs.Judged.{Lent, Right, Judged, Way}
use Rattle.frame_in.specs.Stages.{PastEarly, AsBpdu, NoBpdu, Ordinary}
use Rattle.settings.proofs.PortLaws.{default_in_law, number_back}
use Rattle.arrival.proofs.LinkWords.{port_is_law, handling_is, bpdu_masks_in}
use Rattle.frame_in.proofs.Facts.{facts_bytes, facts_default, facts_bpdu, bpdu_queue_law, bpdu_test_law}
use Rattle.frame_in.proofs.Judgements.{nothing_taught, offer_judged, unlearned_right}

some_not_none : {r : Reason} → some r ≡ none → ⊥
some_not_none e = cc

-- ---- a frame that is past the reasons 1 to 3 has a length between

module _ (f : Facts) (frame : List ℕ) (bytes_are : f.packet.bytes ≡ frame) where
  record Lengths : Type 0 where
    shortest : 60 ≤ length frame
    longest : length frame ≤ 4083

  lengths : first (rows_of reading f) ≡ none → Lengths
  unfolding rows_of lines_in sift part_number reason_table first
  lengths h =
      let e = rw bytes_are at h in
      on (ltb (length frame) 60)
      (λ a. absurd (some_not_none (rw a at e)))
      (λ a. on (ltb 4083 (length frame))
      (λ b. absurd (some_not_none (rw (a, b) at e)))
      (λ b. record { shortest = ltb-false _ _ a; longest = ltb-false _ _ b }))

module _ (links addresses frame : List ℕ) (n port : ℕ) where
  abbrev f : Facts
  f = facts_in links addresses port frame

  abbrev bytes_are : f.packet.bytes ≡ frame
  bytes_are = facts_bytes links addresses frame port

  pub way_on : {m m' : Bool} → Way links addresses frame n port m → m ≡ m' → Way links addresses frame n port m'
  way_on w a =
      record {
        lent = w.lent;
        shortest = w.shortest;
        longest = w.longest;
        meets_is = w.meets_is ∙ a;
        read = w.read;
      }

  -- ---- 1 to 3

  early_met : (r : Reason) → first (rows_of reading f) ≡ some r → met links addresses port frame ≡ false
  unfolding met unless_dropped
  early_met r e = rw e

  -- what the code finds is found of every frame with these bytes
  abbrev Early : Option Reason → Type 0
  Early o = (g : Facts) → g.packet.bytes ≡ frame → o ≡ first (rows_of reading g)

  pub early_right : (r : Reason) → Early (some r) → Right links addresses frame n port (Drop none no_masks r)
  early_right r e =
      let o = sym (e f bytes_are) in
      unlearned_right links addresses frame n port r (early_met r o) (reason_reading f r o) (read_stops f r o)

  past_met : first (rows_of reading f) ≡ none → met links addresses port frame ≡ met_port links addresses port frame
  unfolding met unless_dropped
  past_met e = rw e

  pub past_early : Lent links addresses n port → Early none → PastEarly links addresses frame n port
  past_early lent e =
      let o = sym (e f bytes_are) in
      let l = lengths f frame bytes_are o in
      record { way = record { lent = lent; shortest = l.shortest; longest = l.longest; meets_is = past_met o; read = o } }

  -- ---- the arrival port, and BPDUs

  module _ (p : PastEarly links addresses frame n port) (word : ℕ) (word_is : word ≡ get_or links (port_word port) 0) where
    pub port_damaged : is_vid_word word ≡ false → met links addresses port frame ≡ true
    unfolding met_port
    port_damaged e =
        p.way.meets_is ∙ rw (ap is_vid_word (sym word_is) ∙ e)

    module _ (good : is_vid_word word ≡ true) (map : ℕ) (map_is : map ≡ map_at links) where
      pub map_damaged : is_map_word map ≡ false → met links addresses port frame ≡ true
      unfolding met_port
      map_damaged e =
          p.way.meets_is ∙ rw (ap is_vid_word (sym word_is) ∙ good, ap is_map_word (sym map_is) ∙ e)

      module _ (mapped : is_map_word map ≡ true) (b : Bool) (test : b ≡ (bpdu_in map && not (eqb port management_port) && eqb (destination frame) bpdu_address)) where
        bpdu_is : f.bpdu ≡ b
        unfolding is_bpdu
        bpdu_is =
            facts_bpdu links addresses frame port
            ∙ ap (λ (x : Bool). x && not (eqb port management_port) && eqb (destination frame) bpdu_address) (handling_is links ∙ ap bpdu_in (sym map_is))
            ∙ sym test

        port_meets : met_port links addresses port frame ≡ (if f.bpdu then met_bpdu links frame else met_frame links addresses port frame)
        unfolding met_port
        port_meets = rw (ap is_vid_word (sym word_is) ∙ good, ap is_map_word (sym map_is) ∙ mapped)

        pub as_bpdu : (default : ℕ) → default ≡ default_in word → b ≡ true → AsBpdu links addresses frame n port default
        as_bpdu default d e =
            record {
              way = way_on p.way (port_meets ∙ rw (bpdu_is ∙ e));
              bpdu = bpdu_is ∙ e;
              default_is = ap default_of d
                  ∙ default_in_law (state_in (states_at links) port) (operation_in (get_or links (port_operation_word port) 0)) word
                  ∙ ap (λ (w : ℕ). (port_of (port_of_words (states_at links) w (get_or links (port_operation_word port) 0) port)).default) word_is
                  ∙ ap (λ (x : Port). x.default) (sym (port_is_law links port (omega (arith, p.way.lent.port_there))));
            }

        pub no_bpdu : b ≡ false → NoBpdu links addresses frame n port word map
        no_bpdu e =
            record {
              way = way_on p.way (port_meets ∙ rw (bpdu_is ∙ e));
              ordinary = bpdu_is ∙ e;
              word_is = word_is;
              map_is = map_is;
            }

  -- ---- an ordinary frame: the states

  module _ (word map : ℕ) (o : NoBpdu links addresses frame n port word map) (states : ℕ) (states_are : states ≡ states_at links) where
    pub states_damaged : is_states_word states ≡ false → met links addresses port frame ≡ true
    unfolding met_frame
    states_damaged e =
        o.way.meets_is ∙ rw (ap is_states_word (sym states_are) ∙ e)

    entering_meets : is_states_word states ≡ true → met_frame links addresses port frame ≡ met_entering links addresses port frame
    unfolding met_frame
    entering_meets e = rw (ap is_states_word (sym states_are) ∙ e)

    -- what the port's words give is what the settings say
    arrival_at : (arrival : Arrival) → ((x : OperationNumbers) → ArrivalIs (port_of (port_in (state_in states port) x word)) map frame arrival)
        → ArrivalIs ((settings_of links).port port) (map_at links) frame arrival
    arrival_at arrival a =
        rw (port_is_law links port (omega (arith, o.way.lent.port_there)), ← o.word_is, ← o.map_is, ← states_are)
        (a (operation_in (get_or links (port_operation_word port) 0)))

    pub as_ordinary : is_states_word states ≡ true → (arrival : Arrival)
        → ((x : OperationNumbers) → ArrivalIs (port_of (port_in (state_in states port) x word)) map frame arrival) → Ordinary links addresses frame n port arrival
    as_ordinary e arrival a =
        record { way = way_on o.way (entering_meets e); ordinary = o.ordinary; arrival_is = arrival_at arrival a }

  -- ---- a BPDU

  module _ (default : ℕ) (a : AsBpdu links addresses frame n port default) (switches : ℕ) (switches_are : switches ≡ switches_at links) where
    pub switches_damaged : is_switches_word switches ≡ false → met links addresses port frame ≡ true
    unfolding met_bpdu
    switches_damaged e =
        a.way.meets_is ∙ rw (ap is_switches_word (sym switches_are) ∙ e)

    module _ (good : is_switches_word switches ≡ true) (o : Offer) (masks_are : o.masks ≡ masks_of management_mask every_port switches 3)
        (queue_is : o.queue.number ≡ 3) (header_is : o.header ≡ record { length = length frame; default = default; operation = operation_end }) where
      bpdu_default : default ≡ default_number f.default
      bpdu_default = sym (number_back default) ∙ ap default_number (a.default_is ∙ sym (facts_default links addresses frame port))

      bpdu_header : o.header ≡ stored_header (operation_for links f.vid) (frame_of f)
      unfolding stored_header frame_of
      bpdu_header = header_is ∙ rw (a.bpdu, bytes_are, bpdu_default)

      masks_at : o.masks ≡ bpdu_masks links
      unfolding bpdu_masks
      masks_at = masks_are ∙ ap (λ (w : ℕ). masks_of management_mask every_port w 3) switches_are

      bpdu_meets : met links addresses port frame ≡ met_room n links (length frame) o.masks.left
      unfolding met_bpdu
      bpdu_meets =
          a.way.meets_is
          ∙ rw (ap is_switches_word (sym switches_are) ∙ good)
          (ap (λ (c : ℕ). met_room c links (length frame) (bpdu_masks links).left) (sym a.way.lent.count)
          ∙ ap (λ (x : Masks). met_room n links (length frame) x.left) (sym masks_at))

      never_ordinary : {A : Type 0} → f.bpdu ≡ false → A
      never_ordinary e = absurd (true≢false (sym a.bpdu ∙ e))

      -- it skips 4 to 11, so that its test counts
      bpdu_counts : counts_tests f ≡ true
      bpdu_counts = counts_then f (record { past = record { read = a.way.read; entered = never_ordinary }; chosen = never_ordinary })

      bpdu_tests : MasksAre f.test o.masks
      unfolding bpdu_masks
      bpdu_tests = rw (bpdu_test_law links addresses frame port a.bpdu, masks_at) (bpdu_masks_in links)

      pub bpdu_offered : Judged links addresses frame n port (plan_offered n links (length frame) none o)
      bpdu_offered =
          offer_judged links addresses frame n port a.way.lent.count bpdu_counts (reason_bpdu f a.way.read a.bpdu) none o
          (nothing_taught links addresses frame n port (bpdu_learns_nothing f a.bpdu)) bpdu_tests
          (queue_is ∙ sym (bpdu_queue_law links addresses frame port a.bpdu)) bpdu_header a.way.longest bpdu_meets
