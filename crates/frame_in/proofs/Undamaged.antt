-- A frame-in meets no damage in memory that is in range. Assumes nothing.
use Prim.Native.Nat.{ℕ, ◌≤◌}
use mathlib.Core.Path.{◌≡◌, refl}
use mathlib.Core.Bool.{Bool, true, false}
use mathlib.Core.List.{List, [], ◌∷◌}
use Rattle.std.specs.Prelude.{Option, None as none, Some as some, Result, Ok, Err}
use native.Mathlib.Omega.{arith}
use borrow.Author.Tests.{lt-ltb}
use lib.Dec.{eqb}
use lib.ListN.{length, get_or}
use Rattle.rules.specs.Choice.{Each, also}
use Rattle.rules.specs.Lines.{first}
use Rattle.rules.specs.Tags.{Header, Tag, Bytes, is_group, destination, source, tags_of}
use Rattle.rules.specs.TagTheorems.{IsTag}
use Rattle.rules.specs.declared.reasons.Reason.{Reason}
use Rattle.rules.specs.Cells.{cells}
use Rattle.rules.specs.Operations.{header_at}
use Rattle.rules.specs.Settings.{is_learning, queue_pcp}
use Rattle.rules.specs.Addresses.{key}
use Rattle.rules.specs.Arguments.{VlanNumbers, bit, port_of}
use Rattle.rules.specs.ReasonTable.{reading, rows_of}
use Rattle.rules.proofs.Choice.{on}
use Rattle.rules.proofs.Tags.{decoded_are_tags}
use Rattle.layout.specs.Places.{vlan_operation_word}
use Rattle.layout.specs.Lengths.{cell_count}
use Rattle.settings.specs.Operations.{is_operation_word}
use Rattle.settings.specs.Ports.{port_in}
use Rattle.settings.proofs.MapLaws.{queue_small as map_queue_small}
use Rattle.settings.specs.Records.{vlan_at}
use Rattle.settings.specs.Table.{found_vlan}
use Rattle.settings.specs.SettingsOf.{map_at, settings_of}
use Rattle.settings.proofs.FindLaws.{found_there, found_undamaged, on_found}
use Rattle.addresses.specs.Search.{damaged}
use Rattle.addresses.proofs.LookUps.{undamaged}
use Rattle.cells.specs.Free.{room_for}
use Rattle.layout.specs.declared.damage.Damaged.{Damaged}
use Rattle.arrival.specs.Candidates.{destination_look_up}
use Rattle.queues.specs.Lists.{waiting_of, waiting_in_range, all_waiting_in_range}
use Rattle.arrival.specs.Room.{room_met, met_room}
use Rattle.frame_in.specs.Met.{unless_dropped, bpdu_masks, met_tests, met_member, met_entry, met_table, met_entering, met_frame, met_bpdu, met_port, met}
use Rattle.frame_in.specs.Facts.{facts_in}
use Rattle.frame_in.specs.InRange.{InRange}
use Rattle.arrival.proofs.LinkWords.{port_is_law, queue_is}
use Rattle.frame_in.proofs.Facts.{ordinary_queue, bpdu_queue_law}

pass_over : (o : Option Reason) (m : Bool) → m ≡ false → unless_dropped o m ≡ false
unfolding unless_dropped
pass_over none m e = e
pass_over (some r) m e = refl

on_room : {C : Type 0} (r : Result Bool Damaged) → (r ≡ Err (record {}) → C) → (r ≡ Ok false → C) → (r ≡ Ok true → C) → C
on_room (Err d) a b c = a refl
on_room (Ok false) a b c = b refl
on_room (Ok true) a b c = c refl

module _ (links addresses : List ℕ) (good : InRange links addresses) where
  -- ---- room

  all_in_range_law : all_waiting_in_range links ≡ true
  unfolding all_waiting_in_range waiting_in_range
  all_in_range_law =
      rw (
        lt-ltb (waiting_of links 0) 16 (good.queues 0 (omega arith)),
        lt-ltb (waiting_of links 1) 16 (good.queues 1 (omega arith)),
        lt-ltb (waiting_of links 2) 16 (good.queues 2 (omega arith)),
        lt-ltb (waiting_of links 3) 16 (good.queues 3 (omega arith)),
        lt-ltb (waiting_of links 4) 16 (good.queues 4 (omega arith)),
      )

  room_whole : (long left : ℕ) → met_room (cell_count links) links long left ≡ false
  unfolding met_room room_met
  room_whole long left =
      on (eqb left 0)
      (λ b. rw b)
      (λ b. on_room (room_for (cell_count links) (cells long) links)
      (λ e. absurd (good.cells _ e))
      (λ e. rw (b, e))
      (λ e. rw (b, e, all_in_range_law)))

  -- ---- the way of a frame

  module _ (frame : List ℕ) (each : Bytes frame) (port : ℕ) (there : port ≤ 4) where
    port_pcp : ((settings_of links).port port).default.pcp ≤ 7
    unfolding port_of port_in
    port_pcp = rw (port_is_law links port (omega arith)) (omega arith)

    pcp_of : (d : Header) (tags : List Tag) → d.pcp ≤ 7 → Each IsTag tags → queue_pcp d tags ≤ 7
    unfolding queue_pcp header_at
    pcp_of d [] h e = h
    pcp_of d (t ∷ ts) h (also i e) = omega (arith, i.header.pcp)

    queue_in_law : (pcp : ℕ) → pcp ≤ 7 → (settings_of links).queue_of pcp ≤ 3
    queue_in_law pcp h = rw (queue_is links pcp h) (map_queue_small (map_at links) pcp)

    pub queue_small : (facts_in links addresses port frame).queue ≤ 3
    queue_small =
        on (facts_in links addresses port frame).bpdu
        (λ b. rw (bpdu_queue_law links addresses frame port b) (omega arith))
        (λ b. rw (ordinary_queue links addresses frame port b)
        (queue_in_law _ (pcp_of ((settings_of links).port port).default (tags_of frame) port_pcp (decoded_are_tags frame each))))

    look_up_whole : (gid address : ℕ) → damaged (destination_look_up addresses gid address) ≡ false
    unfolding destination_look_up
    look_up_whole gid address = on (is_group address) (λ e. rw e) (λ e. rw e (undamaged addresses (key gid address) good.places))

    member_whole : (v : VlanNumbers) → met_member links addresses port frame v ≡ false
    unfolding met_member met_tests
    member_whole v =
        rw (
          look_up_whole v.gid (destination frame),
          undamaged addresses (key v.gid (source frame)) good.places,
          good.switches,
        )
        (on (is_learning (facts_in links addresses port frame).state) (λ e. rw e) (λ e. rw e (room_whole (length frame) _)))

    entry_whole : (e : ℕ) → is_operation_word (get_or links (vlan_operation_word e) 0) ≡ true → met_entry links addresses port frame e ≡ false
    unfolding met_entry
    entry_whole e h = rw h (on (bit (vlan_at links e).members port) (λ q. rw q (member_whole (vlan_at links e))) (λ q. rw q))

    table_whole : (vid : ℕ) → met_table links addresses port frame (found_vlan links vid) ≡ false
    unfolding met_table
    table_whole vid =
        on_found (found_vlan links vid)
        (λ e. absurd (found_undamaged links vid good.vlan_count_law good.vlans e))
        (λ e. rw e)
        (λ i e. rw e (entry_whole i (good.vlan_operations i (found_there links vid i e).in_use)))

    bpdu_meets : met_bpdu links frame ≡ false
    unfolding met_bpdu
    bpdu_meets = rw good.switches (room_whole (length frame) (bpdu_masks links).left)

    frame_meets : met_frame links addresses port frame ≡ false
    unfolding met_frame met_entering
    frame_meets = rw good.states (pass_over _ _ (table_whole (facts_in links addresses port frame).vid))

    port_meets : met_port links addresses port frame ≡ false
    unfolding met_port
    port_meets =
        rw (good.ports port (omega arith), good.map)
        (on (facts_in links addresses port frame).bpdu (λ e. rw e bpdu_meets) (λ e. rw e frame_meets))

    pub meets_none : met links addresses port frame ≡ false
    unfolding met
    meets_none = pass_over (first (rows_of reading (facts_in links addresses port frame))) (met_port links addresses port frame) port_meets
