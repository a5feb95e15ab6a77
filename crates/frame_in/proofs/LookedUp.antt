-- A frame past rule 9: the look-ups, the queue and the ports' tests. Assumes nothing.
use Prim.Native.Nat.{ℕ, ◌≤◌, ◌<◌}
use mathlib.Core.Path.{◌≡◌, refl, sym, ap, ◌∙◌}
use mathlib.Core.Bool.{Bool, true, false, not}
use mathlib.Core.List.{List}
use native.Mathlib.Omega.{arith}
use lib.ListN.{length, get_or}
use Rattle.std.specs.Prelude.{Some as some, Result, Ok, Err}
use Rattle.rules.specs.Lines.{first}
use Rattle.layout.specs.declared.damage.Damaged.{Damaged}
use Rattle.rules.specs.Tags.{tags_of, address_at, destination, source}
use Rattle.rules.specs.Settings.{Port, Vlan, is_learning, queue_pcp}
use Rattle.rules.specs.Addresses.{key}
use Rattle.rules.specs.Arguments.{bit, port_of, vlan_entry}
use Rattle.rules.specs.Facts.{Facts}
use Rattle.rules.specs.Outcomes.{frame_of, learns, is_not_learned}
use Rattle.rules.proofs.Parts.{learns_exactly}
use Rattle.layout.specs.Places.{port_word, port_operation_word}
use Rattle.settings.specs.Operations.{operation_in}
use Rattle.settings.specs.Ports.{default_number}
use Rattle.settings.specs.Switches.{is_switches_word}
use Rattle.settings.proofs.RangeLaws.{vlan_range}
use Rattle.settings.specs.Records.{states_at, port_at}
use Rattle.settings.specs.SettingsOf.{switches_at, settings_of}
use Rattle.addresses.specs.Numbers.{table_of}
use Rattle.addresses.specs.Search.{look_up, place_of, damaged}
use Rattle.addresses.specs.declared.LookUp.{LookUp}
use Rattle.addresses.proofs.LookUps.{place_inside}
use Rattle.arrival.specs.declared.entering.Arrival.{Arrival}
use Rattle.arrival.specs.declared.plan.Lesson.{Lesson}
use Rattle.arrival.specs.declared.plan.Offer.{Offer}
use Rattle.arrival.specs.Stored.{operation_for, stored_header}
use Rattle.arrival.specs.Candidates.{destination_look_up, chosen_mask, candidates_in, masks_of, MasksAre}
use Rattle.settings.specs.declared.vlan.Entry.{Entry}
use Rattle.settings.specs.Entries.{entry_is}
use Rattle.frame_in.specs.Carried.{lesson_by}
use Rattle.frame_in.specs.Met.{masks_in, met_tests, met_member, met}
use Rattle.frame_in.specs.Call.{facts_in, lesson_in, learned_in}
use Rattle.frame_in.specs.Stages.{Member, Tested}
use Rattle.settings.proofs.PortLaws.{number_back}
use Rattle.arrival.specs.Arrivals.{port_rules}
use Rattle.arrival.proofs.Arrivals.{not_open}
use Rattle.arrival.proofs.LinkWords.{port_is_law, queue_is, masks_in_law}
use Rattle.frame_in.proofs.Facts.{facts_bytes, facts_default, facts_gid, facts_state, ordinary_queue, ordinary_test}
use Rattle.frame_in.proofs.Lessons.{chosen_is, destination_place, placed_is, lesson_in_law}
use Rattle.frame_in.proofs.Steps.{way_on}

twice : (b : Bool) → not (not b) ≡ b
twice true = refl
twice false = refl

-- what the look-ups found, and where
pub record LessonAt (d g : LookUp) (k : ℕ) (lesson : Lesson) : Type 0 where
  pub destination : lesson.destination ≡ d
  pub source : lesson.source ≡ g
  pub key : lesson.key.number ≡ k

-- the addresses as they were read
pub destination_as : (m : List ℕ) (gid : ℕ) (frame : List ℕ) {a : ℕ} {r : Result LookUp Damaged}
    → a ≡ address_at frame 0 → r ≡ destination_look_up m gid a → r ≡ destination_look_up m gid (destination frame)
unfolding destination
destination_as m gid frame is e = e ∙ ap (destination_look_up m gid) is

pub source_as : (gid : ℕ) (frame : List ℕ) {a k : ℕ} → a ≡ address_at frame 6 → k ≡ key gid a → k ≡ key gid (source frame)
unfolding source
source_as gid frame is e = e ∙ ap (key gid) is

module _ (links addresses frame : List ℕ) (n port : ℕ) where
  module _ (arrival : Arrival) (vlan : Entry) (m : Member links addresses frame n port arrival vlan) where
    abbrev f : Facts
    f = facts_in links addresses port frame

    queue_for : arrival.queue.number ≡ f.queue
    queue_for =
        m.arrival_is.queue
        ∙ sym (queue_is links (queue_pcp ((settings_of links).port port).default (tags_of frame)) m.arrival_is.pcp_small)
        ∙ sym (ordinary_queue links addresses frame port m.ordinary)

    queue_small : arrival.queue.number ≤ 3
    queue_small = let there = arrival.queue.there in omega (arith, there)

    here : (settings_of links).port port ≡ port_of (port_at links port)
    here = port_is_law links port (omega (arith, m.way.lent.port_there))

    -- no reason of 4 to 6 holds
    learning_at : not (bit (states_at links) port) ≡ is_learning f.state
    learning_at =
        not_open (get_or links (port_word port) 0) (states_at links) 0 port (operation_in (get_or links (port_operation_word port) 0)) (length (tags_of frame))
        (ap (λ (p : Port). first (port_rules p (length (tags_of frame)))) (sym here) ∙ sym m.arrival_is.barred ∙ m.not_barred)
        ∙ ap (λ (p : Port). is_learning p.state) (sym here)
        ∙ ap is_learning (sym (facts_state links addresses frame port))

    gid_is : f.gid ≡ vlan.gid
    unfolding vlan_entry
    gid_is = facts_gid links addresses frame port ∙ ap (λ (v : Vlan). v.gid) m.vlan_is_law

    pub gid_small : vlan.gid ≤ 15
    gid_small = (vlan_range (entry_is vlan) m.in_range).gid

    members_small : vlan.members < 32
    members_small = let m = (vlan_range (entry_is vlan) m.in_range).members in omega arith

    members_are : (r : ℕ) → f.vlan.member r ≡ bit vlan.members r
    unfolding vlan_entry
    members_are r = ap (λ (v : Vlan). v.member r) m.vlan_is_law

    pub destination_damaged : {e : Damaged} → destination_look_up addresses vlan.gid (destination frame) ≡ Err e → met links addresses port frame ≡ true
    unfolding met_member
    destination_damaged e = m.way.meets_is ∙ rw e

    module _ (d : LookUp) (d_here : destination_look_up addresses vlan.gid (destination frame) ≡ Ok d) where
      whole : damaged (destination_look_up addresses vlan.gid (destination frame)) ≡ false
      whole = ap damaged d_here

      pub destination_there : place_of d < 4112
      destination_there = rw d_here at (destination_place links addresses frame port vlan.gid gid_is whole m.way.lent.places)

      module _ (k : ℕ) (k_at : k ≡ key vlan.gid (source frame)) where
        pub source_damaged : {e : Damaged} → look_up addresses k ≡ Err e → met links addresses port frame ≡ true
        unfolding met_member
        source_damaged e = m.way.meets_is ∙ rw (d_here, ap (look_up addresses) (sym k_at) ∙ e)

        module _ (g : LookUp) (g_is : look_up addresses k ≡ Ok g) where
          g_here : look_up addresses (key vlan.gid (source frame)) ≡ Ok g
          g_here = ap (look_up addresses) (sym k_at) ∙ g_is

          sound : damaged (look_up addresses (key vlan.gid (source frame))) ≡ false
          sound = ap damaged g_here

          pub source_there : place_of g < 4112
          source_there = rw g_here at (place_inside addresses (key vlan.gid (source frame)))

          module _ (switches : ℕ) (switches_are : switches ≡ switches_at links) where
            pub switches_damaged : is_switches_word switches ≡ false → met links addresses port frame ≡ true
            unfolding met_member
            switches_damaged e = m.way.meets_is ∙ rw (d_here, g_here, ap is_switches_word (sym switches_are) ∙ e)

            module _ (good : is_switches_word switches ≡ true) (c : ℕ) (c_is : c ≡ chosen_mask d) (k' : ℕ) (k'_is : k' ≡ candidates_in vlan.members c port)
                (states : ℕ) (states_are : states ≡ states_at links) (lesson : Lesson) (lesson_at : LessonAt d g k lesson) (offer : Offer)
                (masks_made : offer.masks ≡ masks_of k' states switches arrival.queue.number) (queue_made : offer.queue.number ≡ arrival.queue.number)
                (header_made : offer.header ≡ record { length = length frame; default = arrival.default; operation = vlan.operation.word }) where
              masks_here : offer.masks ≡ masks_in links addresses port frame (entry_is vlan)
              unfolding masks_in
              masks_here = masks_made ∙ rw (k'_is, c_is, d_here, states_are, switches_are, queue_for)

              tests_meet : met_member links addresses port frame (entry_is vlan) ≡ met_tests links addresses port frame offer.masks
              unfolding met_member
              tests_meet =
                  rw (d_here, g_here, ap is_switches_word (sym switches_are) ∙ good) (ap (met_tests links addresses port frame) (sym masks_here))

              masks_right : MasksAre f.test offer.masks
              unfolding masks_in
              masks_right =
                  rw (ordinary_test links addresses frame port m.ordinary, masks_here, ← queue_for)
                  (masks_in_law links f.vlan f.chosen port arrival.queue.number vlan.members _ members_small queue_small members_are
                  (λ r h. chosen_is links addresses frame port vlan.gid gid_is whole r h))

              default_number_law : arrival.default ≡ default_number f.default
              default_number_law =
                  sym (number_back arrival.default) ∙ ap default_number (m.arrival_is.default ∙ sym (facts_default links addresses frame port))

              header_right : offer.header ≡ stored_header (operation_for links f.vid) (frame_of f)
              unfolding stored_header frame_of
              header_right = header_made ∙ rw (m.ordinary, facts_bytes links addresses frame port, default_number_law, m.operation_is_law)

              learns_it : learns f ≡ true
              learns_it = (learns_exactly f).1 (m.ordinary, record { read = m.way.read; entered = λ _. m.entered })

              learned_made : learned_in links addresses port frame ≡ (lesson_in addresses vlan.gid port frame).1
              unfolding learned_in
              learned_made = rw (learns_it, gid_is)

              not_learned_law : not (lesson_in addresses vlan.gid port frame).0 ≡ is_not_learned f (table_of addresses)
              unfolding is_not_learned
              not_learned_law = rw (learns_it, placed_is links addresses frame port vlan.gid gid_is whole m.way.lent.places sound) (twice _)

              lesson_right : lesson_by (some lesson) port addresses ≡ (is_not_learned f (table_of addresses), learned_in links addresses port frame)
              lesson_right =
                  lesson_in_law lesson port addresses vlan.gid frame (rw lesson_at.source (sym g_here)) (lesson_at.key ∙ k_at) (rw lesson_at.destination (sym d_here))
                  ∙ rw (not_learned_law, sym learned_made)

              pub as_tested : (o : Bool) → o ≡ bit states port → Tested links addresses frame n port (not o) lesson offer
              as_tested o o_is =
                  record {
                    way = way_on links addresses frame n port m.way tests_meet;
                    ordinary = m.ordinary;
                    entered = m.entered;
                    learning_is = ap not (o_is ∙ ap (λ (w : ℕ). bit w port) states_are) ∙ learning_at;
                    masks_are = masks_right;
                    queue_is = queue_made ∙ queue_for;
                    header_is = header_right;
                    lesson_is = lesson_right;
                  }
