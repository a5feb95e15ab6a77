-- Rules 10 to 13 of an ordinary frame. Assumes nothing.
use Prim.Native.Nat.{ℕ}
use mathlib.Core.Path.{◌≡◌, refl, sym, ap, ◌∙◌}
use mathlib.Core.Bool.{Bool, true, false, ◌||◌, not, true≢false}
use mathlib.Core.List.{List, []}
use Rattle.std.specs.Prelude.{None as none, Some as some}
use borrow.Author.Tests.{eq-eqb, ne_eqb}
use lib.Dec.{eqb}
use lib.ListN.{length}
use Rattle.rules.specs.Lines.{first}
use Rattle.rules.specs.declared.reasons.Reason.{Reason}
use Rattle.rules.specs.declared.reasons.Reason.TheVariants.{PortLearning as port_learning, NoCandidate as no_candidate}
use Rattle.rules.specs.Choice.{sift}
use Rattle.rules.specs.PortTests.{Test, passes, not_member, arrival, elsewhere, state, queue_off, is_candidate, is_passed, any_candidate, ports_left}
use Rattle.rules.specs.Facts.{Facts}
use Rattle.rules.specs.ReasonTable.{choosing, part_number, reason_table, lines_in, rows_of}
use Rattle.rules.specs.Outcomes.{counts_tests}
use Rattle.rules.proofs.Choice.{or_left, or_right}
use Rattle.rules.proofs.Parts.{reason_choosing, reason_queueing, choosing_stops, counts_then}
use Rattle.machine.specs.FrameIn.{mask}
use Rattle.arrival.specs.declared.plan.Lesson.{Lesson}
use Rattle.arrival.specs.declared.plan.Masks.{Masks}
use Rattle.arrival.specs.declared.plan.Offer.{Offer}
use Rattle.arrival.specs.declared.plan.Plan.TheVariants.{Drop}
use Rattle.arrival.specs.Plans.{no_masks}
use Rattle.arrival.specs.Candidates.{MasksAre}
use Rattle.arrival.specs.Room.{met_room, plan_offered}
use Rattle.frame_in.specs.Met.{met_tests, met}
use Rattle.frame_in.specs.Call.{facts_in}
use Rattle.frame_in.specs.Judged.{Right, Judged}
use Rattle.frame_in.specs.Stages.{Tested}
use Rattle.frame_in.proofs.Counts.{left_is}
use Rattle.frame_in.proofs.Judgements.{untested_right, offer_judged}

twice : (b : Bool) → not (not b) ≡ b
twice true = refl
twice false = refl

-- ---- no candidate, so no port left

not_passed : (t : Test) → is_candidate t ≡ false → is_passed t ≡ false
unfolding is_candidate is_passed
not_passed passes e = absurd (true≢false e)
not_passed not_member e = refl
not_passed arrival e = refl
not_passed elsewhere e = refl
not_passed state e = refl
not_passed queue_off e = refl

no_ports : (test : ℕ → Test) → any_candidate test ≡ false → ports_left test ≡ []
unfolding any_candidate ports_left sift
no_ports test h =
    let a : Bool = is_candidate (test 0) in
    let b : Bool = is_candidate (test 1) in
    let c : Bool = is_candidate (test 2) in
    let d : Bool = is_candidate (test 3) in
    let e : Bool = is_candidate (test 4) in
    let four = or_left (a || b || c || d) e h in
    let three = or_left (a || b || c) d four in
    let two = or_left (a || b) c three in
    rw (not_passed (test 0) (or_left a b two), not_passed (test 1) (or_right a b two), not_passed (test 2) (or_right (a || b) c three), not_passed (test 3) (or_right (a || b || c) d four), not_passed (test 4) (or_right (a || b || c || d) e h))

no_mask : mask [] ≡ 0
unfolding mask
no_mask = refl

none_left : (test : ℕ → Test) (m : Masks) → MasksAre test m → any_candidate test ≡ false → m.left ≡ 0
none_left test m are h = sym (left_is test m are) ∙ ap mask (no_ports test h) ∙ no_mask

module _ (links addresses frame : List ℕ) (n port : ℕ) where
  module _ (learning : Bool) (l : Lesson) (o : Offer) (t : Tested links addresses frame n port learning l o) where
    abbrev f : Facts
    f = facts_in links addresses port frame

    -- 10 or 11 that was found
    choosing_right : (r : Reason) → met links addresses port frame ≡ false → first (rows_of choosing f) ≡ some r
        → Right links addresses frame n port (Drop (some l) no_masks r)
    choosing_right r m e =
        untested_right links addresses frame n port r (some l) m (reason_choosing f t.way.read t.ordinary t.entered r e) (choosing_stops f t.ordinary r e) t.lesson_is

    learning_met : learning ≡ true → met links addresses port frame ≡ false
    unfolding met_tests
    learning_met e = t.way.meets_is ∙ rw (sym t.learning_is ∙ e)

    rule_ten : learning ≡ true → first (rows_of choosing f) ≡ some port_learning
    unfolding rows_of lines_in sift part_number reason_table first
    rule_ten e = rw (sym t.learning_is ∙ e)

    pub ten : learning ≡ true → Right links addresses frame n port (Drop (some l) no_masks port_learning)
    ten e = choosing_right port_learning (learning_met e) (rule_ten e)

    module _ (not_learning : learning ≡ false) where
      room_met_law : met links addresses port frame ≡ met_room n links (length frame) o.masks.left
      unfolding met_tests
      room_met_law =
          t.way.meets_is
          ∙ rw (sym t.learning_is ∙ not_learning)
          (ap (λ (c : ℕ). met_room c links (length frame) o.masks.left) (sym t.way.lent.count))

      any_is : (b : Bool) → eqb o.masks.candidates 0 ≡ not b → any_candidate f.test ≡ b
      any_is b e = sym t.masks_are.any ∙ ap not e ∙ twice b

      module _ (none_chosen : o.masks.candidates ≡ 0) where
        no_candidate_law : any_candidate f.test ≡ false
        no_candidate_law = any_is false (eq-eqb o.masks.candidates 0 none_chosen)

        rule_eleven : first (rows_of choosing f) ≡ some no_candidate
        unfolding rows_of lines_in sift part_number reason_table first
        rule_eleven = rw (sym t.learning_is ∙ not_learning, no_candidate_law)

        eleven_met : met links addresses port frame ≡ false
        unfolding met_room
        eleven_met = room_met_law ∙ rw (none_left f.test o.masks t.masks_are no_candidate_law)

        pub eleven : Right links addresses frame n port (Drop (some l) no_masks no_candidate)
        eleven = choosing_right no_candidate eleven_met rule_eleven

      module _ (some_chosen : o.masks.candidates ≡ 0 → ⊥) where
        some_candidate : any_candidate f.test ≡ true
        some_candidate = any_is true (ne_eqb o.masks.candidates 0 some_chosen)

        chosen : first (rows_of choosing f) ≡ none
        unfolding rows_of lines_in sift part_number reason_table first
        chosen = rw (sym t.learning_is ∙ not_learning, some_candidate)

        counts : counts_tests f ≡ true
        counts = counts_then f (record { past = record { read = t.way.read; entered = λ _. t.entered }; chosen = λ _. chosen })

        pub tested_offered : Judged links addresses frame n port (plan_offered n links (length frame) (some l) o)
        tested_offered =
            offer_judged links addresses frame n port t.way.lent.count counts (reason_queueing f t.way.read t.ordinary t.entered chosen) (some l) o t.lesson_is
            t.masks_are t.queue_is t.header_is t.way.longest room_met_law
