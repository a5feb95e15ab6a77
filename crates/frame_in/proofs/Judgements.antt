-- The plans that a judgement comes to, each right by what has been found. Assumes nothing.
use Prim.Native.Nat.{ℕ, ◌≤◌}
use mathlib.Core.Path.{◌≡◌, refl, sym, ap, ◌∙◌}
use mathlib.Core.Bool.{Bool, true, false, not, true≢false}
use mathlib.Core.List.{List}
use Rattle.std.specs.Prelude.{Option, None as none, Some as some, Result, Ok, Err, IsErr}
use lib.Dec.{eqb, ltb}
use lib.ListN.{length}
use Rattle.rules.specs.Lines.{first}
use Rattle.rules.specs.Cells.{cells}
use Rattle.rules.specs.declared.reasons.Reason.{Reason}
use Rattle.rules.specs.declared.reasons.Reason.TheVariants.{NoPortLeft as no_port_left, NoRoom as no_room}
use Rattle.rules.specs.Counters.{counter_number}
use Rattle.rules.specs.declared.counters.Counter.TheVariants.{StateOut as state_out, QueueOut as queue_out}
use Rattle.rules.specs.PortTests.{ports_left}
use Rattle.rules.specs.Facts.{Facts}
use Rattle.rules.specs.ReasonTable.{queueing, part_number, reason_table, lines_in, rows_of, reason_for}
use Rattle.rules.specs.Outcomes.{drops, queues, frame_of, outcome_by, outcome_of, counts_tests, learns, is_not_learned}
use Rattle.rules.specs.Choice.{sift, is_empty}
use Rattle.rules.proofs.Choice.{on}
use Rattle.machine.specs.FrameIn.{candidate_events}
use Rattle.layout.specs.Lengths.{cell_count}
use Rattle.layout.specs.declared.damage.Damaged.{Damaged}
use Rattle.layout.specs.Bits.{less}
use Rattle.addresses.specs.Numbers.{table_of}
use Rattle.cells.specs.Free.{free_count, room_for}
use Rattle.queues.specs.Lists.{all_waiting_in_range}
use Rattle.arrival.specs.declared.plan.Lesson.{Lesson}
use Rattle.arrival.specs.declared.plan.Masks.{Masks}
use Rattle.arrival.specs.declared.plan.Offer.{Offer}
use Rattle.arrival.specs.declared.plan.Plan.{Plan}
use Rattle.arrival.specs.declared.plan.Plan.TheVariants.{Drop, Queue}
use Rattle.arrival.specs.Plans.{no_masks}
use Rattle.arrival.specs.Stored.{operation_for, stored_header}
use Rattle.arrival.specs.Candidates.{MasksAre}
use Rattle.arrival.specs.Room.{room_met, met_room, with_room, plan_offered}
use Rattle.frame_in.specs.Carried.{bump_at, counted_falls, lesson_by}
use Rattle.frame_in.specs.Met.{met}
use Rattle.frame_in.specs.Call.{facts_in, learned_in}
use Rattle.frame_in.specs.Counting.{counted}
use Rattle.frame_in.specs.Judged.{Right, Judged}
use Rattle.frame_in.proofs.Facts.{facts_room}
use Rattle.frame_in.proofs.Each.{each_none}
use Rattle.frame_in.proofs.Counts.{tests_counted, left_is, none_is}
use Rattle.frame_in.proofs.Joins.{enough, no_room_law}
use Rattle.frame_in.proofs.Outcomes.{dropped_carried, queued_carried}

module _ (links addresses frame : List ℕ) (n port : ℕ) where
  abbrev f : Facts
  f = facts_in links addresses port frame

  -- damage that was met
  pub damage_judged : (judged : Result Plan Damaged) → IsErr judged → met links addresses port frame ≡ true → Judged links addresses frame n port judged
  damage_judged (Err damage) e m = m
  damage_judged (Ok plan) e m = absurd (true≢false (sym e))

  -- what is to be learned
  abbrev pub Taught : Option Lesson → Type 0
  Taught lesson = lesson_by lesson port addresses ≡ (is_not_learned f (table_of addresses), learned_in links addresses port frame)

  pub nothing_taught : learns f ≡ false → Taught none
  unfolding lesson_by learned_in is_not_learned
  nothing_taught h = rw h

  drop_outcome : (r : Reason) → reason_for f ≡ some r → outcome_of f ≡ drops r
  unfolding outcome_of outcome_by
  drop_outcome r e = rw e

  drop_right : (r : Reason) (lesson : Option Lesson) (masks : Masks) → met links addresses port frame ≡ false → reason_for f ≡ some r
      → ((l : List ℕ) → counted (candidate_events f) l ≡ counted_falls masks l) → Taught lesson → Right links addresses frame n port (Drop lesson masks r)
  drop_right r lesson masks m e tests taught =
      record { unmet = m; ready = tt; carried = dropped_carried links addresses frame n port lesson masks tests taught r (drop_outcome r e) }

  -- ---- dropped before a candidate is tested

  nothing : less 0 0 ≡ 0
  unfolding less
  nothing = refl

  no_tests : counts_tests f ≡ false → (l : List ℕ) → counted (candidate_events f) l ≡ counted_falls no_masks l
  unfolding candidate_events counted counted_falls
  no_tests e l = rw e (each_none (bump_at (counter_number state_out)) (less 0 0) l nothing ∙ each_none (bump_at (counter_number queue_out)) (less 0 0) _ nothing)

  pub untested_right : (r : Reason) (lesson : Option Lesson) → met links addresses port frame ≡ false → reason_for f ≡ some r → counts_tests f ≡ false
      → Taught lesson → Right links addresses frame n port (Drop lesson no_masks r)
  untested_right r lesson m e c taught = drop_right r lesson no_masks m e (no_tests c) taught

  -- before the look-up too
  pub unlearned_right : (r : Reason) → met links addresses port frame ≡ false → reason_for f ≡ some r → (learns f ≡ false) × (counts_tests f ≡ false)
      → Right links addresses frame n port (Drop none no_masks r)
  unlearned_right r m e s = untested_right r none m e s.1 (nothing_taught s.0)

  -- ---- offered

  module _ (count : n ≡ cell_count links) (tested : counts_tests f ≡ true) (reason_is : reason_for f ≡ first (rows_of queueing f)) (lesson : Option Lesson) (o : Offer)
      (taught : Taught lesson) (masks_are : MasksAre f.test o.masks) (queue_is : o.queue.number ≡ f.queue)
      (header_is : o.header ≡ stored_header (operation_for links f.vid) (frame_of f)) (longest : length frame ≤ 4083)
      (met_is : met links addresses port frame ≡ met_room n links (length frame) o.masks.left) where
    offer_tests : (l : List ℕ) → counted (candidate_events f) l ≡ counted_falls o.masks l
    unfolding candidate_events
    offer_tests l = rw tested (tests_counted f.test o.masks masks_are l)

    is_none_is : is_empty (ports_left f.test) ≡ eqb o.masks.left 0
    is_none_is = none_is (ports_left f.test) ∙ ap (λ (m : ℕ). eqb m 0) (left_is f.test o.masks masks_are)

    reason_none : eqb o.masks.left 0 ≡ true → reason_for f ≡ some no_port_left
    unfolding rows_of lines_in sift part_number reason_table first
    reason_none e = reason_is ∙ rw (is_none_is ∙ e)

    reason_full : eqb o.masks.left 0 ≡ false → ltb (free_count links) (cells (length frame)) ≡ true → reason_for f ≡ some no_room
    unfolding rows_of lines_in sift part_number reason_table first
    reason_full e h = reason_is ∙ rw (is_none_is ∙ e, facts_room links addresses frame port ∙ h)

    outcome_queued : eqb o.masks.left 0 ≡ false → ltb (free_count links) (cells (length frame)) ≡ false → outcome_of f ≡ queues (frame_of f) (ports_left f.test)
    unfolding outcome_of outcome_by rows_of lines_in sift part_number reason_table first
    outcome_queued e h = rw (reason_is, is_none_is ∙ e, facts_room links addresses frame port ∙ h)

    twelve : eqb o.masks.left 0 ≡ true → Right links addresses frame n port (Drop lesson o.masks no_port_left)
    unfolding met_room
    twelve e = drop_right no_port_left lesson o.masks (met_is ∙ rw e) (reason_none e) offer_tests taught

    module _ (e : eqb o.masks.left 0 ≡ false) where
      room_meets : (room : Result Bool Damaged) → room_for n (cells (length frame)) links ≡ room
          → met links addresses port frame ≡ room_met room (all_waiting_in_range links)
      unfolding met_room
      room_meets room h = met_is ∙ rw (e, h)

      thirteen : room_for n (cells (length frame)) links ≡ Ok false → Right links addresses frame n port (Drop lesson o.masks no_room)
      unfolding room_met
      thirteen h =
          drop_right no_room lesson o.masks (room_meets (Ok false) h) (reason_full e (no_room_law n (cells (length frame)) links h)) offer_tests taught

      queued : room_for n (cells (length frame)) links ≡ Ok true → all_waiting_in_range links ≡ true → Right links addresses frame n port (Queue lesson o)
      unfolding room_met
      queued h r =
          record {
            unmet = room_meets (Ok true) h ∙ ap not r;
            ready = record { long = longest; left = masks_are.small; enough = h };
            carried = queued_carried links addresses frame n port lesson o.masks offer_tests taught o.queue o.header
                (outcome_queued e (enough n (cells (length frame)) links h).few) masks_are queue_is header_is count;
          }

      with_room_judged : (room : Result Bool Damaged) → room_for n (cells (length frame)) links ≡ room
          → Judged links addresses frame n port (with_room room (all_waiting_in_range links) lesson o)
      unfolding with_room room_met
      with_room_judged (Err damage) h = room_meets (Err damage) h
      with_room_judged (Ok false) h = thirteen h
      with_room_judged (Ok true) h =
          on (all_waiting_in_range links) (λ r. rw r (queued h r)) (λ r. rw r (room_meets (Ok true) h ∙ ap not r))

    pub offer_judged : Judged links addresses frame n port (plan_offered n links (length frame) lesson o)
    unfolding plan_offered
    offer_judged = on (eqb o.masks.left 0) (λ e. rw e (twelve e)) (λ e. rw e (with_room_judged e (room_for n (cells (length frame)) links) refl))
