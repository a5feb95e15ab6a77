-- A plan carried out does what the rules and the machine say: dropped, or queued. Assumes nothing.
use Prim.Native.Nat.{ℕ, ◌≤◌}
use mathlib.Core.Path.{◌≡◌, refl, sym, ap, ap₂, ◌∙◌}
use mathlib.Core.Bool.{Bool}
use mathlib.Core.List.{List}
use native.Mathlib.Omega.{arith}
use lib.ListN.{length}
use Rattle.rules.specs.Cells.{cells}
use Rattle.rules.specs.Reasons.{reason_number}
use Rattle.rules.specs.declared.reasons.Reason.{Reason}
use Rattle.rules.specs.declared.counters.Counter.TheVariants.{Reason as reason, Accepted as accepted}
use Rattle.std.specs.Prelude.{Option}
use Rattle.rules.specs.Counters.{counter_number}
use Rattle.rules.specs.PortTests.{ports_left}
use Rattle.rules.specs.Facts.{Facts}
use Rattle.rules.specs.Outcomes.{Outcome, drops, queues, frame_of, outcome_of, is_not_learned}
use Rattle.machine.specs.Waiting.{size}
use Rattle.machine.specs.FrameIn.{mask, candidate_events, outcome_events, frame_in_events}
use Rattle.layout.specs.declared.answers.Answer.{Answer}
use Rattle.layout.specs.Lengths.{cell_count}
use Rattle.layout.specs.Answers.{done_with}
use Rattle.addresses.specs.Numbers.{table_of}
use Rattle.cells.specs.Free.{first_free, taken}
use Rattle.layout.specs.declared.ports.Queue as Queues
use Rattle.cells.specs.declared.stored.StoredHeader.{StoredHeader}
use Rattle.arrival.specs.declared.plan.Lesson.{Lesson}
use Rattle.arrival.specs.declared.plan.Masks.{Masks}
use Rattle.arrival.specs.declared.plan.Offer.{Offer}
use Rattle.arrival.specs.declared.plan.Plan.TheVariants.{Drop, Queue}
use Rattle.arrival.specs.Stored.{operation_for, stored_header}
use Rattle.arrival.specs.Candidates.{ports_in, MasksAre}
use Rattle.frame_in.specs.Carried.{each_port, bump_at, push_at, counted_falls, count_if, counted_with, joined_at, stored_at, lesson_by, carried_out}
use Rattle.layout.specs.Counters.{bumped}
use Rattle.frame_in.specs.Counting.{counted}
use Rattle.frame_in.specs.Call.{Memories, facts_in, stored_for, joined_for, learned_in, answer_for, entered}
use Rattle.frame_in.proofs.Facts.{facts_bytes, facts_port}
use Rattle.frame_in.proofs.Queued.{two_runs, queued_last}
use Rattle.frame_in.proofs.Counts.{queued_counted, pushed_each, left_is, events_counted}

parts : {a a' : Answer} {b b' c c' d d' : List ℕ} → a ≡ a' → b ≡ b' → c ≡ c' → d ≡ d' → ◌≡◌ {A = Answer × Memories} (a, (b, c, d)) (a', (b', c', d'))
parts p q r s = cc

module _ (links addresses frame : List ℕ) (n port : ℕ) (lesson : Option Lesson) (masks : Masks)
    (tests_are : (l : List ℕ) → counted (candidate_events (facts_in links addresses port frame)) l ≡ counted_falls masks l)
    (lesson_is : lesson_by lesson port addresses ≡ (is_not_learned (facts_in links addresses port frame) (table_of addresses), learned_in links addresses port frame)) where
  abbrev f : Facts
  f = facts_in links addresses port frame

  abbrev unlearned : Bool
  unlearned = (lesson_by lesson port addresses).0

  abbrev events : List ℕ → List ℕ
  events l = counted (frame_in_events f (is_not_learned f (table_of addresses))) l

  abbrev so_far : List ℕ → List ℕ
  so_far l = counted_falls masks (count_if unlearned port (bumped port 0 l))

  before_outcome : (o : Outcome) → outcome_of f ≡ o → (l : List ℕ) → events l ≡ counted (outcome_events port o) (so_far l)
  before_outcome o e l =
      events_counted f (is_not_learned f (table_of addresses)) l
      ∙ ap₂ (λ (p : ℕ) (x : Outcome). counted (outcome_events p x) (counted (candidate_events f) (count_if (is_not_learned f (table_of addresses)) p (bumped p 0 l))))
      (facts_port links addresses frame port) e
      ∙ ap (counted (outcome_events port o))
      (tests_are (count_if (is_not_learned f (table_of addresses)) port (bumped port 0 l))
      ∙ ap (λ (b : Bool). counted_falls masks (count_if b port (bumped port 0 l))) (sym (ap (λ (p : Bool × List ℕ). p.0) lesson_is)))

  learned_is : (lesson_by lesson port addresses).1 ≡ learned_in links addresses port frame
  learned_is = ap (λ (p : Bool × List ℕ). p.1) lesson_is

  -- ---- dropped

  module _ (r : Reason) (outcome : outcome_of f ≡ drops r) where
    drop_answer : done_with (reason_number r) 0 ≡ answer_for (outcome_of f)
    unfolding answer_for
    drop_answer = rw outcome

    drop_stored : (memory : List ℕ) → memory ≡ stored_for (cell_count links) (operation_for links f.vid) (outcome_of f) links memory
    unfolding stored_for
    drop_stored memory = rw outcome

    drop_counts : (l : List ℕ) → bumped port (reason_number r) (so_far l) ≡ counted (outcome_events port (drops r)) (so_far l)
    unfolding outcome_events counted counter_number
    drop_counts l = refl

    drop_links : counted_with (reason r) port unlearned masks links ≡ events (joined_for (cell_count links) (outcome_of f) links)
    unfolding counted_with joined_for counter_number
    drop_links = rw outcome (drop_counts links ∙ sym (before_outcome (drops r) outcome links))

    pub dropped_carried : (memory : List ℕ) → carried_out n (Drop lesson masks r) port frame memory links addresses ≡ entered port frame memory links addresses
    unfolding carried_out entered
    dropped_carried memory = parts drop_answer (drop_stored memory) drop_links learned_is

  -- ---- queued

  module _ (queue : Queues.Queue) (header : StoredHeader) (outcome : outcome_of f ≡ queues (frame_of f) (ports_left f.test)) (masks_are : MasksAre f.test masks)
      (queue_is : queue.number ≡ f.queue) (header_is : header ≡ stored_header (operation_for links f.vid) (frame_of f)) (count_is : n ≡ cell_count links) where
    abbrev offer : Offer
    offer = record { masks = masks; queue = queue; header = header }

    queue_low : queue.number ≤ 3
    queue_low = let there = queue.there in omega (arith, there)

    taken_left : masks.left ≡ mask (ports_left f.test)
    taken_left = sym (left_is f.test masks masks_are)

    ports_are : ports_in masks.left ≡ ports_left f.test
    ports_are = masks_are.left

    bytes_are : (frame_of f).packet.bytes ≡ frame
    unfolding frame_of
    bytes_are = facts_bytes links addresses frame port

    size_is : size (frame_of f) ≡ cells (length frame)
    unfolding size
    size_is = ap (λ (b : List ℕ). cells (length b)) bytes_are

    queue_at_law : queue.number ≡ (frame_of f).queue
    unfolding frame_of
    queue_at_law = queue_is

    queue_answer : done_with 0 masks.left ≡ answer_for (outcome_of f)
    unfolding answer_for
    queue_answer = rw (outcome, taken_left)

    queue_stored : (memory : List ℕ) → stored_at n offer memory links frame ≡ stored_for (cell_count links) (operation_for links f.vid) (outcome_of f) links memory
    unfolding stored_at stored_for
    queue_stored memory = rw (outcome, size_is, header_is, bytes_are, count_is)

    -- queued and not yet counted
    abbrev pushes : List ℕ
    pushes = each_port (push_at n queue.number (first_free links)) (ports_in masks.left) (taken n (cells (length frame)) masks.left links)

    queue_pushed : joined_at n offer frame links ≡ each_port (bump_at 16) (ports_in masks.left) pushes
    unfolding joined_at
    queue_pushed = two_runs n queue.number (first_free links) queue_low masks.left (taken n (cells (length frame)) masks.left links)

    queue_joined : pushes ≡ joined_for (cell_count links) (outcome_of f) links
    unfolding joined_for
    queue_joined =
        rw (outcome, size_is, ports_are, taken_left, queue_at_law, count_is)
        (sym (pushed_each (cell_count links) (frame_of f).queue (first_free links) (ports_left f.test) (taken (cell_count links) (cells (length frame)) (mask (ports_left f.test)) links)))

    queue_counts : (l : List ℕ) → each_port (bump_at 16) (ports_in masks.left) (bumped port 14 (so_far l))
        ≡ counted (outcome_events port (queues (frame_of f) (ports_left f.test))) (so_far l)
    unfolding outcome_events counted counter_number
    queue_counts l =
        rw ports_are (sym (queued_counted (frame_of f) (ports_left f.test) (bumped port 14 (so_far l))))

    queue_links : counted_with accepted port unlearned masks (joined_at n offer frame links) ≡ events (joined_for (cell_count links) (outcome_of f) links)
    unfolding counted_with counter_number
    queue_links =
        ap (counted_with accepted port unlearned masks) queue_pushed
        ∙ queued_last (ports_in masks.left) masks unlearned port pushes
        ∙ queue_counts pushes
        ∙ sym (before_outcome (queues (frame_of f) (ports_left f.test)) outcome pushes)
        ∙ ap events queue_joined

    pub queued_carried : (memory : List ℕ) → carried_out n (Queue lesson offer) port frame memory links addresses ≡ entered port frame memory links addresses
    unfolding carried_out entered
    queued_carried memory = parts queue_answer (queue_stored memory) queue_links learned_is
