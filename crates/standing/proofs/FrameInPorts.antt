-- A frame-in queues and counts at ports 0 to 4: a frame's ports are some of them, in ascending order. Assumes nothing.
use Prim.Native.Nat.{ℕ, ◌≤◌}
use mathlib.Core.Path.{◌≡◌, refl, sym, ap, ◌∙◌}
use mathlib.Core.Bool.{Bool, true, false}
use mathlib.Core.List.{List, ◌∷◌}
use native.Mathlib.Omega.{arith}
use Rattle.rules.specs.Choice.{sift, among, Distinct, Each, nobody, also}
use Rattle.rules.specs.PortTests.{Test, passes, not_member, arrival, elsewhere, state, queue_off, is_passed, ports_left}
use Rattle.rules.specs.Numbers.{all_ports}
use Rattle.rules.specs.declared.counters.Counter.TheVariants.{Offered as offered, Reason as reason, Accepted as accepted, NotLearned as not_learned, StateOut as state_out, QueueOut as queue_out}
use Rattle.rules.specs.Facts.{Facts}
use Rattle.rules.specs.Outcomes.{Frame, Outcome, drops, queues, outcome_of, counts_tests}
use Rattle.rules.proofs.Choice.{on, each_append, distinct_sift}
use Rattle.machine.specs.Events.{Event, counts, joins}
use Rattle.machine.specs.FrameIn.{test_event, test_events, candidate_events, lesson_events, join_events, outcome_events, frame_in_events}
use Rattle.standing.proofs.Masks.{sift_sift, sift_ext, among_sift_is}
use Rattle.standing.proofs.Counting.{AtPort}

abbrev pub Inside : ℕ → Type 0
Inside p = p ≤ 4

-- ---- the ports left

each_sift : {P : ℕ → Type 0} (t : ℕ → Bool) {xs : List ℕ} → Each P xs → Each P (sift t xs)
unfolding sift
each_sift t nobody = nobody
each_sift t (also {a = x} h r) = on (t x) (λ e. rw e (also h (each_sift t r))) (λ e. rw e (each_sift t r))

all_inside : Each Inside all_ports
all_inside =
    also {a = 0} (omega arith)
    (also {a = 1} (omega arith) (also {a = 2} (omega arith) (also {a = 3} (omega arith) (also {a = 4} (omega arith) nobody))))

module _ (test : ℕ → Test) where
  pub left_inside : Each Inside (ports_left test)
  unfolding ports_left
  left_inside = each_sift (λ r. is_passed (test r)) all_inside

  pub left_distinct : Distinct (ports_left test)
  unfolding ports_left among
  left_distinct = distinct_sift (λ r. is_passed (test r)) all_ports (refl, (refl, (refl, (refl, (refl, tt)))))

  every_port_law : sift (λ r. among r all_ports) all_ports ≡ all_ports
  unfolding sift among
  every_port_law = refl

  pub left_ascending : ports_left test ≡ sift (λ r. among r (ports_left test)) all_ports
  unfolding ports_left
  left_ascending =
      let passed : ℕ → Bool = λ r. is_passed (test r) in
      ap (sift passed) (sym every_port_law)
      ∙ sift_sift passed (λ r. among r all_ports) all_ports
      ∙ sift_ext _ _ (λ r. sym (among_sift_is passed r all_ports)) all_ports

-- ---- events

first_at : (e : Event) {es : List Event} → e.port ≤ 4 → Each AtPort es → Each AtPort (e ∷ es)
first_at e h t = also {a = e} (omega (arith, h)) t

test_at : (r : ℕ) → r ≤ 4 → (t : Test) → Each AtPort (test_event r t)
unfolding test_event
test_at r h passes = nobody
test_at r h not_member = nobody
test_at r h arrival = nobody
test_at r h elsewhere = nobody
test_at r h state = first_at (counts state_out r) h nobody
test_at r h queue_off = first_at (counts queue_out r) h nobody

tests_at : (test : ℕ → Test) {rs : List ℕ} → Each Inside rs → Each AtPort (test_events test rs)
unfolding test_events
tests_at test nobody = nobody
tests_at test (also {a = r} h t) = each_append (test_at r h (test r)) (tests_at test t)

candidates_at : (f : Facts) → Each AtPort (candidate_events f)
unfolding candidate_events
candidates_at f = on (counts_tests f) (λ e. rw e (tests_at f.test all_inside)) (λ e. rw e nobody)

lesson_at : (p : ℕ) → p ≤ 4 → (unlearned : Bool) → Each AtPort (lesson_events p unlearned)
unfolding lesson_events
lesson_at p h true = first_at (counts not_learned p) h nobody
lesson_at p h false = nobody

joins_at : (f : Frame) {rs : List ℕ} → Each Inside rs → Each AtPort (join_events f rs)
unfolding join_events
joins_at f nobody = nobody
joins_at f (also {a = r} h t) = first_at (joins r f) h (joins_at f t)

-- the ports of an outcome
abbrev pub PortsInside : Outcome → Type 0
PortsInside (drops r) = Unit {0}
PortsInside (queues f ports) = Each Inside ports

outcome_at : (p : ℕ) → p ≤ 4 → (o : Outcome) → PortsInside o → Each AtPort (outcome_events p o)
unfolding outcome_events
outcome_at p h (drops r) i = first_at (counts (reason r) p) h nobody
outcome_at p h (queues f ports) i = first_at (counts accepted p) h (joins_at f i)

pub events_at : (f : Facts) → f.port ≤ 4 → (unlearned : Bool) → PortsInside (outcome_of f) → Each AtPort (frame_in_events f unlearned)
unfolding frame_in_events
events_at f h unlearned i =
    first_at (counts offered f.port) h
    (each_append (each_append (lesson_at f.port h unlearned) (candidates_at f)) (outcome_at f.port h (outcome_of f) i))
