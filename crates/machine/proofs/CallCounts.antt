-- What each counter counts of each call. Assumes nothing.
use Prim.Native.Nat.{ℕ, ◌+◌, ◌≤◌, ◌<◌}
use mathlib.Core.Path.{◌≡◌, refl, sym, ap, ap₂, ◌∙◌}
use mathlib.Core.Bool.{Bool, true, false, ◌&&◌, false≢true}
use mathlib.Core.List.{List, [], ◌∷◌, ◌++◌}
use mathlib.Core.List as Lists
use Rattle.std.specs.Prelude.{Option, None as none, Some as some}
use native.Mathlib.Omega.{arith}
use lib.Dec.{eqb}
use lib.ListN.{length}
use borrow.Author.Tests.{eqb-true, eq-eqb, ne_eqb}
use Rattle.std.specs.Prelude.{if◌then◌else◌}
use Rattle.rules.specs.Choice.{is_nothing, among, Distinct}
use Rattle.rules.specs.Numbers.{all_ports}
use Rattle.rules.specs.Reasons.{reason_number}
use Rattle.rules.specs.declared.reasons.Reason.{Reason}
use Rattle.rules.specs.declared.reasons.Reason.TheVariants.{Short as short, Long as long, GroupSource as group_source, TagCount as tag_count, PortBlocking as port_blocking, PortListening as port_listening, Vid4095 as vid4095, NoVlan as no_vlan, NoMember as no_member, PortLearning as port_learning, NoCandidate as no_candidate, NoPortLeft as no_port_left, NoRoom as no_room}
use Rattle.rules.specs.Counters.{counter_number}
use Rattle.rules.specs.declared.counters.Counter.{Counter}
use Rattle.rules.specs.declared.counters.Counter.TheVariants.{Offered as offered}
use Rattle.rules.specs.Addresses.{is_no_place}
use Rattle.rules.specs.PortTests.{Test, passes, not_member, arrival, elsewhere, state, queue_off, ports_left}
use Rattle.rules.specs.Facts.{Facts, facts_of}
use Rattle.rules.specs.ReasonTable.{reason_for}
use Rattle.rules.specs.Outcomes.{Frame, frame_of, outcome_by, outcome_of, counts_tests, learns, learning_for, is_not_learned}
use Rattle.rules.proofs.Choice.{on, on_option, and_left, and_right, or_left, or_right, eqb_self}
use Rattle.rules.proofs.Parts.{learns_exactly, counts_only, counts_then}
use Rattle.rules.proofs.PortTests.{is_state, is_queue_off, left_passes, passes_left, port_among, among_port}
use Rattle.rules.proofs.Addresses.{no_place_only, no_place_then}
use Rattle.machine.specs.Waiting.{port_at}
use Rattle.machine.specs.Events.{counts, drains, bumps, count}
use Rattle.rules.specs.Requests.{FrameInRequest, TakeRequest}
use Rattle.machine.specs.State.{State, Call, frame_in, take, age, counter, port, vlan, clear_vlan, static, remove, map, queue_switch, drain, bpdu, Step}
use Rattle.machine.specs.FrameIn.{facts_at, test_event, test_events, candidate_events, lesson_events, join_events, outcome_events, frame_in_events, enters, frame_in_step}
use Rattle.machine.specs.TakeOut.{served, taken, drain_step}
use Rattle.machine.specs.SettingCalls.{silently, settle}
use Rattle.machine.specs.Machine.{age_step, carry_out, refusing, perform}
use Rattle.machine.specs.CallTheorems.{Allowed, facts_now, NothingWaits}
use Rattle.machine.specs.CountTheorems.{once, outcome_number, CountedIf, NoPlace, FrameInCounts, CountTheorems}
use Rattle.machine.proofs.Steps.{allowed_is, perform_has}
use Rattle.machine.proofs.Counters.{count_append}
use Rattle.machine.proofs.Queues.{distinct_left}
use Rattle.machine.proofs.Serving.{served_none, none_served}
use Rattle.machine.proofs.Leaving.{takes, drains_by}

-- ---- tests and what they say

counted_if : (n : ℕ) (b : Bool) (P : Type 0) → n ≡ once b → (b ≡ true → P) → (P → b ≡ true) → CountedIf n P
counted_if n b P e only then_so =
    record {
      counted = λ p. e ∙ ap once (then_so p);
      not_counted = λ no. e ∙ on b (λ h. absurd (no (only h))) (λ h. ap once h);
    }

-- ---- one event, and the parts of a frame-in's events

one_event : (c : Counter) (a r k : ℕ) → count r k (counts c a ∷ []) ≡ once (eqb r a && eqb k (counter_number c))
unfolding count bumps
one_event c a r k = omega arith

lesson_count : (a r k : ℕ) (b : Bool) → count r k (lesson_events a b) ≡ once (b && (eqb r a && eqb k 15))
unfolding lesson_events count bumps counter_number
lesson_count a r k true = omega arith
lesson_count a r k false = refl

-- an event of a test is counted at its own port, by its own number
test_elsewhere : (a r k : ℕ) (t : Test) → eqb r a ≡ false → count r k (test_event a t) ≡ 0
unfolding test_event count bumps
test_elsewhere a r k passes e = refl
test_elsewhere a r k not_member e = refl
test_elsewhere a r k arrival e = refl
test_elsewhere a r k elsewhere e = refl
test_elsewhere a r k state e = rw e
test_elsewhere a r k queue_off e = rw e

tests_elsewhere : (test : ℕ → Test) (rs : List ℕ) (r k : ℕ) → among r rs ≡ false → count r k (test_events test rs) ≡ 0
unfolding test_events count among
tests_elsewhere test [] r k h = refl
tests_elsewhere test (a ∷ rs) r k h =
    count_append r k (test_event a (test a)) (test_events test rs)
    ∙ omega (arith, test_elsewhere a r k (test a) (or_left (eqb r a) (among r rs) h), tests_elsewhere test rs r k (or_right (eqb r a) (among r rs) h))

ports_distinct : Distinct all_ports
unfolding among
ports_distinct = (refl, (refl, (refl, (refl, (refl, tt)))))

-- the test that counter k counts
module _ (k : ℕ) (is : Test → Bool) (own : (a : ℕ) (t : Test) → count a k (test_event a t) ≡ once (is t)) where
  tests_count : (test : ℕ → Test) (rs : List ℕ) (r : ℕ) → Distinct rs → count r k (test_events test rs) ≡ once (among r rs && is (test r))
  unfolding test_events count among
  tests_count test [] r d = refl
  tests_count test (a ∷ rs) r d =
      count_append r k (test_event a (test a)) (test_events test rs)
      ∙ on (eqb r a)
      (λ e. let same : r ≡ a = eqb-true r a e in
      rw (← same) (rw (eqb_self r) (omega (arith, own r (test r), tests_elsewhere test rs r k (rw (← same) at d.0)))))
      (λ e. rw e (omega (arith, test_elsewhere a r k (test a) e, tests_count test rs r d.1)))

  candidates_count : (f : Facts) (r : ℕ) → count r k (candidate_events f) ≡ once (counts_tests f && (among r all_ports && is (f.test r)))
  unfolding candidate_events count
  candidates_count f r =
      on (counts_tests f)
      (λ e. rw e (tests_count f.test all_ports r ports_distinct))
      (λ e. rw e)

own_state : (a : ℕ) (t : Test) → count a 17 (test_event a t) ≡ once (is_state t)
unfolding test_event count bumps counter_number is_state
own_state a passes = refl
own_state a not_member = refl
own_state a arrival = refl
own_state a elsewhere = refl
own_state a state = rw (eqb_self a)
own_state a queue_off = rw (eqb_self a)

own_queue_off : (a : ℕ) (t : Test) → count a 18 (test_event a t) ≡ once (is_queue_off t)
unfolding test_event count bumps counter_number is_queue_off
own_queue_off a passes = refl
own_queue_off a not_member = refl
own_queue_off a arrival = refl
own_queue_off a elsewhere = refl
own_queue_off a state = rw (eqb_self a)
own_queue_off a queue_off = rw (eqb_self a)

-- no other counter counts a test
module _ (k : ℕ) (no_state : eqb k 17 ≡ false) (no_queue : eqb k 18 ≡ false) where
  own_none : (a : ℕ) (t : Test) → count a k (test_event a t) ≡ once false
  unfolding test_event count bumps counter_number
  own_none a passes = refl
  own_none a not_member = refl
  own_none a arrival = refl
  own_none a elsewhere = refl
  own_none a state = rw (eqb_self a, no_state)
  own_none a queue_off = rw (eqb_self a, no_queue)

  candidates_none : (f : Facts) (r : ℕ) → count r k (candidate_events f) ≡ 0
  candidates_none f r =
      candidates_count k (λ (t : Test). false) own_none f r
      ∙ on (counts_tests f) (λ e. rw e (on (among r all_ports) (λ h. rw h) (λ h. rw h))) (λ e. rw e)

-- the ports of a queued frame
joined_elsewhere : (f : Frame) (rs : List ℕ) (r k : ℕ) → among r rs ≡ false → count r k (join_events f rs) ≡ 0
unfolding join_events count bumps among
joined_elsewhere f [] r k h = refl
joined_elsewhere f (a ∷ rs) r k h = rw (or_left (eqb r a) (among r rs) h) (omega (arith, joined_elsewhere f rs r k (or_right (eqb r a) (among r rs) h)))

joined_count : (f : Frame) (rs : List ℕ) (r : ℕ) → Distinct rs → count r 16 (join_events f rs) ≡ once (among r rs)
unfolding join_events count bumps counter_number among
joined_count f [] r d = refl
joined_count f (a ∷ rs) r d =
    on (eqb r a)
    (λ e. rw e (omega (arith, joined_elsewhere f rs r 16 (rw (eqb-true r a e) d.0))))
    (λ e. rw e (omega (arith, joined_count f rs r d.1)))

joined_none : (f : Frame) (rs : List ℕ) (r k : ℕ) → eqb k 16 ≡ false → count r k (join_events f rs) ≡ 0
unfolding join_events count bumps counter_number
joined_none f [] r k h = refl
joined_none f (a ∷ rs) r k h = rw h (on (eqb r a) (λ e. rw e (omega (arith, joined_none f rs r k h))) (λ e. rw e (omega (arith, joined_none f rs r k h))))

nothing_none : is_nothing {A = Reason} none ≡ true
unfolding is_nothing
nothing_none = refl

nothing_some : (r : Reason) → is_nothing (some r) ≡ false
unfolding is_nothing
nothing_some r = refl

nothing_only : (o : Option Reason) → is_nothing o ≡ true → o ≡ none
unfolding is_nothing
nothing_only none h = refl
nothing_only (some r) h = absurd (false≢true h)

quiet : (s : State) (c : Call) → ((d : FrameInRequest) → c ≡ frame_in d → ⊥) → ((d : TakeRequest) → c ≡ take d → ⊥) → ((p : ℕ) → c ≡ drain p → ⊥)
    → (carry_out s c).events ≡ []
unfolding carry_out age_step settle silently
quiet s (frame_in c) n₁ n₂ n₃ = absurd (n₁ c refl)
quiet s (take c) n₁ n₂ n₃ = absurd (n₂ c refl)
quiet s age n₁ n₂ n₃ = refl
quiet s (counter c) n₁ n₂ n₃ = refl
quiet s (port c) n₁ n₂ n₃ = refl
quiet s (vlan n) n₁ n₂ n₃ = refl
quiet s (clear_vlan vid) n₁ n₂ n₃ = refl
quiet s (static c) n₁ n₂ n₃ = refl
quiet s (remove c) n₁ n₂ n₃ = refl
quiet s (map c) n₁ n₂ n₃ = refl
quiet s (queue_switch c) n₁ n₂ n₃ = refl
quiet s (drain p) n₁ n₂ n₃ = absurd (n₃ p refl)
quiet s (bpdu flag) n₁ n₂ n₃ = refl

-- ---- reasons and the other numbers

pub reason_between : (x : Reason) → (1 ≤ reason_number x) × (reason_number x ≤ 13)
unfolding reason_number
reason_between short = (omega arith, omega arith)
reason_between long = (omega arith, omega arith)
reason_between group_source = (omega arith, omega arith)
reason_between tag_count = (omega arith, omega arith)
reason_between port_blocking = (omega arith, omega arith)
reason_between port_listening = (omega arith, omega arith)
reason_between vid4095 = (omega arith, omega arith)
reason_between no_vlan = (omega arith, omega arith)
reason_between no_member = (omega arith, omega arith)
reason_between port_learning = (omega arith, omega arith)
reason_between no_candidate = (omega arith, omega arith)
reason_between no_port_left = (omega arith, omega arith)
reason_between no_room = (omega arith, omega arith)

not_reason : (k : ℕ) (x : Reason) → 13 < k → eqb k (reason_number x) ≡ false
not_reason k x h = ne_eqb k (reason_number x) (λ e. omega (arith, (reason_between x).1))

reason_not : (x : Reason) (k : ℕ) → 13 < k → eqb (reason_number x) k ≡ false
reason_not x k h = ne_eqb (reason_number x) k (λ e. omega (arith, (reason_between x).1))

-- ---- all events of a frame-in

no_once : (a c : Bool) → c ≡ false → once (a && c) ≡ 0
no_once a c h = rw h (on a (λ d. rw d) (λ d. rw d))

offered_event : (a r k : ℕ) → count r k (counts offered a ∷ []) ≡ once (eqb r a && eqb k 0)
unfolding counter_number
offered_event a r k = one_event offered a r k

module _ (f : Facts) (b : Bool) (r k : ℕ) where
  all_count : count r k (frame_in_events f b)
      ≡ once (eqb r f.port && eqb k 0) + (count r k (lesson_events f.port b) + count r k (candidate_events f)) + count r k (outcome_events f.port (outcome_of f))
  unfolding frame_in_events
  all_count =
      count_append r k (counts offered f.port ∷ (lesson_events f.port b ++ candidate_events f)) (outcome_events f.port (outcome_of f))
      ∙ ap (λ (n : ℕ). n + count r k (outcome_events f.port (outcome_of f)))
      (count_append r k (counts offered f.port ∷ []) (lesson_events f.port b ++ candidate_events f)
      ∙ omega (arith, offered_event f.port r k, count_append r k (lesson_events f.port b) (candidate_events f)))

  lesson_none : eqb k 15 ≡ false → count r k (lesson_events f.port b) ≡ 0
  lesson_none h =
      lesson_count f.port r k b
      ∙ rw h (on b (λ e. rw e (on (eqb r f.port) (λ d. rw d) (λ d. rw d))) (λ e. rw e))

  -- the outcome's events, dropped or queued
  dropped_count : (x : Reason) → reason_for f ≡ some x → count r k (outcome_events f.port (outcome_of f)) ≡ once (eqb r f.port && eqb k (reason_number x))
  unfolding outcome_of outcome_by outcome_events count bumps counter_number
  dropped_count x e = rw e (omega arith)

  queued_count : reason_for f ≡ none
      → count r k (outcome_events f.port (outcome_of f)) ≡ once (eqb r f.port && eqb k 14) + count r k (join_events (frame_of f) (ports_left f.test))
  unfolding outcome_of outcome_by outcome_events count bumps counter_number
  queued_count e = rw e

  -- a counter that no outcome counts
  outcome_none : ((x : Reason) → eqb k (reason_number x) ≡ false) → eqb k 14 ≡ false → eqb k 16 ≡ false → count r k (outcome_events f.port (outcome_of f)) ≡ 0
  outcome_none x a q =
      on_option (reason_for f)
      (λ e. queued_count e ∙ omega (arith, joined_none (frame_of f) (ports_left f.test) r k q, no_once (eqb r f.port) (eqb k 14) a))
      (λ y e. dropped_count y e ∙ no_once (eqb r f.port) (eqb k (reason_number y)) (x y))

with_true : (a c : Bool) → c ≡ true → once (a && c) ≡ once a
with_true a c h = rw h (on a (λ d. rw d) (λ d. rw d))

zero_not_reason : (x : Reason) → eqb 0 (reason_number x) ≡ false
zero_not_reason x = ne_eqb 0 (reason_number x) (λ e. omega (arith, (reason_between x).0))

is_state_law : (t : Test) → is_state t ≡ true → t ≡ state
unfolding is_state
is_state_law passes e = absurd (false≢true e)
is_state_law not_member e = absurd (false≢true e)
is_state_law arrival e = absurd (false≢true e)
is_state_law elsewhere e = absurd (false≢true e)
is_state_law state e = refl
is_state_law queue_off e = absurd (false≢true e)

is_queue_off_law : (t : Test) → is_queue_off t ≡ true → t ≡ queue_off
unfolding is_queue_off
is_queue_off_law passes e = absurd (false≢true e)
is_queue_off_law not_member e = absurd (false≢true e)
is_queue_off_law arrival e = absurd (false≢true e)
is_queue_off_law elsewhere e = absurd (false≢true e)
is_queue_off_law state e = absurd (false≢true e)
is_queue_off_law queue_off e = refl

state_is : (t : Test) → t ≡ state → is_state t ≡ true
unfolding is_state
state_is t e = ap is_state e

queue_off_is : (t : Test) → t ≡ queue_off → is_queue_off t ≡ true
unfolding is_queue_off
queue_off_is t e = ap is_queue_off e

module _ (f : Facts) (b : Bool) (r : ℕ) where
  offered_count : count r 0 (frame_in_events f b) ≡ once (eqb r f.port)
  offered_count =
      all_count f b r 0
      ∙ omega (arith, with_true (eqb r f.port) (eqb 0 0) refl, lesson_none f b r 0 refl, candidates_none 0 refl refl f r, outcome_none f b r 0 zero_not_reason refl refl)

  reason_count : (x : Reason) → count r (reason_number x) (frame_in_events f b) ≡ once (eqb r f.port && eqb (reason_number x) (outcome_number (reason_for f)))
  reason_count x =
      all_count f b r (reason_number x)
      ∙ omega (arith, no_once (eqb r f.port) (eqb (reason_number x) 0) not_zero, lesson_none f b r (reason_number x) (reason_not x 15 (omega arith)), candidates_none (reason_number x) (reason_not x 17 (omega arith)) (reason_not x 18 (omega arith)) f r, outcome)
    where
      not_zero : eqb (reason_number x) 0 ≡ false
      not_zero = ne_eqb (reason_number x) 0 (λ e. omega (arith, (reason_between x).0))

      outcome : count r (reason_number x) (outcome_events f.port (outcome_of f)) ≡ once (eqb r f.port && eqb (reason_number x) (outcome_number (reason_for f)))
      outcome =
          on_option (reason_for f)
          (λ e. queued_count f b r (reason_number x) e
          ∙ omega (arith, joined_none (frame_of f) (ports_left f.test) r (reason_number x) (reason_not x 16 (omega arith)), no_once (eqb r f.port) (eqb (reason_number x) 14) (reason_not x 14 (omega arith)))
          ∙ sym (ap (λ (o : Option Reason). once (eqb r f.port && eqb (reason_number x) (outcome_number o))) e ∙ no_once (eqb r f.port) (eqb (reason_number x) 0) not_zero))
          (λ y e. dropped_count f b r (reason_number x) y e ∙ sym (ap (λ (o : Option Reason). once (eqb r f.port && eqb (reason_number x) (outcome_number o))) e))

  accepted_count : count r 14 (frame_in_events f b) ≡ once (eqb r f.port && is_nothing (reason_for f))
  accepted_count =
      all_count f b r 14
      ∙ omega (arith, no_once (eqb r f.port) (eqb 14 0) refl, lesson_none f b r 14 refl, candidates_none 14 refl refl f r, accepted_outcome)
    where
      accepted_outcome : count r 14 (outcome_events f.port (outcome_of f)) ≡ once (eqb r f.port && is_nothing (reason_for f))
      accepted_outcome =
          on_option (reason_for f)
          (λ e. queued_count f b r 14 e
          ∙ omega (arith, joined_none (frame_of f) (ports_left f.test) r 14 refl)
          ∙ sym (ap (λ (o : Option Reason). once (eqb r f.port && is_nothing o)) e ∙ ap (λ (z : Bool). once (eqb r f.port && z)) (nothing_none)))
          (λ y e. dropped_count f b r 14 y e ∙ no_once (eqb r f.port) (eqb 14 (reason_number y)) (not_reason 14 y (omega arith))
          ∙ sym (ap (λ (o : Option Reason). once (eqb r f.port && is_nothing o)) e ∙ no_once (eqb r f.port) (is_nothing (some y)) (nothing_some y)))

  unlearned_count : count r 15 (frame_in_events f b) ≡ once (b && eqb r f.port)
  unlearned_count =
      all_count f b r 15
      ∙ omega (arith, no_once (eqb r f.port) (eqb 15 0) refl, lesson_count f.port r 15 b, own, candidates_none 15 refl refl f r, outcome_none f b r 15 (λ x. not_reason 15 x (omega arith)) refl refl)
    where
      own : once (b && (eqb r f.port && eqb 15 15)) ≡ once (b && eqb r f.port)
      own = on (eqb r f.port) (λ e. rw e) (λ e. rw e)

  queued_at : count r 16 (frame_in_events f b) ≡ once (is_nothing (reason_for f) && among r (ports_left f.test))
  queued_at =
      all_count f b r 16
      ∙ omega (arith, no_once (eqb r f.port) (eqb 16 0) refl, lesson_none f b r 16 refl, candidates_none 16 refl refl f r, queued_outcome)
    where
      queued_outcome : count r 16 (outcome_events f.port (outcome_of f)) ≡ once (is_nothing (reason_for f) && among r (ports_left f.test))
      queued_outcome =
          on_option (reason_for f)
          (λ e. queued_count f b r 16 e
          ∙ omega (arith, no_once (eqb r f.port) (eqb 16 14) refl, joined_count (frame_of f) (ports_left f.test) r (distinct_left f.test))
          ∙ sym (ap (λ (z : Bool). once (z && among r (ports_left f.test))) (ap is_nothing e ∙ nothing_none)))
          (λ y e. dropped_count f b r 16 y e ∙ no_once (eqb r f.port) (eqb 16 (reason_number y)) (not_reason 16 y (omega arith))
          ∙ sym (ap (λ (z : Bool). once (z && among r (ports_left f.test))) (ap is_nothing e ∙ nothing_some y)))

  state_count : count r 17 (frame_in_events f b) ≡ once (counts_tests f && (among r all_ports && is_state (f.test r)))
  state_count =
      all_count f b r 17
      ∙ omega (arith, no_once (eqb r f.port) (eqb 17 0) refl, lesson_none f b r 17 refl, candidates_count 17 is_state own_state f r, outcome_none f b r 17 (λ x. not_reason 17 x (omega arith)) refl refl)

  queue_off_count : count r 18 (frame_in_events f b) ≡ once (counts_tests f && (among r all_ports && is_queue_off (f.test r)))
  queue_off_count =
      all_count f b r 18
      ∙ omega (arith, no_once (eqb r f.port) (eqb 18 0) refl, lesson_none f b r 18 refl, candidates_count 18 is_queue_off own_queue_off f r, outcome_none f b r 18 (λ x. not_reason 18 x (omega arith)) refl refl)

  nothing_at : (k : ℕ) → 18 < k → count r k (frame_in_events f b) ≡ 0
  nothing_at k h =
      all_count f b r k
      ∙ omega (arith, no_once (eqb r f.port) (eqb k 0) (ne k 0 (omega arith)), lesson_none f b r k (ne k 15 (omega arith)), candidates_none k (ne k 17 (omega arith)) (ne k 18 (omega arith)) f r, outcome_none f b r k (λ x. not_reason k x (omega arith)) (ne k 14 (omega arith)) (ne k 16 (omega arith)))
    where
      ne : (k j : ℕ) → j < k → eqb k j ≡ false
      ne k j l = ne_eqb k j (λ e. omega arith)

-- ---- the call

module _ (s : State) (c : FrameInRequest) (allowed : Allowed s (frame_in c)) (r : ℕ) where
  abbrev f : Facts
  f = facts_now s c

  abbrev b : Bool
  b = is_not_learned f s.core.table

  port_is_law : f.port ≡ c.port
  unfolding facts_at facts_of
  port_is_law = refl

  events_are : (perform s (frame_in c)).events ≡ frame_in_events f b
  unfolding carry_out frame_in_step enters
  events_are = ap (λ (d : Step). d.events) (allowed_is s (frame_in c) allowed)

  counted_by_law : (k n : ℕ) → count r k (frame_in_events f b) ≡ n → count r k (perform s (frame_in c)).events ≡ n
  counted_by_law k n e = ap (count r k) events_are ∙ e

  no_place : b ≡ true → NoPlace s c
  unfolding is_not_learned learning_for
  no_place h =
      let l = (learns_exactly f).0 (and_left (learns f) (is_no_place (learning_for f s.core.table)) h) in
      let n = no_place_only _ _ (and_right (learns f) (is_no_place (learning_for f s.core.table)) h) in
      record { ordinary = l.0; past = l.1; not_there = n.0; all_in_use = n.1 }

  place_no : NoPlace s c → b ≡ true
  unfolding is_not_learned learning_for
  place_no h =
      ap₂ (λ (x y : Bool). x && y) ((learns_exactly f).1 (h.ordinary, h.past)) (no_place_then _ _ (h.not_there, h.all_in_use))

  pub frame_in_counts : FrameInCounts s c allowed r
  unfolding facts_at facts_of
  frame_in_counts =
      record {
        offered = counted_by_law 0 _ (offered_count f b r);
        reasons = λ x. counted_by_law (reason_number x) _ (reason_count f b r x);
        accepted = counted_by_law 14 _ (accepted_count f b r);
        not_learned_law = counted_if _ (b && eqb r f.port) _ (counted_by_law 15 _ (unlearned_count f b r))
            (λ h. (eqb-true r c.port (and_right b (eqb r f.port) h), no_place (and_left b (eqb r f.port) h)))
            (λ h. ap₂ (λ (x y : Bool). x && y) (place_no h.1) (eq-eqb r c.port h.0));
        queued = counted_if _ (is_nothing (reason_for f) && among r (ports_left f.test)) _ (counted_by_law 16 _ (queued_at f b r))
            (λ h. let p = left_passes f.test r (and_right (is_nothing (reason_for f)) (among r (ports_left f.test)) h) in
            (nothing_only (reason_for f) (and_left (is_nothing (reason_for f)) (among r (ports_left f.test)) h), p.0, p.1))
            (λ h. ap₂ (λ (x y : Bool). x && y) (ap is_nothing h.0 ∙ nothing_none) (passes_left f.test r (h.1, h.2)));
        state_out_law = counted_if _ (counts_tests f && (among r all_ports && is_state (f.test r))) _ (counted_by_law 17 _ (state_count f b r))
            (λ h. let t = and_right (counts_tests f) (among r all_ports && is_state (f.test r)) h in
            (counts_only f (and_left (counts_tests f) (among r all_ports && is_state (f.test r)) h), among_port r (and_left (among r all_ports) (is_state (f.test r)) t), is_state_law (f.test r) (and_right (among r all_ports) (is_state (f.test r)) t)))
            (λ h. ap₂ (λ (x y : Bool). x && y) (counts_then f h.0) (ap₂ (λ (x y : Bool). x && y) (port_among r h.1) (state_is (f.test r) h.2)));
        queue_out_law = counted_if _ (counts_tests f && (among r all_ports && is_queue_off (f.test r))) _ (counted_by_law 18 _ (queue_off_count f b r))
            (λ h. let t = and_right (counts_tests f) (among r all_ports && is_queue_off (f.test r)) h in
            (counts_only f (and_left (counts_tests f) (among r all_ports && is_queue_off (f.test r)) h), among_port r (and_left (among r all_ports) (is_queue_off (f.test r)) t), is_queue_off_law (f.test r) (and_right (among r all_ports) (is_queue_off (f.test r)) t)))
            (λ h. ap₂ (λ (x y : Bool). x && y) (counts_then f h.0) (ap₂ (λ (x y : Bool). x && y) (port_among r h.1) (queue_off_is (f.test r) h.2)));
        none_sent = counted_by_law 19 0 (nothing_at f b r 19 (omega arith));
        none_drained = counted_by_law 20 0 (nothing_at f b r 20 (omega arith));
      }

-- ---- take, drain and the others

sent_count : (s : State) (p : ℕ) (f : Frame) → served s p ≡ some f → (r k : ℕ) → count r k (taken s p (served s p)).events ≡ once (eqb r p && eqb k 19)
unfolding taken count bumps counter_number
sent_count s p f e r k = rw e (omega arith)

take_sent : (s : State) (c : TakeRequest) → Allowed s (take c) → (NothingWaits c.port s.core.waiting → ⊥)
    → (r k : ℕ) → count r k (perform s (take c)).events ≡ once (eqb r c.port && eqb k 19)
take_sent s c allowed waits r k =
    ap (λ (d : Step). count r k d.events) (takes s c allowed)
    ∙ on_option (served s c.port) (λ e. absurd (waits (served_none s c.port e))) (λ f e. sent_count s c.port f e r k)

take_empty : (s : State) (c : TakeRequest) → Allowed s (take c) → NothingWaits c.port s.core.waiting → (perform s (take c)).events ≡ []
unfolding taken
take_empty s c allowed h = ap (λ (d : Step). d.events) (takes s c allowed) ∙ rw (none_served s c.port h)

drained_count : (p : ℕ) (fs : List Frame) (r k : ℕ) → count r k (Lists.map (λ (f : Frame). drains p f) fs) ≡ (if eqb r p && eqb k 20 then length fs else 0)
unfolding count bumps counter_number
drained_count p [] r k = on (eqb r p && eqb k 20) (λ e. rw e) (λ e. rw e)
drained_count p (f ∷ fs) r k =
    on (eqb r p && eqb k 20)
    (λ e. rw e (omega (arith, rw e at (drained_count p fs r k))))
    (λ e. rw e (omega (arith, rw e at (drained_count p fs r k))))

drained : (s : State) (p : ℕ) → Allowed s (drain p)
    → (r k : ℕ) → count r k (perform s (drain p)).events ≡ (if eqb r p && eqb k 20 then length (port_at p s.core.waiting) else 0)
unfolding drain_step
drained s p e r k = ap (λ (d : Step). count r k d.events) (drains_by s p e) ∙ drained_count p (port_at p s.core.waiting) r k

others : (s : State) (c : Call) → ((d : FrameInRequest) → c ≡ frame_in d → ⊥) → ((d : TakeRequest) → c ≡ take d → ⊥) → ((p : ℕ) → c ≡ drain p → ⊥)
    → (perform s c).events ≡ []
unfolding refusing
others s c n₁ n₂ n₃ = perform_has (λ d. d.events ≡ []) s c (λ r. refl) (λ e. quiet s c n₁ n₂ n₃)

pub count_theorems : CountTheorems
count_theorems =
    record {
      frame_in_law = frame_in_counts;
      take_sent = take_sent;
      take_empty = take_empty;
      drained = drained;
      others = others;
    }
