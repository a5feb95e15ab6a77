-- Events counted one by one are what a plan counts; the ports left are its mask. Assumes nothing.
use Prim.Native.Nat.{ℕ, ◌+◌, ◌^◌, ◌<◌}
use mathlib.Core.Path.{◌≡◌, refl, sym, ap, ◌∙◌}
use mathlib.Core.Bool.{Bool, true, false}
use mathlib.Core.List.{List, [], ◌∷◌, ◌++◌}
use lib.Pow.{pow_pos}
use native.Mathlib.Omega.{arith}
use borrow.Author.Tests.{ne_eqb}
use lib.Dec.{eqb}
use Rattle.std.specs.Prelude.{if◌then◌else◌}
use Rattle.rules.specs.Choice.{is_empty}
use Rattle.rules.specs.Facts.{Facts}
use Rattle.rules.specs.Outcomes.{Frame, outcome_of}
use Rattle.rules.specs.Counters.{counter_number}
use Rattle.rules.specs.declared.counters.Counter.TheVariants.{Offered as offered}
use Rattle.rules.specs.PortTests.{Test, passes, not_member, arrival, elsewhere, state, queue_off, ports_left}
use Rattle.rules.specs.Arguments.{bit}
use Rattle.rules.specs.Numbers.{all_ports}
use Rattle.machine.specs.Events.{Event, counts}
use Rattle.machine.specs.FrameIn.{mask, test_event, test_events, candidate_events, lesson_events, join_events, outcome_events, frame_in_events}
use Rattle.arrival.specs.declared.plan.Masks.{Masks}
use Rattle.arrival.specs.Candidates.{is_state_out, is_queue_out, MasksAre}
use Rattle.layout.specs.Bits.{less}
use Rattle.frame_in.specs.Carried.{each_port, bump_at, counted_falls, count_if, push_at}
use Rattle.layout.specs.Counters.{bumped}
use Rattle.frame_in.specs.Counting.{counted}
use Rattle.frame_in.specs.Call.{pushed_at}
use Rattle.frame_in.proofs.Each.{both_at, falls_together, mask_of_ports}

pub counted_append : (es fs : List Event) (l : List ℕ) → counted (es ++ fs) l ≡ counted fs (counted es l)
unfolding counted
counted_append [] fs l = refl
counted_append (e ∷ es) fs l = counted_append es fs _

-- ---- the tests

-- one port's event, by the test that takes it out
test_counted : (r : ℕ) (t : Test) (l : List ℕ) → counted (test_event r t) l
    ≡ (if is_queue_out t then bumped r 18 (if is_state_out t then bumped r 17 l else l) else (if is_state_out t then bumped r 17 l else l))
unfolding counted test_event is_state_out is_queue_out counter_number
test_counted r passes l = refl
test_counted r not_member l = refl
test_counted r arrival l = refl
test_counted r elsewhere l = refl
test_counted r state l = refl
test_counted r queue_off l = refl

module _ (test : ℕ → Test) (m : Masks) (are : MasksAre test m) where
  abbrev at : ℕ → List ℕ → List ℕ
  at = both_at (bump_at 17) (bump_at 18) (bit (less m.candidates m.passing)) (bit (less m.passing m.left))

  at_is : (r : ℕ) → r < 5 → (l : List ℕ) → counted (test_event r (test r)) l ≡ at r l
  unfolding both_at
  at_is r h l = rw (are.state_out_law r h, are.queue_out_law r h) (test_counted r (test r) l)

  tests_step : (r : ℕ) (rs : List ℕ) (l : List ℕ) → r < 5 → counted (test_events test (r ∷ rs)) l ≡ counted (test_events test rs) (at r l)
  unfolding test_events
  tests_step r rs l h = counted_append (test_event r (test r)) (test_events test rs) l ∙ ap (counted (test_events test rs)) (at_is r h l)

  tests_end : (l : List ℕ) → counted (test_events test []) l ≡ l
  unfolding test_events counted
  tests_end l = refl

  port_by_port : (l : List ℕ) → counted (test_events test all_ports) l ≡ each_port at all_ports l
  unfolding each_port
  port_by_port l =
      tests_step 0 (1 ∷ 2 ∷ 3 ∷ 4 ∷ []) l (omega arith)
      ∙ tests_step 1 (2 ∷ 3 ∷ 4 ∷ []) _ (omega arith)
      ∙ tests_step 2 (3 ∷ 4 ∷ []) _ (omega arith)
      ∙ tests_step 3 (4 ∷ []) _ (omega arith)
      ∙ tests_step 4 [] _ (omega arith)
      ∙ tests_end _

  pub tests_counted : (l : List ℕ) → counted (test_events test all_ports) l ≡ counted_falls m l
  unfolding counted_falls counter_number
  tests_counted l =
      port_by_port l
      ∙ sym (falls_together 17 18 (omega arith) (omega arith) (λ e. omega arith) (less m.candidates m.passing) (less m.passing m.left) l)

  -- ---- the ports left

  pub left_is : mask (ports_left test) ≡ m.left
  left_is = ap mask (sym are.left) ∙ mask_of_ports m.left are.small

pub queued_counted : (f : Frame) (ports : List ℕ) (l : List ℕ) → counted (join_events f ports) l ≡ each_port (bump_at 16) ports l
unfolding join_events counted each_port counter_number
queued_counted f [] l = refl
queued_counted f (r ∷ rs) l = queued_counted f rs _

pub pushed_each : (n queue cell : ℕ) (ports : List ℕ) (l : List ℕ) → pushed_at n queue cell ports l ≡ each_port (push_at n queue cell) ports l
unfolding pushed_at each_port
pushed_each n queue cell [] l = refl
pushed_each n queue cell (r ∷ rs) l = pushed_each n queue cell rs _

pub none_is : (ps : List ℕ) → is_empty ps ≡ eqb (mask ps) 0
unfolding is_empty mask
none_is [] = refl
none_is (p ∷ ps) = sym (ne_eqb (2 ^ p + mask ps) 0 (λ e. omega (arith, pow_pos p)))

-- ---- all events

lesson_counted : (p : ℕ) (b : Bool) (l : List ℕ) → counted (lesson_events p b) l ≡ count_if b p l
unfolding counted lesson_events count_if counter_number
lesson_counted p true l = refl
lesson_counted p false l = refl

first_counted : (p : ℕ) (b : Bool) (l : List ℕ) → counted (counts offered p ∷ lesson_events p b) l ≡ count_if b p (bumped p 0 l)
unfolding counted counter_number
first_counted p b l = lesson_counted p b (bumped p 0 l)

pub events_counted : (f : Facts) (unlearned : Bool) (l : List ℕ) → counted (frame_in_events f unlearned) l
    ≡ counted (outcome_events f.port (outcome_of f)) (counted (candidate_events f) (count_if unlearned f.port (bumped f.port 0 l)))
unfolding frame_in_events
events_counted f unlearned l =
    counted_append ((counts offered f.port ∷ lesson_events f.port unlearned) ++ candidate_events f) (outcome_events f.port (outcome_of f)) l
    ∙ ap (counted (outcome_events f.port (outcome_of f)))
    (counted_append (counts offered f.port ∷ lesson_events f.port unlearned) (candidate_events f) l
    ∙ ap (counted (candidate_events f)) (first_counted f.port unlearned l))
