-- What a frame-in answers, queues and learns. Assumes nothing.
use Prim.Native.Nat.{ℕ, ◌+◌}
use mathlib.Core.Path.{◌≡◌, refl, ap, ◌∙◌, subst}
use mathlib.Core.Bool.{true, false, true≢false}
use mathlib.Core.List.{List, [], ◌∷◌}
use Rattle.std.specs.Prelude.{None as none, Some as some}
use native.Mathlib.Omega.{arith}
use lib.ListN.{length}
use borrow.Author.Tests.{eq-eqb}
use Rattle.rules.specs.Choice.{sift, is_empty, among}
use Rattle.rules.specs.Cells.{cells}
use Rattle.rules.specs.Reasons.{reason_number}
use Rattle.rules.specs.declared.reasons.Reason.{Reason}
use Rattle.rules.specs.PortTests.{ports_left}
use Rattle.rules.specs.ReasonTable.{queueing, part_number, reason_table, lines_in, rows_of, reason_for}
use Rattle.rules.specs.Outcomes.{frame_of, outcome_by, outcome_of, learns, table_after}
use Rattle.rules.specs.ArrivalTheorems.{PastEntering}
use Rattle.rules.proofs.Choice.{on, each_first}
use Rattle.rules.proofs.Lines.{holds_none}
use Rattle.rules.proofs.Parts.{learns_exactly, bpdu_learns_nothing}
use Rattle.rules.proofs.PortTests.{ports_exactly}
use Rattle.rules.proofs.Arrival.{stored_as}
use Rattle.machine.specs.Waiting.{Waiting, cells_in_use, stay, join}
use Rattle.rules.specs.Requests.{FrameInRequest}
use Rattle.machine.specs.State.{State, frame_in, Step, done}
use Rattle.machine.specs.FrameIn.{facts_at, mask, outcome_answer, outcome_waiting, enters, frame_in_step}
use Rattle.machine.specs.Machine.{carry_out, perform}
use Rattle.machine.specs.CallTheorems.{Allowed, facts_now, PassingNow, Joined, FrameInTheorems}
use Rattle.machine.proofs.Steps.{allowed_is}
use Rattle.machine.proofs.Waits.{in_use_append}
use Rattle.machine.proofs.Room.{none_last, stored_size}
use Rattle.machine.proofs.Addresses.{learned_is, not_learned_is}

module _ (s : State) (c : FrameInRequest) where
  passing : PassingNow s c (ports_left (facts_now s c).test)
  unfolding facts_at
  passing = ports_exactly s.core.settings s.core.table _ c.port c.packet

  -- a frame that is queued has a port left
  pub port_left : reason_for (facts_now s c) ≡ none → is_empty (ports_left (facts_now s c).test) ≡ false
  unfolding rows_of lines_in reason_table sift part_number
  port_left e = each_first (holds_none (rows_of queueing (facts_now s c)) (none_last (facts_now s c) e))

  -- ---- the outcome

  module _ (allowed : Allowed s (frame_in c)) where
    answer_is : (perform s (frame_in c)).answer ≡ outcome_answer (outcome_of (facts_now s c))
    unfolding carry_out frame_in_step enters
    answer_is = ap (λ (d : Step). d.answer) (allowed_is s (frame_in c) allowed)

    waiting_is : (perform s (frame_in c)).core.waiting ≡ outcome_waiting (outcome_of (facts_now s c)) s.core.waiting
    unfolding carry_out frame_in_step enters
    waiting_is = ap (λ (d : Step). d.core.waiting) (allowed_is s (frame_in c) allowed)

    table_is : (perform s (frame_in c)).core.table ≡ table_after (facts_now s c) s.core.table
    unfolding carry_out frame_in_step enters
    table_is = ap (λ (d : Step). d.core.table) (allowed_is s (frame_in c) allowed)

    settings_are : (perform s (frame_in c)).core.settings ≡ s.core.settings
    unfolding carry_out frame_in_step enters
    settings_are = ap (λ (d : Step). d.core.settings) (allowed_is s (frame_in c) allowed)

    drop_answers : (r : Reason) → reason_for (facts_now s c) ≡ some r → (perform s (frame_in c)).answer ≡ done (reason_number r) 0 []
    unfolding outcome_of outcome_by outcome_answer
    drop_answers r e = answer_is ∙ rw e

    drop_queues_nothing : (r : Reason) → reason_for (facts_now s c) ≡ some r → (perform s (frame_in c)).core.waiting ≡ s.core.waiting
    unfolding outcome_of outcome_by outcome_waiting
    drop_queues_nothing r e = waiting_is ∙ rw e

    queued_answer : reason_for (facts_now s c) ≡ none → (perform s (frame_in c)).answer ≡ done 0 (mask (ports_left (facts_now s c).test)) []
    unfolding outcome_of outcome_by outcome_answer
    queued_answer e = answer_is ∙ rw e

    -- ---- the frame that joins

    queued_waiting : reason_for (facts_now s c) ≡ none → (perform s (frame_in c)).core.waiting ≡ join (frame_of (facts_now s c)) (ports_left (facts_now s c).test) s.core.waiting
    unfolding outcome_of outcome_by outcome_waiting
    queued_waiting e = waiting_is ∙ rw e

    joins_at : (ports : List ℕ) → ports_left (facts_now s c).test ≡ ports → is_empty ports ≡ false → reason_for (facts_now s c) ≡ none
        → Joined s c (perform s (frame_in c)).core.waiting
    unfolding is_empty join stay among
    joins_at [] p h e = absurd (true≢false h)
    joins_at (r ∷ rs) p h e =
        record {
          frame = frame_of (facts_now s c);
          ports = r ∷ rs;
          joined = queued_waiting e ∙ rw p;
          stored = stored_as (facts_now s c);
          passing = subst (PassingNow s c) p passing;
          lowest = r;
          waits = rw (eq-eqb r r refl);
        }

    queued_takes : reason_for (facts_now s c) ≡ none
        → cells_in_use (perform s (frame_in c)).core.waiting ≡ cells_in_use s.core.waiting + cells (length c.packet.bytes)
    unfolding is_empty join stay cells_in_use
    queued_takes e = takes (ports_left (facts_now s c).test) (port_left e) (queued_waiting e)
      where
        takes : (ports : List ℕ) → is_empty ports ≡ false
            → (perform s (frame_in c)).core.waiting ≡ join (frame_of (facts_now s c)) ports s.core.waiting
            → cells_in_use (perform s (frame_in c)).core.waiting ≡ cells_in_use s.core.waiting + cells (length c.packet.bytes)
        takes [] h w = absurd (true≢false h)
        takes (r ∷ rs) h w =
            let one : List Waiting = record { frame = frame_of (facts_now s c); ports = r ∷ rs } ∷ [] in
            ap cells_in_use w ∙ omega (arith, in_use_append s.core.waiting one, stored_size s c)

    -- ---- learning

    learned : (facts_now s c).bpdu ≡ false → PastEntering (facts_now s c) → learns (facts_now s c) ≡ true
    learned b h = (learns_exactly (facts_now s c)).1 (b, h)

    stays : learns (facts_now s c) ≡ false → (perform s (frame_in c)).core.table ≡ s.core.table
    unfolding facts_at
    stays e = table_is ∙ not_learned_is s.core.settings s.core.table _ c.port c.packet e

    no_lesson_law : (PastEntering (facts_now s c) → ⊥) → learns (facts_now s c) ≡ false
    no_lesson_law n = on (learns (facts_now s c)) (λ e. absurd (n ((learns_exactly (facts_now s c)).0 e).1)) (λ e. e)

    pub frame_in_theorems : FrameInTheorems s c allowed
    unfolding facts_at
    frame_in_theorems =
        record {
          drop_answers = drop_answers;
          drop_queues_nothing = drop_queues_nothing;
          queued_answers = λ e. (ports_left (facts_now s c).test, queued_answer e, passing);
          queued_joins = λ e. joins_at (ports_left (facts_now s c).test) refl (port_left e) e;
          queued_takes = queued_takes;
          learned = λ b h. table_is ∙ learned_is s.core.settings s.core.table _ c.port c.packet (learned b h);
          not_learned_law = λ n. stays (no_lesson_law n);
          bpdu_not_learned = λ b. stays (bpdu_learns_nothing (facts_now s c) b);
          settings_stay = settings_are;
        }
