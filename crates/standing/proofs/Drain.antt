-- The call drain on memory that stands for a state follows the machine. Assumes nothing.
use Prim.Native.Nat.{ℕ, ◌<◌}
use mathlib.Core.Path.{◌≡◌, refl, ap}
use mathlib.Core.Bool.{false, not}
use mathlib.Core.List.{List}
use Rattle.std.specs.Prelude.{None as none}
use native.Mathlib.Omega.{arith}
use lib.Dec.{ltb}
use lib.ListN.{length}
use borrow.Author.Tests.{ltb-false}
use Rattle.rules.specs.Lines.{first}
use Rattle.rules.specs.Refusals.{drain_lines}
use Rattle.rules.proofs.Choice.{on, each_first}
use Rattle.rules.proofs.Lines.{holds_none}
use Rattle.machine.specs.Waiting.{port_at}
use Rattle.machine.specs.State.{State, drain}
use Rattle.machine.specs.TakeOut.{drain_step}
use Rattle.machine.specs.Machine.{lines_of, carry_out, next}
use Rattle.layout.specs.Lengths.{cell_count}
use Rattle.layout.specs.Answers.{done_with}
use Rattle.take_out.specs.Drain.{can_drain_all, drain_queue, drain_all, copies, drain_refusals, drain_call}
use Rattle.gufhrandi.specs.Memories.{Memories}
use Rattle.standing.specs.Stands.{Stands}
use Rattle.gufhrandi.specs.Runs.{on_links, run}
use Rattle.standing.specs.Follows.{numbers_of, handed_back, Follows, CallFollows}
use Rattle.standing.proofs.Answers.{lines_between, follows_by}
use Rattle.standing.proofs.Drainable.{can_drain_all_law}
use Rattle.standing.proofs.PortQueues.{all_in_queues, all_somewhere}
use Rattle.standing.proofs.Draining.{with_links, queue_stands, queue_copies_law}
use Rattle.standing.proofs.Emptied.{emptied, all_emptied, emptied_copies, emptied_waiting, emptied_counters}

module _ (p : ℕ) (m : Memories) (s : State) (S : Stands m s) where
  undamaged : p < 5 → not (can_drain_all (cell_count m.links) p m.links) ≡ false
  undamaged hp = rw (S.cell_count_law, can_drain_all_law s.cell_count m.links s.core.waiting S.traffic.links_stand p hp)

  -- line 10 holds at no port that is there, and of a port that is not there line 2 speaks before it
  drain_lines_law : first (drain_refusals m.links p) ≡ first (drain_lines p)
  unfolding drain_refusals drain_lines first
  drain_lines_law =
      on (ltb 4 p)
      (λ e. rw (S.links_fit_law, e))
      (λ e. lines_between (drain_lines p) S.links_fit_law (undamaged (omega (arith, ltb-false 4 p e))))

  port_there : first (drain_lines p) ≡ none → p < 5
  unfolding drain_lines
  port_there e = omega (arith, ltb-false 4 p (each_first (holds_none _ e)))

  module _ (hp : p < 5) where
    -- queue 3 is empty, then 2, then 1
    three_gone : Stands (with_links m (drain_queue s.cell_count p 3 m.links)) (emptied p 3 s)
    three_gone = queue_stands p 3 hp (omega arith) m s S

    two_gone : Stands (with_links m (drain_queue s.cell_count p 2 (drain_queue s.cell_count p 3 m.links))) (emptied p 2 (emptied p 3 s))
    two_gone = queue_stands p 2 hp (omega arith) _ (emptied p 3 s) three_gone

    one_gone : Stands (with_links m (drain_queue s.cell_count p 1 (drain_queue s.cell_count p 2 (drain_queue s.cell_count p 3 m.links))))
        (emptied p 1 (emptied p 2 (emptied p 3 s)))
    one_gone = queue_stands p 1 hp (omega arith) _ (emptied p 2 (emptied p 3 s)) two_gone

    all_stands : Stands (with_links m (drain_all s.cell_count p m.links)) (all_emptied p s)
    unfolding drain_all
    all_stands = queue_stands p 0 hp (omega arith) _ (emptied p 1 (emptied p 2 (emptied p 3 s))) one_gone

    copies_are : copies s.cell_count p m.links ≡ length (port_at p s.core.waiting)
    unfolding copies
    copies_are =
        omega (
          arith,
          queue_copies_law p 3 hp (omega arith) m s S,
          queue_copies_law p 2 hp (omega arith) _ (emptied p 3 s) three_gone,
          queue_copies_law p 1 hp (omega arith) _ (emptied p 2 (emptied p 3 s)) two_gone,
          queue_copies_law p 0 hp (omega arith) _ (emptied p 1 (emptied p 2 (emptied p 3 s))) one_gone,
          emptied_copies p s (all_in_queues s.cell_count m.links s.core.waiting S.traffic.links_stand),
        )

    drained_stands : Stands (with_links m (drain_all s.cell_count p m.links)) (next s (drain_step s p))
    unfolding next drain_step
    drained_stands =
        let T = all_stands.traffic.links_stand in
        let after = drain_all s.cell_count p m.links in
        let ws = (all_emptied p s).core.waiting in
        rw (
          ← (emptied_counters p s (all_in_queues s.cell_count m.links s.core.waiting S.traffic.links_stand)),
          ← (emptied_waiting p s (all_in_queues s.cell_count after ws T) (all_somewhere s.cell_count after ws T)),
        )
        all_stands

    drains : (buffer : List ℕ)
        → Follows (on_links m buffer (done_with (copies (cell_count m.links) p m.links) 0, drain_all (cell_count m.links) p m.links)) buffer s (carry_out s (drain p))
    unfolding carry_out numbers_of handed_back drain_step
    drains buffer =
        record {
          same_answer = rw S.cell_count_law (ap (λ (k : ℕ). done_with k 0) copies_are);
          same_bytes = refl;
          stands_kept = rw S.cell_count_law drained_stands;
        }

pub drain_follows : (p : ℕ) → CallFollows (drain p)
unfolding run drain_call lines_of
drain_follows p m s S buffer handed =
    follows_by m s S (drain p) buffer m.links
    (done_with (copies (cell_count m.links) p m.links) 0, drain_all (cell_count m.links) p m.links)
    (on_links m buffer)
    (λ r. refl)
    (first (drain_refusals m.links p))
    (drain_lines_law p m s S)
    (λ e. drains p m s S (port_there p m s S e) buffer)
