-- A drain on memory, copy by copy and queue by queue: the memories stand for the state whose port counted and lost those copies.
-- Assumes nothing.
use Prim.Native.Nat.{ℕ, zero, suc, ◌≤◌, ◌<◌}
use mathlib.Core.Path.{◌≡◌, refl, sym, ap, ◌∙◌, subst}
use mathlib.Core.Bool.{true, false}
use mathlib.Core.List.{List, [], ◌∷◌}
use native.Mathlib.Omega.{arith}
use lib.ListN.{length}
use Rattle.rules.specs.declared.counters.Counter.TheVariants.{Drained as drained}
use Rattle.rules.specs.Outcomes.{Frame}
use Rattle.rules.proofs.Choice.{on_list, each_first}
use Rattle.machine.specs.Waiting.{queue_at, send}
use Rattle.machine.specs.Events.{drains}
use Rattle.machine.specs.State.{State, set_waiting}
use Rattle.queues.specs.Lists.{waiting_of, bit, list_of, turns, turn_count}
use Rattle.queues.specs.Queued as Lists
use Rattle.queues.proofs.Lists.{length_list}
use Rattle.queues.proofs.Answers.{list_waits, head_oldest}
use Rattle.queues.proofs.Turns.{turns_more, count_more, turns_stop, count_stop}
use Rattle.standing.specs.LinkTraffic.{LinkTraffic}
use Rattle.departure.specs.Leaving.{departed, left}
use Rattle.take_out.specs.Drain.{dropped, drain_one, drain_queue, queue_copies}
use Rattle.gufhrandi.specs.Memories.{Memories}
use Rattle.standing.specs.Stands.{Stands}
use Rattle.standing.proofs.Leaving.{can_leave_law}
use Rattle.standing.proofs.Settled.{some_cells}
use Rattle.standing.proofs.Departing.{departing}
use Rattle.standing.proofs.PortQueues.{list_length}
use Rattle.standing.proofs.Sends.{sends, send_shorter, drain_counted, drains_counted, bump_drained}

abbrev pub with_links : Memories → List ℕ → Memories
with_links m links = record { cells = m.cells; links = links; addresses = m.addresses }

-- k copies of queue (p, q) are gone
abbrev pub less_copies : ℕ → ℕ → ℕ → State → State
less_copies k p q s =
    record {
      cell_count = s.cell_count;
      counters = drains_counted k p s.counters;
      core = set_waiting (sends k p q s.core.waiting) s.core;
    }

abbrev one_less : ℕ → ℕ → State → State
one_less p q s =
    record {
      cell_count = s.cell_count;
      counters = drain_counted p s.counters;
      core = set_waiting (send p q s.core.waiting) s.core;
    }

module _ (p q : ℕ) (hp : p < 5) (hq : q < 4) where
  -- ---- one copy

  module _ (m : Memories) (s : State) (S : Stands m s) (i : ℕ) (tail : List ℕ) (head : list_of s.cell_count m.links p q ≡ i ∷ tail) where
    abbrev n : ℕ
    n = s.cell_count

    abbrev T : LinkTraffic s.cell_count m.links s.core.waiting
    T = S.traffic.links_stand

    one_is : drain_one n p q m.links ≡ left p q i drained (departed n p i m.links)
    unfolding drain_one dropped
    one_is =
        rw (head_oldest n m.links p (some_cells m s S) q i tail head)
        (rw (each_first (rw head at (can_leave_law n m.links s.core.waiting T p hp q hq))))

    one_stands : Stands (with_links m (drain_one n p q m.links)) (one_less p q s)
    one_stands =
        let f : Frame = (T.held i).frame in
        rw (one_is, ← (bump_drained p f s.counters))
        (departing m s S p q i hp hq tail head (drains p f) refl)

  -- ---- j copies, in at most k turns

  abbrev turn : State → List ℕ → List ℕ
  turn s = drain_one s.cell_count p q

  abbrev Drained : ℕ → ℕ → Memories → State → Type 0
  Drained j k m s = Stands (with_links m (turns (turn s) p q k m.links)) (less_copies j p q s) × (turn_count (turn s) p q k m.links ≡ j)

  module _ (m : Memories) (s : State) (S : Stands m s) where
    same_length : length (list_of s.cell_count m.links p q) ≡ length (queue_at p q s.core.waiting)
    same_length = list_length s.cell_count m.links s.core.waiting S.traffic.links_stand p q hp hq

    waits_as : bit (waiting_of m.links p) q ≡ Lists.has_frames (list_of s.cell_count m.links p q)
    waits_as = list_waits s.cell_count m.links p (some_cells m s S) q

  -- no frame waits
  none_left : (k : ℕ) (m : Memories) (s : State) → Stands m s → list_of s.cell_count m.links p q ≡ [] → Drained 0 k m s
  unfolding sends drains_counted Lists.has_frames
  none_left k m s S e =
      let none : bit (waiting_of m.links p) q ≡ false = waits_as m s S ∙ ap Lists.has_frames e in (
        subst (λ (l : List ℕ). Stands (with_links m l) (less_copies 0 p q s)) (sym (turns_stop (turn s) p q k m.links none)) S,
        count_stop (turn s) p q k m.links none,
      )

  -- the oldest leaves, and then the others
  one_then : (j k : ℕ) (m : Memories) (s : State) → Stands m s → (i : ℕ) (tail : List ℕ) → list_of s.cell_count m.links p q ≡ i ∷ tail
      → Drained j k (with_links m (turn s m.links)) (one_less p q s) → Drained (suc j) (suc k) m s
  unfolding sends drains_counted Lists.has_frames
  one_then j k m s S i tail e rest =
      let waits : bit (waiting_of m.links p) q ≡ true = waits_as m s S ∙ ap Lists.has_frames e in (
        subst (λ (l : List ℕ). Stands (with_links m l) (less_copies (suc j) p q s)) (sym (turns_more (turn s) p q k m.links waits)) rest.0,
        count_more (turn s) p q k m.links waits ∙ ap suc rest.1,
      )

  many_stands : (j k : ℕ) (m : Memories) (s : State) → Stands m s → length (queue_at p q s.core.waiting) ≡ j → j ≤ k → Drained j k m s
  many_stands zero k m s S h few =
      on_list (list_of s.cell_count m.links p q)
      (λ e. none_left k m s S e)
      (λ i tail e. absurd (omega (arith, h, same_length m s S, ap length e)))
  many_stands (suc j) zero m s S h few = absurd (omega arith)
  many_stands (suc j) (suc k) m s S h few =
      on_list (list_of s.cell_count m.links p q)
      (λ e. absurd (omega (arith, h, same_length m s S, ap length e)))
      (λ i tail e.
      one_then j k m s S i tail e
      (many_stands j k (with_links m (turn s m.links)) (one_less p q s) (one_stands m s S i tail e) (send_shorter j p q s.core.waiting h) (omega arith)))

  -- ---- a queue

  module _ (m : Memories) (s : State) (S : Stands m s) where
    all_copies : Drained (length (queue_at p q s.core.waiting)) s.cell_count m s
    all_copies =
        many_stands (length (queue_at p q s.core.waiting)) s.cell_count m s S refl
        (omega (arith, same_length m s S, length_list s.cell_count m.links p q))

    pub queue_stands : Stands (with_links m (drain_queue s.cell_count p q m.links)) (less_copies (length (queue_at p q s.core.waiting)) p q s)
    unfolding drain_queue
    queue_stands = all_copies.0

    pub queue_copies_law : queue_copies s.cell_count p q m.links ≡ length (queue_at p q s.core.waiting)
    unfolding queue_copies
    queue_copies_law = all_copies.1
