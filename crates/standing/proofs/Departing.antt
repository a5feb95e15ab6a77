-- A copy that leaves a queue, sent or drained: the memories then stand for the state without it, and its port has counted it.
-- Assumes nothing.
use Prim.Native.Nat.{ℕ, ◌≤◌, ◌<◌}
use mathlib.Core.Path.{◌≡◌, ◌∙◌}
use mathlib.Core.List.{List, [], ◌∷◌}
use native.Mathlib.Omega.{arith}
use lib.ListN.{length}
use Rattle.rules.specs.Choice.{Each, nobody, also}
use Rattle.rules.proofs.Choice.{on}
use Rattle.machine.specs.Waiting.{send}
use Rattle.machine.specs.Events.{Event, bump, tally}
use Rattle.machine.specs.State.{State, set_waiting}
use Rattle.layout.specs.Places.{fixed_words}
use Rattle.layout.specs.Same.{SettingsSame}
use Rattle.layout.proofs.Stores.{settings_then, others_settings}
use Rattle.layout.specs.Lengths.{cell_count}
use Rattle.cells.proofs.Apart.{given_settings, ports_settings}
use Rattle.queues.specs.Lists.{list_of, popped_at}
use Rattle.queues.proofs.Apart.{popped_at_others}
use Rattle.queues.proofs.Outcomes.{length_popped_at}
use Rattle.frame_in.specs.Counting.{counted}
use Rattle.departure.specs.Leaving.{is_last, departed, left}
use Rattle.standing.specs.Traffic.{Traffic}
use Rattle.standing.proofs.Departures.{D-length}
use Rattle.standing.proofs.Frames.{departure_keeps}
use Rattle.gufhrandi.specs.Memories.{Memories}
use Rattle.standing.specs.Stands.{CountersStand, Stands}
use Rattle.standing.proofs.Kept.{fit_same, cells_fit_same, traffic_same, same_words, cell_count_same, settings_same, counters_same}
use Rattle.standing.proofs.Counting.{AtPort, Uncounted, length_counted, counted_stands, counted_keeps}

departed_settings : (n p i : ℕ) (links : List ℕ) → SettingsSame links (departed n p i links)
unfolding departed
departed_settings n p i links =
    on (is_last p i links)
    (λ e. rw e (given_settings n i links))
    (λ e. rw e (ports_settings i links _))

-- the oldest copy of queue (p, q), whose first cell is i, is gone, and the event is counted
abbrev pub memories_after : Memories → ℕ → ℕ → ℕ → ℕ → Event → Memories
memories_after m n p q i e =
    record { cells = m.cells; links = left p q i e.counter (departed n p i m.links); addresses = m.addresses }

abbrev pub state_after : State → ℕ → ℕ → Event → State
state_after s p q e =
    record { cell_count = s.cell_count; counters = bump e s.counters; core = set_waiting (send p q s.core.waiting) s.core }

module _ (m : Memories) (s : State) (S : Stands m s) (p q i : ℕ) (hp : p < 5) (hq : q < 4)
    (tail : List ℕ) (head : list_of s.cell_count m.links p q ≡ i ∷ tail) where
  abbrev n : ℕ
  n = s.cell_count

  -- before the count goes up
  abbrev gone : List ℕ
  gone = popped_at p q i (departed n p i m.links)

  gone_length : length gone ≡ length m.links
  gone_length =
      length_popped_at n p q (departed n p i m.links) i
      ∙ D-length n m.links s.core.waiting S.traffic.links_stand p q i hp hq tail head

  gone_settings : SettingsSame m.links gone
  gone_settings = settings_then (departed_settings n p i m.links) (others_settings (popped_at_others n p q (departed n p i m.links) hp hq i))

  gone_traffic : Traffic n m.cells gone (send p q s.core.waiting)
  gone_traffic = departure_keeps n m.cells m.links s.core.waiting S.traffic p q i hp hq tail head

  enough : fixed_words ≤ length gone
  enough = omega (arith, gone_traffic.links_stand.long)

  module _ (e : Event) (here : e.port ≡ p) where
    abbrev at_port : Each AtPort (e ∷ [])
    at_port = also {a = e} (rw here hp) nobody

    abbrev after : List ℕ
    after = counted (e ∷ []) gone

    counted_left : left p q i e.counter (departed n p i m.links) ≡ after
    unfolding left counted
    counted_left = rw here

    long : length after ≡ length m.links
    long = length_counted (e ∷ []) gone ∙ gone_length

    kept : Uncounted gone after
    kept = counted_keeps (e ∷ []) at_port gone

    count : cell_count after ≡ cell_count m.links
    count = cell_count_same kept.words ∙ cell_count_same (same_words gone_settings)

    counters : CountersStand after (bump e s.counters)
    unfolding tally
    counters = counted_stands (e ∷ []) at_port gone s.counters enough (counters_same gone_settings s.counters S.counters)

    pub departing : Stands (memories_after m n p q i e) (state_after s p q e)
    departing =
        rw counted_left
        (record {
          links_fit_law = fit_same m.links after long count S.links_fit_law;
          cells_fit_law = cells_fit_same m.links after long m.cells count S.cells_fit_law;
          cell_count_law = count ∙ S.cell_count_law;
          settings = settings_same kept.words s.core.settings (settings_same (same_words gone_settings) s.core.settings S.settings);
          addresses = S.addresses;
          counters = counters;
          traffic = traffic_same gone after (length_counted (e ∷ []) gone) n m.cells (send p q s.core.waiting) kept.cells kept.queues gone_traffic;
        })
