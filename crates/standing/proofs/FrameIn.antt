-- A frame-in over memory follows the machine's. Assumes nothing.
use Prim.Native.Nat.{ℕ, ◌≤◌}
use mathlib.Core.Path.{◌≡◌, refl, sym, ap₂, ◌∙◌}
use mathlib.Core.Bool.{Bool, true, ◌&&◌}
use mathlib.Core.List.{List, [], ◌∷◌, ◌++◌}
use native.Mathlib.Omega.{arith}
use lib.Dec.{ltb}
use lib.ListN.{length}
use borrow.Author.Tests.{ltb-false}
use Rattle.rules.specs.Choice.{Each}
use Rattle.rules.specs.Lines.{first}
use Rattle.rules.specs.Tags.{Bytes}
use Rattle.rules.specs.Addresses.{Table}
use Rattle.rules.specs.Refusals.{frame_in_lines}
use Rattle.rules.specs.Facts.{Facts, facts_of}
use Rattle.rules.specs.Outcomes.{Outcome, drops, queues, outcome_of, table_after, is_not_learned}
use Rattle.rules.proofs.Choice.{on, each_first}
use Rattle.rules.proofs.Lines.{holds_none}
use Rattle.machine.specs.Events.{Event, tally}
use Rattle.rules.specs.Requests.{FrameInRequest}
use Rattle.machine.specs.State.{State, frame_in, Step, set_table, set_waiting}
use Rattle.machine.specs.FrameIn.{facts_at, frame_in_events, outcome_answer, outcome_waiting, frame_in_step}
use Rattle.machine.specs.FrameIn as Machine
use Rattle.machine.specs.Machine.{lines_of, carry_out, next}
use Rattle.layout.specs.Lengths.{cell_count, links_fit, cells_fit, addresses_fit}
use Rattle.layout.proofs.Fits.{links_fit_law}
use Rattle.layout.specs.Answers.{length_line, damage_line}
use Rattle.layout.specs.Same.{SettingsSame}
use Rattle.addresses.specs.Numbers.{table_of}
use Rattle.standing.specs.Traffic.{Traffic}
use Rattle.frame_in.specs.Met.{met}
use Rattle.frame_in.specs.Counting.{counted}
use Rattle.arrival.specs.Stored.{operation_for}
use Rattle.frame_in.specs.Call.{facts_in, stored_for, joined_for, answer_for, entered, frame_in_call}
use Rattle.frame_in.proofs.Theorems.{frame_in_theorems}
use Rattle.gufhrandi.specs.Memories.{Memories}
use Rattle.standing.specs.Stands.{CountersStand, Stands}
use Rattle.gufhrandi.specs.Runs.{run, on_all}
use Rattle.standing.specs.Follows.{numbers_of, handed_back, Follows, Handed, CallFollows}
use Rattle.standing.proofs.Answers.{lines_between, follows_by}
use Rattle.standing.proofs.Kept.{SettingWords, words_then, fit_same, traffic_same, cell_count_same, settings_same, same_words, counters_same}
use Rattle.standing.proofs.Counting.{AtPort, counted_stands, counted_keeps, length_counted}
use Rattle.standing.proofs.FrameInRoom.{free_is, meets_in_range}
use Rattle.standing.proofs.FrameInPorts.{events_at}
use Rattle.standing.proofs.FrameInOutcomes.{Carries, carries_inside, outcome_carries, joined_settings, joined_length, stored_length, joined_traffic}
use Rattle.standing.proofs.FrameInAddresses.{learned_stands}

-- ---- the answer

same_numbers : (o : Outcome) → answer_for o ≡ numbers_of (outcome_answer o)
unfolding answer_for numbers_of outcome_answer
same_numbers (drops r) = refl
same_numbers (queues f ports) = refl

none_back : (o : Outcome) → handed_back (outcome_answer o) ≡ []
unfolding handed_back outcome_answer
none_back (drops r) = refl
none_back (queues f ports) = refl

module _ (m : Memories) (s : State) (S : Stands m s) (c : FrameInRequest) (each : Bytes c.packet.bytes) where
  abbrev facts : Facts
  facts = facts_in m.links m.addresses c.port c.packet.bytes

  abbrev outcome : Outcome
  outcome = outcome_of facts

  abbrev unlearned : Bool
  unlearned = is_not_learned facts (table_of m.addresses)

  abbrev happened : List Event
  happened = frame_in_events facts unlearned

  -- ---- the facts are those that the machine has

  facts_same : facts ≡ facts_at s c.port c.packet
  unfolding facts_in facts_at
  facts_same = rw (S.settings.says, S.addresses.says, free_is m s S)

  abbrev step_of : Facts → Table → Step
  step_of f t =
      record {
        answer = outcome_answer (outcome_of f);
        events = frame_in_events f (is_not_learned f t);
        core = set_table (table_after f t) (set_waiting (outcome_waiting (outcome_of f) s.core.waiting) s.core);
      }

  step_same : frame_in_step s c ≡ step_of facts (table_of m.addresses)
  unfolding frame_in_step Machine.enters
  step_same = ap₂ step_of (sym facts_same) (sym S.addresses.says)

  port_is_law : facts.port ≡ c.port
  unfolding facts_in facts_of
  port_is_law = refl

  module _ (there : c.port ≤ 4) where
    abbrev word : ℕ
    word = operation_for m.links facts.vid

    carries : Carries m.links word outcome
    carries = outcome_carries m.links m.addresses (meets_in_range m s S) c.port there c.packet.bytes each

    -- ---- link memory: the frame joined, then the events counted

    abbrev joined : List ℕ
    joined = joined_for (cell_count m.links) outcome m.links

    abbrev after : List ℕ
    after = counted happened joined

    at_ports : Each AtPort happened
    at_ports = events_at facts (rw port_is_law there) unlearned (carries_inside m.links word outcome carries)

    joined_apart : SettingsSame m.links joined
    joined_apart = joined_settings (cell_count m.links) m.links word outcome carries

    joined_long : length joined ≡ length m.links
    joined_long = joined_length (cell_count m.links) m.links word outcome carries

    words : SettingWords m.links after
    words =
        words_then (same_words joined_apart) (counted_keeps happened at_ports joined).words

    long : length after ≡ length m.links
    long = length_counted happened joined ∙ joined_long

    traffic_after : Traffic s.cell_count (stored_for (cell_count m.links) word outcome m.links m.cells) after (outcome_waiting outcome s.core.waiting)
    traffic_after =
        let keeps = counted_keeps happened at_ports joined in
        traffic_same joined after (length_counted happened joined) s.cell_count (stored_for (cell_count m.links) word outcome m.links m.cells) (outcome_waiting outcome s.core.waiting)
        keeps.cells keeps.queues
        (rw S.cell_count_law (joined_traffic s.cell_count m.links word m.cells s.core.waiting S.traffic outcome carries))

    counters_after : CountersStand after (tally happened s.counters)
    counters_after =
        let fits = links_fit_law m.links S.links_fit_law in
        counted_stands happened at_ports joined s.counters (omega (arith, joined_long, fits.long, fits.fewest))
        (counters_same joined_apart s.counters S.counters)

    cells_fit_after : cells_fit (stored_for (cell_count m.links) word outcome m.links m.cells) after ≡ true
    unfolding cells_fit
    cells_fit_after = rw (cell_count_same words, stored_length (cell_count m.links) word m.cells m.links outcome) S.cells_fit_law

    -- ---- the call

    enters : (buffer : List ℕ) → Follows (on_all buffer (entered c.port c.packet.bytes m.cells m.links m.addresses)) buffer s (frame_in_step s c)
    unfolding entered next
    enters buffer =
        rw step_same
        (record {
          same_answer = same_numbers outcome;
          same_bytes = rw (none_back outcome) refl;
          stands_kept = record {
            links_fit_law = fit_same m.links after long (cell_count_same words) S.links_fit_law;
            cells_fit_law = cells_fit_after;
            cell_count_law = cell_count_same words ∙ S.cell_count_law;
            settings = settings_same words s.core.settings S.settings;
            addresses = learned_stands m.links m.addresses (meets_in_range m s S) S.addresses.fit c.port there c.packet.bytes each;
            counters = counters_after;
            traffic = traffic_after;
          };
        })

  -- ---- the lines: with the port line before it, refusal 10 is asked of a port that there is

  lines_same : first (length_line (links_fit m.links && (cells_fit m.cells m.links && addresses_fit m.addresses)) ∷ (frame_in_lines c.port ++ (damage_line (met m.links m.addresses c.port c.packet.bytes) ∷ [])))
      ≡ first (frame_in_lines c.port)
  unfolding frame_in_lines first
  lines_same =
      let fits : links_fit m.links && (cells_fit m.cells m.links && addresses_fit m.addresses) ≡ true =
      rw (S.links_fit_law, S.cells_fit_law, S.addresses.fit) refl in
      on (ltb 4 c.port)
      (λ e. rw (fits, e))
      (λ e. lines_between (frame_in_lines c.port) fits
      ((frame_in_theorems m.links m.addresses c.packet.bytes c.port each (ltb-false 4 c.port e)).meets_none (meets_in_range m s S)))

pub frame_in_follows : (c : FrameInRequest) → CallFollows (frame_in c)
unfolding run frame_in_call lines_of carry_out Handed frame_in_lines
frame_in_follows c m s S buffer each =
    follows_by m s S (frame_in c) buffer (m.cells, m.links, m.addresses)
    (entered c.port c.packet.bytes m.cells m.links m.addresses)
    (on_all buffer)
    (λ r. refl)
    _
    (lines_same m s S c each)
    (λ e. enters m s S c each (ltb-false 4 c.port (each_first (holds_none (frame_in_lines c.port) e))) buffer)
