-- The calls on a counter, a port, the queues and BPDU handling follow the machine. Assumes nothing.
use Prim.Native.Nat.{ℕ, ◌≤◌, ◌<◌}
use mathlib.Core.Path.{◌≡◌, refl, ap, ◌∙◌}
use mathlib.Core.Bool.{Bool, true, false, ◌&&◌, not}
use mathlib.Core.List.{[], ◌∷◌}
use Rattle.std.specs.Prelude.{None as none}
use native.Mathlib.Omega.{arith}
use lib.Dec.{leb}
use borrow.Author.Tests.{leb-true, ltb-false, not-false}
use Rattle.rules.specs.Lines.{first}
use Rattle.rules.specs.Numbers.{management_port, last_counter, most_pcp, most_queue}
use Rattle.rules.specs.Arguments.{port_in_range, port_of, flag}
use Rattle.rules.specs.Refusals.{counter_lines, port_lines, map_lines, queue_switch_lines, bpdu_lines}
use Rattle.rules.proofs.Choice.{and_left, and_right, each_first, each_rest}
use Rattle.rules.proofs.Lines.{holds_none}
use Rattle.machine.specs.Events.{tally}
use Rattle.rules.specs.Requests.{CounterRequest, PortRequest, MapRequest, SwitchRequest}
use Rattle.machine.specs.State.{counter, port, map, queue_switch, bpdu}
use Rattle.machine.specs.SettingCalls.{with_port, with_queue, with_switch, with_bpdu}
use Rattle.machine.specs.Machine.{lines_of, carry_out, next}
use Rattle.layout.specs.Places.{map_word, switches_word}
use Rattle.layout.specs.Answers.{done_with}
use Rattle.settings.specs.Records.{port_written}
use Rattle.settings.proofs.SettingsLaws.{port_written_law, queue_written_law, switch_written_law, bpdu_written_law}
use Rattle.settings.proofs.CounterLaws.{counter_at}
use Rattle.setting_calls.specs.Calls.{counter_refusals, counter_call, port_refusals, port_call, queue_written, map_refusals, map_call, switch_written, queue_switch_refusals, queue_switch_call, bpdu_written, bpdu_refusals, bpdu_call}
use Rattle.gufhrandi.specs.Runs.{on_links, run}
use Rattle.standing.specs.Follows.{numbers_of, handed_back, CallFollows}
use Rattle.standing.proofs.Answers.{lines_alone, lines_between, follows_by}
use Rattle.standing.proofs.Settled.{links_long, set_before, set_port, setting_follows}
use Rattle.standing.proofs.SettingRanges.{port_in_range_law, map_in_range, switch_in_range, bpdu_in_range}

-- ---- counter

counter_allowed : (c : CounterRequest) → first (counter_lines c) ≡ none → (c.port < 5) × (c.number ≤ last_counter)
unfolding counter_lines
counter_allowed c e =
    let fails = holds_none _ e in
    (omega (arith, ltb-false management_port c.port (each_first fails)), leb-true c.number last_counter (not-false (leb c.number last_counter) (each_first (each_rest fails))))

pub counter_follows : (c : CounterRequest) → CallFollows (counter c)
unfolding run counter_call counter_refusals lines_of carry_out numbers_of handed_back next tally
counter_follows c m s S buffer handed =
    let p = c.port in
    let k = c.number in
    follows_by m s S (counter c) buffer m.links (done_with (counter_at m.links p k) 0, m.links) (on_links m buffer) (λ r. refl)
    (first (counter_refusals m.links p k)) (lines_alone (counter_lines c) S.links_fit_law)
    (λ e.
    let allowed = counter_allowed c e in
    record { same_answer = ap (λ (x : ℕ). done_with x 0) (S.counters p k allowed.0 allowed.1); same_bytes = refl; stands_kept = S })

-- a word in range is no damage
sound : {b : Bool} → b ≡ true → not b ≡ false
sound e = rw e

-- ---- port

port_allowed : (c : PortRequest) → first (port_lines c) ≡ none → (c.port < 5) × (port_in_range c.new ≡ true)
unfolding port_lines
port_allowed c e =
    let fails = holds_none _ e in
    (omega (arith, ltb-false management_port c.port (each_first fails)), not-false (port_in_range c.new) (each_first (each_rest fails)))

pub port_follows : (c : PortRequest) → CallFollows (port c)
unfolding run port_call port_refusals lines_of carry_out with_port
port_follows c m s S buffer handed =
    let p = c.port in
    let n = c.new in
    let links = port_written m.links p n in
    let long = links_long m s S in
    setting_follows m s S (port c) buffer (first (port_refusals m.links p n)) (lines_between (port_lines c) S.links_fit_law (sound S.settings.in_range.states)) links
    (with_port p (port_of n) s.core.settings) refl
    (λ e.
    let allowed = port_allowed c e in (
      set_port m.links p n allowed.0,
      record {
        says = port_written_law m.links p n long allowed.0 allowed.1 ∙ ap (with_port p (port_of n)) S.settings.says;
        in_range = port_in_range_law m.links long S.settings.in_range p n allowed.0 allowed.1;
        once = S.settings.once;
      },
    ))

-- ---- map: the queue of a PCP

map_allowed : (c : MapRequest) → first (map_lines c) ≡ none → (c.pcp < 8) × (c.queue ≤ most_queue)
unfolding map_lines
map_allowed c e =
    let pcp = c.pcp in
    let q = c.queue in
    let both = not-false (leb pcp most_pcp && leb q most_queue) (each_first (holds_none _ e)) in
    (omega (arith, leb-true pcp most_pcp (and_left _ (leb q most_queue) both)), leb-true q most_queue (and_right (leb pcp most_pcp) _ both))

pub map_follows : (c : MapRequest) → CallFollows (map c)
unfolding run map_call map_refusals queue_written lines_of carry_out with_queue
map_follows c m s S buffer handed =
    let pcp = c.pcp in
    let q = c.queue in
    let links = queue_written m.links pcp q in
    let long = links_long m s S in
    setting_follows m s S (map c) buffer (first (map_refusals m.links pcp q)) (lines_between (map_lines c) S.links_fit_law (sound S.settings.in_range.map)) links
    (with_queue pcp q s.core.settings) refl
    (λ e.
    let allowed = map_allowed c e in (
      set_before m.links map_word (_ ∷ []) (omega arith) (omega arith),
      record {
        says = queue_written_law m.links pcp q long allowed.0 allowed.1 ∙ ap (with_queue pcp q) S.settings.says;
        in_range = map_in_range m.links long S.settings.in_range pcp q allowed.0;
        once = S.settings.once;
      },
    ))

-- ---- queue switch

queue_switch_allowed : (c : SwitchRequest) → first (queue_switch_lines c) ≡ none → (c.port < 5) × (c.queue < 4) × (c.on ≤ 1)
unfolding queue_switch_lines
queue_switch_allowed c e =
    let p = c.port in
    let q = c.queue in
    let on = c.on in
    let fails = holds_none _ e in
    let both = not-false (leb q most_queue && leb on 1) (each_first (each_rest fails)) in (
      omega (arith, ltb-false management_port p (each_first fails)),
      omega (arith, leb-true q most_queue (and_left _ (leb on 1) both)),
      leb-true on 1 (and_right (leb q most_queue) _ both),
    )

pub queue_switch_follows : (c : SwitchRequest) → CallFollows (queue_switch c)
unfolding run queue_switch_call queue_switch_refusals switch_written lines_of carry_out with_switch
queue_switch_follows c m s S buffer handed =
    let p = c.port in
    let q = c.queue in
    let on = c.on in
    let links = switch_written m.links p q on in
    let long = links_long m s S in
    setting_follows m s S (queue_switch c) buffer (first (queue_switch_refusals m.links p q on)) (lines_between (queue_switch_lines c) S.links_fit_law (sound S.settings.in_range.switches)) links
    (with_switch p q (flag on) s.core.settings) refl
    (λ e.
    let allowed = queue_switch_allowed c e in (
      set_before m.links switches_word (_ ∷ []) (omega arith) (omega arith),
      record {
        says = switch_written_law m.links p q (flag on) long allowed.0 allowed.1 ∙ ap (with_switch p q (flag on)) S.settings.says;
        in_range = switch_in_range m.links long S.settings.in_range p q (flag on) allowed.0 allowed.1;
        once = S.settings.once;
      },
    ))

-- ---- BPDU switch

pub bpdu_follows : (on : ℕ) → CallFollows (bpdu on)
unfolding run bpdu_call bpdu_refusals bpdu_written lines_of carry_out with_bpdu
bpdu_follows on m s S buffer handed =
    let links = bpdu_written m.links on in
    let long = links_long m s S in
    setting_follows m s S (bpdu on) buffer (first (bpdu_refusals m.links on)) (lines_between (bpdu_lines on) S.links_fit_law (sound S.settings.in_range.map)) links
    (with_bpdu (flag on) s.core.settings) refl
    (λ e. (
      set_before m.links map_word (_ ∷ []) (omega arith) (omega arith),
      record {
        says = bpdu_written_law m.links (flag on) long ∙ ap (with_bpdu (flag on)) S.settings.says;
        in_range = bpdu_in_range m.links long S.settings.in_range (flag on);
        once = S.settings.once;
      },
    ))
