-- The calls on a counter, a port, the queues and BPDU handling: what each answers and leaves, whatever link memory
-- holds.
-- A counter's meets no field; the others meet the packed word that they write a part of.
-- Assumes nothing: these are definitions.
use Rattle.std.specs.Prelude.{ℕ, not, List, [], ◌∷◌, ◌++◌, get_or, set}
use Rattle.rules.specs.Lines.{Line, first}
use Rattle.rules.specs.Refusals.{Lines, counter_lines, port_lines, map_lines, queue_switch_lines, bpdu_lines}
use Rattle.rules.specs.declared.refusals.Refusal.{Refusal}
use Rattle.rules.specs.Arguments.{PortNumbers, flag}
use Rattle.layout.specs.Places.{map_word, switches_word, counter_word}
use Rattle.layout.specs.declared.answers.Answer.{Answer}
use Rattle.layout.specs.Lengths.{links_fit}
use Rattle.layout.specs.Answers.{done_with, length_line, damage_line, or_refused}
use Rattle.settings.specs.States.{is_states_word}
use Rattle.settings.specs.Maps.{is_map_word, with_queue, with_bpdu}
use Rattle.settings.specs.Switches.{is_switches_word, with_switch}
use Rattle.settings.specs.Records.{states_at, port_written}
use Rattle.settings.specs.SettingsOf.{map_at, switches_at}

-- ---- counter: x is its value

unfoldable pub counter_refusals : List ℕ → ℕ → ℕ → Lines
counter_refusals links port number = length_line (links_fit links) ∷ counter_lines (record { port = port; number = number })

unfoldable pub counter_call : List ℕ → ℕ → ℕ → Answer × List ℕ
counter_call links port number =
    or_refused (first (counter_refusals links port number)) links
    (done_with (get_or links (counter_word port number) 0) 0, links)

-- ---- the packed words that are met

abbrev pub states_line : List ℕ → Line Refusal
states_line links = damage_line (not (is_states_word (states_at links)))

abbrev pub map_line : List ℕ → Line Refusal
map_line links = damage_line (not (is_map_word (map_at links)))

abbrev pub switches_line : List ℕ → Line Refusal
switches_line links = damage_line (not (is_switches_word (switches_at links)))

-- ---- port

unfoldable pub port_refusals : List ℕ → ℕ → PortNumbers → Lines
port_refusals links port new =
    length_line (links_fit links) ∷ port_lines (record { port = port; new = new }) ++ (states_line links ∷ [])

unfoldable pub port_call : List ℕ → ℕ → PortNumbers → Answer × List ℕ
port_call links port new =
    or_refused (first (port_refusals links port new)) links (done_with 0 0, port_written links port new)

-- ---- map: the queue of a PCP

unfoldable pub queue_written : List ℕ → ℕ → ℕ → List ℕ
queue_written links pcp queue = set links map_word (with_queue (map_at links) pcp queue)

unfoldable pub map_refusals : List ℕ → ℕ → ℕ → Lines
map_refusals links pcp queue =
    length_line (links_fit links) ∷ map_lines (record { pcp = pcp; queue = queue }) ++ (map_line links ∷ [])

unfoldable pub map_call : List ℕ → ℕ → ℕ → Answer × List ℕ
map_call links pcp queue =
    or_refused (first (map_refusals links pcp queue)) links (done_with 0 0, queue_written links pcp queue)

-- ---- queue switch

unfoldable pub switch_written : List ℕ → ℕ → ℕ → ℕ → List ℕ
switch_written links port queue on = set links switches_word (with_switch (switches_at links) port queue (flag on))

unfoldable pub queue_switch_refusals : List ℕ → ℕ → ℕ → ℕ → Lines
queue_switch_refusals links port queue on =
    length_line (links_fit links)
    ∷ queue_switch_lines (record { port = port; queue = queue; on = on })
    ++ (switches_line links ∷ [])

unfoldable pub queue_switch_call : List ℕ → ℕ → ℕ → ℕ → Answer × List ℕ
queue_switch_call links port queue on =
    or_refused (first (queue_switch_refusals links port queue on)) links (done_with 0 0, switch_written links port queue on)

-- ---- BPDU switch

unfoldable pub bpdu_written : List ℕ → ℕ → List ℕ
bpdu_written links on = set links map_word (with_bpdu (map_at links) (flag on))

unfoldable pub bpdu_refusals : List ℕ → ℕ → Lines
bpdu_refusals links on = length_line (links_fit links) ∷ bpdu_lines on ++ (map_line links ∷ [])

unfoldable pub bpdu_call : List ℕ → ℕ → Answer × List ℕ
bpdu_call links on = or_refused (first (bpdu_refusals links on)) links (done_with 0 0, bpdu_written links on)
