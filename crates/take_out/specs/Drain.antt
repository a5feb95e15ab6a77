-- The call drain: what it refuses, what it answers and what it writes. Assumes nothing: these are definitions.
use Rattle.std.specs.Prelude.{ℕ, not, List, [], ◌∷◌, ◌++◌}
use Rattle.rules.specs.Lines.{Line, first}
use Rattle.rules.specs.Refusals.{drain_lines}
use Rattle.rules.specs.declared.refusals.Refusal.{Refusal}
use Rattle.layout.specs.Lengths.{cell_count, links_fit}
use Rattle.layout.specs.Answers.{length_line, damage_line, or_refused, done_with}
use Rattle.layout.specs.declared.answers.Answer.{Answer}
unfoldable pub use Rattle.departure.specs.Draining.{all_can_leave, can_drain, can_drain_all, dropped}
unfoldable pub use Rattle.departure.specs.Draining.{drain_one, drain_queue, queue_copies, drain_all, copies}

unfoldable pub drain_refusals : List ℕ → ℕ → List (Line Refusal)
drain_refusals links port =
    length_line (links_fit links) ∷ drain_lines port ++ (damage_line (not (can_drain_all (cell_count links) port links)) ∷ [])

unfoldable pub drain_call : List ℕ → ℕ → Answer × List ℕ
drain_call links port =
    or_refused (first (drain_refusals links port)) links
    (done_with (copies (cell_count links) port links) 0, drain_all (cell_count links) port links)
