-- The call take: what it meets, what it answers and what it writes. Assumes nothing: these are definitions.
use Rattle.std.specs.Prelude.{ℕ, Bool, true, false, not, ◌&&◌, List, [], ◌∷◌, ◌++◌, length, take, if◌then◌else◌}
use Rattle.std.proofs.lemmas.List.Edits.{sets}
use Rattle.rules.specs.Lines.{Line, first}
use Rattle.rules.specs.declared.counters.Counter.TheVariants.{Sent as sent}
use Rattle.rules.specs.Refusals.{take_lines}
use Rattle.rules.specs.declared.refusals.Refusal.{Refusal}
use Rattle.rules.specs.declared.refusals.Refusal.TheVariants.{MemoryDamaged as memory_damaged}
use Rattle.machine.specs.TakeOut.{leaving_bytes}
use Rattle.layout.specs.Lengths.{cell_count, links_fit, cells_fit}
use Rattle.layout.specs.Answers.{length_line, damage_line, or_refused, refused_by, done_with}
use Rattle.layout.specs.declared.answers.Answer.{Answer}
use Rattle.settings.specs.SettingsOf.{settings_of}
use Rattle.take_out.specs.Serving.{Served, frame, nobody, damaged, served}
use Rattle.departure.specs.Leaving.{departed, left}
use Rattle.take_out.specs.Frames.{frame_at, can_send}

-- link memory and the lent buffer
abbrev pub Memory : Type 0
Memory = List ℕ × List ℕ

-- the frame's bytes as they leave this port
unfoldable pub leaving_at : ℕ → List ℕ → List ℕ → ℕ → ℕ → ℕ → List ℕ
leaving_at n cells links port queue c = leaving_bytes (settings_of links) port (frame_at n cells links c queue)

-- link memory after the frame was sent
unfoldable pub sent_from : ℕ → ℕ → ℕ → ℕ → List ℕ → List ℕ
sent_from n port queue c links = left port queue c sent (departed n port c links)

-- "the rest of the buffer keeps its bytes"
unfoldable pub taken_frame : List ℕ → ℕ → List ℕ → ℕ → List ℕ → ℕ → ℕ → Answer × Memory
taken_frame cells n links port out queue c = (
  done_with (length (leaving_at n cells links port queue c)) queue,
  (sent_from n port queue c links, sets out 0 (leaving_at n cells links port queue c)),
)

-- what a frame that is served gives: refusal 10 is here the only one left
unfoldable pub taken_or_damaged : List ℕ → ℕ → List ℕ → ℕ → List ℕ → ℕ → ℕ → Answer × Memory
taken_or_damaged cells n links port out queue c =
    if can_send cells n port c links then taken_frame cells n links port out queue c else
    (refused_by memory_damaged, (links, out))

-- ---- the call, by what is served

unfoldable pub damaged_in : List ℕ → ℕ → List ℕ → ℕ → Served → Bool
damaged_in cells n links port (frame queue c) = not (can_send cells n port c links)
damaged_in cells n links port nobody = false
damaged_in cells n links port damaged = true

-- "an empty port answers length 0 and queue 0"
unfoldable pub taken_from : List ℕ → ℕ → List ℕ → ℕ → List ℕ → Served → Answer × Memory
taken_from cells n links port out (frame queue c) = taken_frame cells n links port out queue c
taken_from cells n links port out nobody = (done_with 0 0, (links, out))
taken_from cells n links port out damaged = (done_with 0 0, (links, out))

-- the call's lines: 1, the rules' own, 10
unfoldable pub take_refusals : List ℕ → List ℕ → ℕ → List ℕ → Served → List (Line Refusal)
take_refusals cells links port out next =
    length_line (links_fit links && cells_fit cells links)
    ∷ take_lines (record { port = port; buffer = length out })
    ++ (damage_line (damaged_in cells (cell_count links) links port next) ∷ [])

unfoldable pub take_by : List ℕ → List ℕ → ℕ → List ℕ → Served → Answer × Memory
take_by cells links port out next =
    or_refused (first (take_refusals cells links port out next)) (links, out)
    (taken_from cells (cell_count links) links port out next)

unfoldable pub take_call : List ℕ → List ℕ → ℕ → List ℕ → Answer × Memory
take_call cells links port out = take_by cells links port out (served (cell_count links) port links)

-- "hands back exactly the written part of the lent buffer": refusal, queue, link memory, and that part
abbrev pub handed_back : Answer × Memory → ℕ × ℕ × List ℕ × List ℕ
handed_back (answer, (links, out)) = (answer.refusal, answer.y, links, take answer.x out)
