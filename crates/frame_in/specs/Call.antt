-- What a frame-in does: the rules' outcome of the frame's facts, the machine's events, and what they make of each
-- memory.
-- Assumes nothing: these are definitions.
use Rattle.std.specs.Prelude.{ℕ, Bool, ◌&&◌, List, [], ◌∷◌, ◌++◌, if◌then◌else◌}
use Rattle.rules.specs.Lines.{first}
use Rattle.rules.specs.Tags.{destination, source}
use Rattle.rules.specs.Reasons.{reason_number}
use Rattle.rules.specs.Addresses.{key}
use Rattle.rules.specs.Outcomes.{Outcome, drops, queues, outcome_of, learns, is_not_learned}
use Rattle.rules.specs.Refusals.{Lines, frame_in_lines}
use Rattle.machine.specs.Waiting.{size}
use Rattle.machine.specs.FrameIn.{mask, frame_in_events}
use Rattle.layout.specs.declared.answers.Answer.{Answer}
use Rattle.layout.specs.Lengths.{cell_count, links_fit, cells_fit, addresses_fit}
use Rattle.layout.specs.Answers.{done_with, length_line, damage_line, or_refused}
use Rattle.addresses.specs.Numbers.{table_of}
use Rattle.addresses.specs.Search.{look_up, found_by}
use Rattle.addresses.specs.Writes.{marked_by, learned_by}
use Rattle.cells.specs.Chains.{follow}
use Rattle.cells.specs.Bytes.{store_cells}
use Rattle.cells.specs.Stored.{stored_bytes}
use Rattle.cells.specs.Free.{first_free, taken}
use Rattle.arrival.specs.Stored.{operation_for, stored_header}
use Rattle.arrival.specs.Candidates.{destination_look_up}
use Rattle.frame_in.specs.Counting.{counted}
use Rattle.frame_in.specs.Met.{met}
unfoldable pub use Rattle.queues.specs.Lists.{pushed_at}
unfoldable pub use Rattle.frame_in.specs.Facts.{facts_in}

abbrev pub Memories : Type 0
Memories = List ℕ × List ℕ × List ℕ

-- ---- cell and link memory: the frame's cells and queues, then the counters

-- with the word of the VLAN's operation
unfoldable pub stored_for : ℕ → ℕ → Outcome → List ℕ → List ℕ → List ℕ
stored_for n operation (drops r) links memory = memory
stored_for n operation (queues f ports) links memory =
    store_cells memory (follow n links (size f) (first_free links))
    (stored_bytes (stored_header operation f) ++ f.packet.bytes)

-- the first cell joins the queue of each port, in ascending order
unfoldable pub joined_for : ℕ → Outcome → List ℕ → List ℕ
joined_for n (drops r) links = links
joined_for n (queues f ports) links = pushed_at n f.queue (first_free links) ports (taken n (size f) (mask ports) links)

-- ---- address memory

-- "a hit marks the entry as used; the source is then learned"
unfoldable pub lesson_in : List ℕ → ℕ → ℕ → List ℕ → Bool × List ℕ
lesson_in addresses gid port frame =
    learned_by (found_by (look_up addresses (key gid (source frame)))) (key gid (source frame)) port
    (marked_by (found_by (destination_look_up addresses gid (destination frame))) addresses)

unfoldable pub learned_in : List ℕ → List ℕ → ℕ → List ℕ → List ℕ
learned_in links addresses port frame =
    if learns (facts_in links addresses port frame)
    then (lesson_in addresses (facts_in links addresses port frame).gid port frame).1
    else addresses

-- ---- the call

unfoldable pub answer_for : Outcome → Answer
answer_for (drops r) = done_with (reason_number r) 0
answer_for (queues f ports) = done_with 0 (mask ports)

-- the outcome and what is learned are the rules', what is counted is the machine's events
unfoldable pub entered : ℕ → List ℕ → List ℕ → List ℕ → List ℕ → Answer × Memories
entered port frame memory links addresses =
    let f = facts_in links addresses port frame in
    let joined = joined_for (cell_count links) (outcome_of f) links in
    let stored = stored_for (cell_count links) (operation_for links f.vid) (outcome_of f) links memory in (
      answer_for (outcome_of f),
      (
        stored,
        counted (frame_in_events f (is_not_learned f (table_of addresses))) joined,
        learned_in links addresses port frame,
      ),
    )

-- the call's lines: 1, the rules' own, 10
abbrev pub frame_in_refusals : List ℕ → List ℕ → List ℕ → ℕ → List ℕ → Lines
frame_in_refusals memory links addresses port frame =
    length_line (links_fit links && (cells_fit memory links && addresses_fit addresses))
    ∷ (frame_in_lines port ++ (damage_line (met links addresses port frame) ∷ []))

unfoldable pub frame_in_call : List ℕ → List ℕ → List ℕ → ℕ → List ℕ → Answer × Memories
frame_in_call memory links addresses port frame =
    or_refused (first (frame_in_refusals memory links addresses port frame)) (memory, links, addresses)
    (entered port frame memory links addresses)
