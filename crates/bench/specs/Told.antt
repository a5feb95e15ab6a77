-- The lines that the machine tells of an input: record after record, to the end of the input or to the record that ends
-- the run. What the bench program writes is held to this. Assumes nothing: these are definitions.
use Rattle.std.specs.Prelude.{◌≡◌, ℕ, ◌+◌, true, List, [], ◌++◌, drop, Result, Ok, Err}
use Rattle.rules.specs.Cells.{largest_result}
use Rattle.rules.specs.declared.refusals.Refusal.{Refusal}
use Rattle.rules.specs.declared.refusals.Refusal.TheVariants.{BadRecord as bad_record}
use Rattle.machine.specs.State.{State, Step}
use Rattle.machine.specs.Machine.{perform, next}
use Rattle.layout.specs.declared.answers.Answer.{Answer}
use Rattle.layout.specs.Answers.{refused_by}
use Rattle.records.specs.Reading.{kind_of}
use Rattle.records.specs.Requests.{request_of}
use Rattle.records.specs.Lines.{line_of}
use Rattle.records.specs.Framing.{next_of}
use Rattle.records.specs.declared.framing.Next.TheVariants.{Finished, Cut, Whole}
use Rattle.settings.specs.declared.call.Call.{Call}
use Rattle.gufhrandi.specs.Asked.{asked}
use Rattle.standing.specs.Follows.{numbers_of}
use Rattle.bench.specs.Progressing.{number_after, record_in}

-- what a call answers, and the state then
abbrev pub stepped : State → Step → Answer × State
stepped s step = (numbers_of step.answer, next s step)

-- what the machine answers to a record, whose bytes stand here without its length; a bad record is refused and skipped
unfoldable pub answered : State → List ℕ → Result Call Refusal → Answer × State
answered s bytes (Ok call) = stepped s (perform s (asked (drop 3 bytes) largest_result call))
answered s bytes (Err refusal) = (refused_by refusal, s)

abbrev pub reply : State → List ℕ → Answer × State
reply s bytes = answered s bytes (request_of bytes)

-- `n`: the number of the line before; `bytes`: what is left of the input
pub data Told : State → ℕ → List ℕ → List ℕ → Type 0 where
  -- "end of input between records prints nothing"
  at_the_end : {s : State} {n : ℕ} {bytes : List ℕ} → next_of bytes true ≡ Finished → Told s n bytes []
  -- "a length under 2 or a cut record ends the run after its line with kind 0 and refusal 11"
  at_a_cut : {s : State} {n : ℕ} {bytes : List ℕ} → next_of bytes true ≡ Cut
      → Told s n bytes (line_of (number_after n) 0 (refused_by bad_record))
  -- a whole record: its line, and then the lines of the others
  a_record : {s : State} {n : ℕ} {bytes rest : List ℕ} (long : ℕ) → next_of bytes true ≡ Whole long
      → Told (reply s (record_in bytes long)).1 (number_after n) (drop (2 + long) bytes) rest
      → Told s n bytes
      (line_of (number_after n) (kind_of (record_in bytes long)) (reply s (record_in bytes long)).0 ++ rest)
