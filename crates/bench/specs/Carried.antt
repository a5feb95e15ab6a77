-- The call that a record asks, as a history runs it: what the record answers, and what it leaves of the memories.
-- Assumes nothing: these are definitions.
use Rattle.std.specs.Prelude.{ℕ, List, length, drop, Result, Ok, Err}
use Rattle.rules.specs.declared.refusals.Refusal.{Refusal}
use Rattle.layout.specs.declared.answers.Answer.{Answer}
use Rattle.layout.specs.Answers.{refused_by}
use Rattle.settings.specs.declared.call.Call.{Call}
use Rattle.gufhrandi.specs.Memories.{Memories, Done}
use Rattle.gufhrandi.specs.Runs.{run}
use Rattle.gufhrandi.specs.Asked.{asked}

abbrev pub leaving : Done → Answer × Memories
leaving done = (done.answer, done.memories)

-- `out`: the take-out buffer, whose bytes no line shows; `bytes`: the record without its length
unfoldable pub carried_out : Memories → List ℕ → List ℕ → Result Call Refusal → Answer × Memories
carried_out m out bytes (Ok call) = leaving (run m (asked (drop 3 bytes) (length out) call) out)
carried_out m out bytes (Err refusal) = (refused_by refusal, m)
