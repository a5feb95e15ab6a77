-- What a call answers: a refusal's number alone, or 0 with x and y; and a call as its lines, then what it does.
-- Assumes nothing: these are definitions.
use Rattle.std.specs.Prelude.{ℕ, Bool, not, Result, Ok, Err}
use Rattle.std.specs.Prelude.{Option, None as none, Some as some}
use Rattle.rules.specs.Lines.{Line, line}
use Rattle.rules.specs.Refusals.{refusal_number}
use Rattle.rules.specs.declared.refusals.Refusal.{Refusal}
use Rattle.rules.specs.declared.refusals.Refusal.TheVariants.{MemoryLength as memory_length, MemoryDamaged as memory_damaged}
use Rattle.layout.specs.declared.answers.Answer.{Answer}
use Rattle.layout.specs.declared.answers.Done.{Done}

abbrev pub refused_by : Refusal → Answer
refused_by r = record { refusal = refusal_number r; x = 0; y = 0 }

abbrev pub done_with : ℕ → ℕ → Answer
done_with x y = record { refusal = 0; x = x; y = y }

-- what C gets of a call's outcome
abbrev pub answered : Result Done Refusal → Answer
answered (Ok done) = done_with done.x done.y
answered (Err refusal) = refused_by refusal

-- refusals 1 and 10, which stand before and behind the others
abbrev pub length_line : Bool → Line Refusal
length_line fits = line memory_length (not fits)

abbrev pub damage_line : Bool → Line Refusal
damage_line damaged = line memory_damaged damaged

-- a refusal leaves every memory as it was
abbrev pub or_refused {ℓ} : {M : Type ℓ} → Option Refusal → M → Answer × M → Answer × M
or_refused none memory step = step
or_refused (some r) memory step = (refused_by r, memory)
