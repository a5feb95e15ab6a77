-- What each function of the run makes of the input and of the lines. Assumes nothing: these are definitions.
use Rattle.std.specs.Prelude.{◌≡◌, ◌+◌, ◌%◌, ◌^◌, ◌≤◌, ◌++◌, ◌==◌}
use Rattle.std.specs.Prelude.{ℕ, true, List, [], length, take, drop, slice_range, Option, Result, is_ok, IsOk, IsErr}
use Rattle.std.specs.Io.KnownBytes.{Consumes, Appends, IsAtEnd}
use Rattle.std.specs.declared.io.Error.{Error}
use Rattle.rules.specs.Tags.{Bytes}
use Rattle.layout.specs.declared.answers.Answer.{Answer}
use Rattle.records.specs.Framing.{next_of}
use Rattle.records.specs.Lines.{line_of}
use Rattle.records.specs.declared.framing.Next.{Next}
use Rattle.bench.specs.declared.input.Input.{Input}
use Rattle.bench.specs.declared.lines.Lines.{Lines}

-- ---- the input

-- what was read and not yet taken
unfoldable pub waiting : Input → List ℕ
waiting input = slice_range input.buffer input.at input.end

-- what comes next in it
abbrev pub next_at : Input → Next
next_at input = next_of (waiting input) input.ended

-- the record of this length, which stands behind its length
abbrev pub record_in : List ℕ → ℕ → List ℕ
record_in bytes long = take long (drop 2 bytes)

-- that record is taken
pub record Passed (was now : Input) (long : ℕ) : Type 0 where
  pub waiting : waiting now ≡ drop (2 + long) (waiting was)
  pub ended : now.ended ≡ was.ended

-- one of three: bytes came, there are no more, or reading failed; `left`, `rest`: what the reader had left and has left
pub data Refilled (was now : Input) (left rest : Option (List ℕ)) (result : Result (Unit {0}) Error) : Type 0 where
  came : (bytes : List ℕ) → 1 ≤ length bytes → waiting now ≡ waiting was ++ bytes → now.ended ≡ was.ended → Bytes bytes
      → Consumes left rest bytes → IsOk result → Refilled was now left rest result
  no_more : waiting now ≡ waiting was → now.ended ≡ true → Consumes left rest [] → IsAtEnd rest → IsOk result
      → Refilled was now left rest result
  unread : waiting now ≡ waiting was → now.ended ≡ was.ended → Consumes left rest [] → IsErr result
      → Refilled was now left rest result

-- ---- the lines

-- "record number from 1": no run reaches the number that goes to 0
abbrev pub number_after : ℕ → ℕ
number_after n = (n + 1) % 2 ^ 64

-- a line behind the others
pub record Lined (was now : Lines) (kind : ℕ) (answer : Answer) : Type 0 where
  pub number : now.number ≡ number_after was.number
  pub waiting : now.waiting.bytes ≡ was.waiting.bytes ++ line_of (number_after was.number) kind answer
  pub sent : now.sent ≡ was.sent

-- Writing took the first bytes of the waiting lines: all of them, unless it failed. `held`, `after`: what the writer held
-- and holds.
pub record Flushed (was now : Lines) (held after : Option (List ℕ)) (result : Result (Unit {0}) Error) : Type 0 where
  pub written : ℕ
  pub enough : written ≤ length was.waiting.bytes
  pub whole : is_ok result ≡ (written == length was.waiting.bytes)
  pub number : now.number ≡ was.number
  pub waiting : now.waiting.bytes ≡ []
  pub sent : now.sent ≡ (was.sent + written) % 2 ^ 64
  pub appended : Appends held after (take written was.waiting.bytes)
