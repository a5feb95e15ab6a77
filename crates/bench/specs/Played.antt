-- The code's state as a session, a step of the code as an action, and the whole run. Assumes nothing: these are
-- definitions.
use Rattle.std.specs.Prelude.{◌≡◌, ◌+◌, ◌-◌, ◌%◌, ◌^◌, ◌≤◌, ◌&&◌, ◌⊎◌, ◌++◌}
use Rattle.std.specs.Prelude.{ℕ, Bool, true, false, not, List, [], length, IfSome}
use Rattle.std.specs.Io.KnownBytes.{IsAtEnd}
use Rattle.machine.specs.History.{fresh}
use Rattle.gufhrandi.specs.Memories.{Memories}
use Rattle.bench.specs.declared.run.Run.{Run}
use Rattle.bench.specs.Progressing.{waiting}
use Rattle.bench.specs.Switches.{memories_of}
use Rattle.bench.specs.Told.{Told}
use Rattle.bench.specs.Outside.{Outside, Moved}
use Rattle.bench.specs.Sessions.{Session, Action, no_more, acted, read_by, written_by, Allowed, GoesOn, Ran, Went, beginning}
use Rattle.bench.specs.SessionTheorems.{bench_cells, Fresh}

-- `failed`: reading or writing has failed; `came` and `handed`: what was read and written so far, which no variable holds
abbrev pub session_of : Run → Bool → List ℕ → List ℕ → Session
session_of r failed came handed =
    record {
      memories = memories_of r.switch;
      number = r.lines.number;
      waiting = waiting r.input;
      lines = r.lines.waiting.bytes;
      ended = r.input.ended;
      on = not r.over && not failed;
      failed = failed;
      came = came;
      handed = handed;
    }

-- the count of written bytes is that of the bytes written
abbrev pub Counted : Run → List ℕ → Type 0
Counted r handed = r.lines.sent ≡ length handed % 2 ^ 64

-- an action of a session leads to this state of the code, and moves what it says between the code and what is outside
pub record Leads (s : Session) (was : Outside) (r : Run) (failed : Bool) (now : Outside) : Type 0 where
  pub action : Action
  pub allowed : Allowed action s
  pub goes_on : GoesOn action s
  pub is : acted action s ≡ session_of r failed (acted action s).came (acted action s).handed
  pub counted : Counted r (acted action s).handed
  pub moved : Moved was now (read_by action) (written_by action s)
  pub ends : action ≡ no_more → IsAtEnd now.left

-- a step of the code, from one state to the next
abbrev pub Steps : Run → Outside → Run → Bool → Outside → Type 0
Steps r was after failed now =
    (came handed : List ℕ) → Counted r handed → Leads (session_of r false came handed) was after failed now

-- the lines have room for any other one
abbrev pub HasRoom : Run → Type 0
HasRoom r = length r.lines.waiting.bytes + 64 ≤ 65536

-- the run before the first byte is read, and before the fresh call
pub record IsUnread (r : Run) : Type 0 where
  pub number : r.lines.number ≡ 0
  pub waiting : waiting r.input ≡ []
  pub lines : r.lines.waiting.bytes ≡ []
  pub sent : r.lines.sent ≡ 0
  pub ended : r.input.ended ≡ false
  pub over : r.over ≡ false

-- the run before the first byte is read, on a fresh switch
pub record IsNew (r : Run) : Type 0 where
  pub fresh_switch : Fresh (memories_of r.switch)
  pub number : r.lines.number ≡ 0
  pub waiting : waiting r.input ≡ []
  pub lines : r.lines.waiting.bytes ≡ []
  pub sent : r.lines.sent ≡ 0
  pub ended : r.input.ended ≡ false
  pub over : r.over ≡ false

-- the whole run from a fresh switch
pub record Played (start : Memories) (was : Outside) (r : Run) (failed : Bool) (now : Outside) : Type 0 where
  pub came : List ℕ
  pub handed : List ℕ
  pub count : ℕ
  pub ran : Ran (beginning start) count (session_of r failed came handed)
  pub went : Went (beginning start) count (session_of r failed came handed)
  pub counted : Counted r handed
  -- What came is what the reader gave, and what was handed over is what the writer took.
  pub moved : Moved was now came handed
  -- It is over: the input has ended, a record has ended the run, or reading or writing failed. (A proved loop ends by
  -- itself as well, after more actions than a machine does in a hundred years.)
  pub over : (r.over ≡ true) ⊎ (failed ≡ true) ⊎ (2 ^ 64 - 1 ≤ count)
  -- What was written is the front of the lines that the machine tells of what came, and all of them if nothing failed.
  pub front : (rest : List ℕ) × Told (fresh bench_cells) 0 came (handed ++ rest)
  pub whole : r.over ≡ true → failed ≡ false → Told (fresh bench_cells) 0 came handed
  -- So it is of all the input, read or not, where the reader says what it has.
  pub front_of_all : IfSome was.left (λ bytes. (rest : List ℕ) × Told (fresh bench_cells) 0 bytes (handed ++ rest))
  pub whole_of_all : r.over ≡ true → failed ≡ false → IfSome was.left (λ bytes. Told (fresh bench_cells) 0 bytes handed)
