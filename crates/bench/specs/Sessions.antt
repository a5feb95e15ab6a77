-- A session of the bench program: what it holds, what it can do next, and what that makes of it. Assumes nothing: these
-- are definitions.
use Rattle.std.specs.Prelude.{◌≡◌, ◌+◌, ◌≤◌, ◌&&◌, ◌||◌, ◌++◌, ◌==◌}
use Rattle.std.specs.Prelude.{ℕ, zero, suc, Bool, true, false, not, List, [], length, take, drop}
use Rattle.rules.specs.Tags.{Bytes}
use Rattle.rules.specs.Cells.{largest_result}
use Rattle.rules.specs.declared.refusals.Refusal.TheVariants.{BadRecord as bad_record}
use Rattle.layout.specs.declared.answers.Answer.{Answer}
use Rattle.layout.specs.Answers.{refused_by}
use Rattle.records.specs.Reading.{kind_of}
use Rattle.records.specs.Requests.{request_of}
use Rattle.records.specs.Lines.{line_of}
use Rattle.records.specs.Framing.{next_of}
use Rattle.records.specs.declared.framing.Next.TheVariants.{More, Finished, Cut, Whole}
use Rattle.gufhrandi.specs.Memories.{Memories}
use Rattle.bench.specs.Carried.{carried_out}
use Rattle.bench.specs.Progressing.{number_after, record_in}

pub record Session : Type 0 where
  pub memories : Memories
  -- how many lines there are
  pub number : ℕ
  -- bytes that came and were not yet taken, and lines that were not yet written
  pub waiting : List ℕ
  pub lines : List ℕ
  -- there is no more input; the run goes on; reading or writing failed
  pub ended : Bool
  pub on : Bool
  pub failed : Bool
  -- every byte that was read so far, and every byte that was written
  pub came : List ℕ
  pub handed : List ℕ

-- a session on these memories before the first byte is read
abbrev pub beginning : Memories → Session
beginning m =
    record {
      memories = m;
      number = 0;
      waiting = [];
      lines = [];
      ended = false;
      on = true;
      failed = false;
      came = [];
      handed = [];
    }

pub data Action : Type 0 where
  -- writing took the first n bytes of the lines
  write : ℕ → Action
  -- reading brought bytes, brought nothing, or failed
  bring : List ℕ → Action
  no_more : Action
  unread : Action
  -- the end of the input between records, and a cut record
  finish : Action
  cut : Action
  -- a whole record of this length; the take-out buffer that it is lent
  play : ℕ → List ℕ → Action

-- a line behind the others
abbrev pub line_behind : Session → ℕ → Answer → List ℕ
line_behind s kind answer = s.lines ++ line_of (number_after s.number) kind answer

abbrev pub after_record : Session → ℕ → ℕ → Answer × Memories → Session
after_record s long kind done =
    record {
      memories = done.1;
      number = number_after s.number;
      waiting = drop (2 + long) s.waiting;
      lines = line_behind s kind done.0;
      ended = s.ended;
      on = s.on;
      failed = s.failed;
      came = s.came;
      handed = s.handed;
    }

abbrev pub played : Session → ℕ → List ℕ → List ℕ → Session
played s long out bytes = after_record s long (kind_of bytes) (carried_out s.memories out bytes (request_of bytes))

unfoldable pub acted : Action → Session → Session
acted (write n) s =
    record {
      memories = s.memories;
      number = s.number;
      waiting = s.waiting;
      lines = [];
      ended = s.ended;
      -- a line behind a gap would tell of another record: where not all is taken the run ends
      on = s.on && (n == length s.lines);
      failed = s.failed || not (n == length s.lines);
      came = s.came;
      handed = s.handed ++ take n s.lines;
    }
acted (bring bytes) s =
    record {
      memories = s.memories;
      number = s.number;
      waiting = s.waiting ++ bytes;
      lines = s.lines;
      ended = s.ended;
      on = s.on;
      failed = s.failed;
      came = s.came ++ bytes;
      handed = s.handed;
    }
acted no_more s =
    record {
      memories = s.memories;
      number = s.number;
      waiting = s.waiting;
      lines = s.lines;
      ended = true;
      on = s.on;
      failed = s.failed;
      came = s.came;
      handed = s.handed;
    }
acted unread s =
    record {
      memories = s.memories;
      number = s.number;
      waiting = s.waiting;
      lines = s.lines;
      ended = s.ended;
      on = false;
      failed = true;
      came = s.came;
      handed = s.handed;
    }
acted finish s =
    record {
      memories = s.memories;
      number = s.number;
      waiting = s.waiting;
      lines = s.lines;
      ended = s.ended;
      on = false;
      failed = s.failed;
      came = s.came;
      handed = s.handed;
    }
acted cut s =
    record {
      memories = s.memories;
      number = number_after s.number;
      waiting = s.waiting;
      lines = line_behind s 0 (refused_by bad_record);
      ended = s.ended;
      on = false;
      failed = s.failed;
      came = s.came;
      handed = s.handed;
    }
acted (play long out) s = played s long out (record_in s.waiting long)

-- what an action read, and what it wrote
abbrev pub read_by : Action → List ℕ
read_by (write n) = []
read_by (bring bytes) = bytes
read_by no_more = []
read_by unread = []
read_by finish = []
read_by cut = []
read_by (play long out) = []

abbrev pub written_by : Action → Session → List ℕ
written_by (write n) s = take n s.lines
written_by (bring bytes) s = []
written_by no_more s = []
written_by unread s = []
written_by finish s = []
written_by cut s = []
written_by (play long out) s = []

-- Reading waits until the next record is not known and every line is written: whoever hands over a record sees its line.
abbrev pub MayRead : Session → Type 0
MayRead s = (s.on ≡ true) × (next_of s.waiting s.ended ≡ More) × (s.lines ≡ [])

unfoldable pub Allowed : Action → Session → Type 0
Allowed (write n) s = n ≤ length s.lines
Allowed (bring bytes) s = MayRead s × Bytes bytes
Allowed no_more s = MayRead s
Allowed unread s = MayRead s
Allowed finish s = (s.on ≡ true) × (next_of s.waiting s.ended ≡ Finished)
Allowed cut s = (s.on ≡ true) × (next_of s.waiting s.ended ≡ Cut)
Allowed (play long out) s =
    (s.on ≡ true) × (next_of s.waiting s.ended ≡ Whole long) × (length out ≡ largest_result)

-- so many actions, one after another
pub data Ran (start : Session) : ℕ → Session → Type 0 where
  starts : Ran start zero start
  acts : {k : ℕ} {s : Session} (a : Action) → Ran start k s → Allowed a s → Ran start (suc k) (acted a s)

-- Does an action go on? What is written was waiting, what is brought is not nothing; the others take a record, or end the
-- input or the run.
unfoldable pub GoesOn : Action → Session → Type 0
GoesOn (write n) s = 1 ≤ length s.lines
GoesOn (bring bytes) s = 1 ≤ length bytes
GoesOn no_more s = Unit {0}
GoesOn unread s = Unit {0}
GoesOn finish s = Unit {0}
GoesOn cut s = Unit {0}
GoesOn (play long out) s = Unit {0}

-- so many actions, each of which goes on
pub data Went (start : Session) : ℕ → Session → Type 0 where
  begins : Went start zero start
  goes : {k : ℕ} {s : Session} (a : Action) → Went start k s → Allowed a s → GoesOn a s → Went start (suc k) (acted a s)
