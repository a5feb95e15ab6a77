-- Which frame leaves: "the oldest frame of its highest-numbered waiting queue". Assumes nothing: these are definitions.
use Rattle.std.specs.Prelude.{ℕ, List, ltb, if◌then◌else◌}
use Rattle.std.specs.Prelude.{Option, Some as some, None as none, Result, Ok as ok, Err as err}
use Rattle.layout.specs.declared.damage.Damaged.{Damaged}
use Rattle.queues.specs.Lists.{waiting_of, oldest_of, waiting_in_range, highest_of}
use Rattle.take_out.specs.declared.serving.Next.{Next}

-- the frame of a queue whose first cell is told; nobody, if no queue waits; or damage that was met
pub data Served : Type 0 where
  frame : ℕ → ℕ → Served
  nobody damaged : Served

-- what the code answers
abbrev pub served_is : Result (Option Next) Damaged → Served
served_is (ok (some next)) = frame next.queue.number next.cell
served_is (ok none) = nobody
served_is (err _) = damaged

-- the oldest frame of the queue that is served, whose word is met
unfoldable pub served_of : ℕ → ℕ → List ℕ → Option ℕ → Served
served_of n port links (some q) = if ltb (oldest_of links port q) n then frame q (oldest_of links port q) else damaged
served_of n port links none = nobody

-- the port's word of waiting queues is met first
unfoldable pub served : ℕ → ℕ → List ℕ → Served
served n port links =
    if waiting_in_range links port then served_of n port links (highest_of (waiting_of links port)) else damaged
