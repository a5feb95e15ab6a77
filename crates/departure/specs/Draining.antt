-- A port is drained: what is met, and what is written. Assumes nothing: these are definitions.
use Rattle.std.specs.Prelude.{ℕ, ◌+◌, Bool, true, ◌&&◌, List, [], ◌∷◌, if◌then◌else◌}
use Rattle.rules.specs.declared.counters.Counter.TheVariants.{Drained as drained}
use Rattle.queues.specs.Lists.{youngest_of, oldest_cell, waiting_in_range, list_from, list_of, turns, turn_count}
use Rattle.departure.specs.Leaving.{can_leave, departed, left}

-- ---- what is met, on memory as it came

unfoldable pub all_can_leave : ℕ → ℕ → List ℕ → List ℕ → Bool
all_can_leave n port links [] = true
all_can_leave n port links (c ∷ cs) = can_leave n port c links && all_can_leave n port links cs

-- the frames of a queue that waits
abbrev pub list_from_oldest : ℕ → ℕ → ℕ → List ℕ → List ℕ
list_from_oldest n port queue links =
    list_from n links port (youngest_of links port queue) n (oldest_cell n links port queue)

abbrev pub all_from_oldest : ℕ → ℕ → ℕ → List ℕ → Bool
all_from_oldest n port queue links = all_can_leave n port links (list_from_oldest n port queue links)

-- "as a take for each frame of the list as it is read", without stored header and operation
unfoldable pub can_drain : ℕ → ℕ → ℕ → List ℕ → Bool
can_drain n port queue links = all_can_leave n port links (list_of n links port queue)

unfoldable pub can_drain_all : ℕ → ℕ → List ℕ → Bool
can_drain_all n port links =
    waiting_in_range links port
    && can_drain n port 3 links
    && can_drain n port 2 links
    && can_drain n port 1 links
    && can_drain n port 0 links

-- ---- what is written

-- A frame that is not in range any more, for an earlier copy's leaving changed it, keeps its words: never on memory
-- that calls made.
unfoldable pub dropped : ℕ → ℕ → ℕ → List ℕ → List ℕ
dropped n port c links = if can_leave n port c links then departed n port c links else links

-- the oldest copy of a queue
unfoldable pub drain_one : ℕ → ℕ → ℕ → List ℕ → List ℕ
drain_one n port queue links =
    left port queue (oldest_cell n links port queue) drained (dropped n port (oldest_cell n links port queue) links)

-- every copy, oldest first, while the queue waits and at most n times; and how many
unfoldable pub drain_queue : ℕ → ℕ → ℕ → List ℕ → List ℕ
drain_queue n port queue links = turns (drain_one n port queue) port queue n links

unfoldable pub queue_copies : ℕ → ℕ → ℕ → List ℕ → ℕ
queue_copies n port queue links = turn_count (drain_one n port queue) port queue n links

abbrev pub drained_queue : ℕ → ℕ → ℕ → List ℕ → ℕ × List ℕ
drained_queue n port queue links = (queue_copies n port queue links, drain_queue n port queue links)

-- "a drain drops every copy that waits at one port": queue 3 first
unfoldable pub drain_all : ℕ → ℕ → List ℕ → List ℕ
drain_all n port links = drain_queue n port 0 (drain_queue n port 1 (drain_queue n port 2 (drain_queue n port 3 links)))

unfoldable pub copies : ℕ → ℕ → List ℕ → ℕ
copies n port links =
    let two = drain_queue n port 3 links in
    let one = drain_queue n port 2 two in
    let none = drain_queue n port 1 one in
    queue_copies n port 3 links + queue_copies n port 2 two + queue_copies n port 1 one + queue_copies n port 0 none

abbrev pub drained_all : ℕ → ℕ → List ℕ → ℕ × List ℕ
drained_all n port links = (copies n port links, drain_all n port links)
