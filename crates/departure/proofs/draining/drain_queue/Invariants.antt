-- `departure::draining::drain_queue` meets its contract: one copy a turn, and what is left to be done gives the whole.
use Prim.Native.Nat.{◌+◌, ◌-◌}
use mathlib.Core.Path.{◌≡◌}
use Rattle.queues.specs.Lists.{turns, turn_count}
use Rattle.departure.specs.Draining.{drain_one, drain_queue, queue_copies}
use Rattle.departure.proofs.draining.drain_queue.Given as goal

abbrev pub invariant-loop-turn : goal.invariant-loop-turn
invariant-loop-turn l =
    (turns (drain_one l.n.number l.port.number l.queue.number) l.port.number l.queue.number (l.n.number - l.turn) l.links
    ≡ drain_queue l.n.number l.port.number l.queue.number l.initial.links)
    × (l.turn + turn_count (drain_one l.n.number l.port.number l.queue.number) l.port.number l.queue.number (l.n.number - l.turn) l.links
    ≡ queue_copies l.n.number l.port.number l.queue.number l.initial.links)
