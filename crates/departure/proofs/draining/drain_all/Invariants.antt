-- `departure::draining::drain_all` meets its contract: the queues below a number are to be drained.
use Prim.Native.Nat.{◌+◌, ◌*◌, ◌≤◌}
use mathlib.Core.Path.{◌≡◌}
use Rattle.departure.specs.Draining.{drain_all, copies}
use Rattle.departure.proofs.Drains.{drain_below, copies_below}
use Rattle.departure.proofs.draining.drain_all.Given as goal

abbrev pub invariant-loop-number : goal.invariant-loop-number
invariant-loop-number l =
    (drain_below l.n.number l.port.number l.number l.links ≡ drain_all l.n.number l.port.number l.initial.links)
    × (l.copies + copies_below l.n.number l.port.number l.number l.links ≡ copies l.n.number l.port.number l.initial.links)
    × (l.copies + 2048 * l.number ≤ 8192)
