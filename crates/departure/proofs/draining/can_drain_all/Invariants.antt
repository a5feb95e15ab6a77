-- `departure::draining::can_drain_all` meets its contract: the queues below a number are to be tested.
use mathlib.Core.Path.{◌≡◌}
use Rattle.departure.specs.Draining.{can_drain_all}
use Rattle.departure.proofs.Drains.{can_drain_below}
use Rattle.departure.proofs.draining.can_drain_all.Given as goal

abbrev pub invariant-loop-number : goal.invariant-loop-number
invariant-loop-number l = can_drain_below l.n.number l.port.number l.number l.links ≡ can_drain_all l.n.number l.port.number l.links
