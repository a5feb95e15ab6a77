-- `departure::draining::all_can_leave` meets its contract: one frame a turn.
use Prim.Native.Nat.{◌<◌}
use mathlib.Core.Path.{◌≡◌}
use Rattle.departure.specs.Draining.{all_can_leave, all_from_oldest}
use Rattle.departure.proofs.Drains.{rest_from}
use Rattle.departure.proofs.draining.all_can_leave.Given as goal

abbrev pub invariant-loop : goal.invariant-loop
invariant-loop l = (all_can_leave l.n.number l.port.number l.links (rest_from l.n.number l.port.number l.queue.number l.links l.counter l.c) ≡ all_from_oldest l.n.number l.port.number l.queue.number l.links) × (l.c < l.n.number)
