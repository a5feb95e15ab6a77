-- A record runs the call that it asks.
use Rattle.std.proofs.Common.{ap}
use Rattle.gufhrandi.specs.Runs.{run}
use Rattle.gufhrandi.specs.Asked.{asked}
use Rattle.bench.specs.Carried.{leaving, carried_out}
use Rattle.bench.proofs.switch.Switch.answer_to.Goals as goal

pub returns-in-Ok-Take : goal.returns-in-Ok-Take
unfolding carried_out run asked
returns-in-Ok-Take c = rw (← c.request_of.ensures, c.in-Ok-Take.is, c.in-Ok-Take.field-0-is) c.take.ensures

pub returns-in-Ok : goal.returns-in-Ok
unfolding carried_out
returns-in-Ok c = rw (← c.request_of.ensures, c.in-Ok.is) (rw c.frame_of.ensures at (ap leaving c.perform.ensures))

pub returns-in-Err : goal.returns-in-Err
unfolding carried_out
returns-in-Err c = rw (← c.request_of.ensures, c.in-Err.is, c.from.ensures)
