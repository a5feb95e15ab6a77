-- `take_out::taking::take_frame` meets its contract: what was met and written is of this frame.
use mathlib.Core.Path.{ap, ◌∙◌}
use Rattle.rules.specs.declared.counters.Counter.TheVariants.{Sent as sent}
use Rattle.departure.specs.Leaving.{left}
use Rattle.take_out.proofs.Takes.{frame_sent}
use Rattle.take_out.proofs.taking.take_frame.Goals as goal

pub returns-clause-out_after : goal.returns-clause-out_after
returns-clause-out_after c =
    let f = c.in_ok-frame.ensures in
    frame_sent c.args.cells.now c.args.n.number c.args.links.now c.args.port.number c.args.out.now c.args.next.queue.number c.args.next.cell _ _ _
    c.args.port.there
    (rw (f.0, f.1, f.2, f.3, f.4) at c.in_ok-frame.frame.sends)
    (rw (f.0, f.1, f.2, f.3, f.4) at c.write-written.ensures.bytes)
    (c.leave.ensures ∙ ap (left c.args.port.number c.args.next.queue.number c.args.next.cell sent) c.depart_from.ensures)
