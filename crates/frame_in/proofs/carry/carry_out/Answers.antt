-- `frame_in::carry::carry_out` meets its contract.
use native.Mathlib.Omega.{arith}
use Rattle.frame_in.specs.Carried.{Room}
use Rattle.frame_in.proofs.Joins.{dropped_is, queued_is, room_counted}
use Rattle.frame_in.proofs.carry.carry_out.Goals as goal

pub join-requires : goal.join-requires
join-requires c =
    let a = c.args in
    let ready : Room a.n.number a.links.now a.frame.now c.in-Queue.offer = rw c.in-Queue.is at c.requires.ready in
    record {
      lengths = (omega (arith, c.requires.lengths, c.count_frame.auto), c.requires.lengths.1);
      room = record {
        long = ready.long;
        left = ready.left;
        enough = room_counted a.n.number c.in-Queue.lesson a.frame.now a.cells.now a.links.now a.addresses.now a.port.number c.take_lesson-unlearned.ensures
            c.in-Queue.offer a.port.there c.count_frame.ensures _ ready.enough;
      };
    }

pub returns-in-Queue : goal.returns-in-Queue
returns-in-Queue c =
    let a = c.args in
    rw c.in-Queue.is
    (queued_is a.n.number c.in-Queue.lesson a.frame.now a.cells.now a.links.now a.addresses.now a.port.number c.take_lesson-unlearned.ensures
    c.in-Queue.offer a.port.there c.count_frame.ensures c.join.ensures)

pub returns-in-Drop : goal.returns-in-Drop
returns-in-Drop c =
    let a = c.args in
    rw c.in-Drop.is
    (dropped_is a.n.number c.in-Drop.lesson a.frame.now a.cells.now a.links.now a.addresses.now a.port.number c.take_lesson-unlearned-in-Drop.ensures
    c.in-Drop.masks c.in-Drop.reason c.count_frame-in-Drop.ensures c.from.ensures.0)
