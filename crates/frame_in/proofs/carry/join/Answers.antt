-- `frame_in::carry::join` meets its contract.
use Prim.Native.Nat.{ℕ}
use mathlib.Core.Path.{ap, ◌∙◌}
use native.Mathlib.Omega.{arith}
use lib.ListN.{length}
use Rattle.rules.specs.Cells.{cells}
use Rattle.cells.specs.Free.{first_free, room_for}
use Rattle.frame_in.proofs.Joins.{first_below, after_is, join_is}
use Rattle.frame_in.proofs.carry.join.Goals as goal

pub cells_of-k-requires : goal.cells_of-k-requires
cells_of-k-requires c = c.requires.room.long

pub store-after-requires : goal.store-after-requires
store-after-requires c = omega (arith, c.requires.lengths, first_below c.args.n.number (cells (length c.args.frame.now)) c.args.links.now c.requires.room.enough)

pub take_cells-requires : goal.take_cells-requires
take_cells-requires c =
    let k_is = c.cells_of-k.ensures in
    record {
      n_in_bounds = (
        omega (arith, c.requires.lengths),
        omega (arith, c.requires.room.long, k_is),
        c.requires.room.left,
        ap (λ (k : ℕ). room_for c.args.n.number k c.args.links.now) k_is ∙ c.requires.room.enough,
      );
      after_value = after_is c.args.n.number c.args.links.now (cells (length c.args.frame.now)) (first_free c.args.links.now) _ c.args.cells.now c.store-after.ensures k_is;
    }

pub returns : goal.returns
returns c =
    join_is c.args.n.number c.args.offer c.args.frame.now c.args.cells.now c.args.links.now c.cells_of-k.result c.cells_of-k.ensures c.store-after.ensures
    c.take_cells.ensures c.push_all.ensures
