-- `addresses::changes::age` meets its contract.
use Rattle.std.proofs.Common.{arith}
use Rattle.addresses.proofs.Passes.{turned_more, turned_all}
use Rattle.addresses.proofs.changes.age.Goals as goal

pub loop-place-preserved : goal.loop-place-preserved
loop-place-preserved c =
    turned_more _ _ _ _ _ _ c.loop-place.invariant (omega arith) c.goes-gone.ensures c.older.ensures

pub returns : goal.returns
returns c = turned_all _ _ _ _ c.loop-place.invariant (omega arith) (omega arith)
