-- The memories have the lengths for 200 cells.
use Rattle.std.proofs.Common.{arith}
use Rattle.bench.proofs.Starting.{starts_fresh}
use Rattle.bench.proofs.switch.Switch.start.Goals as goal

pub returns : goal.returns
returns c = let s = c.args.self.now in starts_fresh s.cells s.links s.addresses (omega arith) (omega arith) (omega arith) _ _ _ c.begin.ensures
