-- `arrival::entering::from_group` meets its contract.
use native.Mathlib.Omega.{arith}
use Rattle.arrival.proofs.Arrivals.{group_first}
use Rattle.arrival.proofs.entering.from_group.Goals as goal

pub returns : goal.returns
returns c = group_first c.args.frame.now 6 (λ j. omega (arith, c.shared_slice_known-1.given j))
