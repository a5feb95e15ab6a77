-- Lines are written.
use Rattle.std.proofs.Common.{rules}
use Rattle.bench.proofs.Acting.{flush_leads}
use Rattle.bench.proofs.run.Run.flush.Goals as goal

pub returns-clause-steps : goal.returns-clause-steps
returns-clause-steps g c = λ left came handed counted. flush_leads c.args.self.now came handed counted _ left _ _ _ _ c.requires c.flush.ensures (search rules)
