-- Lines that wait are written, else more is read.
use Rattle.std.proofs.Common.{rules, arith}
use Rattle.std.proofs.lemmas.Grind.{common_steps}
use Rattle.bench.proofs.Acting.{refill_leads}
use Rattle.bench.proofs.run.Run.go_on.Goals as goal

pub returns : goal.returns
returns g c = λ came handed counted. refill_leads c.args.self.now came handed counted c.requires.0 _ _ _ _ _ _ c.requires.1 (grind (arith, common_steps)) c.refill.ensures (search rules)
