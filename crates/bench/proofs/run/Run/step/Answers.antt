-- Each way is an action of the session.
use Rattle.std.proofs.Common.{sym}
use Rattle.bench.proofs.Acting.{finish_leads}
use Rattle.bench.proofs.run.Run.step.Goals as goal

pub returns-in-Finished : goal.returns-in-Finished
returns-in-Finished g c = λ came handed counted. finish_leads c.args.self.now came handed counted c.requires _ (sym c.in-Finished.ensures)
