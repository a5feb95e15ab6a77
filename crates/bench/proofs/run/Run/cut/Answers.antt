-- A cut record's line has kind 0.
use Rattle.bench.proofs.Acting.{cut_leads}
use Rattle.bench.proofs.run.Run.cut.Goals as goal

pub returns : goal.returns
returns c = λ around came handed counted. cut_leads c.args.self.now came handed counted c.requires.0 around _ c.requires.1 (rw c.from.ensures at c.put.ensures)
