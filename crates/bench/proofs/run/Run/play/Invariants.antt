-- Each turn is an action of the session.
use Rattle.bench.specs.Outside.{outside}
use Rattle.bench.specs.Switches.{memories_of}
use Rattle.std.proofs.Common.{false}
use Rattle.bench.proofs.Running.{Running}
use Rattle.bench.proofs.run.Run.play.Given as goal

abbrev pub invariant-loop-turn : goal.invariant-loop-turn
invariant-loop-turn g l =
    Running (memories_of l.initial.self.switch)
    (outside (g.R.Read.remaining l.initial.reader) (g.W.Write.contents l.initial.writer))
    l.self false (outside (g.R.Read.remaining l.reader) (g.W.Write.contents l.writer)) l._turn
