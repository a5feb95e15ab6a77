-- A write that is tried again has written nothing.
use Rattle.std.specs.Io.KnownBytes.{Keeps}
use Rattle.bench.proofs.device.write_some.Given as goal

abbrev pub invariant-loop-turn : goal.invariant-loop-turn
invariant-loop-turn g l = Keeps (g.W.Write.contents l.initial.writer) (g.W.Write.contents l.writer)
