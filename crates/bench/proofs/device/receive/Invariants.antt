-- A read that is tried again has brought nothing.
use Rattle.std.specs.Io.KnownBytes.{Keeps}
use Rattle.bench.proofs.device.receive.Given as goal

abbrev pub invariant-loop-turn : goal.invariant-loop-turn
invariant-loop-turn g l = Keeps (g.R.Read.remaining l.initial.reader) (g.R.Read.remaining l.reader)
