-- `cells::chains::walk` meets its contract. The invariant: so many cells are passed.
use Rattle.std.proofs.Common.{◌≡◌, ◌<◌}
use Rattle.cells.specs.Chains.{walk}
use Rattle.cells.proofs.chains.walk.Given as goal

abbrev pub invariant-loop : goal.invariant-loop
invariant-loop l = (l.at ≡ walk l.n l.links l.counter l.c) × (l.at < l.n)
