-- The worked run, computed by the machine. Assumes nothing.
use mathlib.Core.Path.{◌≡◌, refl}
use Rattle.machine.specs.History.{answers, fresh}
use Rattle.machine.specs.Example.{A, B, script, said}
use Rattle.machine.proofs.Open.{everything}

pub worked : answers (fresh 200) script ≡ said
unfolding everything A B script said
worked = refl
