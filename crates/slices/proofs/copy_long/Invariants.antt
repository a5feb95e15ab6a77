-- `slices::copy_long` meets its contract: the first `done` bytes are written.
use mathlib.Core.Path.{◌≡◌}
use Prim.Native.Nat.{◌≤◌}
use lib.ListN.{take}
use lib.Seq.{sets}
use Rattle.slices.proofs.copy_long.Given as goal

abbrev pub invariant-loop-done : goal.invariant-loop-done
invariant-loop-done l = (l.done ≤ l.last) × (l.to ≡ sets l.initial.to l.at (take l.done l.from))
