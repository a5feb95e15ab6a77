-- What a frame-in comes to. Assumes nothing.
use Prim.Native.Nat.{ℕ, ◌≤◌}
use mathlib.Core.List.{List}
use Rattle.rules.specs.Tags.{Bytes}
use Rattle.frame_in.specs.Theorems.{FrameInTheorems}
use Rattle.frame_in.proofs.Undamaged.{meets_none}
use Rattle.frame_in.proofs.Tables.{table_stands}

pub frame_in_theorems : (links addresses frame : List ℕ) (port : ℕ) (each : Bytes frame) (there : port ≤ 4) → FrameInTheorems links addresses frame port each there
frame_in_theorems links addresses frame port each there =
    record {
      meets_none = λ good. meets_none links addresses good frame each port there;
      table_stands = λ long fine. table_stands links addresses frame port long there each fine;
    }
