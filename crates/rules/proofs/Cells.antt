-- The least whole number of cells. Assumes nothing.
use native.Mathlib.Omega.{arith}
use Rattle.rules.specs.CellTheorems.{CellTheorems}

pub cell_theorems : CellTheorems
cell_theorems = record { least = λ n count. (λ h. omega arith, λ h. omega arith) }
