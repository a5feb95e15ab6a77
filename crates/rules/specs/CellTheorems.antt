-- The least whole number of cells. `proofs/Cells.antt` proves it. Assumes nothing: these are definitions.
use Rattle.std.specs.Prelude.{ℕ, ◌+◌, ◌*◌, ◌≤◌, ◌↔◌}
use Rattle.rules.specs.Cells.{cells, cell_size, header_size}

pub record CellTheorems : Type 0 where
  -- so many cells hold n bytes and what is stored with them, and no fewer do
  pub least : (n count : ℕ) → (n + header_size ≤ count * cell_size) ↔ (cells n ≤ count)
