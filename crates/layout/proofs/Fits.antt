-- What memory of the right length gives a caller. Assumes nothing.
use Rattle.std.proofs.Common.{◌≡◌, ℕ, ◌≤◌, true, List, length, arith, eqb-true}
use Rattle.rules.specs.Cells.{fewest_cells, most_cells}
use Rattle.rules.specs.Numbers.{place_count}
use Rattle.layout.specs.Places.{fixed_words, link_words, cell_bytes}
use Rattle.layout.specs.Lengths.{cell_count, is_cell_count, links_fit, cells_fit, addresses_fit}

pub record LinksFit (links : List ℕ) : Type 0 where
  pub fewest : fewest_cells ≤ cell_count links
  pub most : cell_count links ≤ most_cells
  pub long : length links ≡ link_words (cell_count links)

pub links_fit_law : (links : List ℕ) → links_fit links ≡ true → LinksFit links
unfolding links_fit is_cell_count
links_fit_law links h = record { fewest = grind arith; most = grind arith; long = grind arith }

-- memory that fits has the fixed part
pub fixed_part : (l : List ℕ) → links_fit l ≡ true → fixed_words ≤ length l
fixed_part l h = omega (arith, links_fit_law l h)

pub cells_fit_law : (cells links : List ℕ) → cells_fit cells links ≡ true → length cells ≡ cell_bytes (cell_count links)
unfolding cells_fit
cells_fit_law cells links h = eqb-true (length cells) _ h

pub addresses_fit_law : (addresses : List ℕ) → addresses_fit addresses ≡ true → length addresses ≡ place_count
unfolding addresses_fit
addresses_fit_law addresses h = eqb-true (length addresses) _ h
