-- The lengths of lent memory: what fits exactly, and how much that is at most. `proofs/LengthBounds.antt` proves it.
-- Assumes nothing: these are definitions.
use Rattle.std.specs.Prelude.{◌≡◌, ℕ, ◌+◌, ◌*◌, ◌≤◌, true, ◌↔◌, List, length}
use Rattle.layout.specs.Lengths.{cell_count, is_cell_count, link_words_for, links_fit, cells_fit, addresses_fit}

pub record LengthTheorems : Type 0 where
  -- "The host lends 64 to 2,048 cells."
  pub cell_counts : (n : ℕ) → (is_cell_count n ≡ true) ↔ ((64 ≤ n) × (n ≤ 2048))
  -- "At most 1,024 bytes for each cell and 65,536 besides": a word of link memory has four bytes.
  pub link_memory_bound : (n : ℕ) → 4 * link_words_for n ≤ 1024 * n + 65536
  -- Each memory fits in exactly one length; the cell count is the one that link memory says.
  pub links_exactly : (links : List ℕ)
      → (links_fit links ≡ true)
      ↔ ((is_cell_count (cell_count links) ≡ true) × (length links ≡ link_words_for (cell_count links)))
  pub cells_exactly : (cells links : List ℕ) → (cells_fit cells links ≡ true) ↔ (length cells ≡ 80 * cell_count links)
  pub addresses_exactly : (addresses : List ℕ) → (addresses_fit addresses ≡ true) ↔ (length addresses ≡ 4112)
