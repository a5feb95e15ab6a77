-- Refusal 1: the lengths of lent memory, and the count of cells that link word 0 says. Assumes nothing: these are
-- definitions.
use Rattle.std.specs.Prelude.{ℕ, Bool, ◌&&◌, List, length, ◌==◌, nat_le, slice_index, if◌then◌else◌}
use Rattle.rules.specs.Cells.{fewest_cells, most_cells}
use Rattle.rules.specs.Numbers.{place_count}
use Rattle.layout.specs.Places.{link_words, cell_bytes, cell_count_word}

abbrev pub cell_count : List ℕ → ℕ
cell_count links = slice_index links cell_count_word

-- "the host lends 64 to 2,048 of them"
unfoldable pub is_cell_count : ℕ → Bool
is_cell_count n = nat_le fewest_cells n && nat_le n most_cells

-- the words of link memory to lend for a cell count; 0: no such count
unfoldable pub link_words_for : ℕ → ℕ
link_words_for n = if is_cell_count n then link_words n else 0

-- the length that the fresh call got
unfoldable pub links_fit : List ℕ → Bool
links_fit links = is_cell_count (cell_count links) && length links == link_words (cell_count links)

unfoldable pub cells_fit : List ℕ → List ℕ → Bool
cells_fit cells links = length cells == cell_bytes (cell_count links)

unfoldable pub addresses_fit : List ℕ → Bool
addresses_fit addresses = length addresses == place_count
