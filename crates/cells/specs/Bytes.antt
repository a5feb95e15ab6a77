-- The layout paper, "Cell memory": bytes over the cells of a chain, 80 to a cell. Assumes nothing.
use Rattle.std.specs.Prelude.{ℕ, ◌+◌, ◌-◌, ◌*◌, ◌/◌, List, [], ◌∷◌, ◌++◌, take, drop}
use Rattle.std.proofs.lemmas.List.Edits.{sets}
use Rattle.rules.specs.Cells.{cell_size, header_size}
use Rattle.cells.specs.Chains.{follow, behind}

-- the least whole number of cells that hold so many bytes
abbrev pub cells_for : ℕ → ℕ
cells_for times = (times + (cell_size - 1)) / cell_size

-- "what lies behind the last byte in the last cell keeps what was there before"
abbrev pub store_cells : List ℕ → List ℕ → List ℕ → List ℕ
store_cells cells [] bytes = cells
store_cells cells (c ∷ cs) bytes = store_cells (sets cells (cell_size * c) (take cell_size bytes)) cs (drop cell_size bytes)

-- bytes into the k cells from c on: the next word of the last of them, and cell memory then
abbrev pub store_from : ℕ → List ℕ → ℕ → ℕ → List ℕ → List ℕ → ℕ × List ℕ
store_from n links k c bytes cells = (behind n links k c, store_cells cells (follow n links k c) bytes)

-- the bytes of the cells of a chain, one after the other
abbrev pub load_cells : List ℕ → List ℕ → List ℕ
load_cells cells [] = []
load_cells cells (c ∷ cs) = take cell_size (drop (cell_size * c) cells) ++ load_cells cells cs

-- the stored header of the frame whose first cell is c, and the count bytes of the frame behind it
abbrev pub header_in : List ℕ → ℕ → List ℕ
header_in cells c = take header_size (drop (cell_size * c) cells)

abbrev pub front_in : List ℕ → ℕ → ℕ → List ℕ
front_in cells c times = take times (drop (cell_size * c + header_size) cells)

-- the bytes of a frame of this length over the cells of a chain
unfoldable pub frame_in : List ℕ → List ℕ → ℕ → List ℕ
frame_in cells chain long = take long (drop header_size (load_cells cells chain))

-- those of its bytes that follow its first ones, from place at of a buffer on
abbrev pub load_from : ℕ → List ℕ → List ℕ → ℕ → ℕ → List ℕ → List ℕ
load_from from out cells at long chain = sets out at (drop from (frame_in cells chain long))
