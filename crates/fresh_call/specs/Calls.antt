-- The fresh call: refusal 1 for lent memory of another length, and else a fresh switch, whatever the memory held.
-- Assumes nothing: these are definitions.
use Rattle.std.specs.Prelude.{ℕ, ◌/◌, Bool, ◌&&◌, List, [], ◌∷◌, eqb, leb, length, replicate}
use Rattle.rules.specs.Lines.{first}
use Rattle.rules.specs.Refusals.{Lines}
use Rattle.rules.specs.Cells.{fewest_cells, most_cells, cell_size}
use Rattle.rules.specs.Numbers.{place_count}
use Rattle.layout.specs.Places.{cell_bytes, link_words}
use Rattle.layout.specs.declared.answers.Answer.{Answer}
use Rattle.layout.specs.Answers.{done_with, length_line, or_refused}
use Rattle.fresh_call.specs.Words.{fresh_links}

-- "the fresh call takes n from the length of cell memory"
abbrev pub cells_lent : List ℕ → ℕ
cells_lent cells = length cells / cell_size

unfoldable pub lengths_fit : List ℕ → List ℕ → List ℕ → Bool
lengths_fit cells links addresses =
    leb fewest_cells (cells_lent cells)
    && leb (cells_lent cells) most_cells
    && eqb (length cells) (cell_bytes (cells_lent cells))
    && eqb (length links) (link_words (cells_lent cells))
    && eqb (length addresses) place_count

unfoldable pub fresh_refusals : List ℕ → List ℕ → List ℕ → Lines
fresh_refusals cells links addresses = length_line (lengths_fit cells links addresses) ∷ []

-- cell memory is left as it was: the contents of free cells are any
unfoldable pub fresh_call : List ℕ → List ℕ → List ℕ → Answer × (List ℕ × List ℕ × List ℕ)
fresh_call cells links addresses =
    or_refused (first (fresh_refusals cells links addresses)) (cells, links, addresses)
    (done_with 0 0, (cells, fresh_links (cells_lent cells), replicate place_count 0))
