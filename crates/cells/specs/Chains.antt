-- Cells one after another by their next words, of n cells, for any contents of link memory: cycles and shared cells
-- included. Assumes nothing.
use Rattle.std.specs.Prelude.{ℕ, zero, suc, ◌-◌, List, [], ◌∷◌, get_or}
use Rattle.layout.specs.Places.{next_word}
use Rattle.layout.specs.Cells.{clamped}

-- a cell's next word, and the cell that it stands for
abbrev pub next_in : List ℕ → ℕ → ℕ
next_in links c = get_or links (next_word c) 0

abbrev pub next : ℕ → List ℕ → ℕ → ℕ
next n links c = clamped n (get_or links (next_word c) 0)

-- the k cells from c on
abbrev pub follow : ℕ → List ℕ → ℕ → ℕ → List ℕ
follow n links zero c = []
follow n links (suc k) c = c ∷ follow n links k (next n links c)

-- the cell that comes after them
abbrev pub walk : ℕ → List ℕ → ℕ → ℕ → ℕ
walk n links zero c = c
walk n links (suc k) c = walk n links k (next n links c)

-- the next word of the last of them
abbrev pub behind : ℕ → List ℕ → ℕ → ℕ → ℕ
behind n links k c = next_in links (walk n links (k - 1) c)
