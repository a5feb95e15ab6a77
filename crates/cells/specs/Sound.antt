-- "Each cell is free or belongs to exactly one waiting frame", by counting. Assumes nothing.
use Rattle.std.specs.Prelude.{ℕ, zero, suc, ◌+◌, ◌<◌, ◌≡◌, List, [], ◌++◌, eqb, ltb, if◌then◌else◌}
use Rattle.layout.specs.Counting.{times, one}
use Rattle.cells.specs.Chains.{next_in}
use Rattle.cells.specs.Free.{free_count, first_free, ports_of, free_cells, frame_cells}

-- the cells of the frame whose first cell is c: none where no frame waits, for its frame word has no port there
unfoldable pub waiting_cells : ℕ → List ℕ → ℕ → List ℕ
waiting_cells n links c = if eqb (ports_of links c) 0 then [] else frame_cells n links c

-- the cells of the frames whose first cells are below m
unfoldable pub all_waiting : ℕ → List ℕ → ℕ → List ℕ
all_waiting n links zero = []
all_waiting n links (suc m) = all_waiting n links m ++ waiting_cells n links m

-- A next word is met as the first free cell, which has a range, when its cell was the last that was taken.
pub record Sound (n : ℕ) (links : List ℕ) : Type 0 where
  pub once : (c : ℕ) → times c (free_cells n links) + times c (all_waiting n links n) ≡ one (ltb c n)
  pub nexts : (c : ℕ) → c < n → next_in links c < n
  pub first : first_free links < n

-- "a record of 20 words for each cell", when fresh
pub record FreshCells (n : ℕ) (links : List ℕ) : Type 0 where
  pub free : free_count links ≡ n
  pub first : first_free links ≡ 0
  pub goes_on : (c : ℕ) → c + 1 < n → next_in links c ≡ c + 1
  pub ends : (c : ℕ) → c + 1 ≡ n → next_in links c ≡ 0
  pub ports : (c : ℕ) → c < n → ports_of links c ≡ 0
