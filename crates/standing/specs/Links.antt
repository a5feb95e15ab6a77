-- How links stand for the waiting traffic, whatever memory they are read from: the free cells, a row of cells for each
-- frame, what is held of a frame, and the frames of each queue. A frame is known by its first cell.
-- Assumes nothing: these are definitions.
use Rattle.std.specs.Prelude.{ℕ, ◌+◌, ◌<◌, ◌≡◌, ◌&&◌, List, [], ◌∷◌, ◌++◌, map, eqb, ltb, length, if◌then◌else◌}
use Rattle.layout.specs.Counting.{times}
use Rattle.rules.specs.Choice.{sift, among, without, Each, changed}
use Rattle.rules.specs.Outcomes.{Frame}
use Rattle.machine.specs.Waiting.{Waiting, size, cells_in_use, waits_at}

pub record Links : Type 0 where
  pub free : List ℕ
  pub row : ℕ → List ℕ
  pub held : ℕ → Waiting
  pub list : ℕ → ℕ → List ℕ

-- the rows of several frames, one after another
unfoldable pub rows_of : (ℕ → List ℕ) → List ℕ → List ℕ
rows_of row [] = []
rows_of row (i ∷ ids) = row i ++ rows_of row ids

-- a row begins with the frame's first cell, and has as many cells as the frame takes
pub record RowOk (l : Links) (i : ℕ) : Type 0 where
  pub more : List ℕ
  pub starts : l.row i ≡ i ∷ more
  pub sized : length (l.row i) ≡ size (l.held i).frame

pub record Stands (n : ℕ) (l : Links) (ws : List Waiting) : Type 0 where
  pub ids : List ℕ
  pub holds : map l.held ids ≡ ws
  pub rows : Each (RowOk l) ids
  pub lists : (p q : ℕ) → p < 5 → q < 4 → l.list p q ≡ sift (λ i. waits_at p q (l.held i)) ids
  -- each cell is free or belongs to exactly one waiting frame
  pub cells : (c : ℕ) → times c l.free + times c (rows_of l.row ids) ≡ (if ltb c n then 1 else 0)
  -- as many are free as the waiting frames leave
  pub room : length l.free + cells_in_use ws ≡ n

-- a frame comes in on the cells `i ∷ more`, which leave `rest` free
unfoldable pub link_in : Frame → List ℕ → List ℕ → ℕ → List ℕ → Links → Links
link_in f ports rest i more l =
    record {
      free = rest;
      row = changed i (i ∷ more) l.row;
      held = changed i (record { frame = f; ports = ports }) l.held;
      list = λ p q. if among p ports && eqb q f.queue then l.list p q ++ (i ∷ []) else l.list p q;
    }

-- frame i, the head of queue (p, q) with `tail` after it, leaves port p; its cells are free when no port is left
unfoldable pub freed : List ℕ → List ℕ → List ℕ → List ℕ
freed [] row free = row ++ free
freed (p ∷ ps) row free = free

unfoldable pub link_out : ℕ → ℕ → ℕ → List ℕ → Links → Links
link_out p q i tail l =
    record {
      free = freed (without p (l.held i).ports) (l.row i) l.free;
      row = l.row;
      held = changed i (record { frame = (l.held i).frame; ports = without p (l.held i).ports }) l.held;
      list = λ r s. if eqb p r && eqb q s then tail else l.list r s;
    }
