-- What a session has written is what the machine tells of what was read. `proofs/Telling.antt` proves it. Assumes
-- nothing: these are definitions.
use Rattle.std.specs.Prelude.{◌≡◌, ℕ, true, false, List, [], ◌++◌}
use Rattle.machine.specs.History.{fresh}
use Rattle.fresh_call.specs.Calls.{cells_lent}
use Rattle.gufhrandi.specs.Memories.{Memories}
use Rattle.standing.specs.Histories.{fits, begun}
use Rattle.bench.specs.Told.{Told}
use Rattle.bench.specs.Sessions.{Session, beginning, Ran}

-- "200 cells"
abbrev pub bench_cells : ℕ
bench_cells = 200

-- memories as a fresh call leaves them, whatever they held
pub record Fresh (m : Memories) : Type 0 where
  pub lent : Memories
  pub fit : fits lent ≡ true
  pub count : cells_lent lent.cells ≡ bench_cells
  pub are : (begun lent).memories ≡ m

pub record SessionTheorems (m : Memories) (fresh_switch_law : Fresh m) (k : ℕ) (s : Session)
    (ran : Ran (beginning m) k s) : Type 0 where
  -- What was written is the front of the lines: none is lost in between, whatever failed.
  pub front : (rest : List ℕ) × Told (fresh bench_cells) 0 s.came (s.handed ++ rest)
  -- It is all of them when the run has ended, nothing failed and no line waits.
  pub whole : s.on ≡ false → s.failed ≡ false → s.lines ≡ [] → Told (fresh bench_cells) 0 s.came s.handed
  -- The same of all the input, also of what was not read: `more` is any that is still to come.
  pub front_of_all : (more : List ℕ) → (s.ended ≡ true → more ≡ [])
      → (rest : List ℕ) × Told (fresh bench_cells) 0 (s.came ++ more) (s.handed ++ rest)
  pub whole_of_all : s.on ≡ false → s.failed ≡ false → s.lines ≡ [] → (more : List ℕ) → (s.ended ≡ true → more ≡ [])
      → Told (fresh bench_cells) 0 (s.came ++ more) s.handed
  -- One input has one list of lines.
  pub one : (bytes lines others : List ℕ) → Told (fresh bench_cells) 0 bytes lines → Told (fresh bench_cells) 0 bytes others
      → lines ≡ others
