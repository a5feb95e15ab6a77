-- What each change makes of address memory: of one place, that a look-up found before, or of every place. Assumes
-- nothing: these are definitions.
use Rattle.std.specs.Prelude.{ℕ, Bool, true, false, List, map, get_or, set, if◌then◌else◌}
use Rattle.rules.specs.Numbers.{place_count}
use Rattle.rules.specs.Addresses.{removed}
use Rattle.addresses.specs.Numbers.{static_in, table_of}
pub use Rattle.addresses.specs.Changes.{learned_number, static_number}
unfoldable pub use Rattle.addresses.specs.Changes.{marked_number, older_number}
use Rattle.addresses.specs.declared.LookUp.{LookUp}
use Rattle.addresses.specs.declared.LookUp.TheVariants.{Found, Vacant, Full}

-- ---- marking: "a hit marks the entry as used"

unfoldable pub marked_by : LookUp → List ℕ → List ℕ
marked_by (Found port place) memory = set memory place (marked_number (get_or memory place 0))
marked_by (Vacant place) memory = memory
marked_by Full memory = memory

-- ---- learning: was there a place, and the memory

-- "a match that is static stays; another takes this port and is marked used"
unfoldable pub learned_by : LookUp → ℕ → ℕ → List ℕ → Bool × List ℕ
learned_by (Found _ place) k port memory =
    (true, if static_in (get_or memory place 0) then memory else (set memory place (learned_number k port)))
learned_by (Vacant place) k port memory = (true, set memory place (learned_number k port))
learned_by Full k port memory = (false, memory)

-- ---- static entries and removal, by call

-- "a match becomes static with the given port, no match takes the first empty place"
unfoldable pub static_by : LookUp → ℕ → ℕ → List ℕ → List ℕ
static_by (Found _ place) k port memory = set memory place (static_number k port)
static_by (Vacant place) k port memory = set memory place (static_number k port)
static_by Full k port memory = memory

unfoldable pub removed_by : LookUp → List ℕ → List ℕ
removed_by (Found port place) memory = set memory place 0
removed_by (Vacant place) memory = memory
removed_by Full memory = memory

-- ---- ageing: "every unmarked non-static entry goes, every marked non-static one loses its mark"

-- how many went, and the memory
unfoldable pub aged_by : List ℕ → ℕ × List ℕ
aged_by memory = (removed (table_of memory) place_count, map older_number memory)
