-- A look-up in address memory: the rules' search of the table that the memory holds, or damage met on the way. Assumes
-- nothing: these are definitions.
use Rattle.std.specs.Prelude.{ℕ, Bool, true, false, List, [], ◌∷◌, eqb, get_or, if◌then◌else◌}
use Rattle.std.specs.Prelude.{Option, None as none, Some as some, Result, Ok, Err}
use Rattle.rules.specs.Addresses.{Entry, places, find, empty_for}
use Rattle.rules.specs.Tables.{Found as Match, at, nowhere}
use Rattle.layout.specs.declared.damage.Damaged.{Damaged}
use Rattle.addresses.specs.Numbers.{in_range, table_of}
use Rattle.addresses.specs.declared.LookUp.{LookUp}
use Rattle.addresses.specs.declared.LookUp.TheVariants.{Found, Vacant, Full}

unfoldable pub holds : Option Entry → ℕ → Bool
holds none k = false
holds (some e) k = eqb e.key k

-- "Of a search only the place of the match is met; of another place every number has a meaning."
unfoldable pub met_in_range : List ℕ → ℕ → List ℕ → Bool
met_in_range memory k [] = true
met_in_range memory k (i ∷ is) = if holds (table_of memory i) k then in_range (get_or memory i 0) else met_in_range memory k is

-- the port and the place of a match; else the first empty place of the twenty, if there is one
unfoldable pub answered : Match Entry → Option ℕ → LookUp
answered (at i e) empty = Found e.port i
answered nowhere (some i) = Vacant i
answered nowhere none = Full

unfoldable pub look_up : List ℕ → ℕ → Result LookUp Damaged
look_up memory k =
    if met_in_range memory k (places k)
    then (Ok (answered (find (table_of memory) k) (empty_for (table_of memory) k)))
    else (Err (record {}))

-- the place that a look-up found; 0 where it found none
abbrev pub place_of : LookUp → ℕ
place_of (Found port place) = place
place_of (Vacant place) = place
place_of Full = 0

-- what a look-up gives a change: nothing to write where it met damage
abbrev pub found_by : Result LookUp Damaged → LookUp
found_by (Ok found) = found
found_by (Err damage) = Full

-- a removal is refused with 9 where nothing matched and no damage was met, a static call with 8 where all is full,
-- every call with 10 where memory is damaged
abbrev pub matched : Result LookUp Damaged → Bool
matched (Ok (Found port place)) = true
matched (Ok (Vacant place)) = false
matched (Ok Full) = false
matched (Err damage) = false

abbrev pub full : Result LookUp Damaged → Bool
full (Ok (Found port place)) = false
full (Ok (Vacant place)) = false
full (Ok Full) = true
full (Err damage) = false

abbrev pub damaged : Result LookUp Damaged → Bool
damaged (Ok found) = false
damaged (Err damage) = true
