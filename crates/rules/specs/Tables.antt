-- A table of entries with keys, in which each key has its places, searched in a fixed order: what a search gives, how
-- an entry is set and removed, and the law that a key has at most one entry. The address table is one; a second may use
-- the same laws.
-- A table is a function of the place, so that a change is of one place. Assumes nothing: these are definitions.
use Rattle.std.specs.Prelude.{ℕ, ◌≡◌, Bool, true, false, List, [], ◌∷◌, eqb, if◌then◌else◌}
use Rattle.std.specs.Prelude.{Option, None as none, Some as some}
use Rattle.rules.specs.Choice.{among, changed}

-- what a kind of table is: the key of an entry, and the places of a key in the order of the search
pub record Keyed (E : Type 0) : Type 0 where
  pub key_of : E → ℕ
  pub order : ℕ → List ℕ

abbrev pub TableOf : Type 0 → Type 0
TableOf E = ℕ → Option E

unfoldable pub put : {E : Type 0} → ℕ → Option E → TableOf E → TableOf E
put i e t = changed i e t

-- ---- the search: "the first match ends it"

pub data Found (E : Type 0) : Type 0 where
  at : ℕ → E → Found E
  nowhere : Found E

unfoldable pub is_found : {E : Type 0} → Found E → Bool
is_found nowhere = false
is_found (at i e) = true

unfoldable pub meets : {E : Type 0} → Keyed E → Option E → ℕ → ℕ → Found E → Found E
meets kind none i k rest = rest
meets kind (some e) i k rest = if eqb (kind.key_of e) k then at i e else rest

unfoldable pub search : {E : Type 0} → Keyed E → TableOf E → ℕ → List ℕ → Found E
search kind t k [] = nowhere
search kind t k (i ∷ is) = meets kind (t i) i k (search kind t k is)

unfoldable pub find_in : {E : Type 0} → Keyed E → TableOf E → ℕ → Found E
find_in kind t k = search kind t k (kind.order k)

-- ---- the first empty place in that order

unfoldable pub vacant : {E : Type 0} → Option E → ℕ → Option ℕ → Option ℕ
vacant none i rest = some i
vacant (some e) i rest = rest

unfoldable pub first_empty : {E : Type 0} → TableOf E → List ℕ → Option ℕ
first_empty t [] = none
first_empty t (i ∷ is) = vacant (t i) i (first_empty t is)

unfoldable pub empty_in : {E : Type 0} → Keyed E → TableOf E → ℕ → Option ℕ
empty_in kind t k = first_empty t (kind.order k)

-- ---- setting and removing

-- a key's own place: where it is found, and else the first empty one
unfoldable pub place_by : {E : Type 0} → Found E → Option ℕ → Option ℕ
place_by (at i e) empty = some i
place_by nowhere empty = empty

unfoldable pub place_in : {E : Type 0} → Keyed E → TableOf E → ℕ → Option ℕ
place_in kind t k = place_by (find_in kind t k) (empty_in kind t k)

unfoldable pub put_at : {E : Type 0} → Option ℕ → E → TableOf E → TableOf E
put_at none e t = t
put_at (some i) e t = put i (some e) t

-- "a match keeps its place, no match takes the first empty one"; with none the table stays
unfoldable pub set_in : {E : Type 0} → Keyed E → TableOf E → ℕ → E → TableOf E
set_in kind t k e = put_at (place_in kind t k) e t

unfoldable pub remove_found : {E : Type 0} → Found E → TableOf E → TableOf E
remove_found nowhere t = t
remove_found (at i e) t = put i none t

unfoldable pub remove_in : {E : Type 0} → Keyed E → TableOf E → ℕ → TableOf E
remove_in kind t k = remove_found (find_in kind t k) t

-- ---- what holds of every table that calls make: a key has at most one entry, and an entry stands where its key is
-- looked for

pub record Sound {E : Type 0} (kind : Keyed E) (t : TableOf E) : Type 0 where
  pub single : (i j : ℕ) (d e : E) → t i ≡ some d → t j ≡ some e → kind.key_of d ≡ kind.key_of e → i ≡ j
  pub placed : (i : ℕ) (e : E) → t i ≡ some e → among i (kind.order (kind.key_of e)) ≡ true
