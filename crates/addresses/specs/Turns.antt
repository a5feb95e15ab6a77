-- One turn of a search: the place that it meets, and what it makes of the number there. Assumes nothing: these are
-- definitions.
use Rattle.std.specs.Prelude.{ℕ, List, ◌+◌, ◌*◌, ltb, get_or, if◌then◌else◌}
use Rattle.std.specs.Prelude.{Option, None as none, Some as some, Result, Ok, Err}
use Rattle.layout.specs.declared.damage.Damaged.{Damaged}
use Rattle.addresses.specs.Numbers.{port_in, used_in, parts_in_range}
use Rattle.addresses.specs.declared.LookUp.{LookUp}
use Rattle.addresses.specs.declared.LookUp.TheVariants.{Found, Vacant, Full}

-- "the bucket's four places, then the sixteen spares"
unfoldable pub place_at : ℕ → ℕ → ℕ
place_at bucket turn = if ltb turn 4 then (bucket * 4 + turn) else (4092 + turn)

-- the first empty place so far
unfoldable pub empty_so_far : Option ℕ → ℕ → ℕ → Option ℕ
empty_so_far none n place = if used_in n then none else (some place)
empty_so_far (some i) n place = some i

-- what the number at the place of a match says
unfoldable pub answer_at : ℕ → ℕ → Result LookUp Damaged
answer_at n place = if parts_in_range n then (Ok (Found (port_in n) place)) else (Err (record {}))

-- what a search tells once the number of its match is asked
unfoldable pub told_by : List ℕ → LookUp → Result LookUp Damaged
told_by memory (Found port place) = answer_at (get_or memory place 0) place
told_by memory (Vacant place) = Ok (Vacant place)
told_by memory Full = Ok Full

-- the place of a match; 0 where there is none
abbrev pub match_place : LookUp → ℕ
match_place (Found port place) = place
match_place (Vacant place) = 0
match_place Full = 0
