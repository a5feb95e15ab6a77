-- What is left of a call on one address once its numbers are good. Assumes nothing: these are definitions.
use Rattle.std.specs.Prelude.{ℕ, not, List, [], ◌∷◌}
use Rattle.rules.specs.Lines.{line, first}
use Rattle.rules.specs.declared.refusals.Refusal.TheVariants.{PlacesInUse as places_in_use, AddressNotThere as address_not_there}
use Rattle.layout.specs.declared.answers.Answer.{Answer}
use Rattle.layout.specs.Answers.{done_with, damage_line, or_refused}
use Rattle.addresses.specs.Search.{look_up, found_by, full, damaged}
use Rattle.addresses.specs.Writes.{static_by, removed_by}
use Rattle.address_calls.specs.Calls.{there}

unfoldable pub static_placed : List ℕ → ℕ → ℕ → Answer × List ℕ
static_placed addresses k port =
    or_refused (first (line places_in_use (full (look_up addresses k)) ∷ damage_line (damaged (look_up addresses k)) ∷ []))
    addresses
    (done_with 0 0, static_by (found_by (look_up addresses k)) k port addresses)

unfoldable pub remove_placed : List ℕ → ℕ → Answer × List ℕ
remove_placed addresses k =
    or_refused (first (line address_not_there (not (there (look_up addresses k))) ∷ damage_line
    (damaged (look_up addresses k)) ∷ [])) addresses
    (done_with 0 0, removed_by (found_by (look_up addresses k)) addresses)
