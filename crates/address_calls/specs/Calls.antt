-- The calls on address memory: what each answers and leaves, whatever the memory holds. Assumes nothing: these are
-- definitions.
use Rattle.std.specs.Prelude.{ℕ, Bool, ◌||◌, not, List, [], ◌∷◌, ◌++◌, Result}
use Rattle.rules.specs.Lines.{first}
use Rattle.rules.specs.Refusals.{Lines, age_lines, static_lines, remove_lines}
use Rattle.rules.specs.Addresses.{key}
use Rattle.layout.specs.declared.answers.Answer.{Answer}
use Rattle.layout.specs.Lengths.{addresses_fit}
use Rattle.layout.specs.Answers.{done_with, length_line, damage_line, or_refused}
use Rattle.addresses.specs.Numbers.{all_in_range}
use Rattle.layout.specs.declared.damage.Damaged.{Damaged}
use Rattle.addresses.specs.declared.LookUp.{LookUp}
use Rattle.addresses.specs.Search.{look_up, found_by, matched, full, damaged}
use Rattle.addresses.specs.Writes.{aged_by, static_by, removed_by}

-- ---- age: it meets all 4,112 places, and answers how many entries went

unfoldable pub age_refusals : List ℕ → Lines
age_refusals addresses = length_line (addresses_fit addresses) ∷ age_lines ++ (damage_line (not (all_in_range addresses)) ∷ [])

unfoldable pub age_call : List ℕ → Answer × List ℕ
age_call addresses =
    or_refused (first (age_refusals addresses)) addresses (done_with (aged_by addresses).0 0, (aged_by addresses).1)

-- ---- static and remove: they meet the places of the address's search

unfoldable pub static_refusals : List ℕ → ℕ → ℕ → ℕ → Lines
static_refusals addresses gid port address =
    length_line (addresses_fit addresses)
    ∷ static_lines (full (look_up addresses (key gid address))) (record { gid = gid; port = port; address = address })
    ++ (damage_line (damaged (look_up addresses (key gid address))) ∷ [])

unfoldable pub static_call : List ℕ → ℕ → ℕ → ℕ → Answer × List ℕ
static_call addresses gid port address =
    or_refused (first (static_refusals addresses gid port address)) addresses
    (done_with 0 0, static_by (found_by (look_up addresses (key gid address))) (key gid address) port addresses)

-- a search that met damage does not say that the address is missing: the refusal is 10 and not 9
abbrev pub there : Result LookUp Damaged → Bool
there found = damaged found || matched found

unfoldable pub remove_refusals : List ℕ → ℕ → ℕ → Lines
remove_refusals addresses gid address =
    length_line (addresses_fit addresses)
    ∷ remove_lines (there (look_up addresses (key gid address))) (record { gid = gid; address = address })
    ++ (damage_line (damaged (look_up addresses (key gid address))) ∷ [])

unfoldable pub remove_call : List ℕ → ℕ → ℕ → Answer × List ℕ
remove_call addresses gid address =
    or_refused (first (remove_refusals addresses gid address)) addresses
    (done_with 0 0, removed_by (found_by (look_up addresses (key gid address))) addresses)
