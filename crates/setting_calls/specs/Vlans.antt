-- The calls on the VLAN table. They meet the VLANs in use and the VIDs of the entries from 0 on to the one of the VID.
-- Assumes nothing: these are definitions.
use Rattle.std.specs.Prelude.{ℕ, Bool, true, false, ◌&&◌, not, List, [], ◌∷◌, ◌++◌, leb}
use Rattle.std.specs.Prelude.{None as none, Some as some, Ok, Err}
use Rattle.std.proofs.lemmas.List.Edits.{sets}
use Rattle.rules.specs.Lines.{first}
use Rattle.rules.specs.Refusals.{Lines, vlan_lines, clear_vlan_lines}
use Rattle.rules.specs.Arguments.{VlanNumbers}
use Rattle.layout.specs.Places.{vlan_word}
use Rattle.layout.specs.declared.answers.Answer.{Answer}
use Rattle.layout.specs.Lengths.{links_fit}
use Rattle.layout.specs.Answers.{done_with, length_line, damage_line, or_refused}
use Rattle.settings.specs.Records.{vlan_words}
use Rattle.settings.specs.Table.{Found, vlan_count, found_vlan, added_vlan, cleared_vlan}

-- ---- what a search says

-- one that met damage does not say that the VID is missing: the refusal is 10, not 6 or 7
abbrev pub there : Found → Bool
there (Ok (some entry)) = true
there (Ok none) = false
there (Err damage) = true

abbrev pub damaged : Found → Bool
damaged (Ok (some entry)) = false
damaged (Ok none) = false
damaged (Err damage) = true

-- "the VID is new and 16 are in use"
abbrev pub no_entry_left : Found → List ℕ → Bool
no_entry_left found links = not (there found) && leb 16 (vlan_count links)

-- ---- VLAN: "setting a VID that is there replaces its entry", "a new VID takes the next entry"

unfoldable pub vlan_written : Found → List ℕ → VlanNumbers → List ℕ
vlan_written (Ok (some entry)) links new = sets links (vlan_word entry) (vlan_words new)
vlan_written (Ok none) links new = added_vlan links new
vlan_written (Err damage) links new = links

unfoldable pub vlan_refusals : List ℕ → VlanNumbers → Lines
vlan_refusals links new =
    length_line (links_fit links)
    ∷ vlan_lines (no_entry_left (found_vlan links new.vid) links) new
    ++ (damage_line (damaged (found_vlan links new.vid)) ∷ [])

unfoldable pub vlan_call : List ℕ → VlanNumbers → Answer × List ℕ
vlan_call links new =
    or_refused (first (vlan_refusals links new)) links (done_with 0 0, vlan_written (found_vlan links new.vid) links new)

-- ---- clear VLAN

unfoldable pub vlan_erased : Found → List ℕ → List ℕ
vlan_erased (Ok (some entry)) links = cleared_vlan links entry
vlan_erased (Ok none) links = links
vlan_erased (Err damage) links = links

unfoldable pub clear_vlan_refusals : List ℕ → ℕ → Lines
clear_vlan_refusals links vid =
    length_line (links_fit links)
    ∷ clear_vlan_lines (there (found_vlan links vid)) vid
    ++ (damage_line (damaged (found_vlan links vid)) ∷ [])

unfoldable pub clear_vlan_call : List ℕ → ℕ → Answer × List ℕ
clear_vlan_call links vid =
    or_refused (first (clear_vlan_refusals links vid)) links (done_with 0 0, vlan_erased (found_vlan links vid) links)
