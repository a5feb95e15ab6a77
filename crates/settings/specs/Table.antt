-- The VLAN table in link memory: searching it, adding an entry and clearing one. Assumes nothing: these are
-- definitions.
use Rattle.std.specs.Prelude.{ℕ, zero, suc, ◌+◌, ◌-◌, ◌*◌, List, ◌++◌, eqb, leb, get_or, set, take, drop, replicate, if◌then◌else◌}
use Rattle.std.specs.Prelude.{Option, None as none, Some as some, Result, Ok, Err}
use Rattle.std.proofs.lemmas.List.Edits.{sets}
use Rattle.rules.specs.Arguments.{VlanNumbers}
use Rattle.layout.specs.Places.{vlan_count_word, vlan_word}
use Rattle.settings.specs.Ports.{is_vid_word, vid_in}
use Rattle.settings.specs.Records.{vlan_words}
use Rattle.layout.specs.declared.damage.Damaged.{Damaged}

abbrev pub vlan_count : List ℕ → ℕ
vlan_count links = get_or links vlan_count_word 0

-- an entry's word, and the VID in it
abbrev pub entry_at : List ℕ → ℕ → ℕ
entry_at links entry = get_or links (vlan_word entry) 0

abbrev pub vid_at : List ℕ → ℕ → ℕ
vid_at links entry = vid_in (entry_at links entry)

-- what a search says: an entry, that there is none, or damage on the way
abbrev pub Found : Type 0
Found = Result (Option ℕ) Damaged

-- the search through the entries left, from one on: a word out of range ends it, and so does the first match
unfoldable pub find_from : ℕ → List ℕ → ℕ → ℕ → Found
find_from zero links entry vid = Ok none
find_from (suc left) links entry vid =
    if is_vid_word (entry_at links entry)
    then (if eqb (vid_at links entry) vid then Ok (some entry) else find_from left links (entry + 1) vid)
    else Err (record {})

unfoldable pub found_vlan : List ℕ → ℕ → Found
found_vlan links vid = if leb (vlan_count links) 16 then find_from (vlan_count links) links 0 vid else Err (record {})

-- "a new VID takes the next entry"
unfoldable pub added_vlan : List ℕ → VlanNumbers → List ℕ
added_vlan links new = set (sets links (vlan_word (vlan_count links)) (vlan_words new)) vlan_count_word (vlan_count links + 1)

-- "clearing one moves each later entry one down and fills the entry that was last with zeros"
unfoldable pub later_words : List ℕ → ℕ → List ℕ
later_words links entry = take (2 * (vlan_count links - 1 - entry)) (drop (vlan_word (entry + 1)) links)

unfoldable pub cleared_vlan : List ℕ → ℕ → List ℕ
cleared_vlan links entry =
    set (sets links (vlan_word entry) (later_words links entry ++ replicate 2 0)) vlan_count_word (vlan_count links - 1)
