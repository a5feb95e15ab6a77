-- The VLANs in use as a list: an entry replaced, added and cleared. Assumes nothing.
use Rattle.std.proofs.Common.{◌≡◌, ℕ, zero, suc, ◌+◌, ◌-◌, ◌*◌, ◌<◌, ◌≤◌, min, true, List, [], ◌∷◌, ◌++◌, length, get_or, set, take, drop, replicate, refl, ap, arith, add-zero, length-set, length-append, length-take, length-drop, get_or-set_same, get_or-set_other}
use Rattle.std.proofs.lemmas.Grind.{common_steps}
use Rattle.std.proofs.lemmas.List.Edits.{sets}
use lib.ListN.{get_or-append}
use lib.Seq.{ext_get_or, length-sets, get_or-take, get_or-drop, get_or-append-add}
use Rattle.std.proofs.lemmas.List.{get_or_at}
use Rattle.slices.proofs.Runs.{get_d_sets_inside, length_part}
use Rattle.rules.specs.Settings.{Vlan, absent_vlan}
use Rattle.rules.specs.Arguments.{VlanNumbers, vlan_in_range, vlan_entry}
use Rattle.layout.specs.Places.{fixed_words, vlan_word, vlan_count_word}
use Rattle.settings.specs.Records.{vlan_words, vlan_at}
use Rattle.settings.proofs.EntryWords.{same_before, other_entry}
use Rattle.settings.proofs.RecordLaws.{vlan_read_back}
use Rattle.settings.specs.Table.{vlan_count, later_words, added_vlan, cleared_vlan}
use Rattle.settings.specs.SettingsOf.{vlans_from, vlans_of}

-- ---- the list, entry by entry

vlans_from_length : (k : ℕ) (l : List ℕ) (e : ℕ) → length (vlans_from k l e) ≡ k
unfolding vlans_from
vlans_from_length zero l e = refl
vlans_from_length (suc k) l e = ap suc (vlans_from_length k l (e + 1))

vlans_from_at : (k : ℕ) (l : List ℕ) (e i : ℕ) (d : Vlan) → i < k → get_or (vlans_from k l e) i d ≡ vlan_entry (vlan_at l (e + i))
unfolding vlans_from
vlans_from_at zero l e i d h = absurd (omega arith)
vlans_from_at (suc k) l e zero d h = rw add-zero
vlans_from_at (suc k) l e (suc i) d h =
    let s : e + suc i ≡ e + 1 + i = omega arith in rw s (vlans_from_at k l (e + 1) i d (omega arith))

module _ (l : List ℕ) where
  -- the entries in use
  pub vlans_in_use_law : (n : ℕ) → vlan_count l ≡ n → n ≤ 16 → vlans_of l ≡ vlans_from n l 0
  unfolding vlans_of
  vlans_in_use_law n e h = let m : min (vlan_count l) 16 ≡ n = omega arith in rw m

  vlans_size : length (vlans_of l) ≡ min (vlan_count l) 16
  unfolding vlans_of
  vlans_size = vlans_from_length (min (vlan_count l) 16) l 0

  vlan_there : (e : ℕ) (d : Vlan) → e < min (vlan_count l) 16 → get_or (vlans_of l) e d ≡ vlan_entry (vlan_at l e)
  unfolding vlans_of
  vlan_there e d h = let z : 0 + e ≡ e = omega arith in rw z at (vlans_from_at (min (vlan_count l) 16) l 0 e d h)

  pub vlans_length : vlan_count l ≤ 16 → length (vlans_of l) ≡ vlan_count l
  vlans_length h = grind (arith, vlans_size)

  pub vlans_at : (e : ℕ) (d : Vlan) → vlan_count l ≤ 16 → e < vlan_count l → get_or (vlans_of l) e d ≡ vlan_entry (vlan_at l e)
  vlans_at e d h k = grind (arith, vlan_there)

-- alike entries are alike lists
pub same_vlans : (l m : List ℕ) → vlan_count m ≡ vlan_count l → ((e : ℕ) → e < 16 → vlan_at m e ≡ vlan_at l e) → vlans_of m ≡ vlans_of l
same_vlans l m count same =
    ext_get_or absent_vlan (vlans_of m) (vlans_of l) (grind (arith, vlans_size)) (λ i h. grind (arith, vlans_size, vlan_there, same i))

-- ---- the three writes of the table

module _ (l : List ℕ) (e : ℕ) (n : VlanNumbers) (long : fixed_words ≤ length l) where
  pub count_kept : vlan_count (sets l (vlan_word e) (vlan_words n)) ≡ vlan_count l
  count_kept = grind (arith, common_steps)

  entry_written : (i : ℕ) → e < 16 → vlan_in_range n ≡ true → i ≡ e → vlan_at (sets l (vlan_word e) (vlan_words n)) i ≡ n
  entry_written i h good s = grind (arith, vlan_read_back l e n long)

  entry_unwritten : (i : ℕ) → (i ≡ e → ⊥) → vlan_at (sets l (vlan_word e) (vlan_words n)) i ≡ vlan_at l i
  entry_unwritten i other = grind (arith, other_entry l e n i)

-- "setting a VID that is there replaces its entry"
pub vlans_replaced :
    (l : List ℕ) (e : ℕ) (n : VlanNumbers) → fixed_words ≤ length l → vlan_in_range n ≡ true → vlan_count l ≤ 16 → e < vlan_count l
    → vlans_of (sets l (vlan_word e) (vlan_words n)) ≡ set (vlans_of l) e (vlan_entry n)
vlans_replaced l e n long good few there =
    ext_get_or absent_vlan (vlans_of (sets l (vlan_word e) (vlan_words n))) (set (vlans_of l) e (vlan_entry n))
    (grind (arith, common_steps, vlans_length, count_kept))
    (λ i h. grind (arith, length-set {A = Vlan}, get_or-set_same {A = Vlan}, get_or-set_other {A = Vlan}, vlans_length, vlans_at, count_kept, entry_written l e n long i, entry_unwritten l e n long i))

-- the count set last
module _ (l : List ℕ) (count : ℕ) (long : fixed_words ≤ length l) where
  pub count_set : vlan_count (set l vlan_count_word count) ≡ count
  count_set = grind (arith, common_steps)

  pub entry_kept : (e : ℕ) → vlan_at (set l vlan_count_word count) e ≡ vlan_at l e
  entry_kept e = grind (arith, common_steps)

-- "a new VID takes the next entry"
pub vlans_added :
    (l : List ℕ) (n : VlanNumbers) → fixed_words ≤ length l → vlan_in_range n ≡ true → vlan_count l < 16
    → vlans_of (added_vlan l n) ≡ vlans_of l ++ (vlan_entry n ∷ [])
unfolding added_vlan
vlans_added l n long good few =
    let c = vlan_count l in
    let m = sets l (vlan_word c) (vlan_words n) in
    let size : fixed_words ≤ length m = omega (arith, length-sets l (vlan_word c) (vlan_words n)) in
    ext_get_or absent_vlan (vlans_of (set m vlan_count_word (c + 1))) (vlans_of l ++ (vlan_entry n ∷ []))
    (grind (arith, common_steps, vlans_length, count_set m (c + 1) size))
    (λ i h. grind (arith, length-append {A = Vlan}, get_or-append {A = Vlan}, get_or_at {A = Vlan}, vlans_length, vlans_at, count_set m (c + 1) size, entry_kept m (c + 1) size, entry_written l c n long i, entry_unwritten l c n long i))

-- an entry that moves down says what the one after it said
module _ (l : List ℕ) (e : ℕ) (long : fixed_words ≤ length l) (there : e < vlan_count l) (few : vlan_count l ≤ 16) where
  pub later_length : length (later_words l e) ≡ 2 * (vlan_count l - 1 - e)
  unfolding later_words
  later_length = length_part l (vlan_word (e + 1)) (2 * (vlan_count l - 1 - e)) (omega arith)

  pub run_length : length (later_words l e ++ replicate 2 0) ≡ 2 * (vlan_count l - 1 - e) + 2
  run_length = grind (arith, common_steps, later_length)

  later_inside : (j : ℕ) → j < 2 * (vlan_count l - 1 - e) → get_or (later_words l e) j 0 ≡ get_or l (vlan_word (e + 1) + j) 0
  unfolding later_words
  later_inside j h = grind (arith, common_steps)

  pub moved_word :
      (i k : ℕ) → i < vlan_count l - 1 - e → k < 2
      → get_or (sets l (vlan_word e) (later_words l e ++ replicate 2 0)) (vlan_word (e + i) + k) 0 ≡ get_or l (vlan_word (e + 1 + i) + k) 0
  moved_word i k hi hk =
      let ws = later_words l e ++ replicate 2 0 in
      grind (arith, get_d_sets_inside l (vlan_word e) ws (2 * i + k) 0, get_or-append (later_words l e) (replicate 2 0) 0 (2 * i + k), later_inside (2 * i + k), run_length, later_length)

  pub moved_entry :
      (i : ℕ) → e ≤ i → i < vlan_count l - 1 → vlan_at (sets l (vlan_word e) (later_words l e ++ replicate 2 0)) i ≡ vlan_at l (i + 1)
  moved_entry i h k = grind (arith, moved_word (i - e) 0, moved_word (i - e) 1)

  -- "each later entry one down", and the others where they were
  pub vlans_cleared : vlans_of (cleared_vlan l e) ≡ take e (vlans_of l) ++ drop (e + 1) (vlans_of l)
  unfolding cleared_vlan
  vlans_cleared =
      let c = vlan_count l in
      let m = sets l (vlan_word e) (later_words l e ++ replicate 2 0) in
      let size : fixed_words ≤ length m = omega (arith, length-sets l (vlan_word e) (later_words l e ++ replicate 2 0)) in
      let left : length (take e (vlans_of l)) ≡ e = grind (arith, length-take {A = Vlan}, vlans_length) in
      ext_get_or absent_vlan (vlans_of (set m vlan_count_word (c - 1))) (take e (vlans_of l) ++ drop (e + 1) (vlans_of l))
      (grind (arith, length-append {A = Vlan}, length-drop {A = Vlan}, vlans_length, count_set m (c - 1) size))
      (λ i h.
      grind (
        arith,
        get_or-append (take e (vlans_of l)) (drop (e + 1) (vlans_of l)) absent_vlan i,
        get_or-append-add (take e (vlans_of l)) (drop (e + 1) (vlans_of l)) (i - e) absent_vlan,
        get_or-take {A = Vlan},
        get_or-drop {A = Vlan},
        vlans_length,
        vlans_at,
        count_set m (c - 1) size,
        entry_kept m (c - 1) size,
        same_before l (vlan_word e) (later_words l e ++ replicate 2 0) i,
        moved_entry i,
      ))
