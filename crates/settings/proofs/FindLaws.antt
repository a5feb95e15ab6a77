-- What the search says of the list of VLANs in use, and that it finds no damage in memory that is in range. Assumes nothing.
use Rattle.std.proofs.Common.{◌≡◌, ℕ, zero, suc, ◌+◌, ◌<◌, ◌≤◌, true, false, List, refl, arith}
use Rattle.std.proofs.lemmas.Bool.Decides.{nat_tests}
use Rattle.std.specs.Prelude.{None as none, Some as some, Ok, Err}
use Rattle.rules.specs.Settings.{is_there, vlan_of}
use Rattle.rules.specs.Arguments.{vlan_entry}
use Rattle.settings.specs.Ports.{is_vid_word, vlan_in}
use Rattle.settings.specs.Records.{vlan_at}
use Rattle.settings.specs.Table.{Found, vlan_count, entry_at, vid_at, find_from, found_vlan}
use Rattle.settings.specs.SettingsOf.{vlans_from, vlans_of}
use Rattle.settings.proofs.TableLaws.{vlans_in_use_law}

pub entry_vid : (l : List ℕ) (b : ℕ) → (vlan_entry (vlan_at l b)).vid ≡ vid_at l b
unfolding vlan_entry vlan_in
entry_vid l b = refl

-- by cases on what a search says
pub on_found : {C : Type 0} (f : Found) → (f ≡ Err (record {}) → C) → (f ≡ Ok none → C) → ((e : ℕ) → f ≡ Ok (some e) → C) → C
on_found (Err d) damage miss hit = damage refl
on_found (Ok none) damage miss hit = miss refl
on_found (Ok (some e)) damage miss hit = hit e refl

-- ---- the search, and what the list beside it has

-- an entry found among k, from entry b on
pub record FoundAt (k : ℕ) (l : List ℕ) (b vid e : ℕ) : Type 0 where
  pub from : b ≤ e
  pub below : e < b + k
  pub match : vid_at l e ≡ vid
  pub first : (i : ℕ) → b ≤ i → i < e → vid_at l i ≡ vid → ⊥
  pub there : is_there (vlans_from k l b) vid ≡ true
  pub entry : vlan_of (vlans_from k l b) vid ≡ vlan_entry (vlan_at l e)

-- one turn of it
module _ (k : ℕ) (l : List ℕ) (b vid e : ℕ) where
  turn : ((find_from k l (b + 1) vid ≡ Ok (some e)) → FoundAt k l (b + 1) vid e) → find_from (suc k) l b vid ≡ Ok (some e) → FoundAt (suc k) l b vid e
  unfolding find_from vlans_from is_there vlan_of vlan_entry vlan_in
  turn rest q =
      record {
        from = grind (arith, nat_tests, rest);
        below = grind (arith, nat_tests, rest);
        match = grind (arith, nat_tests, rest);
        first = λ i h m s. grind (arith, nat_tests, rest);
        there = grind (arith, nat_tests, rest);
        entry = grind (arith, nat_tests, rest);
      }

  missed : ((find_from k l (b + 1) vid ≡ Ok none) → is_there (vlans_from k l (b + 1)) vid ≡ false) → find_from (suc k) l b vid ≡ Ok none → is_there (vlans_from (suc k) l b) vid ≡ false
  unfolding find_from vlans_from is_there vlan_entry vlan_in
  missed rest q = grind (arith, nat_tests, rest)

  sound : is_vid_word (entry_at l b) ≡ true → (find_from k l (b + 1) vid ≡ Err (record {}) → ⊥) → find_from (suc k) l b vid ≡ Err (record {}) → ⊥
  unfolding find_from
  sound good rest q = grind (arith, nat_tests, rest)

found_at : (k : ℕ) (l : List ℕ) (b vid e : ℕ) → find_from k l b vid ≡ Ok (some e) → FoundAt k l b vid e
unfolding find_from
found_at zero l b vid e q = absurd (cc)
found_at (suc k) l b vid e q = turn k l b vid e (found_at k l (b + 1) vid e) q

nowhere_from : (k : ℕ) (l : List ℕ) (b vid : ℕ) → find_from k l b vid ≡ Ok none → is_there (vlans_from k l b) vid ≡ false
unfolding vlans_from is_there
nowhere_from zero l b vid q = refl
nowhere_from (suc k) l b vid q = missed k l b vid 0 (nowhere_from k l (b + 1) vid) q

undamaged_from :
    (k : ℕ) (l : List ℕ) (b vid : ℕ) → ((i : ℕ) → b ≤ i → i < b + k → is_vid_word (entry_at l i) ≡ true) → find_from k l b vid ≡ Err (record {}) → ⊥
unfolding find_from
undamaged_from zero l b vid good q = cc
undamaged_from (suc k) l b vid good q =
    sound k l b vid 0 (good b (omega arith) (omega arith)) (undamaged_from k l (b + 1) vid (λ i h m. good i (omega arith) (omega arith))) q

-- ---- the search of the table

module _ (l : List ℕ) (vid : ℕ) where
  -- found: the entry is in use, has the VID, and is the rules' entry of it
  pub record There (e : ℕ) : Type 0 where
    pub few : vlan_count l ≤ 16
    pub in_use : e < vlan_count l
    pub has_vid : vid_at l e ≡ vid
    pub none_before : (i : ℕ) → i < e → vid_at l i ≡ vid → ⊥
    pub is_there_law : is_there (vlans_of l) vid ≡ true
    pub is_entry : vlan_of (vlans_of l) vid ≡ vlan_entry (vlan_at l e)

  -- an answer other than damage comes of at most sixteen in use
  few_found : (found : Found) → (found ≡ Err (record {}) → ⊥) → found_vlan l vid ≡ found → (vlan_count l ≤ 16) × (find_from (vlan_count l) l 0 vid ≡ found)
  unfolding found_vlan
  few_found found sound q = grind (arith, nat_tests, sound)

  pub found_there : (e : ℕ) → found_vlan l vid ≡ Ok (some e) → There e
  found_there e q =
      let (few, from) = few_found (Ok (some e)) (λ d. cc) q in
      let f = found_at (vlan_count l) l 0 vid e from in
      let vs = vlans_in_use_law l (vlan_count l) refl few in
      record {
        few = few;
        in_use = omega (arith, f.below);
        has_vid = f.match;
        none_before = λ i h. f.first i (omega arith) h;
        is_there_law = rw vs f.there;
        is_entry = rw vs f.entry;
      }

  pub found_nowhere : found_vlan l vid ≡ Ok none → is_there (vlans_of l) vid ≡ false
  found_nowhere q =
      let (few, from) = few_found (Ok none) (λ d. cc) q in
      rw (vlans_in_use_law l (vlan_count l) refl few) (nowhere_from (vlan_count l) l 0 vid from)

  -- memory in range is never found damaged
  pub found_undamaged :
      vlan_count l ≤ 16 → ((e : ℕ) → e < vlan_count l → is_vid_word (entry_at l e) ≡ true) → found_vlan l vid ≡ Err (record {}) → ⊥
  unfolding found_vlan
  found_undamaged few good q =
      undamaged_from (vlan_count l) l 0 vid (λ i h m. good i (omega arith)) (grind (arith, nat_tests))
