-- The VLAN table's search turn by turn, and the words that clearing an entry moves. Assumes nothing.
use Prim.Native.Nat.{ℕ, suc, ◌+◌, ◌-◌, ◌*◌, ◌<◌, ◌≤◌}
use mathlib.Core.Path.{◌≡◌, refl}
use mathlib.Core.List.{List}
use native.Mathlib.Omega.{arith}
use borrow.Rule.Slice.PartMut.{put_mid}
use lib.Dec.{eqb}
use lib.ListN.{length, set, replicate}
use lib.Seq.{sets, sets-eq, length-sets}
use Rattle.std.specs.Prelude.{if◌then◌else◌, None as none, Some as some, Ok, Err}
use Rattle.std.specs.List.{copy_within}
use Rattle.slices.proofs.Runs.{sets_append, part_back}
use Rattle.layout.specs.Places.{fixed_words, vlan_word, vlan_count_word}
use Rattle.settings.specs.Ports.{is_vid_word}
use Rattle.settings.proofs.TableLaws.{later_length}
use Rattle.settings.specs.Table.{vlan_count, entry_at, vid_at, find_from, later_words, cleared_vlan}

-- ---- the search

module _ (links : List ℕ) (count entry vid : ℕ) where
  pub find_turn :
      entry < count
      → find_from (count - entry) links entry vid
      ≡ (if is_vid_word (entry_at links entry)
      then (if eqb (vid_at links entry) vid then Ok (some entry) else find_from (count - (entry + 1)) links (entry + 1) vid)
      else Err (record {}))
  unfolding find_from
  find_turn h = let more : count - entry ≡ suc (count - (entry + 1)) = omega arith in rw more

  pub find_end : count ≤ entry → find_from (count - entry) links entry vid ≡ Ok none
  unfolding find_from
  find_end h = let left : count - entry ≡ 0 = omega arith in rw left

-- ---- clearing an entry

-- the words that move, then two zeros, then the count
module _ (l : List ℕ) (entry : ℕ) (long : fixed_words ≤ length l) (there : entry < vlan_count l) (few : vlan_count l ≤ 16) where
  many : length (later_words l entry) ≡ 2 * (vlan_count l - 1 - entry)
  many = later_length l entry long there few

  moved :
      copy_within l (vlan_word entry + 2) (vlan_word (vlan_count l - 1) + 2) (vlan_word entry)
      ≡ sets l (vlan_word entry) (later_words l entry)
  unfolding later_words
  moved =
      let size : vlan_word (vlan_count l - 1) + 2 - (vlan_word entry + 2) ≡ 2 * (vlan_count l - 1 - entry) = omega arith in
      let start : vlan_word entry + 2 ≡ vlan_word (entry + 1) = omega arith in
      rw (size, start, sets-eq (later_words l entry) l (vlan_word entry) (omega (arith, many)), many)

  pub cleared_is :
      {words zeros : List ℕ} {size : ℕ} → words ≡ copy_within l (vlan_word entry + 2) (vlan_word (vlan_count l - 1) + 2) (vlan_word entry)
      → zeros ≡ replicate size 0 → size ≡ 2
      → set (put_mid (vlan_word (vlan_count l - 1)) size words zeros) vlan_count_word (vlan_count l - 1) ≡ cleared_vlan l entry
  unfolding cleared_vlan
  cleared_is w z two =
      let end : vlan_word (vlan_count l - 1) ≡ vlan_word entry + length (later_words l entry) = omega (arith, many) in
      rw (
        z,
        two,
        w,
        moved,
        part_back (sets l (vlan_word entry) (later_words l entry)) (vlan_word (vlan_count l - 1)) 2 (replicate 2 0) (simp length-sets (omega arith)) refl,
        end,
        sets_append,
      )
