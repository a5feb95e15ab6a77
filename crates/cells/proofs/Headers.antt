-- The stored header: what is read of its bytes is what they say, its stores are a run, and what is written is read back. Assumes nothing.
use mathlib.Core.Path.{◌≡◌, refl, ◌∙◌}
use mathlib.Core.List.{List}
use Prim.Native.Nat.{ℕ, suc, ◌+◌, ◌-◌, ◌*◌, ◌/◌, ◌%◌, ◌<◌, ◌≤◌}
use native.Mathlib.Omega.{arith}
use lib.ListN.{length, get_or, drop}
use borrow.Rule.Slice.PartMut.{put_mid}
use mir.Syntax.{w16, w32}
use Rattle.std.specs.Int.{to_le_bytes}
use lib.Seq.{sets, length-sets, get_or-take, get_or-drop}
use Rattle.cells.proofs.Parts.{written}
use Rattle.cells.specs.declared.stored.StoredHeader.{StoredHeader}
use Rattle.cells.specs.Bytes.{header_in}
use Rattle.cells.specs.Stored.{stored_bytes, stored_of}

pub byte_in : (cells : List ℕ) (c i : ℕ) → i < 8 → get_or (header_in cells c) i 0 ≡ get_or cells (80 * c + i) 0
byte_in cells c i h = get_or-take 8 (drop (80 * c) cells) i 0 h ∙ get_or-drop (80 * c) cells i 0

-- the three fields, one after the other
pub header_run : (l : List ℕ) (at : ℕ) (h : StoredHeader) (a b c : List ℕ) → at + 8 ≤ length l
    → h.length < 65536 → h.default < 65536 → h.operation < 4294967296
    → a ≡ to_le_bytes w16 h.length → b ≡ to_le_bytes w16 h.default → c ≡ to_le_bytes w32 h.operation
    → put_mid (at + 4) (at + 8 - (at + 4)) (put_mid (at + 2) (at + 4 - (at + 2)) (put_mid at (at + 2 - at) l a) b) c ≡ sets l at (stored_bytes h)
unfolding stored_bytes
header_run l at h a b c fits x y z p q r =
    let one : put_mid at (at + 2 - at) l a ≡ sets l at a = written l at (at + 2) a (omega arith) (omega arith) (rw p (omega arith)) in
    let two : put_mid (at + 2) (at + 4 - (at + 2)) (sets l at a) b ≡ sets (sets l at a) (at + 2) b =
    written (sets l at a) (at + 2) (at + 4) b (omega arith) (simp length-sets (omega arith)) (rw q (omega arith)) in
    let three : put_mid (at + 4) (at + 8 - (at + 4)) (sets (sets l at a) (at + 2) b) c ≡ sets (sets (sets l at a) (at + 2) b) (at + 4) c =
    written (sets (sets l at a) (at + 2) b) (at + 4) (at + 8) c (omega arith) (simp length-sets (omega arith)) (rw r (omega arith)) in
    let second : at + 2 ≡ suc (suc at) = omega arith in
    let fourth : at + 4 ≡ suc (suc (suc (suc at))) = omega arith in
    let high : h.length / 256 % 256 ≡ h.length / 256 = omega arith in
    let upper : h.default / 256 % 256 ≡ h.default / 256 = omega arith in
    let top : h.operation / 16777216 % 256 ≡ h.operation / 16777216 = omega arith in
    rw (one, two, three, p, q, r, second, fourth, high, upper, top)

pub stored_length : (h : StoredHeader) → length (stored_bytes h) ≡ 8
unfolding stored_bytes
stored_length h = refl

two_back : (x : ℕ) → x % 256 + x / 256 * 256 ≡ x
two_back x = omega arith

four_back : (x : ℕ) → x % 256 + x / 256 % 256 * 256 + x / 65536 % 256 * 65536 + x / 16777216 * 16777216 ≡ x
four_back x = omega arith

-- written and read back
pub stored_back : (h : StoredHeader) → stored_of (stored_bytes h) ≡ h
unfolding stored_of stored_bytes
stored_back h = rw (two_back h.length, two_back h.default, four_back h.operation)
