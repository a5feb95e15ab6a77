-- The bytes of a tag and of a stack, as runs of stores. Assumes nothing.
use Prim.Native.Nat.{ℕ, ◌+◌, ◌*◌, ◌/◌, ◌%◌, ◌<◌, ◌≤◌}
use mathlib.Core.Path.{◌≡◌, ap, sym, ◌∙◌}
use mathlib.Core.List.{List, [], ◌∷◌, ◌++◌, map}
use native.Mathlib.Omega.{arith}
use native.Mathlib.Numerals.{add-one}
use lib.ListN.{length, get_or, take, drop, drop_of_length-le}
use lib.Seq.{sets, drop-cons}
use Rattle.slices.proofs.Runs.{sets_append, part_back}
use Rattle.rules.specs.Tags.{Tag, header_of, header_bytes, tag_bytes, stack_bytes}
use Rattle.tags.specs.Numbers.{tag_is, stack_is}
use Rattle.tags.proofs.Stacks.{mapped}
use Rattle.tags.specs.declared.stack.Stack.{Stack}

-- PCP, DEI and the VID's upper four bits make the header's first byte
first_byte : (m : ℕ) → m / 8192 * 32 + m / 4096 % 2 * 16 + m % 4096 / 256 ≡ m / 256
first_byte m =
    let p : m / 8192 ≡ m / 256 / 32 = omega arith in
    let d : m / 4096 ≡ m / 256 / 16 = omega arith in
    let v : m % 4096 / 256 ≡ m / 256 % 16 = omega arith in
    rw (p, d, v) (whole (m / 256))
  where
    whole : (q : ℕ) → q / 32 * 32 + q / 16 % 2 * 16 + q % 16 ≡ q
    whole q = omega arith

-- the four bytes of a tag are those of its number
pub tag_bytes_law : (n : ℕ) → tag_bytes (tag_is n) ≡ n / 16777216 ∷ n / 65536 % 256 ∷ n / 256 % 256 ∷ n % 256 ∷ []
unfolding tag_bytes tag_is header_bytes header_of
tag_bytes_law n =
    let a : n / 65536 / 256 ≡ n / 16777216 = omega arith in
    let b : n % 65536 / 256 ≡ n / 256 % 256 = omega arith in
    let d : n % 65536 % 4096 % 256 ≡ n % 256 = omega arith in
    rw (a, first_byte (n % 65536), b, d)

-- what is left to write, where a tag's bytes come back: those of the tags behind it, four further on
pub tag_turn :
    (start out tags bytes : List ℕ) (at i size : ℕ)
    → sets out (at + 4 * i) (stack_bytes (map tag_is (drop i tags))) ≡ sets start at (stack_bytes (map tag_is tags))
    → i < length tags → at + 4 * i + 4 ≤ length out → size ≡ 4 → get_or tags i 0 < 4294967296
    → bytes ≡ get_or tags i 0 / 16777216 % 256 ∷ get_or tags i 0 / 65536 % 256 ∷ get_or tags i 0 / 256 % 256 ∷ get_or tags i 0 % 256 ∷ []
    → sets (take (at + 4 * i) out ++ (bytes ++ drop size (drop (at + 4 * i) out))) (at + 4 * (i + 1)) (stack_bytes (map tag_is (drop (i + 1) tags)))
    ≡ sets start at (stack_bytes (map tag_is tags))
unfolding stack_bytes
tag_turn start out tags bytes at i size before h f e small is =
    let tag : ℕ = get_or tags i 0 in
    let first : tag / 16777216 % 256 ≡ tag / 16777216 = omega (arith, small) in
    let those : tag_bytes (tag_is tag) ≡ bytes = tag_bytes_law tag ∙ rw first at (sym is) in
    let four : length bytes ≡ 4 = ap length is in
    let next : at + 4 * (i + 1) ≡ at + 4 * i + length bytes = omega (arith, four) in
    let rest : List Tag = map tag_is (drop (i + 1) tags) in
    let here : map tag_is (drop i tags) ≡ tag_is tag ∷ rest = rw add-one (ap (map tag_is) (drop-cons tags i 0 h)) in
    rw (e, part_back out (at + 4 * i) 4 bytes f four, next) (sym (sets_append out (at + 4 * i) bytes (stack_bytes rest)) ∙ rw (here, those) at before)

-- nothing is left behind the last
pub all_written :
    (start out : List ℕ) (s : Stack) (at i : ℕ)
    → sets out (at + 4 * i) (stack_bytes (map tag_is (drop i (take s.count s.tags)))) ≡ sets start at (stack_bytes (map tag_is (take s.count s.tags)))
    → length (take s.count s.tags) ≤ i → s.count ≤ length s.tags → out ≡ sets start at (stack_bytes (stack_is s))
unfolding stack_bytes
all_written start out s at i before h few = rw (drop_of_length-le (take s.count s.tags) {i = i} h, ← mapped s few) at before
