-- Bytes as one number, and the tag that they are. Assumes nothing.
use Prim.Native.Nat.{ℕ, ◌+◌, ◌*◌, ◌/◌, ◌%◌, ◌<◌}
use mathlib.Core.Path.{◌≡◌, ◌∙◌}
use mathlib.Core.List.{List}
use native.Mathlib.Omega.{arith}
use Rattle.rules.specs.Tags.{Bytes, two_bytes_at, tag_at, address_at}
use Rattle.tags.specs.Numbers.{tag_is}
use Rattle.tags.specs.Reading.{four_bytes_at, eight_bytes_at}

pub two_below : (bytes : List ℕ) (i : ℕ) → Bytes bytes → two_bytes_at bytes i < 65536
unfolding two_bytes_at
two_below bytes i each = omega (arith, each i, each (i + 1))

pub type_of_four : (bytes : List ℕ) (i : ℕ) → Bytes bytes → four_bytes_at bytes i / 65536 ≡ two_bytes_at bytes i
unfolding four_bytes_at
type_of_four bytes i each = omega (arith, two_below bytes (i + 2) each)

pub tag_of_four : (bytes : List ℕ) (i : ℕ) → Bytes bytes → tag_is (four_bytes_at bytes i) ≡ tag_at bytes i
unfolding tag_is tag_at four_bytes_at
tag_of_four bytes i each =
    let header : four_bytes_at bytes i % 65536 ≡ two_bytes_at bytes (i + 2) = omega (arith, two_below bytes (i + 2) each) in
    rw (type_of_four bytes i each, header)

pub address_of_six : (bytes : List ℕ) (i : ℕ) → two_bytes_at bytes i * 4294967296 + four_bytes_at bytes (i + 2) ≡ address_at bytes i
unfolding two_bytes_at four_bytes_at address_at
address_of_six bytes i =
    let three : i + 2 + 1 ≡ i + 3 = omega arith in
    let four : i + 2 + 2 ≡ i + 4 = omega arith in
    let five : i + 4 + 1 ≡ i + 5 = omega arith in
    rw (three, four) (rw five (omega arith))

-- the first six bytes of eight
six_of_eight : (a b c d : ℕ) → d < 65536 → ((a * 65536 + b) * 4294967296 + (c * 65536 + d)) / 65536 ≡ a * 4294967296 + (b * 65536 + c)
six_of_eight a b c d h = omega arith

pub address_of_eight : (bytes : List ℕ) (i : ℕ) → Bytes bytes → eight_bytes_at bytes i / 65536 ≡ address_at bytes i
unfolding eight_bytes_at four_bytes_at
address_of_eight bytes i each =
    let four : i + 2 + 2 ≡ i + 4 = omega arith in
    let last : two_bytes_at bytes (i + 4 + 2) < 65536 = two_below bytes (i + 4 + 2) each in
    six_of_eight (two_bytes_at bytes i) (two_bytes_at bytes (i + 2)) (two_bytes_at bytes (i + 4)) (two_bytes_at bytes (i + 4 + 2)) last
    ∙ rw four at (address_of_six bytes i)
