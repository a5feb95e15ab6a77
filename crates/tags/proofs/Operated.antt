-- A new tag's number. Assumes nothing.
use Prim.Native.Nat.{ℕ, ◌+◌, ◌*◌, ◌/◌, ◌%◌, ◌<◌}
use mathlib.Core.Path.{◌≡◌}
use native.Mathlib.Omega.{arith}
use Rattle.rules.specs.Tags.{header_of}
use Rattle.tags.specs.Numbers.{tag_is, joined_tag}

pub joined_is :
    (type upper lower : ℕ) → upper < 65536
    → tag_is (type * 65536 + (upper / 4096 * 4096 + lower % 4096)) ≡ joined_tag type (header_of upper) (header_of lower)
unfolding tag_is joined_tag header_of
joined_is type upper lower h =
    let small : upper / 4096 * 4096 + lower % 4096 < 65536 = omega arith in
    let whole = below type (upper / 4096 * 4096 + lower % 4096) small in
    let p : (upper / 4096 * 4096 + lower % 4096) / 8192 ≡ upper / 8192 = omega arith in
    let d : (upper / 4096 * 4096 + lower % 4096) / 4096 ≡ upper / 4096 = omega arith in
    let v : (upper / 4096 * 4096 + lower % 4096) % 4096 ≡ lower % 4096 = omega arith in
    rw (whole.0, whole.1, p, d, v)
  where
    below : (t m : ℕ) → m < 65536 → ((t * 65536 + m) / 65536 ≡ t) × ((t * 65536 + m) % 65536 ≡ m)
    below t m h = (omega arith, omega arith)
