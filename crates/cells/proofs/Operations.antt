-- The stored header's ranges, field by field, and its VLAN operation. Assumes nothing.
use mathlib.Core.Path.{◌≡◌}
use mathlib.Core.Bool.{Bool, true, false, ◌&&◌, and-eq-true_iff}
use Prim.Native.Nat.{◌≤◌, ◌<◌}
use borrow.Author.Tests.{leb-true, ltb-true}
use Rattle.rules.specs.Arguments.{operation_of}
use Rattle.settings.specs.Operations.{operation_in, is_exempt, is_stored_word}
use Rattle.cells.specs.declared.stored.StoredHeader.{StoredHeader}
use Rattle.cells.specs.Stored.{stored_in_range, stored_operation}

pub record InRange (h : StoredHeader) : Type 0 where
  pub shortest : 60 ≤ h.length
  pub longest : h.length ≤ 4083
  pub default_least : 16 ≤ h.default
  pub default_most : h.default < 65520
  pub operation : is_stored_word h.operation ≡ true

both : (a b : Bool) → (a && b) ≡ true → (a ≡ true) × (b ≡ true)
both a b e = (and-eq-true_iff a b).0 e

pub in_range : (h : StoredHeader) → stored_in_range h ≡ true → InRange h
unfolding stored_in_range
in_range h e =
    let five = both _ _ e in
    let four = both _ _ five.0 in
    let three = both _ _ four.0 in
    let two = both _ _ three.0 in
    record {
      shortest = leb-true 60 h.length two.0;
      longest = leb-true h.length 4083 two.1;
      default_least = leb-true 16 h.default three.1;
      default_most = ltb-true h.default 65520 four.1;
      operation = five.1;
    }

pub operated : (h : StoredHeader) → is_exempt h.operation ≡ false → stored_operation h ≡ operation_of (operation_in h.operation)
unfolding stored_operation
operated h e = rw e
