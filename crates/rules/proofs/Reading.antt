-- Addresses and tag types, read from bytes. Assumes nothing.
use Prim.Native.Nat.{ℕ, ◌+◌, ◌/◌, ◌%◌, ◌^◌}
use mathlib.Core.Path.{◌≡◌, refl, sym, ◌∙◌, subst}
use mathlib.Core.Logic.{◌↔◌}
use mathlib.Core.Bool.{true}
use mathlib.Core.List.{List, [], ◌∷◌}
use native.Mathlib.Omega.{arith}
use lib.Dec.{eqb}
use lib.ListN.{get_or}
use borrow.Author.Tests.{eqb-true, eq-eqb}
use Rattle.rules.specs.Tags.{is_tag_type, address_at, destination, source, is_group, Bytes}
use Rattle.rules.specs.ReadingTheorems.{highest_first, TagType, customer, service, ReadingTheorems}
use Rattle.rules.proofs.Choice.{on}

-- ---- the group bit: bit 0 of the first byte is bit 40 of the address

group_bit : (bytes : List ℕ) → Bytes bytes → (i : ℕ) → address_at bytes i / 2 ^ 40 % 2 ≡ get_or bytes i 0 % 2
unfolding address_at
group_bit bytes each i = omega (arith, each i, each (i + 1), each (i + 2), each (i + 3), each (i + 4), each (i + 5))

group_at : (bytes : List ℕ) → Bytes bytes → (i : ℕ) → (is_group (address_at bytes i) ≡ true) ↔ (get_or bytes i 0 % 2 ≡ 1)
unfolding is_group
group_at bytes each i = (
  λ h. sym (group_bit bytes each i) ∙ eqb-true (address_at bytes i / 2 ^ 40 % 2) 1 h,
  λ h. eq-eqb (address_at bytes i / 2 ^ 40 % 2) 1 (group_bit bytes each i ∙ h),
)

pub group_source_law : (bytes : List ℕ) → Bytes bytes → (is_group (source bytes) ≡ true) ↔ (get_or bytes 6 0 % 2 ≡ 1)
unfolding source
group_source_law bytes each = group_at bytes each 6

group_destination : (bytes : List ℕ) → Bytes bytes → (is_group (destination bytes) ≡ true) ↔ (get_or bytes 0 0 % 2 ≡ 1)
unfolding destination
group_destination bytes each = group_at bytes each 0

-- ---- addresses

destination_is : (a b c d e f : ℕ) (rest : List ℕ)
    → destination (a ∷ b ∷ c ∷ d ∷ e ∷ f ∷ rest) ≡ highest_first 0 (a ∷ b ∷ c ∷ d ∷ e ∷ f ∷ [])
unfolding destination address_at highest_first
destination_is a b c d e f rest = omega arith

source_is : (u v w x y z a b c d e f : ℕ) (rest : List ℕ)
    → source (u ∷ v ∷ w ∷ x ∷ y ∷ z ∷ a ∷ b ∷ c ∷ d ∷ e ∷ f ∷ rest) ≡ highest_first 0 (a ∷ b ∷ c ∷ d ∷ e ∷ f ∷ [])
unfolding source address_at highest_first
source_is u v w x y z a b c d e f rest = omega arith

-- ---- tag types

is_type : (n : ℕ) → is_tag_type n ≡ true → TagType n
unfolding is_tag_type
is_type n h =
    on (eqb n 0x8100)
    (λ e. subst TagType (sym (eqb-true n 0x8100 e)) customer)
    (λ e. subst TagType (sym (eqb-true n 0x88A8 (rw e at h))) service)

type_is : {n : ℕ} → TagType n → is_tag_type n ≡ true
unfolding is_tag_type
type_is customer = refl
type_is service = refl

pub reading_theorems : ReadingTheorems
reading_theorems =
    record {
      destination_is = destination_is;
      source_is = source_is;
      group_destination = group_destination;
      group_source_law = group_source_law;
      types_exactly = λ n. (is_type n, type_is);
    }
