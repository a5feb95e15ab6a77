-- A refusal's number says which refusal it is, and is never 0. Assumes nothing.
use Prim.Native.Nat.{ℕ, zero, suc}
use mathlib.Core.Path.{◌≡◌, refl, sym, ap, ◌∙◌}
use mathlib.Core.List.{List, [], ◌∷◌}
use native.Mathlib.Omega.{arith}
use Rattle.rules.specs.Refusals.{refusal_number}
use Rattle.rules.specs.declared.refusals.Refusal.{Refusal}
use Rattle.rules.specs.declared.refusals.Refusal.TheVariants.{MemoryLength as memory_length, PortAboveFour as port_above_four, OutOfRange as out_of_range, GroupAddress as group_address, ShortBuffer as short_buffer, VlansInUse as vlans_in_use, VlanNotThere as vlan_not_there, PlacesInUse as places_in_use, AddressNotThere as address_not_there, MemoryDamaged as memory_damaged, BadRecord as bad_record}

nth : List Refusal → ℕ → Refusal
nth [] n = bad_record
nth (r ∷ rs) zero = r
nth (r ∷ rs) (suc n) = nth rs n

-- number 0 is no refusal's
refusals : List Refusal
refusals =
    bad_record
    ∷ memory_length
    ∷ port_above_four
    ∷ out_of_range
    ∷ group_address
    ∷ short_buffer
    ∷ vlans_in_use
    ∷ vlan_not_there
    ∷ places_in_use
    ∷ address_not_there
    ∷ memory_damaged
    ∷ bad_record
    ∷ []

back : (r : Refusal) → nth refusals (refusal_number r) ≡ r
unfolding nth refusals refusal_number
back memory_length = refl
back port_above_four = refl
back out_of_range = refl
back group_address = refl
back short_buffer = refl
back vlans_in_use = refl
back vlan_not_there = refl
back places_in_use = refl
back address_not_there = refl
back memory_damaged = refl
back bad_record = refl

pub same_number : (r s : Refusal) → refusal_number r ≡ refusal_number s → r ≡ s
same_number r s e = sym (back r) ∙ (ap (nth refusals) e ∙ back s)

pub number_above_none : (r : Refusal) → 0 ≡ refusal_number r → ⊥
unfolding refusal_number
number_above_none memory_length e = omega arith
number_above_none port_above_four e = omega arith
number_above_none out_of_range e = omega arith
number_above_none group_address e = omega arith
number_above_none short_buffer e = omega arith
number_above_none vlans_in_use e = omega arith
number_above_none vlan_not_there e = omega arith
number_above_none places_in_use e = omega arith
number_above_none address_not_there e = omega arith
number_above_none memory_damaged e = omega arith
number_above_none bad_record e = omega arith
