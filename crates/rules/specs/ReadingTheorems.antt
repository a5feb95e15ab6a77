-- How a frame's addresses and tag types are read from its bytes. `proofs/Reading.antt` proves it. Assumes nothing:
-- these are definitions.
use Rattle.std.specs.Prelude.{ℕ, ◌+◌, ◌*◌, ◌%◌, ◌≡◌, ◌↔◌, true, List, [], ◌∷◌, get_or}
use Rattle.rules.specs.Tags.{is_tag_type, destination, source, is_group, Bytes}

-- the number of some bytes, "its first byte highest"; `above`: what stands before them
unfoldable pub highest_first : ℕ → List ℕ → ℕ
highest_first above [] = above
highest_first above (b ∷ bs) = highest_first (above * 256 + b) bs

-- "a type, 0x8100 or 0x88A8"
pub data TagType : ℕ → Type 0 where
  customer : TagType 0x8100
  service : TagType 0x88A8

pub record ReadingTheorems : Type 0 where
  -- "Destination, source": six bytes each
  pub destination_is : (a b c d e f : ℕ) (rest : List ℕ)
      → destination (a ∷ b ∷ c ∷ d ∷ e ∷ f ∷ rest) ≡ highest_first 0 (a ∷ b ∷ c ∷ d ∷ e ∷ f ∷ [])
  pub source_is : (u v w x y z a b c d e f : ℕ) (rest : List ℕ)
      → source (u ∷ v ∷ w ∷ x ∷ y ∷ z ∷ a ∷ b ∷ c ∷ d ∷ e ∷ f ∷ rest) ≡ highest_first 0 (a ∷ b ∷ c ∷ d ∷ e ∷ f ∷ [])
  -- "the group bit is bit 0 of an address's first byte"
  pub group_destination : (bytes : List ℕ) → Bytes bytes
      → (is_group (destination bytes) ≡ true) ↔ (get_or bytes 0 0 % 2 ≡ 1)
  pub group_source_law : (bytes : List ℕ) → Bytes bytes → (is_group (source bytes) ≡ true) ↔ (get_or bytes 6 0 % 2 ≡ 1)
  -- the two tag types, and no other
  pub types_exactly : (n : ℕ) → (is_tag_type n ≡ true) ↔ TagType n
