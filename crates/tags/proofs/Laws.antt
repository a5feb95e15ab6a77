-- Laws of decoded and encoded stacks, for callers: how many tags and bytes there are, and that encoding what was decoded changes nothing.
-- Assumes nothing.
use Prim.Native.Nat.{ℕ, ◌+◌, ◌*◌, ◌≤◌}
use mathlib.Core.Path.{◌≡◌, refl, ap, ◌∙◌}
use mathlib.Core.List.{List, [], ◌∷◌, append_assoc}
use native.Mathlib.Omega.{arith}
use lib.ListN.{length, take, drop}
use lib.Seq.{sets, sets-eq}
use Rattle.rules.specs.Choice.{Each}
use Rattle.rules.specs.Tags.{Tag, Bytes, tags_of, tag_bytes, header_bytes, stack_bytes, addresses, payload}
use Rattle.rules.specs.TagTheorems.{IsTag}
use Rattle.rules.specs.Operations.{Operation, leaving_tags}
use Rattle.rules.proofs.Tags.{at_most_two, decoded_are_tags, frame_is}
use Rattle.rules.proofs.Leaving.{stack_grows}
use Rattle.tags.specs.Numbers.{stack_is, origin_is}
use Rattle.tags.proofs.Stacks.{stack_length}
use Rattle.tags.specs.declared.stack.Stack.{Stack}

bytes_length : (tags : List Tag) → length (stack_bytes tags) ≡ 4 * length tags
unfolding stack_bytes tag_bytes header_bytes
bytes_length [] = refl
bytes_length (t ∷ tags) = omega (arith, bytes_length tags)

-- four bytes a tag
pub stack_bytes_length : (s : Stack) → length (stack_bytes (stack_is s)) ≡ 4 * s.count
stack_bytes_length s = omega (arith, bytes_length (stack_is s), stack_length s)

module _ (s : Stack) (bytes : List ℕ) (decoded : stack_is s ≡ tags_of bytes) where
  pub decoded_count : s.count ≤ 2
  decoded_count = omega (arith, stack_length s, ap length decoded, at_most_two bytes)

  -- types that are tag types, header fields in range
  pub decoded_in_range : Bytes bytes → Each IsTag (stack_is s)
  decoded_in_range each = rw decoded (decoded_are_tags bytes each)

  -- encoded where they were decoded, the tags change no byte
  pub encoded_back : Bytes bytes → 20 ≤ length bytes → sets bytes 12 (stack_bytes (stack_is s)) ≡ bytes
  unfolding addresses payload
  encoded_back each h =
      let fits : 12 + length (stack_bytes (stack_is s)) ≤ length bytes = omega (arith, stack_bytes_length s, decoded_count) in
      let count : 12 + length (stack_bytes (stack_is s)) ≡ 12 + 4 * length (tags_of bytes) = omega (arith, stack_bytes_length s, stack_length s, ap length decoded) in
      sets-eq (stack_bytes (stack_is s)) bytes 12 fits
      ∙ append_assoc (take 12 bytes) (stack_bytes (stack_is s)) (drop (12 + length (stack_bytes (stack_is s))) bytes)
      ∙ rw (count, decoded) (frame_is bytes each h)

-- a frame leaves with at most two tags more than were decoded
pub leaving_count :
    (s tags : Stack) (default : ℕ) (vlan port : Operation) → stack_is s ≡ leaving_tags (origin_is tags default) vlan port
    → s.count ≤ tags.count + 2
unfolding origin_is
leaving_count s tags default vlan port e =
    omega (arith, stack_length s, ap length e, stack_length tags, stack_grows (origin_is tags default) vlan port)
