-- What the code's numbers and structs stand for: a header of 16 bits, a tag of 32, a stack of tags by value.
-- Assumes nothing: these are definitions.
use Rattle.std.specs.Prelude.{ℕ, zero, suc, ◌/◌, ◌%◌, List, [], ◌∷◌, get_or, drop}
use Rattle.rules.specs.Tags.{Header, Tag, header_of}
use Rattle.rules.specs.Operations.{Origin}
use Rattle.tags.specs.declared.stack.Stack.{Stack}

-- a tag as its four bytes stand in a frame: the type, then the header, PCP · 8192 + DEI · 4096 + VID
unfoldable pub tag_is : ℕ → Tag
tag_is n = record { type = n / 65536; header = header_of (n % 65536) }

-- a tag of a type, the PCP and DEI of one header and the VID of another
unfoldable pub joined_tag : ℕ → Header → Header → Tag
joined_tag type pcp_header vid_header =
    record { type = type; header = record { pcp = pcp_header.pcp; dei = pcp_header.dei; vid = vid_header.vid } }

-- the first of these numbers as tags, as many as are asked for; 0 stands past the last
unfoldable pub first_tags : ℕ → List ℕ → List Tag
first_tags zero ns = []
first_tags (suc k) ns = tag_is (get_or ns 0 0) ∷ first_tags k (drop 1 ns)

-- the tags of a stack, outermost first
unfoldable pub stack_is : Stack → List Tag
stack_is s = first_tags s.count s.tags

-- the decoded tags, and the arrival port's default header
unfoldable pub origin_is : Stack → ℕ → Origin
origin_is tags default = record { tags = stack_is tags; default = header_of default }
