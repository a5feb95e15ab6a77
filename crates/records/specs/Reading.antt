-- The bench program: the numbers of a record. Assumes nothing: these are definitions.
use Rattle.std.specs.Prelude.{ℕ, ◌+◌, ◌*◌, List, get_or}

-- two bytes, the low one first
unfoldable pub little_endian_at : List ℕ → ℕ → ℕ
little_endian_at bytes i = get_or bytes i 0 + get_or bytes (i + 1) 0 * 256

abbrev pub byte_at : List ℕ → ℕ → ℕ
byte_at bytes i = get_or bytes i 0

-- the kind of a record, its length left away
unfoldable pub kind_of : List ℕ → ℕ
kind_of bytes = little_endian_at bytes 0
