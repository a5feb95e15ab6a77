-- Bytes of a frame as one number, high byte first. Assumes nothing: these are definitions.
use Rattle.std.specs.Prelude.{ℕ, ◌+◌, ◌*◌, List}
use Rattle.rules.specs.Tags.{two_bytes_at}

unfoldable pub four_bytes_at : List ℕ → ℕ → ℕ
four_bytes_at bytes i = two_bytes_at bytes i * 65536 + two_bytes_at bytes (i + 2)

unfoldable pub eight_bytes_at : List ℕ → ℕ → ℕ
eight_bytes_at bytes i = four_bytes_at bytes i * 4294967296 + four_bytes_at bytes (i + 4)
