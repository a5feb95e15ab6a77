-- The layout paper, "next": a cell number as link memory has it. Assumes nothing: these are definitions.
use Rattle.std.specs.Prelude.{ℕ, nat_lt, if◌then◌else◌}

-- "n or more stands for 0"
unfoldable pub clamped : ℕ → ℕ → ℕ
clamped n cell = if nat_lt cell n then cell else 0
