-- The number that stands at a place once its entry is marked, learned, made static or aged. Assumes nothing: these are
-- definitions.
use Rattle.std.specs.Prelude.{ℕ, ◌+◌, ◌-◌, if◌then◌else◌}
use Rattle.rules.specs.Addresses.{learned_entry, static_entry}
use Rattle.addresses.specs.Numbers.{marked_in, static_in, number_of}

unfoldable pub marked_number : ℕ → ℕ
marked_number n = if marked_in n then n else (n + 1)

abbrev pub learned_number : ℕ → ℕ → ℕ
learned_number k port = number_of (learned_entry k port)

abbrev pub static_number : ℕ → ℕ → ℕ
static_number k port = number_of (static_entry k port)

unfoldable pub older_number : ℕ → ℕ
older_number n = if static_in n then n else (if marked_in n then (n - 1) else 0)
