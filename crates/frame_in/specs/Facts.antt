-- The facts of a frame that arrives, as link and address memory give them. Assumes nothing: these are definitions.
use Rattle.std.specs.Prelude.{ℕ, List}
use Rattle.rules.specs.Facts.{Facts, facts_of}
use Rattle.settings.specs.SettingsOf.{settings_of}
use Rattle.addresses.specs.Numbers.{table_of}
use Rattle.cells.specs.Free.{free_count}

unfoldable pub facts_in : List ℕ → List ℕ → ℕ → List ℕ → Facts
facts_in links addresses port frame =
    facts_of (settings_of links) (table_of addresses) (free_count links) port (record { bytes = frame })
