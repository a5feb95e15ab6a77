-- The counters in link memory: one event at a time. Assumes nothing: these are definitions.
use Rattle.std.specs.Prelude.{ℕ, List, [], ◌∷◌}
use Rattle.rules.specs.Counters.{counter_number}
use Rattle.machine.specs.Events.{Event}
use Rattle.layout.specs.Counters.{bumped}

-- each event at its port and in its counter
unfoldable pub counted : List Event → List ℕ → List ℕ
counted [] links = links
counted (e ∷ es) links = counted es (bumped e.port (counter_number e.counter) links)
