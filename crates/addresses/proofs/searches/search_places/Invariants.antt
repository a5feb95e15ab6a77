-- `addresses::searches::search_places` meets its contract. The invariant: the look-up is the search of the places that
-- are left.
use Rattle.std.proofs.Common.{◌≡◌, ◌-◌, ◌≤◌, drop}
use Rattle.rules.specs.Addresses.{places}
use Rattle.addresses.specs.Search.{look_up}
use Rattle.addresses.proofs.Search.{seek}
use Rattle.addresses.proofs.searches.search_places.Given as goal

abbrev pub invariant-search : goal.invariant-search
invariant-search l =
    (l.turn ≤ 20)
    × (look_up l.addresses l.key.number ≡ seek l.addresses l.key.number (drop l.turn (places l.key.number)) l.empty)

abbrev pub decreases-search : goal.decreases-search
decreases-search l = 20 - l.turn
