-- `addresses::searches::look_up` meets its contract. The invariant: of the bucket's places, those that are left decide.
use Rattle.std.proofs.Common.{◌≡◌, ◌+◌, ◌-◌}
use Rattle.rules.specs.Addresses.{run}
use Rattle.addresses.proofs.Search.{first_with}
use Rattle.addresses.proofs.searches.look_up.Given as goal

abbrev pub invariant-loop-place : goal.invariant-loop-place
invariant-loop-place l =
    first_with l.addresses l.key.number (run l.from 4) ≡ first_with l.addresses l.key.number (run l.place (l.from + 4 - l.place))
