-- `addresses::changes::age` meets its contract. The places below the turn's have been aged, and those from it on are as
-- they were.
use Rattle.addresses.proofs.Passes.{Turned}
use Rattle.addresses.proofs.changes.age.Given as goal

abbrev pub invariant-loop-place : goal.invariant-loop-place
invariant-loop-place l = Turned l.initial.addresses l.addresses l.gone l.place-index
