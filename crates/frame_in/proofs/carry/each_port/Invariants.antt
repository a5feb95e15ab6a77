-- `frame_in::carry::each_port` meets its contract. What is left to do, done on the memory as it is, gives the result.
use Rattle.std.proofs.Common.{◌≡◌, ℕ, List}
use Rattle.arrival.specs.Candidates.{ports_in}
use Rattle.frame_in.specs.Carried.{ActsAs, each_port}
use Rattle.frame_in.proofs.Each.{ports_from}
use Rattle.frame_in.proofs.carry.each_port.Given as goal

abbrev pub invariant-loop-number : goal.invariant-loop-number
invariant-loop-number g l =
    (f : ℕ → List ℕ → List ℕ) → ActsAs g.F.Fn l.act f
    → each_port f (ports_from l.mask l.number) l.links ≡ each_port f (ports_in l.mask) l.initial.links
