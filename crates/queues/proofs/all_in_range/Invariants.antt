-- `queues::all_in_range` meets its contract. The invariant: `good` says whether the words of the ports so far are in range.
use Rattle.std.proofs.Common.{◌≡◌, ℕ, zero, suc, Bool, true, ◌&&◌, List}
use Rattle.queues.specs.Lists.{waiting_in_range}
use Rattle.queues.proofs.all_in_range.Given as goal

abbrev pub good_below : List ℕ → ℕ → Bool
good_below links zero = true
good_below links (suc p) = good_below links p && waiting_in_range links p

abbrev pub invariant-loop-number : goal.invariant-loop-number
invariant-loop-number l = l.good ≡ good_below l.links l.number
