-- In memory that stands for the traffic the oldest frame's word of a queue that waits is the head of its queue. Assumes nothing.
use Prim.Native.Nat.{ℕ, ◌<◌}
use mathlib.Core.Path.{◌≡◌, subst}
use mathlib.Core.List.{List, ◌∷◌}
use Rattle.rules.proofs.Choice.{each_first}
use Rattle.machine.specs.Waiting.{Waiting}
use Rattle.queues.specs.Lists.{oldest_of, list_of}
use Rattle.queues.specs.Queued.{Queued}
use Rattle.standing.specs.LinkTraffic.{LinkTraffic}

module _ (n : ℕ) (links : List ℕ) (ws : List Waiting) (T : LinkTraffic n links ws) (p q : ℕ) (hp : p < 5) (hq : q < 4)
    (i : ℕ) (tail : List ℕ) (head : list_of n links p q ≡ i ∷ tail) where
  queued : Queued n links p q (i ∷ tail)
  queued = subst (Queued n links p q) head (T.queues.queued p q hp hq)

  pub oldest_is : oldest_of links p q ≡ i
  oldest_is = queued.chained.0

  pub oldest_below : i < n
  oldest_below = each_first queued.below
