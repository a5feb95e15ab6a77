-- In memory that stands for the traffic no test before a drain finds damage. Assumes nothing.
use Prim.Native.Nat.{ℕ, ◌<◌}
use mathlib.Core.Path.{◌≡◌, refl}
use mathlib.Core.Bool.{true}
use mathlib.Core.List.{List}
use native.Mathlib.Omega.{arith}
use borrow.Author.Tests.{lt-ltb}
use Rattle.rules.specs.Choice.{Each, nobody, also}
use Rattle.machine.specs.Waiting.{Waiting}
use Rattle.queues.specs.Lists.{waiting_in_range}
use Rattle.standing.specs.LinkTraffic.{LinkTraffic}
use Rattle.departure.specs.Leaving.{can_leave}
use Rattle.take_out.specs.Drain.{all_can_leave, can_drain, can_drain_all}
use Rattle.standing.proofs.Leaving.{can_leave_law}

all_leave : (n p : ℕ) (links : List ℕ) {cs : List ℕ} → Each (λ (c : ℕ). can_leave n p c links ≡ true) cs → all_can_leave n p links cs ≡ true
unfolding all_can_leave
all_leave n p links nobody = refl
all_leave n p links (also h hs) = rw (h, all_leave n p links hs)

module _ (n : ℕ) (links : List ℕ) (ws : List Waiting) (T : LinkTraffic n links ws) (p : ℕ) (hp : p < 5) where
  can_drain_law : (q : ℕ) → q < 4 → can_drain n p q links ≡ true
  unfolding can_drain
  can_drain_law q hq = all_leave n p links (can_leave_law n links ws T p hp q hq)

  pub can_drain_all_law : can_drain_all n p links ≡ true
  unfolding can_drain_all waiting_in_range
  can_drain_all_law = rw (lt-ltb _ _ (T.waiting_words p hp), can_drain_law 3 (omega arith), can_drain_law 2 (omega arith), can_drain_law 1 (omega arith), can_drain_law 0 (omega arith))
