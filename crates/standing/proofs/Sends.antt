-- Several copies leave one queue, and their port counts as many drained ones. Assumes nothing.
use Prim.Native.Nat.{ℕ, zero, suc, ◌+◌, ◌%◌, ◌^◌}
use mathlib.Core.Path.{◌≡◌, refl, ap, ◌∙◌}
use mathlib.Core.Bool.{false, ◌&&◌}
use mathlib.Core.List.{List, [], ◌∷◌, map}
use native.Mathlib.Omega.{arith}
use lib.Dec.{eqb}
use lib.ListN.{length, drop}
use Rattle.std.specs.Prelude.{if◌then◌else◌}
use Rattle.rules.specs.Outcomes.{Frame}
use Rattle.rules.specs.Counters.{counter_number}
use Rattle.rules.specs.declared.counters.Counter.TheVariants.{Drained as drained}
use Rattle.machine.specs.Waiting.{Waiting, queue_at, send, drain}
use Rattle.machine.specs.Events.{drains, Counts, bumps, bump, tally}
use Rattle.machine.proofs.Waits.{send_same, send_same_port}
use Rattle.standing.proofs.Reading.{drain_after_send}

-- ---- the waiting list

-- k copies leave queue (p, q), the oldest first
unfoldable pub sends : ℕ → ℕ → ℕ → List Waiting → List Waiting
sends zero p q ws = ws
sends (suc k) p q ws = sends k p q (send p q ws)

pub drain_after_sends : (k p q : ℕ) (ws : List Waiting) → drain p (sends k p q ws) ≡ drain p ws
unfolding sends
drain_after_sends zero p q ws = refl
drain_after_sends (suc k) p q ws = drain_after_sends k p q (send p q ws) ∙ drain_after_send p q ws

pub sends_other : (k p q r : ℕ) (ws : List Waiting) → eqb q r ≡ false → queue_at p r (sends k p q ws) ≡ queue_at p r ws
unfolding sends
sends_other zero p q r ws ne = refl
sends_other (suc k) p q r ws ne = sends_other k p q r (send p q ws) ne ∙ send_same_port p q r ws ne

pub send_shorter : (k p q : ℕ) (ws : List Waiting) → length (queue_at p q ws) ≡ suc k → length (queue_at p q (send p q ws)) ≡ k
send_shorter k p q ws h = ap length (send_same p q ws) ∙ shorter (queue_at p q ws) h
  where
    shorter : (fs : List Frame) → length fs ≡ suc k → length (drop 1 fs) ≡ k
    shorter [] h = cc
    shorter (f ∷ fs) h = cc

-- as many as wait there
pub sends_all : (k p q : ℕ) (ws : List Waiting) → length (queue_at p q ws) ≡ k → length (queue_at p q (sends k p q ws)) ≡ 0
unfolding sends
sends_all zero p q ws h = h
sends_all (suc k) p q ws h = sends_all k p q (send p q ws) (send_shorter k p q ws h)

-- ---- the counters

-- port p counts a drained copy, whichever it is
unfoldable pub drain_counted : ℕ → Counts → Counts
drain_counted p c r k = if eqb r p && eqb k (counter_number drained) then (c r k + 1) % 2 ^ 32 else c r k

unfoldable pub drains_counted : ℕ → ℕ → Counts → Counts
drains_counted zero p c = c
drains_counted (suc k) p c = drains_counted k p (drain_counted p c)

pub bump_drained : (p : ℕ) (f : Frame) (c : Counts) → bump (drains p f) c ≡ drain_counted p c
unfolding bump bumps drain_counted
bump_drained p f c = refl

pub counted_then : (j k p : ℕ) (c : Counts) → drains_counted j p (drains_counted k p c) ≡ drains_counted (k + j) p c
unfolding drains_counted
counted_then j zero p c = ap (λ (m : ℕ). drains_counted m p c) (let z : j ≡ 0 + j = omega arith in z)
counted_then j (suc k) p c =
    counted_then j k p (drain_counted p c) ∙ ap (λ (m : ℕ). drains_counted m p c) (let z : suc (k + j) ≡ suc k + j = omega arith in z)

pub tally_drained : (p : ℕ) (fs : List Frame) (c : Counts) → tally (map (λ f. drains p f) fs) c ≡ drains_counted (length fs) p c
unfolding tally drains_counted
tally_drained p [] c = refl
tally_drained p (f ∷ fs) c = tally_drained p fs (bump (drains p f) c) ∙ ap (drains_counted (length fs) p) (bump_drained p f c)
