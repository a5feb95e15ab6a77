-- The bits of the word of the queues that wait: the highest of the four. Assumes nothing.
use Prim.Native.Nat.{ℕ, zero, suc, ◌*◌, ◌%◌, ◌^◌, ◌≤◌, ◌<◌}
use mathlib.Core.Path.{◌≡◌}
use mathlib.Core.Bool.{true}
use Rattle.std.proofs.Math.Nat.{pow-le-pow_right}
use native.Mathlib.Decide.{dec_lt}
use native.Mathlib.Omega.{arith}
use Rattle.std.specs.Prelude.{None as none, Some as queue}
use Rattle.queues.specs.Lists.{bit, highest_of}

-- what holds at each of the four queues
pub fours : (P : ℕ → Type 0) → P 0 → P 1 → P 2 → P 3 → (q : ℕ) → q < 4 → P q
fours P a b c d zero h = a
fours P a b c d (suc zero) h = b
fours P a b c d (suc (suc zero)) h = c
fours P a b c d (suc (suc (suc zero))) h = d
fours P a b c d (suc (suc (suc (suc q)))) h = absurd (omega arith)

-- ---- the highest, by the four lowest bits

pub highest_none : (w : ℕ) → w % 16 ≡ 0 → none ≡ highest_of w
unfolding highest_of bit
highest_none w h = grind arith

pub below_four : (w q : ℕ) → 2 ^ q ≤ w % 16 → q < 4
below_four w q few =
    elim (dec_lt q 4) as (λ _. q < 4) [
      | yes h ↦ h
      | no h ↦ let least = pow-le-pow_right {n = 2} (omega arith) {i = 4} {j = q} (omega arith) in absurd (omega arith)
    ]

pub highest_at : (w q : ℕ) → 2 ^ q ≤ w % 16 → w % 16 < 2 * 2 ^ q → queue q ≡ highest_of w
unfolding highest_of bit
highest_at w q few some =
    fours (λ (q : ℕ). 2 ^ q ≤ w % 16 → w % 16 < 2 * 2 ^ q → queue q ≡ highest_of w)
    (λ a b. grind arith)
    (λ a b. grind arith)
    (λ a b. grind arith)
    (λ a b. grind arith)
    q (below_four w q few) few some

-- the highest is one of the four, and waits
pub highest_waits : (w q : ℕ) → highest_of w ≡ queue q → (q < 4) × (bit w q ≡ true)
unfolding highest_of
highest_waits w q h = grind arith
