-- A cell number as link memory has it: one that there is stands for itself. Assumes nothing.
use Rattle.std.proofs.Common.{◌≡◌, ℕ, ◌<◌, ◌≤◌, le-ltb, lt-ltb}
use Rattle.layout.specs.Cells.{clamped}

pub clamped_below : (n cell : ℕ) → cell < n → clamped n cell ≡ cell
unfolding clamped
clamped_below n cell h = rw (lt-ltb cell n h)

pub clamped_above : (n cell : ℕ) → n ≤ cell → clamped n cell ≡ 0
unfolding clamped
clamped_above n cell h = rw (le-ltb cell n h)
