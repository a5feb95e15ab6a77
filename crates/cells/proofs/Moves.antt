-- What the tests before taking and before giving back say of link memory. Assumes nothing.
use mathlib.Core.Path.{◌≡◌}
use mathlib.Core.Bool.{true}
use mathlib.Core.List.{List}
use Prim.Native.Nat.{ℕ, ◌+◌, ◌-◌, ◌≤◌, ◌<◌}
use native.Mathlib.Omega.{arith}
use Rattle.std.specs.Prelude.{Ok as ok}
use Rattle.cells.specs.Free.{free_count, first_free, size_of, last_cell, room_for, is_frame, can_give_back}
use Rattle.cells.proofs.Steps.{walk_in}

-- ---- taking

pub record Taking (n k : ℕ) (l : List ℕ) : Type 0 where
  pub few : free_count l ≤ n
  pub enough : k ≤ free_count l
  pub first : first_free l < n

pub taking : (n k : ℕ) (l : List ℕ) → room_for n k l ≡ ok true → Taking n k l
unfolding room_for
taking n k l e = record { few = grind arith; enough = grind arith; first = grind arith }

-- ---- giving back

pub record Frame (c : ℕ) (l : List ℕ) : Type 0 where
  pub some : 1 ≤ size_of l c
  pub few : size_of l c ≤ 52

pub frame : (c : ℕ) (l : List ℕ) → is_frame c l ≡ true → Frame c l
unfolding is_frame
frame c l e = record { some = grind arith; few = grind arith }

pub last_in : (n c : ℕ) (l : List ℕ) → c < n → last_cell n l c < n
last_in n c l h = walk_in n l (size_of l c - 1) c h

pub record Giving (n c : ℕ) (l : List ℕ) : Type 0 where
  pub fits : free_count l + size_of l c ≤ n
  pub first : first_free l < n

pub giving : (n c : ℕ) (l : List ℕ) → can_give_back n c l ≡ true → Giving n c l
unfolding can_give_back
giving n c l e = record { fits = grind arith; first = grind arith }
