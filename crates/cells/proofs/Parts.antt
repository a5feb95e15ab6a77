-- A part of a list that was lent and written. Assumes nothing.
use mathlib.Core.Path.{◌≡◌}
use mathlib.Core.List.{List}
use Prim.Native.Nat.{ℕ, ◌-◌, ◌≤◌}
use native.Mathlib.Omega.{arith}
use lib.ListN.{length}
use lib.Seq.{sets}
use borrow.Rule.Slice.PartMut.{put_mid}
use Rattle.slices.proofs.Runs.{part_back}

pub written : (l : List ℕ) (at e : ℕ) (vs : List ℕ) → at ≤ e → e ≤ length l → length vs ≡ e - at → put_mid at (e - at) l vs ≡ sets l at vs
written l at e vs h fits long = part_back l at (e - at) vs (omega arith) long
