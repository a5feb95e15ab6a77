-- A first cell that joins several queues: all else of link memory is as it was. Assumes nothing.
use Prim.Native.Nat.{ℕ, ◌≤◌, ◌<◌}
use mathlib.Core.List.{List}
use native.Mathlib.Omega.{arith}
use Rattle.rules.specs.Choice.{Each}
use Rattle.rules.proofs.Choice.{each_map}
use Rattle.layout.specs.Same.{SettingsSame, CellsSame}
use Rattle.layout.proofs.Stores.{others_settings, others_cells}
use Rattle.queues.proofs.Broadcasts.{pushed_at_others}
use Rattle.frame_in.specs.Call.{pushed_at}

pub below_five : {ports : List ℕ} → Each (λ (p : ℕ). p ≤ 4) ports → Each (λ (p : ℕ). p < 5) ports
below_five = each_map (λ p h. let z : p < 5 = omega arith in z)

module _ (n queue x : ℕ) (low : queue < 4) {ports : List ℕ} (inside : Each (λ (p : ℕ). p ≤ 4) ports) (links : List ℕ) where
  pub pushed_settings_all : SettingsSame links (pushed_at n queue x ports links)
  pushed_settings_all = others_settings (pushed_at_others n queue x low (below_five inside) links)

  pub pushed_cells_all : CellsSame links (pushed_at n queue x ports links)
  pushed_cells_all = others_cells (pushed_at_others n queue x low (below_five inside) links)
