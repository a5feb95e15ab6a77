-- The two words of a VLAN entry, where another entry or a run apart from it is written. Assumes nothing.
use Rattle.std.proofs.Common.{◌≡◌, ℕ, ◌+◌, ◌≤◌, List, length, get_or, arith}
use Rattle.std.proofs.lemmas.Grind.{common_steps}
use Rattle.std.proofs.lemmas.List.Edits.{sets}
use Rattle.slices.proofs.Runs.{get_d_sets_before, get_d_sets_after}
use Rattle.rules.specs.Arguments.{VlanNumbers}
use Rattle.layout.specs.Places.{vlan_word, vlan_operation_word}
use Rattle.settings.specs.Records.{vlan_words}

-- entry e of the one memory has the words of entry f of the other
pub record SameEntry (l m : List ℕ) (e f : ℕ) : Type 0 where
  pub own : get_or m (vlan_word e) 0 ≡ get_or l (vlan_word f) 0
  pub operation : get_or m (vlan_operation_word e) 0 ≡ get_or l (vlan_operation_word f) 0

module _ (l : List ℕ) (at : ℕ) (ws : List ℕ) (e : ℕ) where
  pub same_before : vlan_word e + 2 ≤ at → SameEntry l (sets l at ws) e e
  same_before h = grind (arith, get_d_sets_before {A = ℕ})

  pub same_after : at + length ws ≤ vlan_word e → SameEntry l (sets l at ws) e e
  same_after h = grind (arith, get_d_sets_after {A = ℕ})

pub other_entry : (l : List ℕ) (e : ℕ) (n : VlanNumbers) (i : ℕ) → (i ≡ e → ⊥) → SameEntry l (sets l (vlan_word e) (vlan_words n)) i i
other_entry l e n i other = grind (arith, common_steps)
