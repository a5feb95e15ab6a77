-- The search of the VLAN table in memory in range: it meets no damage, and says what the list of VLANs says. Assumes nothing.
use Prim.Native.Nat.{ℕ}
use mathlib.Core.Path.{◌≡◌, sym}
use mathlib.Core.Bool.{false}
use mathlib.Core.List.{List}
use Rattle.rules.specs.Settings.{is_there}
use Rattle.machine.specs.SettingCalls as Machine
use Rattle.std.specs.Prelude.{Ok as ok, Some as some, None as none}
use Rattle.settings.specs.Table.{found_vlan}
use Rattle.settings.specs.SettingsOf.{vlans_of}
use Rattle.settings.proofs.TableLaws.{vlans_length}
use Rattle.settings.proofs.FindLaws.{found_there, found_nowhere, found_undamaged, on_found}
use Rattle.setting_calls.specs.Vlans.{there, damaged, no_entry_left}
use Rattle.standing.specs.Stands.{SettingsInRange}

module _ (l : List ℕ) (range : SettingsInRange l) (vid : ℕ) where
  -- found or not: by cases
  pub searched : {C : Type 0} → ((e : ℕ) → found_vlan l vid ≡ ok (some e) → C) → (found_vlan l vid ≡ ok none → C) → C
  searched at nowhere =
      on_found (found_vlan l vid) (λ f. absurd (found_undamaged l vid range.vlan_count_law range.vlans f)) nowhere at

  pub undamaged : damaged (found_vlan l vid) ≡ false
  undamaged = searched (λ e f. rw f) (λ f. rw f)

  pub there_is : there (found_vlan l vid) ≡ is_there (vlans_of l) vid
  there_is = searched (λ e f. rw f (sym (found_there l vid e f).is_there_law)) (λ f. rw f (sym (found_nowhere l vid f)))

  pub none_left_is : no_entry_left (found_vlan l vid) l ≡ Machine.no_entry_left (vlans_of l) vid
  unfolding Machine.no_entry_left
  none_left_is = rw (there_is, vlans_length l range.vlan_count_law)
