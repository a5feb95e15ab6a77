-- The VLAN that a frame belongs to, in memory whose entries are in range: its GID is in range, and the word that is stored says its
-- operation. Assumes nothing.
use Prim.Native.Nat.{ℕ, zero, suc, ◌+◌, ◌≤◌, ◌<◌}
use mathlib.Core.Path.{◌≡◌, refl, ap}
use mathlib.Core.Bool.{true, false, true≢false}
use mathlib.Core.List.{List, [], ◌∷◌}
use native.Mathlib.Omega.{arith}
use lib.Dec.{eqb}
use Rattle.rules.specs.Choice.{Each, nobody, also}
use Rattle.rules.specs.Settings.{Vlan, no_operation, absent_vlan, is_there, vlan_of}
use Rattle.rules.specs.Arguments.{VlanNumbers, kind_of, type_of, source_of, operation_of, vlan_entry, vlan_in_range}
use Rattle.rules.proofs.Choice.{on}
use Rattle.settings.specs.Operations.{operation_in, is_operation_word}
use Rattle.settings.specs.Ports.{vlan_in}
use Rattle.settings.proofs.RangeLaws.{vlan_range}
use Rattle.settings.proofs.SettingLaws.{vlan_words_good}
use Rattle.settings.specs.Records.{vlan_at}
use Rattle.settings.specs.Table.{vlan_count, entry_at, found_vlan}
use Rattle.settings.specs.SettingsOf.{vlans_from, vlans_of, settings_of}
use Rattle.settings.proofs.TableLaws.{vlans_in_use_law}
use Rattle.settings.proofs.FindLaws.{on_found, found_there, found_nowhere, found_undamaged}
use Rattle.std.specs.Prelude.{Ok as ok, Some as some, None as none}
use Rattle.frame_in.specs.InRange.{InRange}
use Rattle.arrival.specs.Stored.{operation_found, operation_for}

-- what the key of an address takes from its VLAN
pub record VlanFits (v : Vlan) : Type 0 where
  pub gid : v.gid ≤ 15

-- ---- an entry, and none

entry_fits : (n : VlanNumbers) → vlan_in_range n ≡ true → VlanFits (vlan_entry n)
unfolding vlan_entry
entry_fits n h = record { gid = (vlan_range n h).gid }

absent_fits : VlanFits absent_vlan
unfolding absent_vlan
absent_fits = record { gid = omega arith }

-- ---- the one of a VID

found_fits : (vs : List Vlan) → Each VlanFits vs → (vid : ℕ) → VlanFits (vlan_of vs vid)
unfolding vlan_of
found_fits [] h vid = absent_fits
found_fits (v ∷ vs) (also h t) vid = on (eqb v.vid vid) (λ e. rw e h) (λ e. rw e (found_fits vs t vid))

entries_fit : (links : List ℕ) (k b : ℕ) → ((e : ℕ) → e < b + k → vlan_in_range (vlan_at links e) ≡ true) → Each VlanFits (vlans_from k links b)
unfolding vlans_from
entries_fit links zero b good = nobody
entries_fit links (suc k) b good =
    also (entry_fits (vlan_at links b) (good b (omega arith))) (entries_fit links k (b + 1) (λ e h. good e (omega arith)))

pub vlan_fits : (links addresses : List ℕ) → InRange links addresses → (vid : ℕ) → VlanFits (vlan_of (settings_of links).vlans vid)
unfolding settings_of
vlan_fits links addresses good vid =
    found_fits (vlans_of links)
    (rw (vlans_in_use_law links (vlan_count links) refl good.vlan_count_law) (entries_fit links (vlan_count links) 0 (λ e h. vlan_words_good (entry_at links e) _ (good.vlans e (omega arith)) (good.vlan_operations e (omega arith)))))
    vid

-- ---- the word of its operation

absent_vlan_law : (vs : List Vlan) (vid : ℕ) → is_there vs vid ≡ false → vlan_of vs vid ≡ absent_vlan
unfolding is_there vlan_of
absent_vlan_law [] vid h = refl
absent_vlan_law (v ∷ vs) vid h = on (eqb v.vid vid) (λ e. absurd (true≢false (rw e at h))) (λ e. rw e (absent_vlan_law vs vid (rw e at h)))

pub record WordSays (links : List ℕ) (vid : ℕ) : Type 0 where
  pub in_range : is_operation_word (operation_for links vid) ≡ true
  pub says : (vlan_of (settings_of links).vlans vid).operation ≡ operation_of (operation_in (operation_for links vid))

word_none : (links : List ℕ) (vid : ℕ) → found_vlan links vid ≡ ok none → WordSays links vid
unfolding settings_of operation_found absent_vlan no_operation operation_of operation_in kind_of type_of source_of
word_none links vid q =
    record {
      in_range = rw q refl;
      says = rw q (ap (λ (v : Vlan). v.operation) (absent_vlan_law (vlans_of links) vid (found_nowhere links vid q)));
    }

word_there : (links addresses : List ℕ) → InRange links addresses → (vid e : ℕ) → found_vlan links vid ≡ ok (some e) → WordSays links vid
unfolding settings_of operation_found vlan_entry vlan_in
word_there links addresses good vid e q =
    let t = found_there links vid e q in
    record {
      in_range = rw q (good.vlan_operations e t.in_use);
      says = rw q (ap (λ (v : Vlan). v.operation) t.is_entry);
    }

pub word_says : (links addresses : List ℕ) → InRange links addresses → (vid : ℕ) → WordSays links vid
word_says links addresses good vid =
    on_found (found_vlan links vid)
    (λ q. absurd (found_undamaged links vid good.vlan_count_law good.vlans q))
    (word_none links vid)
    (word_there links addresses good vid)
