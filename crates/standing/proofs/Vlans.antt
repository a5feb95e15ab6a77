-- The calls on the VLAN table follow the machine. Assumes nothing.
use Prim.Native.Nat.{ℕ, ◌≤◌, ◌<◌}
use mathlib.Core.Path.{◌≡◌, sym, ap, ◌∙◌}
use mathlib.Core.Bool.{Bool, true, false, true≢false}
use mathlib.Core.List.{List}
use Rattle.std.specs.Prelude.{None as none}
use native.Mathlib.Omega.{arith}
use borrow.Author.Tests.{leb-false, not-false}
use lib.ListN.{length}
use Rattle.rules.specs.Choice.{Distinct}
use Rattle.rules.specs.Lines.{first}
use Rattle.rules.specs.Settings.{Vlan, Settings, absent_vlan, is_there}
use Rattle.rules.specs.Arguments.{VlanNumbers, vlan_in_range, vlan_entry}
use Rattle.rules.specs.Refusals.{vlan_lines, clear_vlan_lines}
use Rattle.rules.proofs.Choice.{each_first, each_rest}
use Rattle.rules.proofs.Lines.{holds_none}
use Rattle.machine.specs.State.{vlan, clear_vlan}
use Rattle.rules.specs.Numbers.{most_vlans}
use Rattle.machine.specs.SettingCalls.{settle, with_entry, without_entry, no_entry_left, with_vlans}
use Rattle.machine.specs.Machine.{lines_of, carry_out}
use Rattle.machine.specs.Demands.{vids}
use Rattle.machine.proofs.Settings.{distinct_entry, distinct_cleared}
use Rattle.layout.specs.Places.{fixed_words}
use Rattle.settings.specs.Table.{vlan_count, vid_at, found_vlan}
use Rattle.settings.specs.SettingsOf.{vlans_of, settings_of}
use Rattle.settings.proofs.TableLaws.{vlans_length, vlans_at}
use Rattle.settings.proofs.FindLaws.{entry_vid, found_there, found_nowhere}
use Rattle.settings.proofs.SettingsLaws.{vlan_replaced, vlan_added_law, vlan_cleared_law}
use Rattle.setting_calls.specs.Vlans.{there, vlan_written, vlan_refusals, vlan_call, vlan_erased, clear_vlan_refusals, clear_vlan_call}
use Rattle.setting_calls.specs.Vlans as Calls
use Rattle.standing.specs.Stands.{SettingsInRange, SettingsStand}
use Rattle.gufhrandi.specs.Runs.{run}
use Rattle.standing.specs.Follows.{CallFollows}
use Rattle.standing.proofs.Answers.{lines_between}
use Rattle.standing.proofs.Settled.{links_long, OnlySet, setting_follows}
use Rattle.standing.proofs.VlanLists.{vid_of, replaced_is, added_is, cleared_is}
use Rattle.standing.proofs.VlanSearch.{searched, undamaged, there_is, none_left_is}
use Rattle.standing.proofs.VlanWrites.{replaced_alone, replaced_in_range, added_alone, added_in_range, cleared_alone, cleared_in_range}

-- ---- the table written, in memory that is in range and has one entry a VID

module _ (l : List ℕ) (long : fixed_words ≤ length l) (range : SettingsInRange l) (once : Distinct (vids (vlans_of l))) where
  vid_there : (e : ℕ) → e < vlan_count l → vid_of (vlans_of l) e ≡ vid_at l e
  vid_there e used = ap (λ (v : Vlan). v.vid) (vlans_at l e absent_vlan range.vlan_count_law used) ∙ entry_vid l e

  module _ (n : VlanNumbers) (good : vlan_in_range n ≡ true) (left : no_entry_left (vlans_of l) n.vid ≡ false) where
    few : is_there (vlans_of l) n.vid ≡ false → vlan_count l < 16
    unfolding no_entry_left
    few missing = omega (arith, leb-false most_vlans (length (vlans_of l)) (rw missing at left), vlans_length l range.vlan_count_law)

    entry_stands : OnlySet l (vlan_written (found_vlan l n.vid) l n)
        × SettingsStand (vlan_written (found_vlan l n.vid) l n) (with_vlans (with_entry (vlan_entry n) (vlans_of l)) (settings_of l))
    unfolding vlan_written with_vlans vlan_entry
    entry_stands =
        let distinct = distinct_entry (vlan_entry n) (vlans_of l) once in
        searched l range n.vid
        (λ e f.
        let found = found_there l n.vid e f in
        let used = found.in_use in
        let same = replaced_is (vlan_entry n) (vlans_of l) e (omega (arith, used, vlans_length l range.vlan_count_law)) (vid_there e used ∙ found.has_vid)
        (λ i h s. found.none_before i h (sym (vid_there i (omega (arith, used))) ∙ s)) in
        rw f (
          replaced_alone l long range e n used,
          record {
            says = vlan_replaced l e n long good range.vlan_count_law used ∙ ap (λ (vs : List Vlan). with_vlans vs (settings_of l)) same;
            in_range = replaced_in_range l long range e n used good;
            once = distinct;
          },
        ))
        (λ f.
        let missing = found_nowhere l n.vid f in
        rw f (
          added_alone l long range n (few missing),
          record {
            says = vlan_added_law l n long good (few missing) ∙ ap (λ (vs : List Vlan). with_vlans vs (settings_of l)) (added_is (vlan_entry n) (vlans_of l) missing);
            in_range = added_in_range l long range n (few missing) good;
            once = distinct;
          },
        ))

  module _ (vid : ℕ) (present : is_there (vlans_of l) vid ≡ true) where
    clearing_stands : OnlySet l (vlan_erased (found_vlan l vid) l)
        × SettingsStand (vlan_erased (found_vlan l vid) l) (with_vlans (without_entry vid (vlans_of l)) (settings_of l))
    unfolding vlan_erased with_vlans without_entry
    clearing_stands =
        searched l range vid
        (λ e f.
        let found = found_there l vid e f in
        let used = found.in_use in
        let same = cleared_is vid (vlans_of l) e once (omega (arith, used, vlans_length l range.vlan_count_law)) (vid_there e used ∙ found.has_vid) in
        rw f (
          cleared_alone l long range e used,
          record {
            says = vlan_cleared_law l e long used range.vlan_count_law ∙ ap (λ (vs : List Vlan). with_vlans vs (settings_of l)) same;
            in_range = cleared_in_range l long range e used;
            once = distinct_cleared _ (vlans_of l) once;
          },
        ))
        (λ f. absurd (true≢false (sym present ∙ found_nowhere l vid f)))

-- ---- the calls

vlan_allowed : (b : Bool) (n : VlanNumbers) → first (vlan_lines b n) ≡ none → (vlan_in_range n ≡ true) × (b ≡ false)
unfolding vlan_lines
vlan_allowed b n e = let fails = holds_none _ e in (not-false (vlan_in_range n) (each_first fails), each_first (each_rest fails))

clear_vlan_allowed : (b : Bool) (vid : ℕ) → first (clear_vlan_lines b vid) ≡ none → b ≡ true
unfolding clear_vlan_lines
clear_vlan_allowed b vid e = not-false b (each_first (each_rest (holds_none _ e)))

pub vlan_follows : (n : VlanNumbers) → CallFollows (vlan n)
unfolding run vlan_call vlan_refusals lines_of carry_out settings_of
vlan_follows n m s S buffer handed =
    let l = m.links in
    let range = S.settings.in_range in
    let says = S.settings.says in
    let listed : vlans_of l ≡ s.core.settings.vlans = ap (λ (x : Settings). x.vlans) says in
    let left : Calls.no_entry_left (found_vlan l n.vid) l ≡ no_entry_left s.core.settings.vlans n.vid =
    none_left_is l range n.vid ∙ ap (λ (vs : List Vlan). no_entry_left vs n.vid) listed in
    setting_follows m s S (vlan n) buffer (first (vlan_refusals l n))
    (lines_between (vlan_lines _ n) S.links_fit_law (undamaged l range n.vid) ∙ ap (λ (b : Bool). first (vlan_lines b n)) left)
    (vlan_written (found_vlan l n.vid) l n)
    (with_vlans (with_entry (vlan_entry n) (vlans_of l)) (settings_of l))
    (ap (λ (x : Settings). settle s (with_vlans (with_entry (vlan_entry n) x.vlans) x)) (sym says))
    (λ e.
    let allowed = vlan_allowed _ n e in
    entry_stands l (links_long m s S) range (rw listed S.settings.once) n allowed.0 (rw listed allowed.1))

pub clear_vlan_follows : (vid : ℕ) → CallFollows (clear_vlan vid)
unfolding run clear_vlan_call clear_vlan_refusals lines_of carry_out settings_of
clear_vlan_follows vid m s S buffer handed =
    let l = m.links in
    let range = S.settings.in_range in
    let says = S.settings.says in
    let listed : vlans_of l ≡ s.core.settings.vlans = ap (λ (x : Settings). x.vlans) says in
    let present : there (found_vlan l vid) ≡ is_there s.core.settings.vlans vid =
    there_is l range vid ∙ ap (λ (vs : List Vlan). is_there vs vid) listed in
    setting_follows m s S (clear_vlan vid) buffer (first (clear_vlan_refusals l vid))
    (lines_between (clear_vlan_lines _ vid) S.links_fit_law (undamaged l range vid) ∙ ap (λ (b : Bool). first (clear_vlan_lines b vid)) present)
    (vlan_erased (found_vlan l vid) l)
    (with_vlans (without_entry vid (vlans_of l)) (settings_of l))
    (ap (λ (x : Settings). settle s (with_vlans (without_entry vid x.vlans) x)) (sym says))
    (λ e. clearing_stands l (links_long m s S) range (rw listed S.settings.once) vid (rw listed (clear_vlan_allowed _ vid e)))
