-- The words of a fresh switch's link memory are in range and say the fresh settings. Assumes nothing.
use Prim.Native.Nat.{ℕ, zero, suc, ◌+◌, ◌/◌, ◌^◌, ◌≤◌, ◌<◌}
use mathlib.Core.Path.{◌≡◌, refl, ap, ◌∙◌, fun_ext}
use mathlib.Core.Bool.{true, false}
use mathlib.Core.List.{[], ◌∷◌}
use native.Mathlib.Decide.{dec_lt}
use native.Mathlib.Omega.{arith}
use lib.Dec.{leb}
use lib.Pow.{pow_pos, pow_mono, shr_lt}
use lib.ListN.{get_or}
use borrow.Author.Tests.{lt-ltb, le-ltb, lt-leb}
use Rattle.rules.specs.Settings.{no_operation}
use Rattle.rules.specs.Arguments.{kind_of, type_of, source_of, state_of, bit, is_vid, operation_in_range, operation_of, port_in_range, port_of, vlan_in_range, vlan_entry}
use Rattle.machine.specs.History.{fresh_settings}
use Rattle.machine.specs.History as Machine
use Rattle.layout.specs.Places.{free_count_word, first_free_word, vlan_operation_word}
use Rattle.settings.specs.Operations.{operation_word, operation_in}
use Rattle.settings.specs.Ports.{port_in, vlan_in}
use Rattle.settings.specs.Ports as Packed
use Rattle.settings.specs.Maps.{bpdu_in}
use Rattle.settings.specs.Fresh.{fresh_map, fresh_switches, fresh_states}
use Rattle.settings.proofs.RangeLaws.{port_range, vlan_range}
use Rattle.settings.proofs.OperationLaws.{range_good}
use Rattle.settings.proofs.PortLaws.{port_word_good, vlan_word_good}
use Rattle.settings.proofs.FreshLaws.{fresh_map_law, fresh_switches_law, fresh_switches_good, fresh_states_law}
use Rattle.settings.specs.Records.{states_at, port_at, vlan_at}
use Rattle.settings.specs.Table.{vlan_count, entry_at}
use Rattle.settings.specs.SettingsOf.{fresh_operation, fresh_port, fresh_vlan, ports_of, queues_of, switch_of, switches_of, map_at, switches_at, vlans_from, vlans_of, settings_of}
use Rattle.fresh_call.specs.Words.{copies, fresh_front, fresh_switch, fresh_vlans, fresh_links}
use Rattle.fresh_call.proofs.WordLaws.{fresh_table, fresh_own, fresh_operation_law}
use Rattle.standing.specs.Stands.{SettingsInRange}

-- ---- the numbers of ports and PCPs, one by one

below_five : (P : ℕ → Type 0) → P 0 → P 1 → P 2 → P 3 → P 4 → (p : ℕ) → p < 5 → P p
below_five P a b c d e zero h = a
below_five P a b c d e (suc zero) h = b
below_five P a b c d e (suc (suc zero)) h = c
below_five P a b c d e (suc (suc (suc zero))) h = d
below_five P a b c d e (suc (suc (suc (suc zero)))) h = e
below_five P a b c d e (suc (suc (suc (suc (suc p))))) h = absurd (omega arith)

-- ---- word by word

module _ (n : ℕ) where
  pub fresh_count : get_or (fresh_links n) 0 0 ≡ n
  unfolding fresh_links fresh_switch fresh_front
  fresh_count = refl

  pub fresh_free : get_or (fresh_links n) free_count_word 0 ≡ n
  unfolding fresh_links fresh_switch fresh_front
  fresh_free = refl

  pub fresh_first : get_or (fresh_links n) first_free_word 0 ≡ 0
  unfolding fresh_links fresh_switch fresh_front
  fresh_first = refl

  map_is : map_at (fresh_links n) ≡ fresh_map
  unfolding fresh_links fresh_switch fresh_front
  map_is = refl

  switches_are : switches_at (fresh_links n) ≡ fresh_switches
  unfolding fresh_links fresh_switch fresh_front
  switches_are = refl

  states_are : states_at (fresh_links n) ≡ fresh_states
  unfolding fresh_links fresh_switch fresh_front copies
  states_are = refl

  fresh_vlan_count : vlan_count (fresh_links n) ≡ 1
  unfolding fresh_links fresh_switch fresh_front
  fresh_vlan_count = refl

  -- VLAN entry 0
  entry_is_law : entry_at (fresh_links n) 0 ≡ Packed.vlan_word fresh_vlan
  unfolding fresh_vlans
  entry_is_law = fresh_table n 0 (omega arith)

  entry_operation_is : get_or (fresh_links n) (vlan_operation_word 0) 0 ≡ operation_word fresh_vlan.operation
  unfolding fresh_vlans
  entry_operation_is = fresh_table n 1 (omega arith)

  fresh_port_at : (p : ℕ) → p < 5 → port_at (fresh_links n) p ≡ fresh_port
  unfolding port_in operation_in fresh_port fresh_operation
  fresh_port_at p h = rw (states_are, fresh_own n p h, fresh_operation_law n p h, fresh_states_law.1 p h)

  fresh_vlan_at : vlan_at (fresh_links n) 0 ≡ fresh_vlan
  unfolding vlan_in operation_in fresh_vlan fresh_operation
  fresh_vlan_at = rw (entry_is_law, entry_operation_is)

-- ---- masks

shifted_out : (m p : ℕ) → m < 2 ^ p → m / 2 ^ p ≡ 0
shifted_out m p h =
    let all : 0 + p ≡ p = omega arith in
    let small : m / 2 ^ p < 2 ^ 0 = shr_lt 0 p (rw all h) in omega arith

high_bit : (m p : ℕ) → m < 2 ^ 5 → 5 ≤ p → bit m p ≡ false
unfolding bit
high_bit m p h five = let more : 2 ^ 5 ≤ 2 ^ p = pow_mono five in rw (shifted_out m p (omega arith))

no_flags : bit 0 ≡ (λ t. false)
unfolding bit
no_flags = fun_ext (λ t. rw (shifted_out 0 t (pow_pos t)))

all_members : bit 31 ≡ (λ p. leb p 4)
unfolding bit
all_members =
    fun_ext
    (λ p. elim (dec_lt p 5) as (λ _. bit 31 p ≡ leb p 4) [
      | yes h ↦ below_five (λ (p : ℕ). bit 31 p ≡ leb p 4) refl refl refl refl refl p h
      | no h ↦ let past : 4 < p = omega arith in rw (lt-leb p 4 past) (high_bit 31 p (omega arith) (omega arith))
    ])

-- ---- what they say

fresh_operation_is : operation_of fresh_operation ≡ no_operation
unfolding operation_of fresh_operation no_operation kind_of type_of source_of
fresh_operation_is = refl

fresh_port_is : port_of fresh_port ≡ Machine.fresh_port
unfolding port_of fresh_port Machine.fresh_port state_of
fresh_port_is = rw (no_flags, fresh_operation_is)

fresh_vlan_is : vlan_entry fresh_vlan ≡ Machine.fresh_vlan
unfolding vlan_entry fresh_vlan Machine.fresh_vlan
fresh_vlan_is = rw (all_members, fresh_operation_is)

module _ (n : ℕ) where
  ports_say : ports_of (fresh_links n) ≡ (λ p. Machine.fresh_port)
  unfolding ports_of
  ports_say =
      fun_ext
      (λ p. elim (dec_lt p 5) as (λ _. ports_of (fresh_links n) p ≡ Machine.fresh_port) [
        | yes h ↦ rw (lt-ltb p 5 h) (ap port_of (fresh_port_at n p h) ∙ fresh_port_is)
        | no h ↦ let past : 5 ≤ p = omega arith in rw (le-ltb p 5 past) fresh_port_is
      ])

  queues_say : queues_of (map_at (fresh_links n)) ≡ (λ pcp. pcp / 2)
  unfolding queues_of
  queues_say =
      rw (map_is n)
      (fun_ext
      (λ pcp. elim (dec_lt pcp 8) as (λ _. queues_of fresh_map pcp ≡ pcp / 2) [
        | yes h ↦ rw (lt-ltb pcp 8 h) (fresh_map_law.2 pcp h)
        | no h ↦ let past : 8 ≤ pcp = omega arith in rw (le-ltb pcp 8 past)
      ]))

  switches_say : switches_of (switches_at (fresh_links n)) ≡ (λ p q. true)
  unfolding switches_of switch_of
  switches_say =
      rw (switches_are n)
      (fun_ext
      (λ p. elim (dec_lt p 5) as (λ _. switches_of fresh_switches p ≡ (λ q. true)) [
        | yes h ↦ rw (lt-ltb p 5 h)
            (fun_ext
            (λ q. elim (dec_lt q 4) as (λ _. switch_of fresh_switches p q ≡ true) [
              | yes k ↦ rw (lt-ltb q 4 k) (fresh_switches_law p q h k)
              | no k ↦ let past : 4 ≤ q = omega arith in rw (le-ltb q 4 past)
            ]))
        | no h ↦ let past : 5 ≤ p = omega arith in rw (le-ltb p 5 past)
      ]))

  bpdu_says : bpdu_in (map_at (fresh_links n)) ≡ true
  bpdu_says = ap bpdu_in (map_is n) ∙ fresh_map_law.1

  vlans_say : vlans_of (fresh_links n) ≡ Machine.fresh_vlan ∷ []
  unfolding vlans_of vlans_from
  vlans_say = rw (fresh_vlan_count n) (ap (◌∷ []) (ap vlan_entry (fresh_vlan_at n) ∙ fresh_vlan_is))

  pub fresh_says : settings_of (fresh_links n) ≡ fresh_settings
  unfolding settings_of fresh_settings
  fresh_says = rw (ports_say, queues_say, switches_say, bpdu_says, vlans_say)

  port_good : port_in_range fresh_port ≡ true
  unfolding port_in_range operation_in_range is_vid fresh_port fresh_operation
  port_good = refl

  vlan_good : vlan_in_range fresh_vlan ≡ true
  unfolding vlan_in_range operation_in_range is_vid fresh_vlan fresh_operation
  vlan_good = refl

  pub fresh_in_range : SettingsInRange (fresh_links n)
  fresh_in_range =
      record {
        map = rw (map_is n) fresh_map_law.0;
        switches = rw (switches_are n) fresh_switches_good;
        states = rw (states_are n) fresh_states_law.0;
        ports = λ p h. rw (fresh_own n p h) (port_word_good fresh_port port_good);
        operations = λ p h. rw (fresh_operation_law n p h) (range_good fresh_port.operation (port_range fresh_port port_good).operation);
        vlan_count_law = omega (arith, fresh_vlan_count n);
        vlans = λ e h. let only : e ≡ 0 = omega (arith, fresh_vlan_count n) in rw only (rw (entry_is_law n) (vlan_word_good fresh_vlan vlan_good));
        vlan_operations = λ e h.
            let only : e ≡ 0 = omega (arith, fresh_vlan_count n) in
            rw only (rw (entry_operation_is n) (range_good fresh_vlan.operation (vlan_range fresh_vlan vlan_good).operation));
      }
