-- The three writes of the VLAN table: they write settings alone, and what they leave is in range. Assumes nothing.
use Prim.Native.Nat.{ℕ, ◌+◌, ◌-◌, ◌≤◌, ◌<◌}
use mathlib.Core.Path.{◌≡◌, ◌∙◌}
use mathlib.Core.Bool.{true}
use mathlib.Core.List.{List, [], ◌∷◌, ◌++◌}
use native.Mathlib.Decide.{dec_lt}
use native.Mathlib.Omega.{arith}
use borrow.Author.Tests.{eqb-true, eqb-false}
use lib.Dec.{eqb}
use lib.ListN.{length, get_or, replicate}
use lib.Seq.{sets, length-sets}
use Rattle.slices.proofs.Runs.{get_d_sets_before, get_d_sets_after}
use Rattle.rules.specs.Arguments.{VlanNumbers, vlan_in_range}
use Rattle.rules.proofs.Choice.{on}
use Rattle.layout.specs.Places.{fixed_words, map_word, switches_word, states_word, port_record, port_word, port_operation_word, vlan_count_word, vlan_word, vlan_operation_word}
use Rattle.settings.specs.Operations.{is_operation_word}
use Rattle.settings.specs.Ports.{is_vid_word}
use Rattle.settings.proofs.RangeLaws.{vlan_range}
use Rattle.settings.proofs.OperationLaws.{range_good}
use Rattle.settings.proofs.PortLaws.{vlan_word_good}
use Rattle.settings.specs.Records.{vlan_words, states_at, port_operation_at}
use Rattle.settings.proofs.RecordLaws.{vlan_written_law, vlan_operation_written}
use Rattle.settings.specs.Table.{vlan_count, entry_at, later_words, added_vlan, cleared_vlan}
use Rattle.settings.proofs.TableLaws.{count_kept, count_set, run_length, moved_word}
use Rattle.settings.specs.SettingsOf.{map_at, switches_at}
use Rattle.settings.proofs.EntryWords.{SameEntry, same_before, same_after, other_entry}
use Rattle.standing.specs.Stands.{SettingsInRange}
use Rattle.standing.proofs.Settled.{OnlySet, set_behind, set_then}

-- ---- an entry in range

record Entry (l : List ℕ) (e : ℕ) : Type 0 where
  own : is_vid_word (entry_at l e) ≡ true
  operation : is_operation_word (get_or l (vlan_operation_word e) 0) ≡ true

entry_from : {l m : List ℕ} {e f : ℕ} → SameEntry l m e f → Entry l f → Entry m e
entry_from same good = record { own = rw same.own good.own; operation = rw same.operation good.operation }

-- ---- the settings beside the table

record Beside (l m : List ℕ) : Type 0 where
  map : map_at m ≡ map_at l
  switches : switches_at m ≡ switches_at l
  states : states_at m ≡ states_at l
  own : (p : ℕ) → get_or m (port_word p) 0 ≡ get_or l (port_word p) 0
  operation : (p : ℕ) → port_operation_at m p ≡ port_operation_at l p

beside_then : {l m n : List ℕ} → Beside l m → Beside m n → Beside l n
beside_then a b =
    record {
      map = b.map ∙ a.map;
      switches = b.switches ∙ a.switches;
      states = b.states ∙ a.states;
      own = λ p. b.own p ∙ a.own p;
      operation = λ p. b.operation p ∙ a.operation p;
    }

beside_run : (l : List ℕ) (at : ℕ) (ws : List ℕ) → vlan_word 0 ≤ at → at + length ws ≤ port_record 0 → Beside l (sets l at ws)
beside_run l at ws h k =
    record {
      map = get_d_sets_before l at ws map_word 0 (omega arith);
      switches = get_d_sets_before l at ws switches_word 0 (omega arith);
      states = get_d_sets_before l at ws states_word 0 (omega arith);
      own = λ p. get_d_sets_after l at ws (port_word p) 0 (omega arith);
      operation = λ p. get_d_sets_after l at ws (port_operation_word p) 0 (omega arith);
    }

beside_count : (l : List ℕ) (count : ℕ) → Beside l (sets l vlan_count_word (count ∷ []))
beside_count l count =
    let ws = count ∷ [] in
    record {
      map = get_d_sets_before l vlan_count_word ws map_word 0 (omega arith);
      switches = get_d_sets_before l vlan_count_word ws switches_word 0 (omega arith);
      states = get_d_sets_after l vlan_count_word ws states_word 0 (omega arith);
      own = λ p. get_d_sets_after l vlan_count_word ws (port_word p) 0 (omega arith);
      operation = λ p. get_d_sets_after l vlan_count_word ws (port_operation_word p) 0 (omega arith);
    }

-- a table in range beside settings in range that are kept
table_in_range : {l m : List ℕ} → SettingsInRange l → Beside l m → vlan_count m ≤ 16 → ((e : ℕ) → e < vlan_count m → Entry m e) → SettingsInRange m
table_in_range range same few good =
    record {
      map = rw same.map range.map;
      switches = rw same.switches range.switches;
      states = rw same.states range.states;
      ports = λ p h. rw (same.own p) (range.ports p h);
      operations = λ p h. rw (same.operation p) (range.operations p h);
      vlan_count_law = few;
      vlans = λ e h. (good e h).own;
      vlan_operations = λ e h. (good e h).operation;
    }

module _ (l : List ℕ) (long : fixed_words ≤ length l) (range : SettingsInRange l) where
  there : (e : ℕ) → e < vlan_count l → Entry l e
  there e h = record { own = range.vlans e h; operation = range.vlan_operations e h }

  entry_written : (e : ℕ) (n : VlanNumbers) → e < 16 → vlan_in_range n ≡ true → Entry (sets l (vlan_word e) (vlan_words n)) e
  entry_written e n h good =
      record {
        own = rw (vlan_written_law l e n long h) (vlan_word_good n good);
        operation = rw (vlan_operation_written l e n long h) (range_good n.operation (vlan_range n good).operation);
      }

  -- ---- "setting a VID that is there replaces its entry"

  module _ (e : ℕ) (n : VlanNumbers) (used : e < vlan_count l) where
    pub replaced_alone : OnlySet l (sets l (vlan_word e) (vlan_words n))
    replaced_alone = set_behind l (vlan_word e) (vlan_words n) (omega arith) (omega (arith, range.vlan_count_law))

    pub replaced_in_range : vlan_in_range n ≡ true → SettingsInRange (sets l (vlan_word e) (vlan_words n))
    replaced_in_range good =
        let few : e < 16 = omega (arith, range.vlan_count_law) in
        table_in_range range (beside_run l (vlan_word e) (vlan_words n) (omega arith) (omega arith))
        (rw (count_kept l e n long) range.vlan_count_law)
        (λ i h. on (eqb i e)
        (λ same. rw (eqb-true i e same) (entry_written e n few good))
        (λ other. entry_from (other_entry l e n i (eqb-false i e other)) (there i (omega (arith, count_kept l e n long)))))

  -- the count is set behind a run in the table
  module _ (e : ℕ) (ws : List ℕ) (count : ℕ) (ends : vlan_word e + length ws ≤ port_record 0) where
    counted_alone : OnlySet l (sets (sets l (vlan_word e) ws) vlan_count_word (count ∷ []))
    counted_alone =
        set_then (set_behind l (vlan_word e) ws (omega arith) ends)
        (set_behind (sets l (vlan_word e) ws) vlan_count_word (count ∷ []) (omega arith) (omega arith))

    counted_in_range : count ≤ 16 → ((i : ℕ) → i < count → Entry (sets l (vlan_word e) ws) i)
        → SettingsInRange (sets (sets l (vlan_word e) ws) vlan_count_word (count ∷ []))
    counted_in_range few good =
        let table = sets l (vlan_word e) ws in
        let size : fixed_words ≤ length table = omega (arith, length-sets l (vlan_word e) ws) in
        table_in_range range (beside_then (beside_run l (vlan_word e) ws (omega arith) ends) (beside_count table count))
        (rw (count_set table count size) few)
        (λ i h. entry_from (same_after table vlan_count_word (count ∷ []) i (omega arith)) (good i (omega (arith, count_set table count size))))

  -- ---- "a new VID takes the next entry"

  module _ (n : VlanNumbers) (few : vlan_count l < 16) where
    ends_added : vlan_word (vlan_count l) + length (vlan_words n) ≤ port_record 0
    ends_added = omega arith

    pub added_alone : OnlySet l (added_vlan l n)
    unfolding added_vlan
    added_alone = counted_alone (vlan_count l) (vlan_words n) (vlan_count l + 1) ends_added

    pub added_in_range : vlan_in_range n ≡ true → SettingsInRange (added_vlan l n)
    unfolding added_vlan
    added_in_range good =
        let c = vlan_count l in
        counted_in_range c (vlan_words n) (c + 1) ends_added (omega arith)
        (λ i h. on (eqb i c)
        (λ same. rw (eqb-true i c same) (entry_written c n few good))
        (λ other. entry_from (other_entry l c n i (eqb-false i c other)) (there i (below i c h (eqb-false i c other)))))
      where
        below : (i c : ℕ) → i < c + 1 → (i ≡ c → ⊥) → i < c
        below i c h other = elim (dec_lt i c) as (λ _. i < c) [ yes k ↦ k | no k ↦ absurd (other (omega arith)) ]

  -- ---- "clearing one moves each later entry one down"

  module _ (e : ℕ) (used : e < vlan_count l) where
    ends_cleared : vlan_word e + length (later_words l e ++ replicate 2 0) ≤ port_record 0
    ends_cleared = omega (arith, run_length l e long used range.vlan_count_law, range.vlan_count_law)

    pub cleared_alone : OnlySet l (cleared_vlan l e)
    unfolding cleared_vlan
    cleared_alone = counted_alone e (later_words l e ++ replicate 2 0) (vlan_count l - 1) ends_cleared

    moved : (i : ℕ) → i < vlan_count l - 1 - e → SameEntry l (sets l (vlan_word e) (later_words l e ++ replicate 2 0)) (e + i) (e + 1 + i)
    moved i h =
        let word = moved_word l e long used range.vlan_count_law i in
        let own : vlan_word (e + i) + 0 ≡ vlan_word (e + i) = omega arith in
        let own' : vlan_word (e + 1 + i) + 0 ≡ vlan_word (e + 1 + i) = omega arith in
        let operation : vlan_word (e + i) + 1 ≡ vlan_operation_word (e + i) = omega arith in
        let operation' : vlan_word (e + 1 + i) + 1 ≡ vlan_operation_word (e + 1 + i) = omega arith in
        record { own = rw (own, own') at (word 0 h (omega arith)); operation = rw (operation, operation') at (word 1 h (omega arith)) }

    pub cleared_in_range : SettingsInRange (cleared_vlan l e)
    unfolding cleared_vlan
    cleared_in_range =
        let c = vlan_count l in
        let ws = later_words l e ++ replicate 2 0 in
        counted_in_range e ws (c - 1) ends_cleared (omega (arith, range.vlan_count_law))
        (λ i h. elim (dec_lt i e) as (λ _. Entry (sets l (vlan_word e) ws) i) [
          | yes k ↦ entry_from (same_before l (vlan_word e) ws i (omega arith)) (there i (omega arith))
          | no k ↦
              let place : e + (i - e) ≡ i = omega arith in
              let entry : SameEntry l (sets l (vlan_word e) ws) i (e + 1 + (i - e)) = rw place at (moved (i - e) (omega arith)) in
              entry_from entry (there (e + 1 + (i - e)) (omega arith))
        ])
