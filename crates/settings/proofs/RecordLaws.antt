-- A port and a VLAN entry written are read back, the other words are kept, and alike words say the same.
-- Assumes nothing.
use Rattle.std.proofs.Common.{◌≡◌, ℕ, ◌<◌, ◌≤◌, true, List, length, get_or, arith}
use Rattle.std.proofs.lemmas.Grind.{common_steps}
use Rattle.std.proofs.lemmas.List.Edits.{sets}
use Rattle.rules.specs.Arguments.{PortNumbers, port_in_range, VlanNumbers, vlan_in_range}
use Rattle.layout.specs.Places.{fixed_words, states_word, port_word, port_operation_word, vlan_word, vlan_operation_word}
use Rattle.settings.specs.Operations.{operation_word}
use Rattle.settings.specs.Ports as Packed
use Rattle.settings.specs.States.{with_state}
use Rattle.settings.proofs.SettingLaws.{port_words_back, other_port_kept, vlan_words_back}
use Rattle.settings.specs.Records.{states_at, port_at, vlan_at, vlan_words, port_written}

-- ---- alike words

module _ (l m : List ℕ) where
  pub port_alike :
      (p : ℕ) → states_at m ≡ states_at l → get_or m (port_word p) 0 ≡ get_or l (port_word p) 0
      → get_or m (port_operation_word p) 0 ≡ get_or l (port_operation_word p) 0 → port_at m p ≡ port_at l p
  port_alike p s w o = cc

  pub vlan_alike :
      (e f : ℕ) → get_or m (vlan_word e) 0 ≡ get_or l (vlan_word f) 0
      → get_or m (vlan_operation_word e) 0 ≡ get_or l (vlan_operation_word f) 0
      → vlan_at m e ≡ vlan_at l f
  vlan_alike e f w o = cc

-- ---- a port

module _ (l : List ℕ) (p : ℕ) (n : PortNumbers) where
  pub port_length : length (port_written l p n) ≡ length l
  unfolding port_written
  port_length = grind (arith, common_steps)

  -- the words that are not written
  pub port_keeps :
      (w : ℕ) → (w ≡ states_word → ⊥) → (w ≡ port_word p → ⊥) → (w ≡ port_operation_word p → ⊥)
      → get_or (port_written l p n) w 0 ≡ get_or l w 0
  unfolding port_written
  port_keeps w s h o = grind (arith, common_steps)

  module _ (long : fixed_words ≤ length l) (h : p < 5) where
    pub states_written : states_at (port_written l p n) ≡ with_state (states_at l) p n.state
    unfolding port_written
    states_written = grind (arith, common_steps)

    pub own_written : get_or (port_written l p n) (port_word p) 0 ≡ Packed.port_word n
    unfolding port_written
    own_written = grind (arith, common_steps)

    pub operation_written : get_or (port_written l p n) (port_operation_word p) 0 ≡ operation_word n.operation
    unfolding port_written
    operation_written = grind (arith, common_steps)

    pub port_read_back : port_in_range n ≡ true → port_at (port_written l p n) p ≡ n
    port_read_back good = rw (states_written, own_written, operation_written) (port_words_back (states_at l) p n h good)

    pub port_elsewhere : (j : ℕ) → j < 5 → (j ≡ p → ⊥) → port_at (port_written l p n) j ≡ port_at l j
    port_elsewhere j k o = grind (arith, common_steps, states_written, port_keeps, other_port_kept)

-- ---- a VLAN entry

module _ (l : List ℕ) (e : ℕ) (n : VlanNumbers) (long : fixed_words ≤ length l) (h : e < 16) where
  pub vlan_written_law : get_or (sets l (vlan_word e) (vlan_words n)) (vlan_word e) 0 ≡ Packed.vlan_word n
  vlan_written_law = grind (arith, common_steps)

  pub vlan_operation_written :
      get_or (sets l (vlan_word e) (vlan_words n)) (vlan_operation_word e) 0 ≡ operation_word n.operation
  vlan_operation_written = grind (arith, common_steps)

  pub vlan_read_back : vlan_in_range n ≡ true → vlan_at (sets l (vlan_word e) (vlan_words n)) e ≡ n
  vlan_read_back good = rw (vlan_written_law, vlan_operation_written) (vlan_words_back n good)
