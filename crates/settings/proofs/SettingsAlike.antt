-- The settings by the words that they are made of: alike words give alike settings. Assumes nothing.
use Rattle.std.proofs.Common.{◌≡◌, ℕ, ◌<◌, ◌≤◌, true, List, get_or, arith}
use Rattle.std.proofs.lemmas.Bool.Decides.{nat_tests}
use mathlib.Core.Path.{fun_ext}
use Rattle.rules.specs.Choice.{changed}
use Rattle.rules.specs.Arguments.{port_of}
use Rattle.layout.specs.Places.{port_record, free_count_word, first_free_word, states_word, port_word, port_operation_word, vlan_word, vlan_operation_word, map_word, switches_word, vlan_count_word}
use Rattle.settings.specs.Records.{states_at, port_at, vlan_at}
use Rattle.settings.proofs.TableLaws.{same_vlans}
use Rattle.settings.specs.SettingsOf.{fresh_port, ports_of, switch_of, switches_of, settings_of}

-- ---- a function changed at one number

pub changed_is : {A : Type 0} (i : ℕ) (a : A) (f g : ℕ → A) → g i ≡ a → ((j : ℕ) → (j ≡ i → ⊥) → g j ≡ f j) → g ≡ changed i a f
unfolding changed
changed_is i a f g here there = fun_ext (λ j. grind (arith, nat_tests, there j))

-- ---- each part by the words that it is made of

module _ (l : List ℕ) (port : ℕ) where
  pub port_there : port < 5 → ports_of l port ≡ port_of (port_at l port)
  unfolding ports_of
  port_there h = grind (arith, nat_tests)

  pub port_past : 5 ≤ port → ports_of l port ≡ port_of fresh_port
  unfolding ports_of
  port_past h = grind (arith, nat_tests)

module _ (word port : ℕ) where
  pub switches_there : port < 5 → switches_of word port ≡ switch_of word port
  unfolding switches_of
  switches_there h = grind (arith, nat_tests)

  pub switches_past : 5 ≤ port → switches_of word port ≡ (λ queue. true)
  unfolding switches_of
  switches_past h = grind (arith, nat_tests)

module _ (l m : List ℕ) where
  pub ports_alike :
      states_at m ≡ states_at l → ((p : ℕ) → p < 5 → get_or m (port_word p) 0 ≡ get_or l (port_word p) 0)
      → ((p : ℕ) → p < 5 → get_or m (port_operation_word p) 0 ≡ get_or l (port_operation_word p) 0) → ports_of m ≡ ports_of l
  unfolding ports_of
  ports_alike states own operation = fun_ext (λ p. grind (arith, nat_tests, own p, operation p))

-- ---- the words of the settings: those below the rings' but for the free cells' two, and two of each port's record

pub record SettingWords (l m : List ℕ) : Type 0 where
  pub word : (w : ℕ) → w < port_record 0 → (w ≡ free_count_word → ⊥) → (w ≡ first_free_word → ⊥) → get_or m w 0 ≡ get_or l w 0
  pub own : (p : ℕ) → p < 5 → get_or m (port_word p) 0 ≡ get_or l (port_word p) 0
  pub operation : (p : ℕ) → p < 5 → get_or m (port_operation_word p) 0 ≡ get_or l (port_operation_word p) 0

module _ {l m : List ℕ} (same : SettingWords l m) where
  pub vlan_same : (e : ℕ) → e < 16 → vlan_at m e ≡ vlan_at l e
  vlan_same e h = grind (arith, same.word (vlan_word e), same.word (vlan_operation_word e))

  pub settings_alike : settings_of m ≡ settings_of l
  unfolding settings_of
  settings_alike =
      grind (arith, ports_alike l m, same.own, same.operation, same_vlans l m, vlan_same, same.word states_word, same.word vlan_count_word, same.word map_word, same.word switches_word)
