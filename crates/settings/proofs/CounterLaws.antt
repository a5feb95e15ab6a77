-- Counters: one is bumped, the others and the settings are kept, and no write of a setting touches one. Assumes nothing.
use Rattle.std.proofs.Common.{◌≡◌, ℕ, ◌+◌, ◌<◌, ◌≤◌, List, length, set, arith}
use Rattle.std.proofs.lemmas.Grind.{common_steps}
use Rattle.std.proofs.lemmas.List.Edits.{sets}
use Rattle.slices.proofs.Runs.{get_d_sets_after}
use Rattle.rules.specs.Arguments.{PortNumbers}
use Rattle.layout.specs.Places.{fixed_words, port_record, counter_word}
pub use Rattle.layout.specs.Counters.{counter_at}
use Rattle.settings.specs.Records.{port_written}
use Rattle.settings.proofs.RecordLaws.{port_keeps}
use Rattle.settings.proofs.SettingsAlike.{SettingWords}

module _ (l : List ℕ) (port number value : ℕ) where
  pub counter_set :
      fixed_words ≤ length l → port < 5 → number < 32
      → counter_at (set l (counter_word port number) value) port number ≡ value
  counter_set long hp hn = grind (arith, common_steps)

  pub counter_of_port_kept :
      (other : ℕ) → (other ≡ number → ⊥) → counter_at (set l (counter_word port number) value) port other ≡ counter_at l port other
  counter_of_port_kept other o = grind (arith, common_steps)

  pub counter_elsewhere_kept :
      (other k : ℕ) → (other ≡ port → ⊥) → number < 32 → k < 32
      → counter_at (set l (counter_word port number) value) other k ≡ counter_at l other k
  counter_elsewhere_kept other k o hn hk = grind (arith, common_steps)

  pub counter_keeps_settings : number < 32 → SettingWords l (set l (counter_word port number) value)
  counter_keeps_settings hn =
      record { word = λ w h f g. grind (arith, common_steps); own = λ p h. grind (arith, common_steps); operation = λ p h. grind (arith, common_steps) }

-- the words of the whole switch and of VLAN entries stand before the counters
pub setting_keeps_counters :
    (l : List ℕ) (at : ℕ) (ws : List ℕ) → at + length ws ≤ port_record 0
    → (port number : ℕ) → counter_at (sets l at ws) port number ≡ counter_at l port number
setting_keeps_counters l at ws h port number = grind (arith, get_d_sets_after {A = ℕ})

-- and a port's two words behind its counters
pub port_keeps_counters :
    (l : List ℕ) (p : ℕ) (n : PortNumbers) (port number : ℕ) → number < 32
    → counter_at (port_written l p n) port number ≡ counter_at l port number
port_keeps_counters l p n port number h = grind (arith, port_keeps)
