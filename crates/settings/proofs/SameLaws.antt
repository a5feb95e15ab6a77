-- Settings and counters beside the rest of link memory: what a write of either leaves alone, and what leaves both alone. Assumes nothing.
use Rattle.std.proofs.Common.{◌≡◌, ℕ, ◌+◌, ◌<◌, ◌≤◌, List, length, arith}
use Rattle.std.proofs.lemmas.List.Edits.{sets}
use Rattle.slices.proofs.Runs.{get_d_sets_before, get_d_sets_after}
use Rattle.rules.specs.Arguments.{PortNumbers}
use Rattle.layout.specs.Places.{fixed_words, free_count_word, first_free_word, port_record, counter_word, port_word, port_operation_word}
use Rattle.layout.specs.Same.{SettingsSame, CellsSame, QueuesSame}
use Rattle.layout.specs.Counters.{counter_at}
use Rattle.settings.specs.Records.{port_written}
use Rattle.settings.proofs.RecordLaws.{port_keeps}
use Rattle.settings.proofs.SettingsAlike.{SettingWords}

-- what a write of cells or queues leaves: the settings and the counters
module _ {l m : List ℕ} (same : SettingsSame l m) where
  pub same_words : SettingWords l m
  same_words =
      record {
        word = λ w h f g. same.word w h f g;
        own = λ p h. let at : counter_word p 32 ≡ port_word p = omega arith in rw at at (same.record_word p 32 h (omega arith));
        operation = λ p h. let at : counter_word p 33 ≡ port_operation_word p = omega arith in rw at at (same.record_word p 33 h (omega arith));
      }

  pub same_counters : (port number : ℕ) → port < 5 → number < 32 → counter_at m port number ≡ counter_at l port number
  same_counters port number hp hn = same.record_word port number hp (omega arith)

-- ---- what a write of settings leaves: the cells and the queues

module _ (l : List ℕ) (at : ℕ) (ws : List ℕ) where
  pub queues_kept : at + length ws ≤ port_record 0 → QueuesSame l (sets l at ws)
  queues_kept h =
      record {
        waiting = λ p hp. grind (arith, get_d_sets_after {A = ℕ});
        oldest = λ p q hp hq. grind (arith, get_d_sets_after {A = ℕ});
        youngest = λ p q hp hq. grind (arith, get_d_sets_after {A = ℕ});
        behind = λ p c hp. grind (arith, get_d_sets_after {A = ℕ});
      }

  -- a write that ends before the free cells' words, or starts behind them
  pub cells_kept_after : at + length ws ≤ free_count_word → CellsSame l (sets l at ws)
  cells_kept_after h =
      record {
        free_count = grind (arith, get_d_sets_after {A = ℕ});
        first_free = grind (arith, get_d_sets_after {A = ℕ});
        next = λ c. grind (arith, get_d_sets_after {A = ℕ});
        frame = λ c. grind (arith, get_d_sets_after {A = ℕ});
      }

  pub cells_kept_before : first_free_word < at → at + length ws ≤ fixed_words → CellsSame l (sets l at ws)
  cells_kept_before h k =
      record {
        free_count = grind (arith, get_d_sets_before {A = ℕ});
        first_free = grind (arith, get_d_sets_before {A = ℕ});
        next = λ c. grind (arith, get_d_sets_after {A = ℕ});
        frame = λ c. grind (arith, get_d_sets_after {A = ℕ});
      }

-- a port's settings
module _ (l : List ℕ) (p : ℕ) (n : PortNumbers) (h : p < 5) where
  pub port_keeps_queues : QueuesSame l (port_written l p n)
  port_keeps_queues =
      record {
        waiting = λ r hr. grind (arith, port_keeps);
        oldest = λ r q hr hq. grind (arith, port_keeps);
        youngest = λ r q hr hq. grind (arith, port_keeps);
        behind = λ r c hr. grind (arith, port_keeps);
      }

  pub port_keeps_cells : CellsSame l (port_written l p n)
  port_keeps_cells =
      record {
        free_count = grind (arith, port_keeps);
        first_free = grind (arith, port_keeps);
        next = λ c. grind (arith, port_keeps);
        frame = λ c. grind (arith, port_keeps);
      }
