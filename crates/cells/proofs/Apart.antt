-- Taking, giving back and setting ports touch no queue, no setting and no counter. Assumes nothing.
use mathlib.Core.List.{List}
use Prim.Native.Nat.{ℕ}
use native.Mathlib.Omega.{arith}
use lib.ListN.{set}
use Rattle.layout.specs.Places.{waiting_word, oldest_word, youngest_word, behind_word, frame_word}
use Rattle.layout.specs.Same.{SettingsSame, QueuesSame}
use Rattle.layout.proofs.Stores.{settings_store, queues_store, frame_elsewhere}
use Rattle.cells.specs.Free.{taken, given_back}
use Rattle.cells.proofs.Words.{taken_word, given_word}

module _ (n k ports : ℕ) (l : List ℕ) where
  pub taken_settings : SettingsSame l (taken n k ports l)
  taken_settings =
      record {
        word = λ w h f g. taken_word n k ports l w f g (λ e. omega arith);
        record_word = λ p j hp hj. taken_word n k ports l _ (λ e. omega arith) (λ e. omega arith) (λ e. omega arith);
      }

  pub taken_queues : QueuesSame l (taken n k ports l)
  taken_queues =
      record {
        waiting = λ p hp. taken_word n k ports l (waiting_word p) (λ e. omega arith) (λ e. omega arith) (λ e. omega arith);
        oldest = λ p q hp hq. taken_word n k ports l (oldest_word p q) (λ e. omega arith) (λ e. omega arith) (λ e. omega arith);
        youngest = λ p q hp hq. taken_word n k ports l (youngest_word p q) (λ e. omega arith) (λ e. omega arith) (λ e. omega arith);
        behind = λ p d hp. taken_word n k ports l (behind_word p d) (λ e. omega arith) (λ e. omega arith) (λ e. omega arith);
      }

module _ (n c : ℕ) (l : List ℕ) where
  pub given_settings : SettingsSame l (given_back n c l)
  given_settings =
      record {
        word = λ w h f g. given_word n c l w (λ e. omega arith) f g (λ e. omega arith);
        record_word = λ p j hp hj. given_word n c l _ (λ e. omega arith) (λ e. omega arith) (λ e. omega arith) (λ e. omega arith);
      }

  pub given_queues : QueuesSame l (given_back n c l)
  given_queues =
      record {
        waiting = λ p hp. given_word n c l (waiting_word p) (λ e. omega arith) (λ e. omega arith) (λ e. omega arith) (λ e. omega arith);
        oldest = λ p q hp hq. given_word n c l (oldest_word p q) (λ e. omega arith) (λ e. omega arith) (λ e. omega arith) (λ e. omega arith);
        youngest = λ p q hp hq. given_word n c l (youngest_word p q) (λ e. omega arith) (λ e. omega arith) (λ e. omega arith) (λ e. omega arith);
        behind = λ p d hp. given_word n c l (behind_word p d) (λ e. omega arith) (λ e. omega arith) (λ e. omega arith) (λ e. omega arith);
      }

module _ (c : ℕ) (l : List ℕ) where
  pub ports_settings : (word : ℕ) → SettingsSame l (set l (frame_word c) word)
  ports_settings word = settings_store l (frame_word c) word (omega arith) (λ p k hp hk e. omega arith)

  pub ports_queues : (word : ℕ) → QueuesSame l (set l (frame_word c) word)
  ports_queues word = queues_store l (frame_word c) word (frame_elsewhere c)
