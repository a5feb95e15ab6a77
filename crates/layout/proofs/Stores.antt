-- Which stores to link memory leave the words of a kind alone: a store to a word that is none of them, and two such stores. Assumes nothing.
use Rattle.std.proofs.Common.{◌≡◌, ℕ, ◌<◌, ◌≤◌, List, set, sym, refl, ◌∙◌, arith, get_or-set_other}
use Rattle.layout.specs.Places.{free_count_word, first_free_word, port_record, counter_word, record_words, waiting_word, oldest_word, youngest_word, next_word, frame_word, behind_word}
use Rattle.layout.specs.Same.{SettingsSame, CellsSame, QueuesSame, Elsewhere, OthersSame}

module _ (l : List ℕ) (w v : ℕ) where
  pub settings_store :
      port_record 0 ≤ w → ((port k : ℕ) → port < 5 → k < record_words → w ≡ counter_word port k → ⊥) → SettingsSame l (set l w v)
  settings_store h apart =
      record {
        word = λ u b f g. get_or-set_other l w u v 0 (λ e. omega arith);
        record_word = λ p k hp hk. get_or-set_other l w (counter_word p k) v 0 (λ e. apart p k hp hk (sym e));
      }

  pub queues_store : Elsewhere w → QueuesSame l (set l w v)
  queues_store else =
      record {
        waiting = λ p hp. get_or-set_other l w (waiting_word p) v 0 (λ e. else.waiting p hp (sym e));
        oldest = λ p q hp hq. get_or-set_other l w (oldest_word p q) v 0 (λ e. else.oldest p q hp hq (sym e));
        youngest = λ p q hp hq. get_or-set_other l w (youngest_word p q) v 0 (λ e. else.youngest p q hp hq (sym e));
        behind = λ p c hp. get_or-set_other l w (behind_word p c) v 0 (λ e. else.behind p c hp (sym e));
      }

-- ---- one write after another

module _ {l m o : List ℕ} where
  pub settings_then : SettingsSame l m → SettingsSame m o → SettingsSame l o
  settings_then a b =
      record {
        word = λ w h f g. b.word w h f g ∙ a.word w h f g;
        record_word = λ p k hp hk. b.record_word p k hp hk ∙ a.record_word p k hp hk;
      }

  pub cells_then : CellsSame l m → CellsSame m o → CellsSame l o
  cells_then a b =
      record {
        free_count = b.free_count ∙ a.free_count;
        first_free = b.first_free ∙ a.first_free;
        next = λ c. b.next c ∙ a.next c;
        frame = λ c. b.frame c ∙ a.frame c;
      }

  pub queues_then : QueuesSame l m → QueuesSame m o → QueuesSame l o
  queues_then a b =
      record {
        waiting = λ p hp. b.waiting p hp ∙ a.waiting p hp;
        oldest = λ p q hp hq. b.oldest p q hp hq ∙ a.oldest p q hp hq;
        youngest = λ p q hp hq. b.youngest p q hp hq ∙ a.youngest p q hp hq;
        behind = λ p c hp. b.behind p c hp ∙ a.behind p c hp;
      }

  pub others_then : OthersSame l m → OthersSame m o → OthersSame l o
  others_then a b = record { word = λ w else. b.word w else ∙ a.word w else }

pub settings_self : (l : List ℕ) → SettingsSame l l
settings_self l = record { word = λ w b f g. refl; record_word = λ p k hp hk. refl }

pub cells_self : (l : List ℕ) → CellsSame l l
cells_self l = record { free_count = refl; first_free = refl; next = λ c. refl; frame = λ c. refl }

pub queues_self : (l : List ℕ) → QueuesSame l l
queues_self l = record { waiting = λ p hp. refl; oldest = λ p q hp hq. refl; youngest = λ p q hp hq. refl; behind = λ p c hp. refl }

pub others_self : (l : List ℕ) → OthersSame l l
others_self l = record { word = λ w else. refl }

-- ---- the words that are no queue's

-- cell count, settings, VLANs and free cells
pub setting_elsewhere : (w : ℕ) → w < counter_word 0 0 → Elsewhere w
setting_elsewhere w h =
    record { waiting = λ p hp e. omega arith; oldest = λ p q hp hq e. omega arith; youngest = λ p q hp hq e. omega arith; behind = λ p d hp e. omega arith }

-- counters, a port's own word and its operation's
pub counter_elsewhere : (r k : ℕ) → r < 5 → k < record_words → Elsewhere (counter_word r k)
counter_elsewhere r k hr hk =
    record { waiting = λ p hp e. omega arith; oldest = λ p q hp hq e. omega arith; youngest = λ p q hp hq e. omega arith; behind = λ p d hp e. omega arith }

pub next_elsewhere : (c : ℕ) → Elsewhere (next_word c)
next_elsewhere c =
    record { waiting = λ p hp e. omega arith; oldest = λ p q hp hq e. omega arith; youngest = λ p q hp hq e. omega arith; behind = λ p d hp e. omega arith }

pub frame_elsewhere : (c : ℕ) → Elsewhere (frame_word c)
frame_elsewhere c =
    record { waiting = λ p hp e. omega arith; oldest = λ p q hp hq e. omega arith; youngest = λ p q hp hq e. omega arith; behind = λ p d hp e. omega arith }

-- a write of the queues leaves settings, counters and cells alone
module _ {l m : List ℕ} (same : OthersSame l m) where
  pub others_settings : SettingsSame l m
  others_settings =
      record {
        word = λ w b f g. same.word w (setting_elsewhere w b);
        record_word = λ p k hp hk. same.word (counter_word p k) (counter_elsewhere p k hp hk);
      }

  pub others_cells : CellsSame l m
  others_cells =
      record {
        free_count = same.word free_count_word (setting_elsewhere free_count_word (omega arith));
        first_free = same.word first_free_word (setting_elsewhere first_free_word (omega arith));
        next = λ c. same.word (next_word c) (next_elsewhere c);
        frame = λ c. same.word (frame_word c) (frame_elsewhere c);
      }
