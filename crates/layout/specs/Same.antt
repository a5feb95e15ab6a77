-- The three kinds of words of link memory, and what it means that a write leaves those of a kind alone: `l` before it,
-- `m` after it.
-- Assumes nothing: these are definitions.
use Rattle.std.specs.Prelude.{◌≡◌, ℕ, ◌<◌, List, ◌≢◌, slice_index, slice_index_or}
use Rattle.layout.specs.Places.{free_count_word, first_free_word, port_record, counter_word, record_words}
use Rattle.layout.specs.Places.{waiting_word, oldest_word, youngest_word, next_word, frame_word, behind_word}

-- cell count, settings and counters: the words below the ports' records but those of the free cells, and the first ones
-- of each record
pub record SettingsSame (l m : List ℕ) : Type 0 where
  pub word : (w : ℕ) → w < port_record 0 → (w ≢ free_count_word) → (w ≢ first_free_word) → slice_index m w ≡ slice_index l w
  pub record_word : (port k : ℕ) → port < 5 → k < record_words
      → slice_index m (counter_word port k) ≡ slice_index l (counter_word port k)

-- the free cells and the cells of frames
pub record CellsSame (l m : List ℕ) : Type 0 where
  pub free_count : slice_index_or m free_count_word 0 ≡ slice_index l free_count_word
  pub first_free : slice_index_or m first_free_word 0 ≡ slice_index l first_free_word
  pub next : (c : ℕ) → slice_index m (next_word c) ≡ slice_index l (next_word c)
  pub frame : (c : ℕ) → slice_index m (frame_word c) ≡ slice_index l (frame_word c)

pub record QueuesSame (l m : List ℕ) : Type 0 where
  pub waiting : (p : ℕ) → p < 5 → slice_index m (waiting_word p) ≡ slice_index l (waiting_word p)
  pub oldest : (p q : ℕ) → p < 5 → q < 4 → slice_index m (oldest_word p q) ≡ slice_index l (oldest_word p q)
  pub youngest : (p q : ℕ) → p < 5 → q < 4 → slice_index m (youngest_word p q) ≡ slice_index l (youngest_word p q)
  pub behind : (p c : ℕ) → p < 5 → slice_index m (behind_word p c) ≡ slice_index l (behind_word p c)

-- ---- the words that are no queue's

pub record Elsewhere (w : ℕ) : Type 0 where
  pub waiting : (p : ℕ) → p < 5 → w ≢ waiting_word p
  pub oldest : (p q : ℕ) → p < 5 → q < 4 → w ≢ oldest_word p q
  pub youngest : (p q : ℕ) → p < 5 → q < 4 → w ≢ youngest_word p q
  pub behind : (p c : ℕ) → p < 5 → w ≢ behind_word p c

pub record OthersSame (l m : List ℕ) : Type 0 where
  pub word : (w : ℕ) → Elsewhere w → slice_index m w ≡ slice_index l w
