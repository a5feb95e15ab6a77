-- What address memory stands for: its numbers are entries, its look-up is the rules' search, its changes are the rules'
-- changes. `proofs/Ranges.antt`, `proofs/LookUps.antt`, `proofs/Steps.antt` and `proofs/Frames.antt` prove it. Assumes
-- nothing: these are definitions.
use Rattle.std.specs.Prelude.{ℕ, ◌^◌, ◌≤◌, ◌<◌, ◌≡◌, true, false, not, List, length, set, replicate}
use Rattle.std.specs.Prelude.{None as none, Some as some, Ok}
use Rattle.rules.specs.Numbers.{place_count}
use Rattle.rules.specs.Addresses.{Entry, find, empty_for, look_up as rule_look_up, after_look_up, is_no_place, learning_of}
use Rattle.rules.specs.Addresses.{learn, aged, set_static, no_place_for, remove}
use Rattle.rules.specs.Tables.{put, is_found}
use Rattle.addresses.specs.Numbers.{in_range, entry_of, table_of, all_in_range, number_of}
use Rattle.addresses.specs.Search.{answered, look_up, place_of, found_by, matched, full, damaged}
use Rattle.addresses.specs.Writes.{marked_by, learned_by, static_by, removed_by, aged_by}
use Rattle.addresses.specs.declared.LookUp.{LookUp}
use Rattle.addresses.specs.declared.LookUp.TheVariants.{Found}

-- an entry that memory can hold
pub record Fits (e : Entry) : Type 0 where
  pub key_fits : e.key < 2 ^ 52
  pub port_fits : e.port ≤ 4

pub record NumberTheorems : Type 0 where
  pub read_written : (e : Entry) → Fits e → entry_of (number_of e) ≡ some e
  pub written_in_range : (e : Entry) → Fits e → in_range (number_of e) ≡ true
  pub written_read : (n : ℕ) (e : Entry) → in_range n ≡ true → entry_of n ≡ some e → number_of e ≡ n
  pub read_fits : (n : ℕ) (e : Entry) → n < 2 ^ 64 → in_range n ≡ true → entry_of n ≡ some e → Fits e
  -- a write of one place changes that place of the table
  pub table_set : (memory : List ℕ) (place n : ℕ) → place < length memory
      → table_of (set memory place n) ≡ put place (entry_of n) (table_of memory)
  pub table_fresh : (n : ℕ) → table_of (replicate n 0) ≡ (λ (place : ℕ). none)
  pub fresh_in_range : (n : ℕ) → all_in_range (replicate n 0) ≡ true

pub record SearchTheorems : Type 0 where
  -- a look-up that meets no damage is the rules' search
  pub look_up_finds : (memory : List ℕ) (k : ℕ) → damaged (look_up memory k) ≡ false
      → look_up memory k ≡ Ok (answered (find (table_of memory) k) (empty_for (table_of memory) k))
  -- memory in range has none
  pub undamaged : (memory : List ℕ) (k : ℕ) → all_in_range memory ≡ true → damaged (look_up memory k) ≡ false
  pub place_inside : (memory : List ℕ) (k : ℕ) → place_of (found_by (look_up memory k)) < place_count
  pub port_inside : (memory : List ℕ) (k port place : ℕ) → look_up memory k ≡ Ok (Found port place) → port ≤ 4
  -- a mark changes no key and no emptiness: what was found before it is right after it
  pub mark_keeps : (memory : List ℕ) (k other : ℕ) → length memory ≡ place_count
      → look_up (marked_by (found_by (look_up memory k)) memory) other ≡ look_up memory other

-- each change, at what a look-up without damage found, is the rules' change of the table
pub record StepTheorems (memory : List ℕ) (long : length memory ≡ place_count) (k : ℕ) (whole : damaged (look_up memory k)
    ≡ false) : Type 0 where
  -- refusals 9 and 8
  pub matched_is : matched (look_up memory k) ≡ is_found (find (table_of memory) k)
  pub full_is : full (look_up memory k) ≡ no_place_for (table_of memory) k
  pub mark_is : table_of (marked_by (found_by (look_up memory k)) memory)
      ≡ after_look_up (rule_look_up (table_of memory) false k) (table_of memory)
  pub remove_is : table_of (removed_by (found_by (look_up memory k)) memory) ≡ remove (table_of memory) k
  pub learn_is : (port : ℕ) → k < 2 ^ 52 → port ≤ 4
      → table_of (learned_by (found_by (look_up memory k)) k port memory).1 ≡ learn (table_of memory) k port
  pub learn_placed : (port : ℕ)
      → (learned_by (found_by (look_up memory k)) k port memory).0 ≡ not (is_no_place (learning_of (table_of memory) k))
  pub static_is : (port : ℕ) → k < 2 ^ 52 → port ≤ 4
      → table_of (static_by (found_by (look_up memory k)) k port memory) ≡ set_static (table_of memory) k port

-- a frame marks its destination and then learns its source, at what both look-ups found before: the rules' order
pub record FrameTheorems (memory : List ℕ) (long : length memory ≡ place_count) (destination source : ℕ)
    (whole : damaged (look_up memory destination) ≡ false) (whole₂ : damaged (look_up memory source)
    ≡ false) (port : ℕ) : Type 0 where
  pub learn_marked : source < 2 ^ 52 → port ≤ 4
      → table_of (learned_by (found_by (look_up memory source)) source port (marked_by (found_by (look_up memory destination)) memory)).1
      ≡ learn (after_look_up (rule_look_up (table_of memory) false destination) (table_of memory)) source port
  pub placed_marked : (learned_by (found_by (look_up memory source)) source port (marked_by (found_by (look_up memory destination)) memory)).0
      ≡ not (is_no_place (learning_of (after_look_up (rule_look_up (table_of memory) false destination) (table_of memory))
      source))

-- no change changes the length
pub record LengthTheorems (memory : List ℕ) : Type 0 where
  pub mark_long : (found : LookUp) → length (marked_by found memory) ≡ length memory
  pub learn_long : (found : LookUp) (k port : ℕ) → length (learned_by found k port memory).1 ≡ length memory
  pub static_long : (found : LookUp) (k port : ℕ) → length (static_by found k port memory) ≡ length memory
  pub remove_long : (found : LookUp) → length (removed_by found memory) ≡ length memory
  pub age_long : length (aged_by memory).1 ≡ length memory

-- memory in range stays in range, and ageing it is the rules' ageing
pub record RangeTheorems (memory : List ℕ) (good : all_in_range memory ≡ true) : Type 0 where
  pub age_is : table_of (aged_by memory).1 ≡ aged (table_of memory)
  pub age_in_range : all_in_range (aged_by memory).1 ≡ true
  pub mark_in_range : (k : ℕ) → all_in_range (marked_by (found_by (look_up memory k)) memory) ≡ true
  pub remove_in_range : (k : ℕ) → all_in_range (removed_by (found_by (look_up memory k)) memory) ≡ true
  pub learn_in_range : (k port : ℕ) → k < 2 ^ 52 → port ≤ 4
      → all_in_range (learned_by (found_by (look_up memory k)) k port memory).1 ≡ true
  pub static_in_range : (k port : ℕ) → k < 2 ^ 52 → port ≤ 4
      → all_in_range (static_by (found_by (look_up memory k)) k port memory) ≡ true
