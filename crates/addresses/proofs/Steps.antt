-- Each change of memory is the rules' change of its table, and keeps memory in range. Assumes nothing.
use Prim.Native.Nat.{ℕ, ◌^◌, ◌≤◌, ◌<◌}
use mathlib.Core.Path.{◌≡◌, refl, ap, ◌∙◌, fun_ext}
use mathlib.Core.Bool.{true, false, not}
use mathlib.Core.List.{List}
use Rattle.std.specs.Prelude.{Option, None as none, Some as some, Result, Ok, Err}
use native.Mathlib.Omega.{arith}
use lib.ListN.{length, get_or, set}
use Rattle.rules.specs.Numbers.{place_count}
use Rattle.rules.specs.Addresses.{Entry, Table, find, empty_for, with_mark, answered as rule_answered, look_up as rule_look_up, hit_marks, after_look_up}
use Rattle.rules.specs.Addresses.{learning_by, learning_of, is_no_place, learned_entry, learn_by, learn, aged, static_entry, set_static, is_full, no_place_for, remove}
use Rattle.rules.specs.Tables.{Found as Match, at, nowhere, is_found, put, place_by, place_in, put_at, set_in, remove_found, remove_in}
use Rattle.rules.proofs.Choice.{on}
use Rattle.addresses.specs.Numbers.{static_in, entry_of, table_of, all_in_range}
use Rattle.addresses.specs.Search.{answered, look_up, found_by, matched, full, damaged}
use Rattle.addresses.specs.Writes.{marked_number, marked_by, learned_number, learned_by, static_number, static_by, removed_by, aged_by}
use Rattle.addresses.specs.Theorems.{Fits, StepTheorems, RangeTheorems}
use Rattle.layout.specs.declared.damage.Damaged.{Damaged}
use Rattle.addresses.specs.declared.LookUp.{LookUp}
use Rattle.addresses.specs.declared.LookUp.TheVariants.{Found, Vacant, Full}
use Rattle.addresses.proofs.Entries.{zero_in_range, gone_entry, static_read, marked_read, marked_in_range, older_entry, read_written, written_in_range, table_set}
use Rattle.addresses.proofs.Passes.{older_read}
use Rattle.addresses.proofs.Ranges.{all_at, all_set, all_older}
use Rattle.addresses.proofs.LookUps.{Hit, find_hit, empty_inside, look_up_finds, found_used}

-- ---- the numbers that are written

learned_fits : (k port : ℕ) → k < 2 ^ 52 → port ≤ 4 → Fits (learned_entry k port)
unfolding learned_entry
learned_fits k port h p = record { key_fits = h; port_fits = p }

static_fits : (k port : ℕ) → k < 2 ^ 52 → port ≤ 4 → Fits (static_entry k port)
unfolding static_entry
static_fits k port h p = record { key_fits = h; port_fits = p }

-- ---- one place

module _ (memory : List ℕ) (long : length memory ≡ place_count) (k : ℕ) where
  -- the place of a match, and what its number reads as
  module _ (i : ℕ) (e : Entry) (f : find (table_of memory) k ≡ at i e) where
    hit : Hit (table_of memory) i e
    hit = find_hit (table_of memory) k i e f

    there : entry_of (get_or memory i 0) ≡ some e
    unfolding table_of
    there = hit.there

    hit_set : (n : ℕ) (o : Option Entry) → entry_of n ≡ o → table_of (set memory i n) ≡ put i o (table_of memory)
    hit_set n o w = table_set memory i n (omega (arith, hit.inside)) ∙ ap (λ (x : Option Entry). put i x (table_of memory)) w

  empty_set : (i : ℕ) → empty_for (table_of memory) k ≡ some i → (n : ℕ) (o : Option Entry) → entry_of n ≡ o → table_of (set memory i n) ≡ put i o (table_of memory)
  empty_set i g n o w =
      table_set memory i n (omega (arith, empty_inside (table_of memory) k i g)) ∙ ap (λ (x : Option Entry). put i x (table_of memory)) w

  mark_at : (m : Match Entry) (o : Option ℕ) → find (table_of memory) k ≡ m → table_of (marked_by (answered m o) memory) ≡ after_look_up (rule_answered m) (table_of memory)
  unfolding answered marked_by rule_answered after_look_up hit_marks
  mark_at (at i e) o f = hit_set i e f (marked_number (get_or memory i 0)) (some (with_mark true e)) (marked_read (get_or memory i 0) e (there i e f))
  mark_at nowhere (some i) f = refl
  mark_at nowhere none f = refl

  remove_at : (m : Match Entry) (o : Option ℕ) → find (table_of memory) k ≡ m → table_of (removed_by (answered m o) memory) ≡ remove_found m (table_of memory)
  unfolding answered removed_by remove_found
  remove_at (at i e) o f = hit_set i e f 0 none gone_entry
  remove_at nowhere (some i) f = refl
  remove_at nowhere none f = refl

  learn_at : (port : ℕ) → k < 2 ^ 52 → port ≤ 4 → (m : Match Entry) (o : Option ℕ) → find (table_of memory) k ≡ m → empty_for (table_of memory) k ≡ o
      → table_of (learned_by (answered m o) k port memory).1 ≡ learn_by (learning_by m o) k port (table_of memory)
  unfolding answered learned_by learning_by learn_by
  learn_at port h p (at i e) o f g =
      let s : static_in (get_or memory i 0) ≡ e.static = static_read (get_or memory i 0) e (there i e f) in
      on e.static
      (λ b. rw (s, b))
      (λ b. rw (s, b)
      (hit_set i e f (learned_number k port) (some (learned_entry k port)) (read_written (learned_entry k port) (learned_fits k port h p))))
  learn_at port h p nowhere (some i) f g =
      empty_set i g (learned_number k port) (some (learned_entry k port)) (read_written (learned_entry k port) (learned_fits k port h p))
  learn_at port h p nowhere none f g = refl

  placed_at : (port : ℕ) (m : Match Entry) (o : Option ℕ) → (learned_by (answered m o) k port memory).0 ≡ not (is_no_place (learning_by m o))
  unfolding answered learned_by learning_by is_no_place
  placed_at port (at i e) o = on e.static (λ b. rw b) (λ b. rw b)
  placed_at port nowhere (some i) = refl
  placed_at port nowhere none = refl

  static_at : (port : ℕ) → k < 2 ^ 52 → port ≤ 4 → (m : Match Entry) (o : Option ℕ) → find (table_of memory) k ≡ m → empty_for (table_of memory) k ≡ o
      → table_of (static_by (answered m o) k port memory) ≡ put_at (place_by m o) (static_entry k port) (table_of memory)
  unfolding answered static_by place_by put_at
  static_at port h p (at i e) o f g =
      hit_set i e f (static_number k port) (some (static_entry k port)) (read_written (static_entry k port) (static_fits k port h p))
  static_at port h p nowhere (some i) f g =
      empty_set i g (static_number k port) (some (static_entry k port)) (read_written (static_entry k port) (static_fits k port h p))
  static_at port h p nowhere none f g = refl

  matched_at : (m : Match Entry) (o : Option ℕ) → matched (Ok (answered m o)) ≡ is_found m
  unfolding answered is_found
  matched_at (at i e) o = refl
  matched_at nowhere (some i) = refl
  matched_at nowhere none = refl

  full_at : (m : Match Entry) (o : Option ℕ) → full (Ok (answered m o)) ≡ is_full (place_by m o)
  unfolding answered place_by is_full
  full_at (at i e) o = refl
  full_at nowhere (some i) = refl
  full_at nowhere none = refl

  module _ (whole : damaged (look_up memory k) ≡ false) where
    pub step_theorems : StepTheorems memory long k whole
    unfolding rule_look_up remove remove_in find learn learning_of set_static set_in no_place_for place_in empty_for
    step_theorems =
        let t : Table = table_of memory in
        let a : look_up memory k ≡ Ok (answered (find t k) (empty_for t k)) = look_up_finds memory k whole in
        record {
          matched_is = rw a (matched_at (find t k) (empty_for t k));
          full_is = rw a (full_at (find t k) (empty_for t k));
          mark_is = rw a (mark_at (find t k) (empty_for t k) refl);
          remove_is = rw a (remove_at (find t k) (empty_for t k) refl);
          learn_is = λ port h p. rw a (learn_at port h p (find t k) (empty_for t k) refl refl);
          learn_placed = λ port. rw a (placed_at port (find t k) (empty_for t k));
          static_is = λ port h p. rw a (static_at port h p (find t k) (empty_for t k) refl refl);
        }

-- ---- memory in range

mark_range : (memory : List ℕ) → all_in_range memory ≡ true → (k : ℕ) (l : Result LookUp Damaged) → look_up memory k ≡ l → all_in_range (marked_by (found_by l) memory) ≡ true
unfolding marked_by
mark_range memory good k (Ok (Found port place)) e =
    let n : ℕ = get_or memory place 0 in
    all_set memory place (marked_number n) good
    (marked_in_range n (found_used memory k port place e) ∙ all_at memory place good)
mark_range memory good k (Ok (Vacant place)) e = good
mark_range memory good k (Ok Full) e = good
mark_range memory good k (Err damage) e = good

module _ (memory : List ℕ) (good : all_in_range memory ≡ true) where
  remove_range : (l : LookUp) → all_in_range (removed_by l memory) ≡ true
  unfolding removed_by
  remove_range (Found port place) = all_set memory place 0 good zero_in_range
  remove_range (Vacant place) = good
  remove_range Full = good

  module _ (k port : ℕ) (h : k < 2 ^ 52) (p : port ≤ 4) where
    learn_set : (place : ℕ) → all_in_range (set memory place (learned_number k port)) ≡ true
    learn_set place = all_set memory place (learned_number k port) good (written_in_range (learned_entry k port) (learned_fits k port h p))

    learn_range : (l : LookUp) → all_in_range (learned_by l k port memory).1 ≡ true
    unfolding learned_by
    learn_range (Found _ place) = on (static_in (get_or memory place 0)) (λ s. rw s good) (λ s. rw s (learn_set place))
    learn_range (Vacant place) = learn_set place
    learn_range Full = good

    static_set : (place : ℕ) → all_in_range (set memory place (static_number k port)) ≡ true
    static_set place = all_set memory place (static_number k port) good (written_in_range (static_entry k port) (static_fits k port h p))

    static_range : (l : LookUp) → all_in_range (static_by l k port memory) ≡ true
    unfolding static_by
    static_range (Found _ place) = static_set place
    static_range (Vacant place) = static_set place
    static_range Full = good

  pub range_theorems : RangeTheorems memory good
  unfolding aged_by aged table_of
  range_theorems =
      record {
        age_is = fun_ext (λ i. rw (older_read memory i) (older_entry (get_or memory i 0) (all_at memory i good)));
        age_in_range = all_older memory good;
        mark_in_range = λ k. mark_range memory good k (look_up memory k) refl;
        remove_in_range = λ k. remove_range (found_by (look_up memory k));
        learn_in_range = λ k port h p. learn_range k port h p (found_by (look_up memory k));
        static_in_range = λ k port h p. static_range k port h p (found_by (look_up memory k));
      }
