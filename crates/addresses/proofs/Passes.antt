-- The turns of the ageing of all places. Assumes nothing.
use Rattle.std.proofs.Common.{◌≡◌, ℕ, zero, suc, ◌+◌, ◌≤◌, ◌<◌, Bool, true, false, ◌||◌, List, map, ◌++◌, length, take, drop, get_or, set, refl, ap₂, ◌∙◌, arith, add-one}
use Rattle.std.specs.Prelude.{Option, None as none, Some as some, if◌then◌else◌}
use Rattle.std.proofs.lemmas.Grind.{common_steps}
use Rattle.std.proofs.lemmas.List.{take_all, drop_all, get_or_default}
use Rattle.std.proofs.lemmas.List.Edits.{map_over_more}
use lib.ListN.{get_or-map}
use Rattle.rules.specs.Addresses.{Entry, goes, removed}
use Rattle.addresses.specs.Numbers.{entry_of, table_of}
use Rattle.addresses.specs.Writes.{older_number, aged_by}

pub older_read : (memory : List ℕ) (place : ℕ) → get_or (map older_number memory) place 0 ≡ older_number (get_or memory place 0)
unfolding older_number
older_read memory place = get_or-map older_number memory place 0

pub goes_one : (o : Option Entry) → goes o ≤ 1
unfolding goes
goes_one none = omega arith
goes_one (some e) = at_most (e.static || e.marked)
  where
    at_most : (b : Bool) → (if b then 0 else 1) ≤ 1
    at_most true = omega arith
    at_most false = omega arith

pub removed_few : (memory : List ℕ) (place : ℕ) → removed (table_of memory) place ≤ place
unfolding removed
removed_few memory zero = omega arith
removed_few memory (suc place) = omega (arith, removed_few memory place, goes_one (table_of memory place))

-- after the places below `place` have been aged
pub record Turned (start memory : List ℕ) (gone place : ℕ) : Type 0 where
  pub counted : gone ≡ removed (table_of start) place
  pub now : memory ≡ map older_number (take place start) ++ drop place start

pub turned_none : (start : List ℕ) → Turned start start 0 0
unfolding removed
turned_none start = record { counted = refl; now = refl }

-- a place that has not been aged yet
read_same : (start memory : List ℕ) (place : ℕ) → place < length start → memory ≡ map older_number (take place start) ++ drop place start
    → get_or memory place 0 ≡ get_or start place 0
read_same start memory place h e = rw e (grind (arith, common_steps))

within : (start memory : List ℕ) (place : ℕ) → place < length start → memory ≡ map older_number (take place start) ++ drop place start → place < length memory
within start memory place h e = rw e (grind (arith, common_steps))

counted_more : (start : List ℕ) (place : ℕ) → removed (table_of start) place + goes (entry_of (get_or start place 0)) ≡ removed (table_of start) (place + 1)
unfolding removed table_of
counted_more start place = rw add-one (omega arith)

pub turned_more : (start memory : List ℕ) (gone place goer number : ℕ) → Turned start memory gone place → place < length start
    → goer ≡ goes (entry_of (get_or memory place 0)) → number ≡ older_number (get_or memory place 0)
    → Turned start (set memory place number) (gone + goer) (place + 1)
turned_more start memory gone place goer number t h g w =
    let e : get_or memory place 0 ≡ get_or start place 0 = read_same start memory place h t.now in
    record {
      counted = rw (g, e, t.counted) (counted_more start place);
      now = rw w (map_over_more older_number start memory place (get_or memory place 0) h t.now (get_or_default memory place 0 (get_or memory place 0) (within start memory place h t.now)));
    }

pub turned_all : (start memory : List ℕ) (gone place : ℕ) → Turned start memory gone place → length start ≡ place → place ≡ 4112 → (gone, memory) ≡ aged_by start
unfolding aged_by
turned_all start memory gone place t h e =
    ap₂ (λ (n : ℕ) (l : List ℕ). (n, l)) (rw e at t.counted) (t.now ∙ grind (arith, common_steps, take_all place start, drop_all place start))
