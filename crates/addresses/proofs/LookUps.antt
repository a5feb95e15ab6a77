-- A look-up that meets no damage is the rules' search, and a mark changes no look-up. Assumes nothing.
use Rattle.std.proofs.Common.{◌≡◌, ℕ, ◌≤◌, ◌<◌, true, false, List, [], ◌∷◌, length, get_or, set, refl, sym, ◌∙◌, arith}
use Rattle.std.specs.Prelude.{Option, None as none, Some as some, Result, Ok, Err}
use Rattle.std.proofs.lemmas.Bool.Decides.{nat_tests}
use borrow.Author.Tests.{eqb-true, eqb-false}
use lib.Dec.{eqb}
use lib.Seq.{get_or-set_same, get_or-set_other}
use Rattle.rules.specs.Choice.{Each, nobody, also}
use Rattle.rules.specs.Numbers.{place_count}
use Rattle.rules.specs.Addresses.{Entry, address_keys, Table, places, find, empty_for}
use Rattle.rules.specs.Tables.{Found as Match, at, nowhere, meets, search, find_in, vacant, first_empty, empty_in}
use Rattle.rules.proofs.Choice.{on}
use Rattle.rules.proofs.Places.{inside}
use Rattle.layout.specs.declared.damage.Damaged.{Damaged}
use Rattle.addresses.specs.Numbers.{used_in, has, table_of, all_in_range}
use Rattle.addresses.specs.Search.{met_in_range, answered, look_up, place_of, found_by, damaged}
use Rattle.addresses.specs.Turns.{empty_so_far, answer_at}
use Rattle.addresses.specs.Writes.{marked_number, marked_by}
use Rattle.addresses.specs.Theorems.{SearchTheorems}
use Rattle.addresses.specs.declared.LookUp.{LookUp}
use Rattle.addresses.specs.declared.LookUp.TheVariants.{Found, Vacant, Full}
use Rattle.addresses.proofs.Search.{seek, look_up_seek}
use Rattle.addresses.proofs.Entries.{Alike, marked_alike}
use Rattle.addresses.proofs.Ranges.{all_at}

-- ---- what the rules' search says

pub record Hit (t : Table) (i : ℕ) (e : Entry) : Type 0 where
  pub there : t i ≡ some e
  pub inside : i < place_count

search_there : (t : Table) (k : ℕ) (is : List ℕ) (i : ℕ) (e : Entry) → search address_keys t k is ≡ at i e → t i ≡ some e
unfolding search meets
search_there t k [] i e h = cc
search_there t k (p ∷ ps) i e h = grind (arith, nat_tests, search_there t k ps i e)

search_inside : (t : Table) (k : ℕ) (is : List ℕ) → Each (λ i. i < place_count) is → (i : ℕ) (e : Entry) → search address_keys t k is ≡ at i e → i < place_count
unfolding search meets
search_inside t k [] nobody i e h = cc
search_inside t k (p ∷ ps) (also b bs) i e h = grind (arith, nat_tests, search_inside t k ps bs i e)

pub find_hit : (t : Table) (k i : ℕ) (e : Entry) → find t k ≡ at i e → Hit t i e
unfolding find find_in
find_hit t k i e h =
    record { there = search_there t k (places k) i e h; inside = search_inside t k (places k) (inside k) i e h }

first_inside : (t : Table) (is : List ℕ) → Each (λ i. i < place_count) is → (i : ℕ) → first_empty t is ≡ some i → i < place_count
unfolding first_empty vacant
first_inside t [] nobody i h = cc
first_inside t (p ∷ ps) (also b bs) i h = grind (arith, nat_tests, first_inside t ps bs i)

pub empty_inside : (t : Table) (k i : ℕ) → empty_for t k ≡ some i → i < place_count
unfolding empty_for empty_in
empty_inside t k i h = first_inside t (places k) (inside k) i h

-- ---- damage

pub look_up_finds : (memory : List ℕ) (k : ℕ) → damaged (look_up memory k) ≡ false
    → look_up memory k ≡ Ok (answered (find (table_of memory) k) (empty_for (table_of memory) k))
unfolding look_up
look_up_finds memory k h = grind (arith, nat_tests)

all_met : (memory : List ℕ) (k : ℕ) (is : List ℕ) → all_in_range memory ≡ true → met_in_range memory k is ≡ true
unfolding met_in_range
all_met memory k [] h = refl
all_met memory k (i ∷ is) h = grind (arith, nat_tests, all_at memory i h, all_met memory k is h)

pub undamaged : (memory : List ℕ) (k : ℕ) → all_in_range memory ≡ true → damaged (look_up memory k) ≡ false
unfolding look_up
undamaged memory k h = rw (all_met memory k (places k) h)

-- ---- places and ports

answered_inside : (t : Table) (k : ℕ) (m : Match Entry) (o : Option ℕ) → find t k ≡ m → empty_for t k ≡ o → place_of (answered m o) < place_count
unfolding answered
answered_inside t k (at i e) o f g = (find_hit t k i e f).inside
answered_inside t k nowhere (some i) f g = empty_inside t k i g
answered_inside t k nowhere none f g = omega arith

pub place_inside : (memory : List ℕ) (k : ℕ) → place_of (found_by (look_up memory k)) < place_count
unfolding look_up
place_inside memory k =
    grind (arith, nat_tests, answered_inside (table_of memory) k (find (table_of memory) k) (empty_for (table_of memory) k) refl refl)

pub found_inside : (memory : List ℕ) (k : ℕ) (found : LookUp) → Ok found ≡ look_up memory k → place_of found < place_count
found_inside memory k found e = rw (← e) at (place_inside memory k)

-- the number at the place of a match is in use, and its port in range
seek_used : (memory : List ℕ) (k : ℕ) (is : List ℕ) (empty : Option ℕ) (port place : ℕ) → seek memory k is empty ≡ Ok (Found port place)
    → used_in (get_or memory place 0) ≡ true
unfolding seek answered answer_at has
seek_used memory k [] none port place h = cc
seek_used memory k [] (some i) port place h = cc
seek_used memory k (i ∷ is) empty port place h =
    grind (arith, nat_tests, seek_used memory k is (empty_so_far empty (get_or memory i 0) i) port place)

seek_port : (memory : List ℕ) (k : ℕ) (is : List ℕ) (empty : Option ℕ) (port place : ℕ) → seek memory k is empty ≡ Ok (Found port place) → port ≤ 4
unfolding seek answered answer_at
seek_port memory k [] none port place h = cc
seek_port memory k [] (some i) port place h = cc
seek_port memory k (i ∷ is) empty port place h =
    grind (arith, nat_tests, seek_port memory k is (empty_so_far empty (get_or memory i 0) i) port place)

pub found_used : (memory : List ℕ) (k port place : ℕ) → look_up memory k ≡ Ok (Found port place) → used_in (get_or memory place 0) ≡ true
found_used memory k port place h = seek_used memory k (places k) none port place (sym (look_up_seek memory k) ∙ h)

pub port_inside : (memory : List ℕ) (k port place : ℕ) → look_up memory k ≡ Ok (Found port place) → port ≤ 4
port_inside memory k port place h = seek_port memory k (places k) none port place (sym (look_up_seek memory k) ∙ h)

-- ---- a mark changes no look-up

seek_alike : (memory other : List ℕ) (k : ℕ) → ((i : ℕ) → Alike (get_or memory i 0) (get_or other i 0)) → (is : List ℕ) (empty : Option ℕ)
    → seek memory k is empty ≡ seek other k is empty
unfolding seek has empty_so_far answer_at
seek_alike memory other k a [] empty = refl
seek_alike memory other k a (i ∷ is) none =
    rw ((a i).vacancy, (a i).key, (a i).port, (a i).range) (grind (arith, nat_tests, seek_alike memory other k a is none, seek_alike memory other k a is (some i)))
seek_alike memory other k a (i ∷ is) (some j) =
    rw ((a i).vacancy, (a i).key, (a i).port, (a i).range, seek_alike memory other k a is (some j))

mark_alike : (memory : List ℕ) (place : ℕ) → place < length memory
    → (i : ℕ) → Alike (get_or (set memory place (marked_number (get_or memory place 0))) i 0) (get_or memory i 0)
mark_alike memory place h i =
    on (eqb place i)
    (λ e. rw (← eqb-true place i e, get_or-set_same memory place (marked_number (get_or memory place 0)) 0 h) (marked_alike (get_or memory place 0)))
    (λ e. rw (get_or-set_other memory place i (marked_number (get_or memory place 0)) 0 (λ q. eqb-false place i e (sym q)))
    (record { range = refl; vacancy = refl; key = refl; port = refl }))

kept : (memory : List ℕ) (k other : ℕ) → length memory ≡ place_count → (l : Result LookUp Damaged) → look_up memory k ≡ l
    → look_up (marked_by (found_by l) memory) other ≡ look_up memory other
unfolding marked_by
kept memory k other long (Ok (Found port place)) e =
    let marked : List ℕ = set memory place (marked_number (get_or memory place 0)) in
    let here : place < place_count = found_inside memory k (Found port place) (sym e) in
    look_up_seek marked other
    ∙ seek_alike marked memory other (mark_alike memory place (omega arith)) (places other) none
    ∙ sym (look_up_seek memory other)
kept memory k other long (Ok (Vacant place)) e = refl
kept memory k other long (Ok Full) e = refl
kept memory k other long (Err damage) e = refl

pub mark_keeps : (memory : List ℕ) (k other : ℕ) → length memory ≡ place_count → look_up (marked_by (found_by (look_up memory k)) memory) other ≡ look_up memory other
mark_keeps memory k other long = kept memory k other long (look_up memory k) refl

pub search_theorems : SearchTheorems
search_theorems =
    record {
      look_up_finds = look_up_finds;
      undamaged = undamaged;
      place_inside = place_inside;
      port_inside = port_inside;
      mark_keeps = mark_keeps;
    }
