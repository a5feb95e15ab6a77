-- A search turn by turn is the look-up of the definition. Assumes nothing.
use Rattle.std.proofs.Common.{◌≡◌, ℕ, zero, suc, ◌+◌, ◌*◌, ◌-◌, ◌<◌, true, false, List, [], ◌∷◌, ◌++◌, length, get_or, drop, refl, sym, ap, ◌∙◌, arith, add-one, drop-cons}
use Rattle.std.specs.Prelude.{Option, None as none, Some as some, Result, Ok, Err, if◌then◌else◌}
use Rattle.std.proofs.lemmas.Bool.Decides.{nat_tests}
use Rattle.std.proofs.lemmas.Grind.{common_steps}
use lib.Seq.{drop-length}
use Rattle.rules.specs.Tables.{nowhere, meets, search, find_in, vacant, first_empty, empty_in}
use Rattle.rules.specs.Addresses.{run, places, bucket_of, address_keys, find, empty_for}
use Rattle.rules.proofs.Choice.{on}
use Rattle.rules.proofs.Places.{twenty}
use Rattle.layout.specs.declared.damage.Damaged.{Damaged}
use Rattle.addresses.specs.Numbers.{in_range, has, entry_in, entry_of, table_of}
use Rattle.addresses.specs.Search.{holds, met_in_range, answered, look_up}
use Rattle.addresses.specs.Turns.{place_at, empty_so_far, answer_at}
use Rattle.addresses.specs.declared.LookUp.{LookUp}

-- ---- the place of a turn

get_or_run : (start n i : ℕ) → i < n → get_or (run start n) i 0 ≡ start + i
unfolding run
get_or_run start zero i h = absurd (omega arith)
get_or_run start (suc n) zero h = omega arith
get_or_run start (suc n) (suc i) h = omega (arith, get_or_run (suc start) n i)

length_run : (start n : ℕ) → length (run start n) ≡ n
unfolding run
length_run start zero = refl
length_run start (suc n) = ap suc (length_run (suc start) n)

place_of_turn : (k turn : ℕ) → turn < 20 → get_or (places k) turn 0 ≡ place_at (bucket_of k) turn
unfolding places place_at
place_of_turn k turn h = grind (arith, nat_tests, common_steps, get_or_run, length_run)

turn_cons : (k turn : ℕ) → turn < 20 → drop turn (places k) ≡ place_at (bucket_of k) turn ∷ drop (turn + 1) (places k)
turn_cons k turn h =
    drop-cons (places k) turn 0 (rw twenty h) ∙ rw (add-one, place_of_turn k turn h)

-- ---- the outcomes of a turn

-- the places that are left of a search
unfoldable pub seek : List ℕ → ℕ → List ℕ → Option ℕ → Result LookUp Damaged
seek memory k [] empty = Ok (answered nowhere empty)
seek memory k (i ∷ is) empty =
    if has (get_or memory i 0) k
    then (answer_at (get_or memory i 0) i)
    else (seek memory k is (empty_so_far empty (get_or memory i 0) i))

module _ (memory : List ℕ) (k turn : ℕ) (empty : Option ℕ) where
  pub seek_end : turn ≡ 20 → seek memory k (drop turn (places k)) empty ≡ Ok (answered nowhere empty)
  unfolding seek
  seek_end e = rw (e, ← twenty k, drop-length)

  module _ (h : turn < 20) where
    abbrev place : ℕ
    place = place_at (bucket_of k) turn

    pub seek_met : has (get_or memory place 0) k ≡ true → seek memory k (drop turn (places k)) empty ≡ answer_at (get_or memory place 0) place
    unfolding seek
    seek_met m = rw (turn_cons k turn h) (rw m)

    pub seek_next : has (get_or memory place 0) k ≡ false
        → seek memory k (drop turn (places k)) empty ≡ seek memory k (drop (turn + 1) (places k)) (empty_so_far empty (get_or memory place 0) place)
    unfolding seek
    seek_next m = rw (turn_cons k turn h) (rw m)

-- ---- all the turns

or_else : Option ℕ → Option ℕ → Option ℕ
or_else none next = next
or_else (some i) next = some i

-- what is met, on a search from the given places on
rest : List ℕ → ℕ → List ℕ → Option ℕ → Result LookUp Damaged
rest memory k is empty =
    if met_in_range memory k is
    then (Ok (answered (search address_keys (table_of memory) k is) (or_else empty (first_empty (table_of memory) is))))
    else (Err (record {}))

seek_rest : (memory : List ℕ) (k : ℕ) (is : List ℕ) (empty : Option ℕ) → seek memory k is empty ≡ rest memory k is empty
unfolding seek has rest or_else met_in_range search first_empty meets vacant holds table_of entry_of entry_in empty_so_far answered answer_at in_range
seek_rest memory k [] none = refl
seek_rest memory k [] (some i) = refl
seek_rest memory k (i ∷ is) none = grind (arith, nat_tests, seek_rest memory k is none, seek_rest memory k is (some i))
seek_rest memory k (i ∷ is) (some j) = grind (arith, nat_tests, seek_rest memory k is (some j))

pub look_up_seek : (memory : List ℕ) (k : ℕ) → look_up memory k ≡ seek memory k (places k) none
unfolding look_up rest or_else find find_in empty_for empty_in
look_up_seek memory k = sym (seek_rest memory k (places k) none)

-- ---- the four ways first

-- the first of these places that has the key
unfoldable pub first_with : List ℕ → ℕ → List ℕ → Option ℕ
first_with memory k [] = none
first_with memory k (i ∷ is) = if has (get_or memory i 0) k then (some i) else (first_with memory k is)

run_cons : (place end : ℕ) → place < end → run place (end - place) ≡ place ∷ run (place + 1) (end - (place + 1))
unfolding run
run_cons place end h =
    let more : end - place ≡ suc (end - (place + 1)) = omega arith in
    rw (more, add-one)

module _ (memory : List ℕ) (k place end : ℕ) (h : place < end) where
  pub ways_met : has (get_or memory place 0) k ≡ true → first_with memory k (run place (end - place)) ≡ some place
  unfolding first_with
  ways_met m = rw (run_cons place end h) (rw m)

  pub ways_next : has (get_or memory place 0) k ≡ false
      → first_with memory k (run place (end - place)) ≡ first_with memory k (run (place + 1) (end - (place + 1)))
  unfolding first_with
  ways_next m = rw (run_cons place end h) (rw m)

-- a match among the first places of a search ends it
seek_first : (memory : List ℕ) (k : ℕ) (is more : List ℕ) (empty : Option ℕ) (place : ℕ) → first_with memory k is ≡ some place
    → seek memory k (is ++ more) empty ≡ answer_at (get_or memory place 0) place
unfolding first_with seek
seek_first memory k [] more empty place f = cc
seek_first memory k (i ∷ is) more empty place f =
    on (has (get_or memory i 0) k)
    (λ m. let c : some i ≡ some place = rw m at f in rw m cc)
    (λ m. rw m (seek_first memory k is more (empty_so_far empty (get_or memory i 0) i) place (rw m at f)))

pub look_up_way : (memory : List ℕ) (k place : ℕ) → first_with memory k (run (bucket_of k * 4) 4) ≡ some place
    → look_up memory k ≡ answer_at (get_or memory place 0) place
unfolding places
look_up_way memory k place f =
    look_up_seek memory k ∙ seek_first memory k (run (bucket_of k * 4) 4) (run 4096 16) none place f
