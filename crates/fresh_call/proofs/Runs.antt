-- What the fresh call writes into zeros, word after word, is the words of a fresh switch. Assumes nothing.
use Rattle.std.proofs.Common.{◌≡◌, ℕ, zero, suc, ◌+◌, ◌-◌, ◌*◌, ◌<◌, ◌≤◌, Bool, true, ◌&&◌, List, [], ◌∷◌, ◌++◌, ltb, length, set, replicate, refl, sym, ap, ◌∙◌, arith, append_assoc, add-one}
use Rattle.std.proofs.lemmas.Bool.Decides.{nat_tests}
use Rattle.std.proofs.lemmas.List.{length-append, length-set, set-append_left, set-append_right, replicate-append-replicate}
use Rattle.std.proofs.lemmas.List.Edits.{sets}
use Rattle.layout.specs.Places.{fixed_words, link_words, cell_count_word, map_word, switches_word, free_count_word, vlan_count_word, states_word, vlan_word, port_word, next_word}
use Rattle.settings.specs.Fresh.{fresh_map, fresh_switches, fresh_states}
use Rattle.settings.specs.Records.{port_words, vlan_words}
use Rattle.settings.specs.SettingsOf.{fresh_operation, fresh_port, fresh_vlan}
use Rattle.fresh_call.specs.Words.{copies, fresh_front, fresh_switch, fresh_port_record, fresh_ports, fresh_vlans, fresh_next, fresh_cell, fresh_cells, fresh_links}

-- ---- lengths

pub switch_length : (n : ℕ) → length (fresh_switch n) ≡ vlan_word 0
unfolding fresh_switch fresh_front copies
switch_length n = refl

pub vlans_length : length fresh_vlans ≡ 352
unfolding fresh_vlans copies
vlans_length = refl

pub port_length : length fresh_port_record ≡ 128
unfolding fresh_port_record copies
port_length = refl

pub ports_length : (left : ℕ) → length (fresh_ports left) ≡ 128 * left
unfolding fresh_ports
ports_length zero = refl
ports_length (suc left) = grind (arith, length-append {A = ℕ}, port_length, ports_length left)

pub cell_length : (next : ℕ) → length (fresh_cell next) ≡ 20
unfolding fresh_cell copies
cell_length next = refl

pub cells_length : (left n cell : ℕ) → length (fresh_cells left n cell) ≡ 20 * left
unfolding fresh_cells
cells_length zero n cell = refl
cells_length (suc left) n cell = grind (arith, length-append {A = ℕ}, cell_length, cells_length left n (cell + 1))

pub fresh_length : (n : ℕ) → length (fresh_links n) ≡ link_words n
unfolding fresh_links
fresh_length n = grind (arith, length-append {A = ℕ}, switch_length, ports_length, vlans_length, cells_length)

-- ---- what the call writes

abbrev pub switch_written : ℕ → List ℕ → List ℕ
switch_written n l =
    set (set (set (set (set (set l cell_count_word n) map_word fresh_map) switches_word fresh_switches) free_count_word n) vlan_count_word 1) states_word
    fresh_states

abbrev pub vlan_written : List ℕ → List ℕ
vlan_written l = sets l (vlan_word 0) (vlan_words fresh_vlan)

-- so many ports, from port 0 on
unfoldable pub ports_written : ℕ → List ℕ → List ℕ
ports_written zero l = l
ports_written (suc k) l = sets (ports_written k l) (port_word k) (port_words fresh_port)

-- so many cells that have a next, from one on
unfoldable pub nexts_written : ℕ → ℕ → List ℕ → List ℕ
nexts_written zero cell l = l
nexts_written (suc left) cell l = nexts_written left (cell + 1) (set l (next_word cell) (cell + 1))

-- ---- turn by turn

pub port_turn : (k : ℕ) (l : List ℕ) → ports_written (k + 1) l ≡ sets (ports_written k l) (port_word k) (port_words fresh_port)
unfolding ports_written
port_turn k l = rw add-one

pub next_turn :
    (end cell : ℕ) (l : List ℕ) → cell < end
    → nexts_written (end - cell) cell l ≡ nexts_written (end - (cell + 1)) (cell + 1) (set l (next_word cell) (cell + 1))
unfolding nexts_written
next_turn end cell l h = let more : end - cell ≡ suc (end - (cell + 1)) = omega arith in rw more

-- ---- stores into the first part of a list

unfoldable pub stored : List (ℕ × ℕ) → List ℕ → List ℕ
stored [] l = l
stored (p ∷ ps) l = stored ps (set l p.0 p.1)

unfoldable pub all_below : ℕ → List (ℕ × ℕ) → Bool
all_below n [] = true
all_below n (p ∷ ps) = ltb p.0 n && all_below n ps

stored_left : (ps : List (ℕ × ℕ)) (xs ys : List ℕ) → all_below (length xs) ps ≡ true → stored ps (xs ++ ys) ≡ stored ps xs ++ ys
unfolding stored all_below
stored_left [] xs ys h = refl
stored_left (p ∷ ps) xs ys h =
    grind (arith, nat_tests, length-set {A = ℕ}, set-append_left xs ys p.0 p.1, stored_left ps (set xs p.0 p.1) ys)

-- ---- the fixed part

abbrev fixed_stores : ℕ → List (ℕ × ℕ)
fixed_stores n =
    (0, n) ∷ (1, fresh_map) ∷ (2, fresh_switches) ∷ (3, n) ∷ (5, 1) ∷ (8, fresh_states)
    ∷ (32, 543) ∷ (33, 160)
    ∷ (416, 513) ∷ (417, 160) ∷ (544, 513) ∷ (545, 160) ∷ (672, 513) ∷ (673, 160) ∷ (800, 513) ∷ (801, 160) ∷ (928, 513) ∷ (929, 160)
    ∷ []

abbrev pub fresh_fixed : ℕ → List ℕ
fresh_fixed n = fresh_switch n ++ (fresh_vlans ++ fresh_ports 5)

-- the fixed part, then the cells
pub parts : (n : ℕ) → fresh_links n ≡ fresh_fixed n ++ fresh_cells n n 0
unfolding fresh_links
parts n = simp append_assoc

pub fixed_length : (n : ℕ) → length (fresh_fixed n) ≡ fixed_words
fixed_length n = grind (arith, length-append {A = ℕ}, switch_length, ports_length, vlans_length)

fixed_is : (n : ℕ) → stored (fixed_stores n) (replicate fixed_words 0) ≡ fresh_fixed n
unfolding stored fresh_switch fresh_front fresh_vlans fresh_vlan fresh_operation fresh_ports fresh_port_record fresh_port copies
fixed_is n = refl

fixed_run : (n : ℕ) (l : List ℕ) → ports_written 5 (vlan_written (switch_written n l)) ≡ stored (fixed_stores n) l
unfolding stored ports_written fresh_vlan fresh_operation fresh_port
fixed_run n l = refl

all_fixed : (n : ℕ) → all_below (length (replicate {A = ℕ} fixed_words 0)) (fixed_stores n) ≡ true
unfolding all_below
all_fixed n = refl

-- ---- the cells

last_next : (n cell : ℕ) → cell + 1 ≡ n → fresh_next n cell ≡ 0
unfolding fresh_next
last_next n cell e = grind (arith, nat_tests)

some_next : (n cell : ℕ) → cell + 1 < n → fresh_next n cell ≡ cell + 1
unfolding fresh_next
some_next n cell h = grind (arith, nat_tests)

-- zeros from a cell on, into which the nexts of all but the last are written, are the fresh cells
cells_run :
    (left n cell : ℕ) (front : List ℕ) → length front ≡ next_word cell → cell + left + 1 ≡ n
    → nexts_written left cell (front ++ replicate (20 * (left + 1)) 0) ≡ front ++ fresh_cells (left + 1) n cell
unfolding nexts_written fresh_cells fresh_cell copies
cells_run zero n cell front h e = rw (last_next n cell (omega arith))
cells_run (suc left) n cell front h e =
    let more : suc left + 1 ≡ suc (left + 1) = omega arith in
    let size : 20 * suc (left + 1) ≡ suc (19 + 20 * (left + 1)) = omega arith in
    let start : next_word cell - next_word cell ≡ 0 = omega arith in
    let here : set (front ++ replicate (20 * (suc left + 1)) 0) (next_word cell) (cell + 1) ≡ (front ++ fresh_cell (cell + 1)) ++ replicate (20 * (left + 1)) 0 =
    rw (set-append_right front (replicate (20 * (suc left + 1)) 0) (next_word cell) (next_word cell) (cell + 1) h (omega arith), start, more, size, append_assoc, ← replicate-append-replicate {A = ℕ} 19 (20 * (left + 1)) 0) in
    rw (here, cells_run left n (cell + 1) (front ++ fresh_cell (cell + 1)) (omega (arith, length-append front (fresh_cell (cell + 1)), cell_length (cell + 1))) (omega arith), more, some_next n cell (omega arith), append_assoc)

-- ---- all words

pub fresh_run :
    (n : ℕ) → 1 ≤ n
    → nexts_written (n - 1) 0 (ports_written 5 (vlan_written (switch_written n (replicate (link_words n) 0)))) ≡ fresh_links n
fresh_run n h =
    let one : n - 1 + 1 ≡ n = omega arith in
    let zeros : replicate {A = ℕ} (link_words n) 0 ≡ replicate fixed_words 0 ++ replicate (20 * n) 0 = sym (replicate-append-replicate fixed_words (20 * n) 0) in
    let fixed : ports_written 5 (vlan_written (switch_written n (replicate (link_words n) 0))) ≡ fresh_fixed n ++ replicate (20 * n) 0 =
    fixed_run n (replicate (link_words n) 0)
    ∙ ap (stored (fixed_stores n)) zeros
    ∙ stored_left (fixed_stores n) (replicate fixed_words 0) (replicate (20 * n) 0) (all_fixed n)
    ∙ ap (λ (l : List ℕ). l ++ replicate (20 * n) 0) (fixed_is n) in
    let cells = rw one at (cells_run (n - 1) n 0 (fresh_fixed n) (fixed_length n) (omega arith)) in
    ap (nexts_written (n - 1) 0) fixed ∙ cells ∙ sym (parts n)
