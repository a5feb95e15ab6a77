-- After a fresh call that is not refused the memories stand for the fresh state, whatever they held before. Assumes nothing.
use Prim.Native.Nat.{ℕ, ◌+◌, ◌%◌, ◌≤◌, ◌<◌}
use mathlib.Core.Path.{◌≡◌, refl, ap, ◌∙◌}
use mathlib.Core.Bool.{Bool, true, ◌&&◌}
use mathlib.Core.List.{List, []}
use native.Mathlib.Omega.{arith}
use lib.Dec.{eqb, leb}
use lib.ListN.{length, replicate, length-replicate}
use borrow.Author.Tests.{leb-true, eqb-true, eq-eqb, lt-ltb, le-ltb}
use Rattle.rules.specs.Choice.{among, Distinct}
use Rattle.rules.specs.Lines.{first}
use Rattle.rules.specs.Cells.{fewest_cells, most_cells}
use Rattle.rules.specs.Numbers.{place_count}
use Rattle.rules.proofs.Choice.{and_left, and_right}
use Rattle.machine.specs.History.{fresh_settings, fresh}
use Rattle.machine.specs.Demands.{vids}
use Rattle.layout.specs.Places.{cell_bytes, link_words, next_word, frame_word, counter_word, waiting_word}
use Rattle.layout.specs.Lengths.{is_cell_count, links_fit, cells_fit, addresses_fit}
use Rattle.layout.specs.Answers.{done_with}
use Rattle.cells.specs.Chains.{next_in}
use Rattle.cells.specs.Free.{ports_of}
use Rattle.cells.specs.Sound.{FreshCells}
use Rattle.queues.specs.Lists.{waiting_of}
use Rattle.addresses.proofs.Ranges.{number_theorems}
use Rattle.fresh_call.specs.Words.{copies, fresh_next, fresh_cell, fresh_links}
use Rattle.fresh_call.specs.Calls.{cells_lent, lengths_fit, fresh_refusals, fresh_call}
use Rattle.fresh_call.proofs.Runs.{fresh_length}
use Rattle.fresh_call.proofs.WordLaws.{fresh_cell_law, fresh_counter, fresh_rest}
use Rattle.standing.proofs.Fresh.{fresh_stands}
use Rattle.standing.specs.Stands.{CountersStand, Stands}
use Rattle.gufhrandi.specs.Runs.{on_all}
use Rattle.standing.proofs.FreshWords.{fresh_count, fresh_free, fresh_first, fresh_says, fresh_in_range}

-- ---- cells, queues and counters

module _ (n : ℕ) where
  next_word_law : (c : ℕ) → c < n → next_in (fresh_links n) c ≡ fresh_next n c
  unfolding fresh_cell
  next_word_law c h = let at : next_word c ≡ next_word c + 0 = omega arith in rw at (fresh_cell_law n c 0 h (omega arith))

  ports_word : (c : ℕ) → c < n → ports_of (fresh_links n) c ≡ 0
  unfolding fresh_cell copies
  ports_word c h = let at : frame_word c ≡ next_word c + 1 = omega arith in rw at (ap (◌% 32) (fresh_cell_law n c 1 h (omega arith)))

  all_free : FreshCells n (fresh_links n)
  unfolding fresh_next
  all_free =
      record {
        free = fresh_free n;
        first = fresh_first n;
        goes_on = λ c h. next_word_law c (omega arith) ∙ rw (lt-ltb (c + 1) n h);
        ends = λ c h. let last : n ≤ c + 1 = omega arith in next_word_law c (omega arith) ∙ rw (le-ltb (c + 1) n last);
        ports = ports_word;
      }

  waiting_zero : (p : ℕ) → p < 5 → waiting_of (fresh_links n) p ≡ 0
  waiting_zero p h = let at : waiting_word p ≡ counter_word p (34 + 0) = omega arith in rw at (fresh_rest n p 0 h (omega arith))

  counters_zero : CountersStand (fresh_links n) (λ p k. 0)
  counters_zero p k hp hk = fresh_counter n p k hp (omega arith)

one_vlan : Distinct (vids fresh_settings.vlans)
unfolding fresh_settings among
one_vlan = (refl, tt)

-- ---- what fitting lengths say

module _ (cells links addresses : List ℕ) (fit : lengths_fit cells links addresses ≡ true) where
  abbrev n : ℕ
  n = cells_lent cells

  abbrev enough : Bool
  enough = leb fewest_cells n && leb n most_cells

  abbrev cells_are : Bool
  cells_are = eqb (length cells) (cell_bytes n)

  counts_and_cells : (enough && cells_are) ≡ true
  unfolding lengths_fit
  counts_and_cells =
      and_left (enough && cells_are) (eqb (length links) (link_words n))
      (and_left (enough && cells_are && eqb (length links) (link_words n)) (eqb (length addresses) place_count) fit)

  is_count : is_cell_count n ≡ true
  unfolding is_cell_count
  is_count = and_left enough cells_are counts_and_cells

  some : 1 ≤ n
  unfolding is_cell_count
  some = let least = leb-true fewest_cells n (and_left (leb fewest_cells n) (leb n most_cells) is_count) in omega arith

  cells_long : length cells ≡ cell_bytes n
  cells_long = eqb-true (length cells) (cell_bytes n) (and_right enough cells_are counts_and_cells)

  links_fit_law : links_fit (fresh_links n) ≡ true
  unfolding links_fit
  links_fit_law = rw (fresh_count n, fresh_length n, is_count) (eq-eqb (link_words n) (link_words n) refl)

  cells_fit_law : cells_fit cells (fresh_links n) ≡ true
  unfolding cells_fit
  cells_fit_law = rw (fresh_count n) (eq-eqb (length cells) (cell_bytes n) cells_long)

  addresses_fit_law : addresses_fit (replicate place_count 0) ≡ true
  unfolding addresses_fit
  addresses_fit_law = eq-eqb (length {A = ℕ} (replicate place_count 0)) place_count (length-replicate {A = ℕ} place_count 0)

  fresh_memories_stand : Stands (record { cells = cells; links = fresh_links n; addresses = replicate place_count 0 }) (fresh n)
  unfolding fresh
  fresh_memories_stand =
      record {
        links_fit_law = links_fit_law;
        cells_fit_law = cells_fit_law;
        cell_count_law = fresh_count n;
        settings = record { says = fresh_says n; in_range = fresh_in_range n; once = one_vlan };
        addresses = record { fit = addresses_fit_law; says = number_theorems.table_fresh place_count; in_range = number_theorems.fresh_in_range place_count };
        counters = counters_zero n;
        traffic =
            fresh_stands n (fresh_links n) some (omega (arith, fresh_length n)) (all_free n) (waiting_zero n) cells (omega (arith, cells_long));
      }

  pub stands_fresh : ((fresh_call cells links addresses).0 ≡ done_with 0 0) × Stands (on_all [] (fresh_call cells links addresses)).memories (fresh (cells_lent cells))
  unfolding fresh_call fresh_refusals first
  stands_fresh = rw fit (refl, fresh_memories_stand)
