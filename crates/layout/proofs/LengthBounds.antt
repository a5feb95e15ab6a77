-- The lengths of lent memory, exactly, and their bounds. Assumes nothing.
use Rattle.std.proofs.Common.{◌≡◌, ℕ, true, false, arith}
use Rattle.rules.proofs.Choice.{on}
use Rattle.layout.specs.Places.{link_words}
use Rattle.layout.specs.Lengths.{is_cell_count, link_words_for, links_fit, cells_fit, addresses_fit}
use Rattle.layout.specs.LengthTheorems.{LengthTheorems}

words_of : (n : ℕ) → is_cell_count n ≡ true → link_words_for n ≡ link_words n
unfolding link_words_for
words_of n h = rw h

no_words : (n : ℕ) → is_cell_count n ≡ false → link_words_for n ≡ 0
unfolding link_words_for
no_words n h = rw h

pub length_theorems : LengthTheorems
unfolding is_cell_count links_fit cells_fit addresses_fit
length_theorems =
    record {
      cell_counts = λ n. (λ h. (grind arith, grind arith), λ h. grind arith);
      link_memory_bound = λ n. on (is_cell_count n) (λ h. omega (arith, words_of n h)) (λ h. omega (arith, no_words n h));
      links_exactly = λ links. (λ h. grind (arith, words_of), λ h. grind (arith, words_of));
      cells_exactly = λ cells links. (λ h. grind arith, λ h. grind arith);
      addresses_exactly = λ addresses. (λ h. grind arith, λ h. grind arith);
    }
