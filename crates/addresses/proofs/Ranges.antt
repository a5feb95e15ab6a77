-- Memory in range: every place is, and a number in range keeps it so. Assumes nothing.
use Rattle.std.proofs.Common.{◌≡◌, ℕ, zero, suc, true, List, [], ◌∷◌, map, get_or, set, replicate, refl, arith}
use Rattle.std.proofs.lemmas.Grind.{common_steps}
use Rattle.addresses.specs.Numbers.{in_range, all_in_range}
use Rattle.addresses.specs.Writes.{older_number}
use Rattle.addresses.specs.Theorems.{NumberTheorems}
use Rattle.addresses.proofs.Entries.{older_in_range, read_written, written_in_range, written_read, read_fits, table_set, table_fresh}

pub all_at : (memory : List ℕ) (i : ℕ) → all_in_range memory ≡ true → in_range (get_or memory i 0) ≡ true
unfolding all_in_range in_range
all_at memory i h = grind (arith, common_steps)

pub all_set : (memory : List ℕ) (i m : ℕ) → all_in_range memory ≡ true → in_range m ≡ true → all_in_range (set memory i m) ≡ true
unfolding all_in_range
all_set [] i m h r = refl
all_set (n ∷ ns) zero m h r = grind (arith, common_steps)
all_set (n ∷ ns) (suc i) m h r = grind (arith, common_steps, all_set ns i m)

pub all_older : (memory : List ℕ) → all_in_range memory ≡ true → all_in_range (map older_number memory) ≡ true
unfolding all_in_range
all_older [] h = refl
all_older (n ∷ ns) h = grind (arith, common_steps, all_older ns, older_in_range n)

pub all_fresh : (n : ℕ) → all_in_range (replicate n 0) ≡ true
unfolding all_in_range in_range
all_fresh zero = refl
all_fresh (suc n) = all_fresh n

pub number_theorems : NumberTheorems
number_theorems =
    record {
      read_written = read_written;
      written_in_range = written_in_range;
      written_read = written_read;
      read_fits = read_fits;
      table_set = table_set;
      table_fresh = table_fresh;
      fresh_in_range = all_fresh;
    }
