-- Numbers and entries: what is written is read, and each number of a change reads as the rules' entry. Assumes nothing.
use Rattle.std.proofs.Common.{◌≡◌, ℕ, ◌%◌, ◌^◌, ◌≤◌, ◌<◌, true, List, length, set, replicate, refl, arith}
use mathlib.Core.Path.{fun_ext}
use Rattle.std.specs.Prelude.{None as none, Some as some}
use Rattle.std.proofs.lemmas.Bool.Decides.{nat_tests}
use Rattle.std.proofs.lemmas.Grind.{common_steps}
use Rattle.rules.specs.Choice.{changed}
use Rattle.rules.specs.Addresses.{Entry, with_mark, older}
use Rattle.rules.specs.Tables.{put}
use Rattle.addresses.specs.Numbers.{key_in, port_in, static_in, used_in, parts_in_range, in_range, entry_in, entry_of, table_of, bit, number_of}
use Rattle.addresses.specs.Writes.{marked_number, older_number}
use Rattle.addresses.specs.Theorems.{Fits}

-- ---- reading

pub port_below : (n : ℕ) → n % 2048 < 20 → port_in n ≤ 4
port_below n h = omega arith

pub static_read : (n : ℕ) (e : Entry) → entry_of n ≡ some e → static_in n ≡ e.static
unfolding entry_of entry_in
static_read n e h = grind (arith, nat_tests)

pub read_fits : (n : ℕ) (e : Entry) → n < 2 ^ 64 → in_range n ≡ true → entry_of n ≡ some e → Fits e
unfolding entry_of entry_in in_range
read_fits n e below r h = record { key_fits = grind (arith, nat_tests); port_fits = grind (arith, nat_tests) }

-- ---- writing

pub zero_in_range : in_range 0 ≡ true
unfolding in_range
zero_in_range = refl

pub gone_entry : entry_of 0 ≡ none
unfolding entry_of
gone_entry = refl

pub read_written : (e : Entry) → Fits e → entry_of (number_of e) ≡ some e
unfolding entry_of entry_in number_of bit
read_written e f = grind (arith, nat_tests)

pub written_in_range : (e : Entry) → Fits e → in_range (number_of e) ≡ true
unfolding in_range number_of bit
written_in_range e f = grind (arith, nat_tests)

pub written_read : (n : ℕ) (e : Entry) → in_range n ≡ true → entry_of n ≡ some e → number_of e ≡ n
unfolding entry_of entry_in in_range number_of bit
written_read n e r h = grind (arith, nat_tests)

-- ---- marking

-- what a search looks at in a number
pub record Alike (m n : ℕ) : Type 0 where
  pub vacancy : used_in m ≡ used_in n
  pub key : key_in m ≡ key_in n
  pub port : port_in m ≡ port_in n
  pub range : parts_in_range m ≡ parts_in_range n

pub marked_alike : (n : ℕ) → Alike (marked_number n) n
unfolding marked_number
marked_alike n =
    record {
      vacancy = grind (arith, nat_tests);
      key = grind (arith, nat_tests);
      port = grind (arith, nat_tests);
      range = grind (arith, nat_tests);
    }

pub marked_read : (n : ℕ) (e : Entry) → entry_of n ≡ some e → entry_of (marked_number n) ≡ some (with_mark true e)
unfolding marked_number with_mark entry_of entry_in
marked_read n e h = grind (arith, nat_tests)

pub marked_in_range : (n : ℕ) → used_in n ≡ true → in_range (marked_number n) ≡ in_range n
unfolding marked_number in_range
marked_in_range n u = grind (arith, nat_tests)

-- ---- ageing

pub older_entry : (n : ℕ) → in_range n ≡ true → entry_of (older_number n) ≡ older (entry_of n)
unfolding older_number older with_mark entry_of entry_in in_range
older_entry n r = grind (arith, nat_tests)

pub older_in_range : (n : ℕ) → in_range n ≡ true → in_range (older_number n) ≡ true
unfolding older_number in_range
older_in_range n r = grind (arith, nat_tests)

-- ---- one place

pub table_set : (memory : List ℕ) (place n : ℕ) → place < length memory → table_of (set memory place n) ≡ put place (entry_of n) (table_of memory)
unfolding table_of put changed
table_set memory place n h = fun_ext (λ i. grind (arith, common_steps, nat_tests))

pub table_fresh : (n : ℕ) → table_of (replicate n 0) ≡ (λ (place : ℕ). none)
unfolding table_of entry_of
table_fresh n = fun_ext (λ i. grind (arith, common_steps))
