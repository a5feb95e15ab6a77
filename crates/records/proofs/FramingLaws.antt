-- The cases of what comes next in the input. Assumes nothing.
use Prim.Native.Nat.{ℕ, ◌+◌, ◌≤◌, ◌<◌}
use mathlib.Core.Path.{◌≡◌}
use mathlib.Core.Bool.{Bool}
use mathlib.Core.List.{List}
use native.Mathlib.Omega.{arith}
use lib.ListN.{length}
use borrow.Author.Tests.{eq-eqb, ne_eqb, lt-ltb, le-ltb}
use Rattle.records.specs.Framing.{if_ended, record_length, next_of}
use Rattle.records.specs.declared.framing.Next.TheVariants.{Finished, Cut, Whole}

module _ (input : List ℕ) (ended : Bool) where
  pub next_none : length input ≡ 0 → if_ended ended Finished ≡ next_of input ended
  unfolding next_of
  next_none h = rw (eq-eqb _ _ h)

  pub next_one_byte : (length input ≡ 0 → ⊥) → length input < 2 → if_ended ended Cut ≡ next_of input ended
  unfolding next_of
  next_one_byte h short = rw (ne_eqb _ _ h, lt-ltb _ _ short)

  module _ (h : 2 ≤ length input) where
    not_empty : length input ≡ 0 → ⊥
    not_empty e = omega arith

    pub next_length_under_two : record_length input < 2 → Cut ≡ next_of input ended
    unfolding next_of
    next_length_under_two under = rw (ne_eqb _ _ not_empty, le-ltb _ _ h, lt-ltb _ _ under)

    pub next_cut : 2 ≤ record_length input → length input < 2 + record_length input → if_ended ended Cut ≡ next_of input ended
    unfolding next_of
    next_cut long short = rw (ne_eqb _ _ not_empty, le-ltb _ _ h, le-ltb _ _ long, lt-ltb _ _ short)

    pub next_whole : 2 ≤ record_length input → 2 + record_length input ≤ length input → Whole (record_length input) ≡ next_of input ended
    unfolding next_of
    next_whole long all = rw (ne_eqb _ _ not_empty, le-ltb _ _ h, le-ltb _ _ long, le-ltb _ _ all)
