-- A record is cut out of the input alike, however the input comes. `proofs/Cutting.antt` proves it. Assumes nothing:
-- these are definitions.
use Rattle.std.specs.Prelude.{ℕ, ◌+◌, ◌≤◌, ◌≡◌, Bool, false, List, ◌++◌, length}
use Rattle.rules.specs.Tags.{Bytes}
use Rattle.records.specs.Framing.{next_of}
use Rattle.records.specs.declared.framing.Next.TheVariants.{More, Whole}

pub record FramingTheorems : Type 0 where
  -- a whole record stands in what was read
  pub whole_is_there : (input : List ℕ) (ended : Bool) (n : ℕ) → next_of input ended ≡ Whole n
      → (2 ≤ n) × (2 + n ≤ length input)
  -- what is known stays so, whatever follows
  pub known_stays : (seen rest : List ℕ) (ended : Bool) → (next_of seen false ≡ More → ⊥)
      → next_of (seen ++ rest) ended ≡ next_of seen false
  -- a buffer of 65,537 bytes has room for a record of every length: full, it never asks for more
  pub room_enough : (seen : List ℕ) → Bytes seen → 65537 ≤ length seen → next_of seen false ≡ More → ⊥
