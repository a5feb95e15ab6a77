-- What stands outside the run: the bytes that the reader has left and those that the writer holds. Where a reader or a
-- writer does not say which these are, nothing is claimed of them. Assumes nothing: these are definitions.
use Rattle.std.specs.Prelude.{ℕ, List, Option}
use Rattle.std.specs.Io.KnownBytes.{Consumes, Appends}

pub record Outside : Type 0 where
  pub left : Option (List ℕ)
  pub held : Option (List ℕ)

abbrev pub outside : Option (List ℕ) → Option (List ℕ) → Outside
outside left held = record { left = left; held = held }

-- the reader gave these bytes, and the writer took those lines
pub record Moved (before after : Outside) (bytes lines : List ℕ) : Type 0 where
  pub read : Consumes before.left after.left bytes
  pub wrote : Appends before.held after.held lines
