-- The places of address memory, lent: whatever is written to them is what the memory holds in the end. Assumes nothing:
-- these are definitions.
use Rattle.std.specs.Prelude.{ℕ, List, Option}
use Rattle.std.specs.Borrow.{LendsIf, MutBor, Fml, Array, u64}

abbrev pub LendsPlaces : MutBor (List ℕ) → Option (MutBor (List ℕ)) → Fml
LendsPlaces memory places = LendsIf (Array u64 0) (Array u64 0) memory places (λ written. written) memory.now
