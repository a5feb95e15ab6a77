-- `cells::bytes::store_rest` meets its contract. The invariant: what is left to store, stored into the cells as they are now, gives the result. The measure is how many bytes are left.
use Rattle.std.proofs.Common.{◌≡◌, ◌<◌, length}
use Rattle.cells.specs.Bytes.{cells_for, store_from}
use Rattle.cells.proofs.bytes.store_rest.Given as goal

abbrev pub invariant-loop-rest : goal.invariant-loop-rest
invariant-loop-rest l =
    (0 < length l.rest) × (l.at < l.n) × (length l.cells ≡ length l.initial.cells)
    × (store_from l.n l.links (cells_for (length l.rest)) l.at l.rest l.cells ≡ store_from l.n l.links (cells_for (length l.bytes)) l.c l.bytes l.initial.cells)

abbrev pub decreases-loop-rest : goal.decreases-loop-rest
decreases-loop-rest l = length l.rest
