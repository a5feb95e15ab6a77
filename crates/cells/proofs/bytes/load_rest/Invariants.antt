-- `cells::bytes::load_rest` meets its contract. The invariant: what is left to read, written to `out` as it is now, gives the result. The measure is how many bytes are left.
use Rattle.std.proofs.Common.{◌≡◌, ◌-◌, ◌<◌, length, take}
use Rattle.std.proofs.lemmas.List.Edits.{sets}
use Rattle.cells.specs.Chains.{follow, walk}
use Rattle.cells.specs.Bytes.{cells_for, load_cells}
use Rattle.cells.proofs.bytes.load_rest.Given as goal

abbrev pub invariant-loop-done : goal.invariant-loop-done
invariant-loop-done l =
    (l.done < length l.out) × (l.cell < l.n) × (length l.out ≡ length l.initial.out)
    × (walk l.n l.links (cells_for (length l.out - l.done) - 1) l.cell ≡ walk l.n l.links (cells_for (length l.out) - 1) l.c)
    × (sets l.out l.done (take (length l.out - l.done) (load_cells l.cells (follow l.n l.links (cells_for (length l.out - l.done)) l.cell))) ≡ take (length l.out) (load_cells l.cells (follow l.n l.links (cells_for (length l.out)) l.c)))

abbrev pub decreases-loop-done : goal.decreases-loop-done
decreases-loop-done l = length l.out - l.done
