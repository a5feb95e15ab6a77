-- `fresh_call::links::start_links` meets its contract: the ports so far, and the cells that are left.
use Rattle.std.proofs.Common.{◌≡◌, ◌-◌}
use Rattle.fresh_call.proofs.Runs.{ports_written, nexts_written}
use Rattle.fresh_call.proofs.links.start_links.Given as goal

abbrev pub invariant-loop-number : goal.invariant-loop-number
invariant-loop-number l = l.links ≡ ports_written l.number l.initial.links

abbrev pub invariant-loop-cell : goal.invariant-loop-cell
invariant-loop-cell l = nexts_written (l.cell-end - l.cell) l.cell l.links ≡ nexts_written l.cell-end 0 l.initial.links
