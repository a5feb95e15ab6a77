-- `settings::table::find_vlan` meets its contract: the search through the entries that are left gives the answer.
use Rattle.std.proofs.Common.{◌≡◌, ◌-◌}
use Rattle.settings.specs.Table.{find_from, found_vlan}
use Rattle.settings.proofs.table.find_vlan.Given as goal

abbrev pub invariant-loop-entry : goal.invariant-loop-entry
invariant-loop-entry l = found_vlan l.links l.vid ≡ find_from (l.count - l.entry) l.links l.entry l.vid
