-- `settings::table::clear_vlan` meets its contract: the words that move, the zeros, and the count.
use Rattle.std.proofs.Common.{rules, arith}
use Rattle.settings.proofs.TableSteps.{cleared_is}
use Rattle.settings.proofs.table.clear_vlan.Goals as goal

pub returns : goal.returns
returns c = cleared_is c.args.links.now c.args.entry (omega arith) (omega arith) (omega arith) c.copy_within.ensures.after (search rules) (omega arith)
