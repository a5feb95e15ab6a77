-- `departure::leaving::depart_from` meets its contract.
use mathlib.Core.Path.{sym, ap, ◌∙◌}
use Prim.Native.Nat.{◌%◌}
use native.Mathlib.Omega.{arith}
use Rattle.departure.proofs.Copies.{leaves, given}
use Rattle.departure.proofs.leaving.depart_from.Goals as goal

pub give_back-requires : goal.give_back-requires
give_back-requires c =
    let r = c.requires.links_value in
    let g = given c.args.n.number c.args.port.number c.args.c c.args.links.now c.args.port.there r.0 (ap (◌% 32) (sym r.2) ∙ c.if-ports-eq0.true) in
    record {
      n_in_bounds = (omega arith, c.args.n.most, (leaves c.args.n.number c.args.port.number c.args.c c.args.links.now r.0).below, g.0);
      last_value = (r.1, r.2 ∙ g.1);
    }

pub set_word-requires : goal.set_word-requires
set_word-requires c = omega (arith, leaves c.args.n.number c.args.port.number c.args.c c.args.links.now c.requires.links_value.0)
