-- `departure::departing::Departing::write_retagged` meets its contract: the front, and what `finished` says.
use native.Mathlib.Omega.{arith}
use Rattle.departure.proofs.Retagged.{retagged_wrote}
use Rattle.departure.proofs.departing.Departing.write_retagged.Goals as goal

pub returns : goal.returns
returns c =
    retagged_wrote c.args.self c.args.out.now _ _ _ _ _ _ _ _ c.write_front-front.ensures.from_after (omega (arith, c.write_front-front.ensures.from_bound))
    c.load-last.ensures.value.0 c.load-last.ensures.out_after c.pad-long.ensures
