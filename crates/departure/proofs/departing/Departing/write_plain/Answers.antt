-- `departure::departing::Departing::write_plain` meets its contract: the frame is read whole, and leaves as it came.
use native.Mathlib.Omega.{arith}
use Rattle.departure.proofs.Plain.{plain_wrote}
use Rattle.departure.proofs.departing.Departing.write_plain.Goals as goal

pub returns : goal.returns
returns c =
    plain_wrote c.args.self c.requires.1 c.args.out.now _ _ c.requires.0 (λ i. omega (arith, c.type_inv.out i))
    c.load_whole-last.ensures.value.0 c.load_whole-last.ensures.out_after
