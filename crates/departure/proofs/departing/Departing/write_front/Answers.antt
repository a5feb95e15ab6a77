-- `departure::departing::Departing::write_front` meets its contract: the tags in the first cell are the frame's.
use Rattle.departure.proofs.Retagged.{front_wrote}
use Rattle.departure.proofs.departing.Departing.write_front.Goals as goal

pub returns-clause-from_after : goal.returns-clause-from_after
returns-clause-from_after c =
    front_wrote c.args.self c.args.out.now _ _ c.tags-own.result c.leaving-new.result
    c.write_addresses.ensures c.tags-own.ensures.0 c.tags-own.ensures.1 c.leaving-new.ensures.new_tags c.encode.ensures
