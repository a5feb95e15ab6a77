-- `arrival::entering::arrival_of` meets its contract.
use Rattle.settings.specs.Operations.{operation_in}
use Rattle.tags.proofs.Laws.{decoded_count}
use Rattle.arrival.proofs.Arrivals.{told_small, arrival_is}
use Rattle.arrival.proofs.entering.arrival_of.Goals as goal

pub queue-queue-requires : goal.queue-queue-requires
queue-queue-requires c = told_small c.args.word.word 0 0 0 (operation_in 0) _ _ (c.told_by-told.ensures 0 0 (operation_in 0))

pub barred-barred-requires : goal.barred-barred-requires
barred-barred-requires c = decoded_count c.decode-tags.result _ c.decode-tags.ensures

pub returns : goal.returns
returns c = λ o.
    arrival_is c.args.word.word _ _ _ o _ _ _ _ _ _ c.stored_default-default.ensures
    c.decode-tags.ensures (c.told_by-told.ensures _ _ o) c.queue-queue.ensures
    (c.barred-barred.ensures o)
