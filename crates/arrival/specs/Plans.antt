-- A plan's masks where no port was tested. Assumes nothing: this is a definition.
use Rattle.arrival.specs.declared.plan.Masks.{Masks}

abbrev pub no_masks : Masks
no_masks = record { candidates = 0; left = 0; passing = 0 }
