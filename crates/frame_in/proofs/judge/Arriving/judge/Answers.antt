-- `frame_in::judge::Arriving::judge` meets its contract.
use Rattle.frame_in.proofs.Steps.{early_right, past_early}
use Rattle.frame_in.proofs.judge.Arriving.judge.Goals as goal

pub returns-in-Some : goal.returns-in-Some
returns-in-Some c = rw c.untested.ensures (early_right _ _ _ _ _ _ (c.in-Some.ensures))

pub past_early-requires : goal.past_early-requires
past_early-requires c = past_early _ _ _ _ _ c.requires (c.in_default.ensures)
