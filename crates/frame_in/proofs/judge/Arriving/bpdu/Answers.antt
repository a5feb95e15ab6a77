-- `frame_in::judge::Arriving::bpdu` meets its contract.
use mathlib.Core.Path.{refl}
use Rattle.frame_in.proofs.Judgements.{damage_judged}
use Rattle.frame_in.proofs.Steps.{switches_damaged, bpdu_offered}
use Rattle.frame_in.proofs.judge.Arriving.bpdu.Goals as goal

pub returns-in_err-switches : goal.returns-in_err-switches
returns-in_err-switches c = damage_judged _ _ _ _ _ _ c.from_residual.ensures.0 (switches_damaged _ _ _ _ _ _ c.requires _ refl (c.in_err-switches.ensures))

pub returns : goal.returns
returns c =
    rw c.offered_plan.ensures
    (bpdu_offered _ _ _ _ _ _ c.requires _ (c.in_ok-switches.ensures) c.in_ok-switches.switches.in_range _ c.masks_of-masks.ensures refl refl)
