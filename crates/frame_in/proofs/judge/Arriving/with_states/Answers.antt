-- `frame_in::judge::Arriving::with_states` meets its contract.
use mathlib.Core.Path.{refl}
use Rattle.frame_in.proofs.Judgements.{damage_judged}
use Rattle.frame_in.proofs.Steps.{states_damaged, as_ordinary}
use Rattle.frame_in.proofs.judge.Arriving.with_states.Goals as goal

pub returns-in_err-states : goal.returns-in_err-states
returns-in_err-states c = damage_judged _ _ _ _ _ _ c.from_residual.ensures.0 (states_damaged _ _ _ _ _ _ _ c.requires _ refl (c.in_err-states.ensures))

pub ordinary-requires : goal.ordinary-requires
ordinary-requires c = as_ordinary _ _ _ _ _ _ _ c.requires _ (c.in_ok-states.ensures) c.in_ok-states.states.in_range _ c.arrival_of.ensures
