-- `frame_in::carry::count_falls` meets its contract.
use mathlib.Core.Path.{sym, ◌∙◌}
use Rattle.frame_in.proofs.Carries.{falls_none, falls_counted}
use Rattle.frame_in.proofs.carry.count_falls.Goals as goal

pub returns-then-all_stay : goal.returns-then-all_stay
returns-then-all_stay c = falls_none _ _ (sym c.all_stay.ensures ∙ c.if-all_stay.true)

pub returns : goal.returns
returns c = falls_counted _ _ _ _ c.less.ensures c.less-2.ensures c.count_each.ensures c.count_each-2.ensures
