-- `frame_in::judge::Arriving::tested` meets its contract.
use Rattle.frame_in.proofs.LastRules.{ten, eleven, tested_offered}
use Rattle.frame_in.proofs.judge.Arriving.tested.Goals as goal

pub returns-then-learning : goal.returns-then-learning
returns-then-learning c = rw c.untested.ensures (ten _ _ _ _ _ _ _ _ c.requires c.if-learning.true)

pub returns-then-offer-eq0 : goal.returns-then-offer-eq0
returns-then-offer-eq0 c = rw c.untested-then-offer-eq0.ensures (eleven _ _ _ _ _ _ _ _ c.requires c.if-learning.false c.if-offer-eq0.true)

pub returns : goal.returns
returns c = rw c.offered_plan.ensures (tested_offered _ _ _ _ _ _ _ _ c.requires c.if-learning.false c.if-offer-eq0.false)
