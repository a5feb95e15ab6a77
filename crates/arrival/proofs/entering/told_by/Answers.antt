-- `arrival::entering::told_by` meets its contract.
use mathlib.Core.Path.{◌∙◌}
use Rattle.settings.specs.States.{state_in}
use Rattle.arrival.proofs.Arrivals.{untagged_told, tagged_told}
use Rattle.arrival.proofs.entering.told_by.Goals as goal

pub returns-then-tags-eq0 : goal.returns-then-tags-eq0
returns-then-tags-eq0 c = λ states port o. let a = c.args in untagged_told a.word.word states 0 port o a.tags _ _ c.if-tags-eq0.true c.vid.ensures c.pcp.ensures

pub returns : goal.returns
returns c = λ states port o.
    let a = c.args in
    tagged_told a.word.word states 0 port o a.tags _ _ _ (c.default_header-header.ensures (state_in states port) o)
    (c.assigned_vid-vid.ensures ∙ rw c.assignment.ensures) c.queue_pcp-pcp.ensures
