-- The run is as many actions as turns.
use Rattle.std.proofs.Common.{inl, inr, ◌∙◌, arith}
use Rattle.std.proofs.lemmas.Grind.{common_steps}
use Rattle.bench.proofs.Running.{running_first, running_on, played, failed_played}
use Rattle.bench.proofs.run.Run.play.Goals as goal
use Rattle.bench.proofs.run.Run.play.Goals.{else-loop-turn-test, then-loop-turn-test+then-self}

pub loop-turn-init : goal.loop-turn-init
loop-turn-init g c = running_first c.args.self.now _ c.requires

pub returns-in_err-step : goal.returns-in_err-step
returns-in_err-step g c =
    failed_played _ _ _ _ _ _ c.from_residual.ensures.0
    (running_on _ _ _ _ _ c.loop-turn.invariant _ _ _ c.in_err-step.ensures) c.requires.fresh_switch

pub loop-turn-preserved : goal.loop-turn-preserved
loop-turn-preserved g c = running_on _ _ _ _ _ c.loop-turn.invariant _ _ _ c.in_ok-step.ensures

-- no line waits
pub returns-then-not-wait : goal.returns-then-not-wait
returns-then-not-wait g c =
    played _ _ _ _ _ _ c.loop-turn.invariant c.requires.fresh_switch (λ e. grind (arith, common_steps))
    (elim c.loop-turn-test.branch [ else-loop-turn-test w ↦ inr (inr (omega arith)) | then-loop-turn-test+then-self w ↦ inl w.if-self.true ])

pub returns : goal.returns
returns g c =
    played _ _ _ _ _ _ (running_on _ _ _ _ _ c.loop-turn.invariant _ _ _ (c.flush.ensures.steps _)) c.requires.fresh_switch
    (λ e. c.flush.ensures.rest.0)
    (elim c.loop-turn-test.branch [ else-loop-turn-test w ↦ inr (inr (omega arith)) | then-loop-turn-test+then-self w ↦ inl (c.flush.ensures.rest.1 ∙ w.if-self.true) ])
