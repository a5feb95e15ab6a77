-- `frame_in::judge::Arriving::past_early` meets its contract.
use mathlib.Core.Path.{refl, ◌∙◌}
use Rattle.frame_in.proofs.Judgements.{damage_judged}
use Rattle.frame_in.proofs.Steps.{port_damaged, map_damaged, as_bpdu, no_bpdu}
use Rattle.frame_in.proofs.judge.Arriving.past_early.Goals as goal

pub returns-in_err-word : goal.returns-in_err-word
returns-in_err-word c =
    damage_judged _ _ _ _ _ _ c.from_residual.ensures.0
    (port_damaged _ _ _ _ _ c.requires _ refl (rw c.index.ensures at c.in_err-word.ensures))

pub returns-in_err-map : goal.returns-in_err-map
returns-in_err-map c =
    damage_judged _ _ _ _ _ _ c.from_residual-in_err-map.ensures.0
    (map_damaged _ _ _ _ _ c.requires _ (c.in_ok-word.ensures ∙ rw c.index.ensures) c.in_ok-word.word.in_range _ refl (c.in_err-map.ensures))

pub bpdu-requires : goal.bpdu-requires
bpdu-requires c =
    as_bpdu _ _ _ _ _ c.requires _ (c.in_ok-word.ensures ∙ rw c.index.ensures) c.in_ok-word.word.in_range _ (c.in_ok-map.ensures) c.in_ok-map.map.in_range
    _ c.is_bpdu.ensures _ c.stored_default.ensures c.if-is_bpdu.true

pub with_states-requires : goal.with_states-requires
with_states-requires c =
    no_bpdu _ _ _ _ _ c.requires _ (c.in_ok-word.ensures ∙ rw c.index.ensures) c.in_ok-word.word.in_range _ (c.in_ok-map.ensures) c.in_ok-map.map.in_range
    _ c.is_bpdu.ensures c.if-is_bpdu.false
