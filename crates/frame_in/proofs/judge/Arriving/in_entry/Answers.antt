-- `frame_in::judge::Arriving::in_entry` meets its contract.
use mathlib.Core.Path.{refl, sym, ◌∙◌}
use Rattle.frame_in.proofs.Judgements.{damage_judged}
use Rattle.frame_in.proofs.Barring.{entry_damaged, nine, as_member}
use Rattle.frame_in.proofs.judge.Arriving.in_entry.Goals as goal

pub returns-in_err-operation : goal.returns-in_err-operation
returns-in_err-operation c = damage_judged _ _ _ _ _ _ c.from_residual.ensures.0 (entry_damaged _ _ _ _ _ _ _ c.requires _ refl (c.in_err-operation.ensures))

pub member-requires : goal.member-requires
member-requires c =
    as_member _ _ _ _ _ _ _ c.requires _ (c.in_ok-operation.ensures) c.in_ok-operation.operation.in_range _ refl _ c.read_entry-vlan.ensures
    (sym c.bit.ensures ∙ c.if-bit.true)

pub returns : goal.returns
returns c =
    rw c.untested.ensures
    (nine _ _ _ _ _ _ _ c.requires _ (c.in_ok-operation.ensures) c.in_ok-operation.operation.in_range _ refl c.read_entry-vlan.result c.read_entry-vlan.ensures
    (sym c.bit.ensures ∙ c.if-bit.false))
