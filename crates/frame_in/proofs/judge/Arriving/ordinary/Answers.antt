-- `frame_in::judge::Arriving::ordinary` meets its contract.
use mathlib.Core.Path.{sym, ◌∙◌}
use Rattle.frame_in.proofs.Judgements.{damage_judged}
use Rattle.frame_in.proofs.Barring.{barred_right, table_damaged, absent_right, in_entry, found_at}
use Rattle.frame_in.proofs.judge.Arriving.ordinary.Goals as goal

pub returns-in-Some : goal.returns-in-Some
returns-in-Some c = rw c.untested.ensures (barred_right _ _ _ _ _ _ c.requires _ c.in-Some.is)

pub returns-in_err-find_vlan : goal.returns-in_err-find_vlan
returns-in_err-find_vlan c =
    damage_judged _ _ _ _ _ _ c.from_residual.ensures.0 (table_damaged _ _ _ _ _ _ c.requires c.in_default.is (sym c.find_vlan.ensures ∙ c.in_err-find_vlan.was))

pub in_entry-requires : goal.in_entry-requires
in_entry-requires c = in_entry _ _ _ _ _ _ c.requires c.in_default.is _ (found_at c.find_vlan.ensures (c.in_ok-find_vlan.was) c.in-Some-2.is)

pub returns-in-None : goal.returns-in-None
returns-in-None c =
    rw (c.untested-in-None.ensures, c.absent.ensures)
    (absent_right _ _ _ _ _ _ c.requires c.in_default.is (found_at c.find_vlan.ensures (c.in_ok-find_vlan.was) c.in-None.is))
