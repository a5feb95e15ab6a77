-- `frame_in::judge::Arriving::member` meets its contract.
use mathlib.Core.Path.{refl, sym, ◌∙◌}
use Rattle.frame_in.proofs.Judgements.{damage_judged}
use Rattle.frame_in.proofs.Lessons.{chosen_fits}
use Rattle.frame_in.proofs.LookedUp.{destination_as, source_as, gid_small, destination_damaged, destination_there, source_damaged, source_there, switches_damaged, as_tested}
use Rattle.frame_in.proofs.judge.Arriving.member.Goals as goal

pub destination_look_up-requires : goal.destination_look_up-requires
destination_look_up-requires c = (gid_small _ _ _ _ _ _ _ c.requires, c.address_at.ensures.1)

pub returns-in_err-destination : goal.returns-in_err-destination
returns-in_err-destination c =
    damage_judged _ _ _ _ _ _ c.from_residual.ensures.0
    (destination_damaged _ _ _ _ _ _ _ c.requires (sym (destination_as _ _ _ c.address_at.ensures.0 c.destination_look_up.ensures) ∙ c.in_err-destination.was))

pub key_of-key-requires : goal.key_of-key-requires
key_of-key-requires c = (gid_small _ _ _ _ _ _ _ c.requires, c.address_at-2.ensures.1)

pub returns-in_err-source : goal.returns-in_err-source
returns-in_err-source c =
    damage_judged _ _ _ _ _ _ c.from_residual-in_err-source.ensures.0
    (source_damaged _ _ _ _ _ _ _ c.requires _ (sym (destination_as _ _ _ c.address_at.ensures.0 c.destination_look_up.ensures) ∙ c.in_ok-destination.was)
    _ (source_as _ _ c.address_at-2.ensures.0 c.key_of-key.ensures) (sym c.look_up.ensures ∙ c.in_err-source.was))

pub returns-in_err-switches : goal.returns-in_err-switches
returns-in_err-switches c =
    damage_judged _ _ _ _ _ _ c.from_residual-in_err-switches.ensures.0
    (switches_damaged _ _ _ _ _ _ _ c.requires _ (sym (destination_as _ _ _ c.address_at.ensures.0 c.destination_look_up.ensures) ∙ c.in_ok-destination.was)
    _ (source_as _ _ c.address_at-2.ensures.0 c.key_of-key.ensures) _ (sym c.look_up.ensures ∙ c.in_ok-source.was) _ refl c.in_err-switches.ensures)

pub chosen-requires : goal.chosen-requires
chosen-requires c = chosen_fits _ _ _ _ (sym c.in_ok-destination.was ∙ (destination_as _ _ _ c.address_at.ensures.0 c.destination_look_up.ensures))

pub invariant_of-lesson : goal.invariant_of-lesson
invariant_of-lesson c = record {
  destination_there = destination_there _ _ _ _ _ _ _ c.requires _ (sym (destination_as _ _ _ c.address_at.ensures.0 c.destination_look_up.ensures) ∙ c.in_ok-destination.was);
  source_there = source_there _ _ _ _ _ _ _ c.requires _ (sym (destination_as _ _ _ c.address_at.ensures.0 c.destination_look_up.ensures) ∙ c.in_ok-destination.was)
      _ (source_as _ _ c.address_at-2.ensures.0 c.key_of-key.ensures) _ (sym c.look_up.ensures ∙ c.in_ok-source.was);
}

pub tested-requires : goal.tested-requires
tested-requires c =
    as_tested _ _ _ _ _ _ _ c.requires _ (sym (destination_as _ _ _ c.address_at.ensures.0 c.destination_look_up.ensures) ∙ c.in_ok-destination.was)
    _ (source_as _ _ c.address_at-2.ensures.0 c.key_of-key.ensures) _ (sym c.look_up.ensures ∙ c.in_ok-source.was) _ c.in_ok-switches.ensures
    c.in_ok-switches.switches.in_range _ c.chosen.ensures _ c.candidates-candidates.ensures _ refl _ (record { destination = refl; source = refl; key = refl })
    _ c.masks_of-masks.ensures refl refl _ c.bit.ensures
