-- `setting_calls::vlan::set_vlan` meets its contract: an entry that was found is one of the sixteen.
use Rattle.std.proofs.Common.{◌≡◌, arith, Ok, Some}
use Rattle.settings.specs.Table.{found_vlan}
use Rattle.layout.proofs.Fits.{fixed_part}
use Rattle.settings.proofs.FindLaws.{found_there}
use Rattle.setting_calls.proofs.vlan.set_vlan.Goals as goal

pub write_vlan-requires : goal.write_vlan-requires
write_vlan-requires c =
    let found : found_vlan c.args.links.now c.args.settings.vid ≡ Ok (Some c.in-Some.entry) = grind arith in
    grind (arith, fixed_part, found_there _ _ _ found)
