-- `setting_calls::vlan::clear_vlan` meets its contract: an entry that was found is in use.
use Rattle.std.proofs.Common.{◌≡◌, arith, Ok, Some}
use Rattle.settings.specs.Table.{found_vlan}
use Rattle.layout.proofs.Fits.{fixed_part}
use Rattle.settings.proofs.FindLaws.{found_there}
use Rattle.setting_calls.proofs.vlan.clear_vlan.Goals as goal

pub clear_vlan-requires : goal.clear_vlan-requires
clear_vlan-requires c =
    let found : found_vlan c.args.links.now c.args.vid ≡ Ok (Some c.in_ok-entry.entry) = grind arith in
    grind (arith, fixed_part, found_there _ _ _ found)
