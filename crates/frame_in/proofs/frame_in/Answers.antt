-- `frame_in::frame_in` meets its contract.
use mathlib.Core.Path.{◌≡◌, ap}
use mathlib.Core.Bool.{true}
use native.Mathlib.Omega.{arith}
use borrow.Author.Rules.{rules}
use Rattle.layout.specs.Places.{link_words, cell_bytes}
use Rattle.layout.specs.Lengths.{links_fit, cells_fit, addresses_fit}
use Rattle.layout.proofs.Fits.{links_fit_law, cells_fit_law}
use Rattle.frame_in.proofs.Refused.{lent_is}
use Rattle.frame_in.proofs.frame_in.Goals as goal

pub judge-requires : goal.judge-requires
judge-requires c =
    let linked : links_fit c.args.links.now ≡ true = search rules in
    let placed : addresses_fit c.in_ok-addresses.addresses.now ≡ true = search rules in
    lent_is _ _ _ _ linked placed c.cell_count-n.ensures c.in_ok-port.port.there

pub carry_out-requires-clause-lengths : goal.carry_out-requires-clause-lengths
carry_out-requires-clause-lengths c =
    let linked : links_fit c.args.links.now ≡ true = search rules in
    let celled : cells_fit c.args.cells.now c.args.links.now ≡ true = search rules in
    let n = c.cell_count-n.ensures in (
      omega (arith, (links_fit_law c.args.links.now linked).long, ap link_words n),
      omega (arith, cells_fit_law c.args.cells.now c.args.links.now celled, ap cell_bytes n),
    )
