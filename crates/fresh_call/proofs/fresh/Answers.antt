-- `fresh_call::fresh` meets its contract: the lengths fit, for as many cells as are lent.
use Rattle.std.proofs.Common.{◌≡◌, true, length, arith}
use Rattle.rules.specs.Lines.{first}
use Rattle.rules.specs.Numbers.{place_count}
use Rattle.layout.proofs.Fits.{addresses_fit_law}
use Rattle.fresh_call.specs.Calls.{cells_lent, lengths_fit, fresh_refusals, fresh_call}
use Rattle.fresh_call.proofs.fresh.Goals as goal

pub returns : goal.returns
unfolding fresh_call fresh_refusals first
returns c =
    let many : c.in_ok-n.n.number ≡ cells_lent c.args.cells.now = grind arith in
    let fit : lengths_fit c.args.cells.now c.args.links.now c.args.addresses.now ≡ true = grind arith in
    let all : length c.in_ok-places.places.now ≡ place_count = grind (arith, addresses_fit_law) in
    rw (fit, c.start_links.ensures, c.forget_all.ensures, many, all)
