-- `departure::departing::Departing::meet` meets its contract: a header that fits tells its length, and that the frame word is
-- in range.
use mathlib.Core.Bool.{true}
use mathlib.Core.Path.{◌≡◌, sym, ◌∙◌}
use native.Mathlib.Omega.{arith}
use Rattle.departure.specs.Frames.{header_fits}
use Rattle.departure.proofs.Headers.{header, sized}
use Rattle.departure.proofs.departing.Departing.meet.Goals as goal

pub left_of_word-requires : goal.left_of_word-requires
left_of_word-requires c = (
  omega arith,
  omega arith,
  sized c.read-header.result c.args.port.number c.args.c c.args.links.now
      (sym (c.header_fits.ensures c.args.port.number c.args.c c.args.links.now c.operation_word-own.ensures c.word-word.ensures) ∙ c.if-not-header_fits.false),
  c.word-word.ensures,
)

pub invariant_of-result-clause-length : goal.invariant_of-result-clause-length
invariant_of-result-clause-length c =
    let h = header c.read-header.result c.args.port.number c.args.c c.args.links.now
    (sym (c.header_fits.ensures c.args.port.number c.args.c c.args.links.now c.operation_word-own.ensures c.word-word.ensures) ∙ c.if-not-header_fits.false) in (h.short, h.long)
