-- `arrival::entering::is_bpdu` meets its contract.
use mathlib.Core.Path.{sym, ◌∙◌}
use native.Mathlib.Omega.{arith}
use Rattle.arrival.proofs.Arrivals.{bpdu_first, bpdu_address_law, another_address}
use Rattle.arrival.proofs.entering.is_bpdu.Goals as goal

pub returns-then-frame-ne-BPDU_FIRST : goal.returns-then-frame-ne-BPDU_FIRST
returns-then-frame-ne-BPDU_FIRST c = another_address c.args.map.word c.args.port.number c.args.frame.now (λ e. c.if-frame-ne-BPDU_FIRST.true (bpdu_first c.args.frame.now 0 (λ j. omega (arith, c.shared_slice_known-2-1.given j)) e))

pub returns-then-address_at-eq-BPDU_ADDRESS : goal.returns-then-address_at-eq-BPDU_ADDRESS
returns-then-address_at-eq-BPDU_ADDRESS c = rw c.has_bpdu.ensures (bpdu_address_law c.args.map.word c.args.port.number c.args.frame.now (sym c.address_at.ensures.0 ∙ c.if-address_at-eq-BPDU_ADDRESS.true))

pub returns : goal.returns
returns c = another_address c.args.map.word c.args.port.number c.args.frame.now (λ e. c.if-address_at-eq-BPDU_ADDRESS.false (c.address_at.ensures.0 ∙ e))
