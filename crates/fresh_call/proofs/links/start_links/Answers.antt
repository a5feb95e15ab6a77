-- `fresh_call::links::start_links` meets its contract: with all ports and cells written, the words are those of a fresh switch.
use Rattle.std.proofs.Common.{◌≡◌, ◌-◌, replicate, rules, ◌∙◌, arith}
use Rattle.layout.specs.Places.{link_words}
use Rattle.settings.specs.SettingsOf.{fresh_vlan, fresh_operation}
use Rattle.fresh_call.proofs.Runs.{nexts_written, fresh_run}
use Rattle.fresh_call.proofs.links.start_links.Goals as goal

pub returns : goal.returns
unfolding nexts_written fresh_vlan fresh_operation
returns c =
    let end : c.args.n.number - 1 - c.loop-cell.cell ≡ 0 = omega arith in
    let five : c.loop-number.number ≡ 5 = omega arith in
    let zeros : c.fill.new.self ≡ replicate (link_words c.args.n.number) 0 = search rules in
    rw end at c.loop-cell.invariant
    ∙ rw (c.loop-number.invariant, five, c.write_vlan.ensures, zeros) (fresh_run c.args.n.number c.args.n.some)
