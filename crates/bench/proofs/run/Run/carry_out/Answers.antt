-- The call that a record asks, and its line.
use Rattle.std.proofs.Common.{rules, arith}
use Rattle.records.proofs.Cutting.{framing}
use Rattle.bench.proofs.Reading.{record_long}
use Rattle.bench.proofs.Acting.{play_leads}
use Rattle.bench.proofs.run.Run.carry_out.Goals as goal

pub record-bytes-requires : goal.record-bytes-requires
record-bytes-requires c = (framing.whole_is_there _ _ _ c.requires.1).1

pub kind_of-kind-requires : goal.kind_of-kind-requires
kind_of-kind-requires c =
    let there = framing.whole_is_there _ _ _ c.requires.1 in rw c.record-bytes.ensures (omega (arith, record_long _ c.args.long there.1, there.0))

pub answer_to-answer-requires : goal.answer_to-answer-requires
answer_to-answer-requires c =
    let there = framing.whole_is_there _ _ _ c.requires.1 in rw c.record-bytes.ensures (omega (arith, record_long _ c.args.long there.1, there.0))

pub pass-requires : goal.pass-requires
pass-requires c = (framing.whole_is_there _ _ _ c.requires.1).1

pub returns : goal.returns
returns c = λ around came handed counted.
    play_leads c.args.self.now came handed counted c.requires.0 around c.args.long _ _ _ _ c.requires.1 (search rules)
    (rw c.record-bytes.ensures at c.answer_to-answer.ensures)
    (rw (c.kind_of-kind.ensures, c.record-bytes.ensures) at c.put.ensures)
    c.pass.ensures
