-- `slices::copy_long` meets its contract: the last block, behind the loop that ended before its first turn or at its last.
use Rattle.std.proofs.Common.{length, ◌-◌, ◌+◌, arith}
use Rattle.slices.proofs.Runs.{sets_more, sets_last}
use Rattle.slices.proofs.copy_long.Goals as goal
use Rattle.slices.proofs.copy_long.Goals.{else-loop-done-test, then-loop-done-test+else-last-done-gt64}

pub returns : goal.returns
returns c =
    let a = c.args in
    let done = c.loop-done.done in
    let inv = c.loop-done.invariant in
    elim c.loop-done-test.branch [
      | else-loop-done-test w ↦ rw (c.copy_block-2.ensures, w.to-is, inv.1) (sets_last a.to.now a.at a.from.now done (length a.from.now - 64) 64 (omega arith) (omega arith) (omega arith))
      | then-loop-done-test+else-last-done-gt64 w ↦
          rw (c.copy_block-2.ensures, w.to-is, sets_more a.to.now _ _ a.at a.from.now done done 64 inv.1 w.copy_block.ensures (omega arith) (omega arith))
          (sets_last a.to.now a.at a.from.now (done + 64) (length a.from.now - 64) 64 (omega arith) (omega arith) (omega arith))
    ]
