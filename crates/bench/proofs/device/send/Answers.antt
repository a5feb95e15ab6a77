-- What is written goes on where it stopped.
use Rattle.std.proofs.Common.{◌-◌, length, take, drop, arith, take-add, take-take}
use Rattle.std.proofs.KnownBytes.{Appends-trans}
use Rattle.bench.proofs.device.send.Goals as goal

pub loop-bytes-preserved : goal.loop-bytes-preserved
loop-bytes-preserved g c =
    let text = c.args.text.now in
    let done = c.loop-bytes.bytes in
    let n = c.in-Ok.n in
    record {
      within = omega (arith, c.in-Ok.ensures.some);
      written = rw take-add (Appends-trans _ _ _ (take done text) (take n (drop done text)) c.loop-bytes.invariant.written (rw (take-take n (length text - done) (drop done text) (omega (arith, c.in-Ok.ensures.some))) at c.in-Ok.ensures.bytes));
    }
