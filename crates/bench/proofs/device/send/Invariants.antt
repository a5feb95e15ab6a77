-- So many bytes are written so far.
use Rattle.std.proofs.Common.{◌-◌, ◌≤◌, length, take}
use Rattle.std.specs.Io.KnownBytes.{Appends}
use Rattle.bench.proofs.device.send.Given as goal

abbrev pub invariant-loop-bytes : goal.invariant-loop-bytes
invariant-loop-bytes g l =
    record {
      within : l.bytes ≤ length l.text;
      written : Appends (g.W.Write.contents l.initial.writer) (g.W.Write.contents l.writer) (take l.bytes l.text);
    }

abbrev pub decreases-loop-bytes : goal.decreases-loop-bytes
decreases-loop-bytes g l = length l.text - l.bytes
