-- What was left has room behind it.
use Rattle.std.proofs.Common.{◌-◌, ◌<◌, [], arith, refl}
use Rattle.std.proofs.KnownBytes.{Consumes-nil, Consumes-kept}
use Rattle.bench.specs.Progressing.{waiting, unread}
use Rattle.bench.proofs.Reading.{left_length, kept, come, more_has_room, refilled}
use Rattle.bench.proofs.input.Input.refill.Goals as goal

pub returns-in_err-n : goal.returns-in_err-n
unfolding waiting
returns-in_err-n g c =
    let s = c.args.self.now in
    unread (kept s.buffer s.at s.end s.from (omega arith) _ c.copy_within.ensures.after _ c.receive-received.new.input) refl
    (Consumes-kept _ _ _ [] (Consumes-nil _) (rw (← c.in_err-n.ensures) at c.receive-received.ensures.bytes))
    (c.from_residual.ensures.0)

pub returns : goal.returns
unfolding waiting
returns g c =
    let s = c.args.self.now in
    let n = c.in_ok-n.n in
    let seen = rw c.waiting.ensures at c.is_bytes.ensures in
    let room : s.end - s.at < 65537 = omega (arith, more_has_room _ _ seen c.requires, left_length s.buffer s.at s.end s.from (omega arith)) in
    let read = rw (← c.in_ok-n.ensures) at c.receive-received.ensures.bytes in
    let fits = rw (← c.in_ok-n.ensures) at c.receive-received.ensures.fits in
    refilled s _ c.requires _ _ c.receive-received.new.input c.is_bytes-2.ensures (omega arith) n fits.0 (come s.buffer s.at s.end s.from (omega arith) _ c.copy_within.ensures.after _ c.receive-received.new.input n fits.0) refl read
