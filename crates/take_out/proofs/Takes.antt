-- A frame that is sent: memory's settings are the rules', and its frame is the machine's. Assumes nothing.
use Prim.Native.Nat.{ℕ, ◌<◌}
use mathlib.Core.Path.{◌≡◌, ap}
use mathlib.Core.Bool.{true}
use mathlib.Core.List.{List}
use borrow.Author.Tests.{lt-ltb}
use Rattle.rules.specs.Arguments.{port_of}
use Rattle.rules.specs.declared.counters.Counter.TheVariants.{Sent as sent}
use Rattle.machine.specs.TakeOut.{leaving_stack, leaving_bytes}
use Rattle.layout.specs.Answers.{done_with}
use Rattle.settings.specs.SettingsOf as Settings
use Rattle.settings.specs.SettingsOf.{settings_of}
use Rattle.departure.specs.Leaving.{departed, left}
use Rattle.take_out.specs.Frames.{frame_of, leaving_of, leaving_from, written, can_send}
use Rattle.take_out.specs.Take.{leaving_at, sent_from, taken_frame, taken_or_damaged}

pub leaving_at_law : (n : ℕ) (cells l : List ℕ) (port queue c : ℕ) → port < 5 → leaving_from n cells l port c ≡ leaving_at n cells l port queue c
unfolding leaving_at leaving_bytes leaving_stack leaving_of frame_of settings_of Settings.ports_of port_of
leaving_at_law n cells l port queue c h = rw (lt-ltb port 5 h)

pub frame_sent : (cells : List ℕ) (n : ℕ) (l : List ℕ) (port : ℕ) (out : List ℕ) (queue c count : ℕ) (after buffer : List ℕ)
    → port < 5
    → can_send cells n port c l ≡ true
    → (count, buffer) ≡ written out (leaving_from n cells l port c)
    → after ≡ left port queue c sent (departed n port c l)
    → (done_with count queue, (after, buffer)) ≡ taken_or_damaged cells n l port out queue c
unfolding taken_or_damaged taken_frame sent_from
frame_sent cells n l port out queue c count after buffer known sends b e =
    let bytes = leaving_at_law n cells l port queue c known in
    rw (sends, e, ap (λ (p : ℕ × List ℕ). p.0) b, ap (λ (p : ℕ × List ℕ). p.1) b, bytes)
