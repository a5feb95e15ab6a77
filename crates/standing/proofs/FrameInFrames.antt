-- The frame that a frame-in queues is one that memory can hold. Assumes nothing.
use Prim.Native.Nat.{ℕ, ◌≤◌, ◌<◌}
use mathlib.Core.Path.{◌≡◌, refl, ap, ◌∙◌}
use mathlib.Core.Bool.{true, false}
use mathlib.Core.List.{List}
use Rattle.std.specs.Prelude.{None as none}
use native.Mathlib.Omega.{arith}
use lib.ListN.{length, get_or}
use borrow.Author.Tests.{ltb-false}
use Rattle.rules.specs.Choice.{sift, is_empty}
use Rattle.rules.specs.Cells.{shortest, longest}
use Rattle.rules.specs.Tags.{Bytes, Header, HeaderInRange}
use Rattle.rules.specs.Settings.{Vlan, Settings, no_operation}
use Rattle.rules.specs.Arguments.{operation_of, port_of}
use Rattle.rules.specs.PortTests.{ports_left}
use Rattle.rules.specs.Facts.{Facts, facts_of}
use Rattle.rules.specs.ReasonTable.{is_asked, reason_table, lines_in, reason_for}
use Rattle.rules.specs.Outcomes.{Frame, frame_of}
use Rattle.rules.proofs.Choice.{on, each_first, each_rest}
use Rattle.rules.proofs.Lines.{holds_none}
use Rattle.layout.specs.Places.{port_word}
use Rattle.settings.specs.Operations.{operation_in}
use Rattle.settings.specs.Ports.{port_in}
use Rattle.settings.proofs.PortLaws.{vid_word}
use Rattle.settings.specs.SettingsOf.{settings_of}
use Rattle.standing.specs.Traffic.{Storable}
use Rattle.frame_in.specs.InRange.{InRange}
use Rattle.arrival.specs.Stored.{operation_for}
use Rattle.frame_in.specs.Call.{facts_in}
use Rattle.frame_in.proofs.Facts.{facts_vlan}
use Rattle.arrival.proofs.LinkWords.{port_is_law}
use Rattle.frame_in.proofs.Undamaged.{queue_small}
use Rattle.standing.proofs.FrameInVlans.{word_says}

-- memory can hold the frame with this word for its VLAN's operation, and its queue is one of the four
pub record Fitted (operation : ℕ) (f : Frame) : Type 0 where
  pub storable : Storable operation f
  pub low : f.queue < 4

-- ---- no reason holds: not 1 and 2, and not 12 and 13

pub record NotDropped (f : Facts) : Type 0 where
  pub short : shortest ≤ length f.packet.bytes
  pub long : length f.packet.bytes ≤ longest
  pub port_left : is_empty (ports_left f.test) ≡ false
  pub room : f.outnumbers ≡ false

pub not_dropped : (f : Facts) → reason_for f ≡ none → NotDropped f
unfolding reason_for lines_in is_asked reason_table sift
not_dropped f e =
    let all = holds_none (lines_in (is_asked f.bpdu) (reason_table f)) e in
    on f.bpdu
    (λ b.
    let fails = rw b at all in
    let last = each_rest (each_rest (each_rest fails)) in
    record {
      short = ltb-false (length f.packet.bytes) shortest (each_first fails);
      long = ltb-false longest (length f.packet.bytes) (each_first (each_rest fails));
      port_left = each_first last;
      room = each_first (each_rest last);
    })
    (λ b.
    let fails = rw b at all in
    let six = each_rest (each_rest (each_rest (each_rest (each_rest (each_rest fails))))) in
    let last = each_rest (each_rest (each_rest (each_rest (each_rest six)))) in
    record {
      short = ltb-false (length f.packet.bytes) shortest (each_first fails);
      long = ltb-false longest (length f.packet.bytes) (each_first (each_rest fails));
      port_left = each_first last;
      room = each_first (each_rest last);
    })

-- ---- the frame of the facts

module _ (links addresses : List ℕ) (good : InRange links addresses) (p : ℕ) (there : p ≤ 4) (bytes : List ℕ) (each : Bytes bytes) where
  abbrev s : Settings
  s = settings_of links

  abbrev facts : Facts
  facts = facts_in links addresses p bytes

  record DefaultFits (h : Header) : Type 0 where
    in_range : HeaderInRange h
    least : 1 ≤ h.vid
    most : h.vid ≤ 4094

  default_fits : DefaultFits (s.port p).default
  unfolding port_of port_in
  default_fits =
      let v = vid_word (get_or links (port_word p) 0) (good.ports p (omega arith)) in
      rw (port_is_law links p (omega arith))
      (record {
        in_range = record { pcp = omega arith; dei = omega arith; vid = omega (arith, v.most) };
        least = omega (arith, v.least);
        most = omega (arith, v.most);
      })

  abbrev word : ℕ
  word = operation_for links facts.vid

  -- a BPDU has no operation, another frame that of its VLAN
  bpdu_operation : (frame_of facts).exempt ≡ true → (frame_of facts).vlan_operation ≡ no_operation
  unfolding frame_of
  bpdu_operation e = rw e

  vlan_operation_law : (frame_of facts).exempt ≡ false → (frame_of facts).vlan_operation ≡ operation_of (operation_in word)
  unfolding frame_of
  vlan_operation_law e =
      rw e (ap (λ (v : Vlan). v.operation) (facts_vlan links addresses bytes p) ∙ (word_says links addresses good facts.vid).says)

  pub queued_fitted : reason_for facts ≡ none → Fitted word (frame_of facts)
  unfolding facts_in facts_of frame_of
  queued_fitted e =
      let kept = not_dropped facts e in
      record {
        storable = record {
          short = kept.short;
          long = kept.long;
          tags = refl;
          default = default_fits.in_range;
          default_least = default_fits.least;
          default_most = default_fits.most;
          in_range = (word_says links addresses good facts.vid).in_range;
          exempt = bpdu_operation;
          operated = vlan_operation_law;
        };
        low = omega (arith, queue_small links addresses good bytes each p there);
      }
