-- What is stored with a frame and read again is the frame. Assumes nothing.
use Prim.Native.Nat.{ℕ, ◌≤◌, ◌<◌}
use mathlib.Core.Path.{◌≡◌, sym}
use mathlib.Core.Bool.{true, false}
use native.Mathlib.Omega.{arith}
use lib.ListN.{length}
use borrow.Author.Tests.{le-leb, lt-ltb}
use Rattle.std.specs.Prelude.{if◌then◌else◌}
use Rattle.rules.specs.Cells.{shortest, longest}
use Rattle.rules.specs.Outcomes.{Frame}
use Rattle.rules.proofs.Choice.{on}
use Rattle.settings.specs.Operations.{is_stored_word, is_exempt, operation_end}
use Rattle.settings.specs.Ports.{default_number}
use Rattle.settings.proofs.OperationLaws.{good_stored}
use Rattle.settings.proofs.PortLaws.{default_back}
use Rattle.cells.specs.Stored.{stored_in_range, stored_operation}
use Rattle.arrival.specs.Stored.{stored_header}
use Rattle.take_out.specs.Frames.{frame_of}
use Rattle.standing.specs.Traffic.{Storable}

module _ (operation : ℕ) (f : Frame) (S : Storable operation f) where
  -- an operation's word never stands for none
  not_exempt : is_exempt operation ≡ false
  not_exempt = (good_stored operation S.in_range).1

  exempt_read : is_exempt (stored_header operation f).operation ≡ f.exempt
  unfolding stored_header
  exempt_read = on f.exempt (λ e. rw e) (λ e. rw (e, not_exempt))

  operation_read : stored_operation (stored_header operation f) ≡ f.vlan_operation
  unfolding stored_operation stored_header
  operation_read = on f.exempt (λ e. rw e (sym (S.exempt e))) (λ e. rw (e, not_exempt) (sym (S.operated e)))

  -- read again it is the frame
  pub frame_read : frame_of (stored_header operation f) f.packet.bytes f.queue ≡ f
  unfolding frame_of stored_header
  frame_read =
      let default = default_back f.origin.default S.default.pcp S.default.dei in
      λ i. record {
        packet = f.packet;
        origin = record { tags = sym S.tags i; default = default i };
        vlan_operation = operation_read i;
        exempt = exempt_read i;
        queue = f.queue;
      }

  -- and in range
  default_least : 16 ≤ default_number f.origin.default
  unfolding default_number
  default_least = omega (arith, S.default_least)

  default_most : default_number f.origin.default < 65520
  unfolding default_number
  default_most =
      let pcp : f.origin.default.pcp < 8 = S.default.pcp in
      let dei : f.origin.default.dei < 2 = S.default.dei in
      omega (arith, S.default_most)

  operation_stored : is_stored_word (if f.exempt then operation_end else operation) ≡ true
  operation_stored = on f.exempt (λ e. rw e) (λ e. rw e (good_stored operation S.in_range).0)

  pub stored_in_range_law : stored_in_range (stored_header operation f) ≡ true
  unfolding stored_in_range stored_header
  stored_in_range_law =
      rw (
        le-leb shortest (length f.packet.bytes) S.short,
        le-leb (length f.packet.bytes) longest S.long,
        le-leb 16 (default_number f.origin.default) default_least,
        lt-ltb (default_number f.origin.default) 65520 default_most,
        operation_stored,
      )
