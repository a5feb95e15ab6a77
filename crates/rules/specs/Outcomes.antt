-- What a frame's facts come to: its one outcome, the frame that is stored, and what its source leaves in the address
-- table.
-- Assumes nothing: these are definitions.
use Rattle.std.specs.Prelude.{ℕ, Bool, ◌&&◌, not, List, if◌then◌else◌}
use Rattle.std.specs.Prelude.{Option, None as none, Some as some}
use Rattle.rules.specs.Operations.{Operation, Origin}
use Rattle.rules.specs.Settings.{no_operation}
use Rattle.rules.specs.Addresses.{Table, Learning, after_look_up, learning_of, is_no_place, learn_by}
use Rattle.rules.specs.Reasons.{Reason}
use Rattle.rules.specs.PortTests.{ports_left}
use Rattle.rules.specs.Facts.{Packet, Facts}
use Rattle.rules.specs.ReasonTable.{entering, choosing, reason_for, is_past}

-- ---- the stored frame

-- The packet as it came, and what is taken when it arrives. `exempt`: a BPDU to port 4, on which no tag operation acts
-- at all.
pub record Frame : Type 0 where
  pub packet : Packet
  pub origin : Origin
  pub vlan_operation : Operation
  pub exempt : Bool
  pub queue : ℕ

unfoldable pub frame_of : Facts → Frame
frame_of f =
    record {
      packet = f.packet;
      origin = record { tags = f.tags; default = f.default };
      vlan_operation = if f.bpdu then no_operation else f.vlan.operation;
      exempt = f.bpdu;
      queue = f.queue;
    }

-- ---- the outcome

pub data Outcome : Type 0 where
  drops : Reason → Outcome
  queues : Frame → List ℕ → Outcome

unfoldable pub outcome_by : Option Reason → Frame → List ℕ → Outcome
outcome_by none frame ports = queues frame ports
outcome_by (some r) frame ports = drops r

unfoldable pub outcome_of : Facts → Outcome
outcome_of f = outcome_by (reason_for f) (frame_of f) (ports_left f.test)

-- ---- the candidates' tests are counted "also when 12 or 13 follows, never under 10"

unfoldable pub counts_tests : Facts → Bool
counts_tests f = is_past choosing f

-- ---- learning: past 9, "also if rules 10 to 13 drop the frame"; a BPDU to port 4 is not learned

unfoldable pub learns : Facts → Bool
learns f = not f.bpdu && is_past entering f

-- "looked up before the source is learned"
unfoldable pub learning_for : Facts → Table → Learning
learning_for f t = learning_of (after_look_up f.look_up t) f.source_key

unfoldable pub table_after : Facts → Table → Table
table_after f t =
    if learns f then learn_by (learning_for f t) f.source_key f.port (after_look_up f.look_up t) else t

-- there was no place for the source
unfoldable pub is_not_learned : Facts → Table → Bool
is_not_learned f t = learns f && is_no_place (learning_for f t)
