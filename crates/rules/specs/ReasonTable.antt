-- "What happens to a frame, in order": the table of the thirteen reasons with their conditions. It is the definition of
-- a frame's outcome, and of how far a frame came. Assumes nothing: these are definitions.
use Rattle.std.specs.Prelude.{ℕ, Bool, true, not, ◌&&◌, List, [], ◌∷◌, map, eqb, leb, ltb, length}
use Rattle.std.specs.Prelude.{Option}
use Rattle.rules.specs.Choice.{sift, is_nothing, is_empty}
use Rattle.rules.specs.Lines.{Line, line, first}
use Rattle.rules.specs.Numbers.{barred_vid}
use Rattle.rules.specs.Cells.{shortest, longest}
use Rattle.rules.specs.Tags.{source, is_group}
use Rattle.rules.specs.Settings.{is_blocking, is_listening, is_learning}
use Rattle.rules.specs.Reasons.{Reason, short, long, group_source, tag_count, port_blocking, port_listening, vid4095}
use Rattle.rules.specs.Reasons.{no_vlan, no_member, port_learning, no_candidate, no_port_left, no_room}
use Rattle.rules.specs.PortTests.{any_candidate, ports_left}
use Rattle.rules.specs.Facts.{Facts}

-- The four parts of the table. A BPDU to port 4 leaves it after reading and comes back for queueing; between entering
-- and choosing the destination is looked up and the source is learned; between choosing and queueing the candidates'
-- tests are counted.
pub data Part : Type 0 where
  reading entering choosing queueing : Part

unfoldable pub part_number : Part → ℕ
part_number reading = 0
part_number entering = 1
part_number choosing = 2
part_number queueing = 3

pub record Row : Type 0 where
  pub part : Part
  pub line : Line Reason

abbrev pub row : Part → Reason → Bool → Row
row part reason holds = record { part = part; line = line reason holds }

unfoldable pub reason_table : Facts → List Row
reason_table f =
    row reading short (ltb (length f.packet.bytes) shortest)
    ∷ row reading long (ltb longest (length f.packet.bytes))
    ∷ row reading group_source (is_group (source f.packet.bytes))
    ∷ row entering tag_count f.barred
    ∷ row entering port_blocking (is_blocking f.state)
    ∷ row entering port_listening (is_listening f.state)
    ∷ row entering vid4095 (eqb f.vid barred_vid)
    ∷ row entering no_vlan (not f.there)
    ∷ row entering no_member (not (f.vlan.member f.port))
    ∷ row choosing port_learning (is_learning f.state)
    ∷ row choosing no_candidate (not (any_candidate f.test))
    ∷ row queueing no_port_left (is_empty (ports_left f.test))
    ∷ row queueing no_room f.outnumbers
    ∷ []

-- the lines of the parts that pass a test
unfoldable pub lines_in : (Part → Bool) → List Row → List (Line Reason)
lines_in test rows = map (λ (r : Row). r.line) (sift (λ (r : Row). test r.part) rows)

-- the rows of one part
unfoldable pub rows_of : Part → Facts → List (Line Reason)
rows_of part f = lines_in (λ (p : Part). eqb (part_number p) (part_number part)) (reason_table f)

-- a BPDU "skips 4 to 11"
unfoldable pub is_asked : Bool → Part → Bool
is_asked bpdu reading = true
is_asked bpdu entering = not bpdu
is_asked bpdu choosing = not bpdu
is_asked bpdu queueing = true

-- "the first that holds is the reason"; with none the frame is queued
unfoldable pub reason_for : Facts → Option Reason
reason_for f = first (lines_in (is_asked f.bpdu) (reason_table f))

-- no reason that is asked holds, up to the end of this part
unfoldable pub is_past : Part → Facts → Bool
is_past part f =
    is_nothing (first (lines_in (λ (p : Part). is_asked f.bpdu p
    && leb (part_number p) (part_number part)) (reason_table f)))
