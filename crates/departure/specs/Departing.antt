-- A frame whose copy leaves, as the code has met it: its bytes, and those that leave. Assumes nothing: these are
-- definitions.
use Rattle.std.specs.Prelude.{ℕ, ◌≡◌, ◌≤◌, true, List}
use Rattle.rules.specs.Cells.{largest_result}
use Rattle.rules.specs.Tags.{Tag}
use Rattle.cells.specs.Free.{last_cell}
use Rattle.departure.specs.declared.bytes.Written.{Written}
use Rattle.departure.specs.declared.departing.Departing.{Departing}
use Rattle.departure.specs.Frames.{stored_at, bytes_at, operation_of_port, leaving_of, leaves_plain, leaving_from, written}

abbrev pub frame_bytes : Departing → List ℕ
frame_bytes d = bytes_at d.n.number d.cells.now d.links.now d.c

abbrev pub leaving_bytes : Departing → List ℕ
leaving_bytes d = leaving_from d.n.number d.cells.now d.links.now d.port.number d.c

-- the tags with which it leaves, if these are its own
abbrev pub leaving_tags_of : Departing → List Tag → List Tag
leaving_tags_of d = leaving_of (stored_at d.cells.now d.c) (operation_of_port d.links.now d.port.number)

-- no operation acts on it
abbrev pub Plain : Departing → Type 0
Plain d = leaves_plain (stored_at d.cells.now d.c) (operation_of_port d.links.now d.port.number) ≡ true

-- the bytes that leave stand at the front of the lent buffer, and the frame's last cell is told
pub record Wrote (d : Departing) (out : List ℕ) (result : Written) (after : List ℕ) : Type 0 where
  pub bytes : (result.long, after) ≡ written out (leaving_bytes d)
  pub short : result.long ≤ largest_result
  pub last : result.last ≡ last_cell d.n.number d.links.now d.c
