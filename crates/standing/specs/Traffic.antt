-- How link and cell memory stand for the waiting traffic: the chain of each waiting frame holds its stored header and
-- its bytes.
-- Assumes nothing: these are definitions.
use Rattle.std.specs.Prelude.{ℕ, ◌≤◌, ◌≡◌, true, false, List, length}
use Rattle.rules.specs.Numbers.{last_vid}
use Rattle.rules.specs.Choice.{Each}
use Rattle.rules.specs.Cells.{shortest, longest}
use Rattle.rules.specs.Cells as Rules
use Rattle.rules.specs.Tags.{tags_of, HeaderInRange}
use Rattle.rules.specs.Settings.{no_operation}
use Rattle.rules.specs.Arguments.{operation_of}
use Rattle.rules.specs.Outcomes.{Frame}
use Rattle.machine.specs.Waiting.{Waiting}
use Rattle.layout.specs.Places.{cell_bytes}
use Rattle.settings.specs.Operations.{operation_in, is_operation_word}
use Rattle.cells.specs.Free.{size_of}
use Rattle.cells.specs.Stored.{stored_in_range}
use Rattle.take_out.specs.Frames.{stored_at, frame_at}
use Rattle.standing.specs.LinkTraffic.{LinkTraffic}

-- a frame that memory can hold, with this word for its VLAN's operation: what is taken at arrival is in range
pub record Storable (operation : ℕ) (f : Frame) : Type 0 where
  pub short : shortest ≤ length f.packet.bytes
  pub long : length f.packet.bytes ≤ longest
  pub tags : f.origin.tags ≡ tags_of f.packet.bytes
  pub default : HeaderInRange f.origin.default
  pub default_least : 1 ≤ f.origin.default.vid
  pub default_most : f.origin.default.vid ≤ last_vid
  pub in_range : is_operation_word operation ≡ true
  pub exempt : f.exempt ≡ true → f.vlan_operation ≡ no_operation
  pub operated : f.exempt ≡ false → f.vlan_operation ≡ operation_of (operation_in operation)

-- the chain that begins at c holds the frame
pub record HoldsFrame (n : ℕ) (cells links : List ℕ) (c : ℕ) (w : Waiting) : Type 0 where
  pub frame : frame_at n cells links c w.frame.queue ≡ w.frame
  pub in_range : stored_in_range (stored_at cells c) ≡ true
  pub size : size_of links c ≡ Rules.cells (stored_at cells c).length

pub record Traffic (n : ℕ) (cells links : List ℕ) (ws : List Waiting) : Type 0 where
  pub links_stand : LinkTraffic n links ws
  pub cells_long : cell_bytes n ≤ length cells
  pub frames : Each (λ (c : ℕ). HoldsFrame n cells links c (links_stand.held c)) links_stand.stands.ids
