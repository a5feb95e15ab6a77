-- What a frame that leaves is known by. Assumes nothing.
use Prim.Native.Nat.{ℕ, ◌+◌, ◌*◌, ◌-◌, ◌≤◌}
use mathlib.Core.Path.{◌≡◌, sym, ap, ◌∙◌}
use mathlib.Core.Bool.{true, false, ◌&&◌}
use mathlib.Core.List.{List}
use native.Mathlib.Omega.{arith}
use Rattle.std.proofs.lemmas.Bool.Decides.{nat_tests}
use lib.ListN.{length, take}
use lib.Seq.{length-take-le}
use lib.ListN.{drop, length-drop}
use Rattle.rules.specs.Cells.{cells}
use Rattle.rules.specs.Tags.{tags_of}
use Rattle.rules.proofs.Choice.{and_left, and_right}
use Rattle.cells.specs.Chains.{walk, follow}
use Rattle.cells.specs.Free.{size_of, last_cell}
use Rattle.cells.specs.Bytes.{load_cells, front_in, frame_in}
use Rattle.cells.proofs.Loads.{length_load, frame_first}
use Rattle.cells.proofs.Steps.{follow_below}
use Rattle.cells.proofs.Paths.{length_follow}
use Rattle.settings.specs.Operations.{is_operation_word, is_exempt}
use Rattle.departure.specs.declared.departing.Departing.{Departing}
use Rattle.departure.specs.Departing.{frame_bytes}
use Rattle.departure.specs.Leaving.{can_leave}
use Rattle.departure.specs.Frames.{stored_at, can_send}
use Rattle.departure.proofs.Headers.{Header, header, operation_fits_law}

-- ---- what was met

module _ (d : Departing) where
  pub copy_leaves : can_leave d.n.number d.port.number d.c d.links.now ≡ true
  unfolding can_send
  copy_leaves = and_left (can_leave d.n.number d.port.number d.c d.links.now) _ d.sends

  in_header : Header (stored_at d.cells.now d.c) d.port.number d.c d.links.now
  unfolding can_send
  in_header =
      header (stored_at d.cells.now d.c) d.port.number d.c d.links.now
      (and_right (can_leave d.n.number d.port.number d.c d.links.now) _ d.sends)

  -- the words of the operations that act
  pub vlan_good : is_exempt d.vlan ≡ false → is_operation_word d.vlan ≡ true
  vlan_good e = let s = in_header.stored in grind (arith, nat_tests)

  pub own_good : is_exempt d.vlan ≡ false → is_operation_word d.own ≡ true
  own_good e =
      rw d.words.0 (operation_fits_law (stored_at d.cells.now d.c) d.links.now d.port.number in_header.operation (rw d.header.1 at e))

  -- ---- the frame over its cells

  size : size_of d.links.now d.c ≡ cells d.long
  size = in_header.size ∙ ap cells (sym d.header.0)

  pub last_is : (last : ℕ) → last ≡ walk d.n.number d.links.now (cells d.long - 1) d.c → last ≡ last_cell d.n.number d.links.now d.c
  last_is last e = rw size e

  pub bytes_are : frame_in d.cells.now (follow d.n.number d.links.now (cells d.long) d.c) d.long ≡ frame_bytes d
  bytes_are = rw (size, ← d.header.0)

  pub whole : length (frame_bytes d) ≡ d.long
  unfolding frame_in
  whole =
      ap length (sym bytes_are)
      ∙ length-take-le d.long (drop 8 (load_cells d.cells.now (follow d.n.number d.links.now (cells d.long) d.c)))
      (simp length-drop (omega (arith, length_load d.n.number d.cells.now (follow d.n.number d.links.now (cells d.long) d.c) (omega arith) (follow_below d.n.number d.links.now (cells d.long) d.c (omega arith)), length_follow d.n.number d.links.now (cells d.long) d.c)))

  pub front_is : (count : ℕ) → count ≤ 60 → front_in d.cells.now d.c count ≡ take count (frame_bytes d)
  front_is count few =
      sym (frame_first d.n.number d.links.now d.cells.now (cells d.long) d.c (omega arith) (omega arith) d.long count (omega arith) (omega arith))
      ∙ ap (take count) bytes_are
