-- The outcomes of the tests of a stored header and of the departing port's operation, and the tags that they give. Assumes nothing.
use Prim.Native.Nat.{ℕ, ◌≤◌}
use mathlib.Core.Path.{◌≡◌, refl}
use mathlib.Core.Bool.{true, false, ◌&&◌}
use mathlib.Core.List.{List}
use native.Mathlib.Omega.{arith}
use lib.Dec.{eqb}
use borrow.Author.Tests.{eq-eqb, ne_eqb, eqb-true, le-leb}
use Rattle.rules.specs.Cells.{cells, longest}
use Rattle.rules.specs.Tags.{Tag}
use Rattle.rules.specs.Operations.{Origin, Operation, on_stack, operate, leaving_tags}
use Rattle.rules.specs.declared.operations.Kind.TheVariants.{Nothing as none}
use Rattle.rules.specs.Arguments.{operation_of}
use Rattle.rules.proofs.Choice.{and_left, and_right}
use Rattle.cells.specs.Free.{size_of, is_frame}
use Rattle.cells.specs.Stored.{stored_in_range}
use Rattle.cells.specs.declared.stored.StoredHeader.{StoredHeader}
use Rattle.cells.proofs.Operations.{in_range, operated}
use Rattle.settings.specs.Operations.{operation_in, is_operation_word, is_stored_word, is_exempt}
use Rattle.settings.specs.Ports.{port_in, default_of}
use Rattle.settings.specs.Records.{port_operation_at, port_at}
use Rattle.departure.specs.Frames.{leaving_of, operation_fits, header_fits}

-- ---- the departing port's operation

pub operation_at_law : (links : List ℕ) (port : ℕ) → operation_in (port_operation_at links port) ≡ (port_at links port).operation
unfolding port_in
operation_at_law links port = refl

-- ---- an operation that does nothing

pub idle : (operation : Operation) (o : Origin) (tags : List Tag) → operation.kind ≡ none → tags ≡ operate o operation tags
unfolding operate on_stack
idle operation o tags e = rw e

module _ (h : StoredHeader) where
  -- ---- the tags with which a frame leaves

  pub leaving_exempt : (o : Operation) (tags : List Tag) → is_exempt h.operation ≡ true → tags ≡ leaving_of h o tags
  unfolding leaving_of
  leaving_exempt o tags e = rw e

  pub leaving_operated : (o : Operation) (tags : List Tag) → is_exempt h.operation ≡ false
      → leaving_tags (record { tags = tags; default = default_of h.default }) (operation_of (operation_in h.operation)) o ≡ leaving_of h o tags
  unfolding leaving_of
  leaving_operated o tags e = rw (e, operated h e)

  -- ---- the tests

  module _ (links : List ℕ) (port : ℕ) where
    pub operation_fits_law : operation_fits h links port ≡ true → is_exempt h.operation ≡ false → is_operation_word (port_operation_at links port) ≡ true
    operation_fits_law f e = rw e at f

-- ---- what they say

pub length_in_range : (h : StoredHeader) → stored_in_range h ≡ true → h.length ≤ longest
length_in_range h e = (in_range h e).longest

pub record Header (h : StoredHeader) (port c : ℕ) (links : List ℕ) : Type 0 where
  pub short : 60 ≤ h.length
  pub long : h.length ≤ 4083
  pub stored : is_stored_word h.operation ≡ true
  pub size : size_of links c ≡ cells h.length
  pub operation : operation_fits h links port ≡ true

pub header : (h : StoredHeader) (port c : ℕ) (links : List ℕ) → header_fits h port c links ≡ true → Header h port c links
unfolding header_fits
header h port c links e =
    let range : stored_in_range h ≡ true = and_left (stored_in_range h) _ e in
    let rest : (eqb (size_of links c) (cells h.length) && operation_fits h links port) ≡ true = and_right (stored_in_range h) _ e in
    let lengths = in_range h range in
    record {
      short = lengths.shortest;
      long = lengths.longest;
      stored = lengths.operation;
      size = eqb-true (size_of links c) (cells h.length) (and_left (eqb (size_of links c) (cells h.length)) _ rest);
      operation = and_right (eqb (size_of links c) (cells h.length)) _ rest;
    }

-- a size that is that of the length is in range
pub sized : (h : StoredHeader) (port c : ℕ) (links : List ℕ) → header_fits h port c links ≡ true → is_frame c links ≡ true
unfolding is_frame
sized h port c links e =
    let f = header h port c links e in
    let some : 1 ≤ size_of links c = omega (arith, f.size, f.short) in
    let few : size_of links c ≤ 52 = omega (arith, f.size, f.long) in
    rw (le-leb 1 (size_of links c) some, le-leb (size_of links c) 52 few)
