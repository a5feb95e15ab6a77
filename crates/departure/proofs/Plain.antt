-- A frame on which no operation acts leaves as it came. Assumes nothing.
use Prim.Native.Nat.{ℕ, zero, suc, ◌-◌, ◌%◌, ◌≤◌}
use mathlib.Core.Path.{◌≡◌, refl, sym, ap, ap₂, ◌∙◌}
use mathlib.Core.Bool.{true, false, ◌&&◌}
use mathlib.Core.List.{List}
use native.Mathlib.Omega.{arith}
use lib.Dec.{eqb}
use lib.ListN.{length}
use lib.Seq.{sets}
use borrow.Author.Tests.{ne_eqb}
use Rattle.slices.proofs.Runs.{part_run}
use Rattle.rules.proofs.ByteLists.{take_bytes}
use Rattle.rules.specs.Cells.{cells}
use Rattle.rules.specs.Tags.{Tag, Bytes, tags_of}
use Rattle.rules.specs.Operations.{Operation, on_stack, operate, leaving_tags, retagged}
use Rattle.rules.specs.declared.operations.Kind.{Kind}
use Rattle.rules.specs.declared.operations.Kind.TheVariants.{Nothing as none, Pop as pop, Push as push, Swap as swap, PopAll as pop_all}
use Rattle.rules.specs.Arguments.{OperationNumbers, kind_of, operation_of}
use Rattle.rules.proofs.Choice.{on, and_left, and_right}
use Rattle.rules.proofs.Leaving.{leaving_theorems}
use Rattle.cells.specs.Chains.{follow, walk}
use Rattle.cells.specs.Bytes.{load_from}
use Rattle.cells.specs.Stored.{stored_operation}
use Rattle.cells.specs.declared.stored.StoredHeader.{StoredHeader}
use Rattle.cells.proofs.Operations.{operated}
use Rattle.settings.specs.Operations.{operation_in, is_exempt}
use Rattle.settings.proofs.OperationLaws.{kind_in_law}
use Rattle.settings.specs.Records.{port_operation_at}
use Rattle.departure.specs.declared.departing.Departing.{Departing}
use Rattle.departure.specs.Departing.{frame_bytes, leaving_bytes, leaving_tags_of, Plain, Wrote}
use Rattle.departure.specs.Frames.{does_nothing, leaves_plain, leaving_of, stored_at, operation_of_port}
use Rattle.departure.proofs.Headers.{operation_at_law}
use Rattle.departure.proofs.Departs.{last_is, bytes_are, whole}

-- ---- the kinds by number

pub kind_none : (k : ℕ) → eqb k 0 ≡ does_nothing (kind_of k)
unfolding does_nothing kind_of
kind_none zero = refl
kind_none (suc zero) = refl
kind_none (suc (suc zero)) = refl
kind_none (suc (suc (suc zero))) = refl
kind_none (suc (suc (suc (suc k)))) = ne_eqb (suc (suc (suc (suc k)))) 0 (λ e. omega arith)

module _ (h : StoredHeader) where
  plain_exempt : (o : Operation) → is_exempt h.operation ≡ true → true ≡ leaves_plain h o
  unfolding leaves_plain
  plain_exempt o e = rw e

  -- a word's kind is none just if its lowest three bits are 0
  word_none : (w : ℕ) → eqb (w % 8) 0 ≡ does_nothing (operation_of (operation_in w)).kind
  word_none w = kind_none (w % 8) ∙ ap does_nothing (sym (kind_in_law w))

  plain_kinds : (links : List ℕ) (port : ℕ) → is_exempt h.operation ≡ false
      → (eqb (h.operation % 8) 0 && eqb (port_operation_at links port % 8) 0) ≡ leaves_plain h (operation_of_port links port)
  unfolding leaves_plain
  plain_kinds links port e =
      let own : eqb (port_operation_at links port % 8) 0 ≡ does_nothing (operation_of_port links port).kind =
      word_none (port_operation_at links port) ∙ ap (λ (n : OperationNumbers). does_nothing (operation_of n).kind) (operation_at_law links port) in
      rw (e, operated h e, word_none h.operation, own)

  -- the kinds tell it for every frame: on a BPDU no operation acts at all
  pub plain_none : (links : List ℕ) (port own : ℕ) → own ≡ port_operation_at links port
      → (eqb (h.operation % 8) 0 && eqb (own % 8) 0) ≡ true → leaves_plain h (operation_of_port links port) ≡ true
  plain_none links port own is e =
      on (is_exempt h.operation)
      (λ x. sym (plain_exempt (operation_of_port links port) x))
      (λ x. sym (plain_kinds links port x) ∙ (rw (← is) e))

  -- ---- the tags

  stays : (k : Kind) (new : Tag) (tags : List Tag) → does_nothing k ≡ true → on_stack k new tags ≡ tags
  unfolding does_nothing on_stack
  stays none new tags e = refl
  stays pop new tags e = cc
  stays push new tags e = cc
  stays swap new tags e = cc
  stays pop_all new tags e = cc

  plain_tags : (o : Operation) (tags : List Tag) → leaves_plain h o ≡ true → leaving_of h o tags ≡ tags
  unfolding leaves_plain leaving_of leaving_tags operate
  plain_tags o tags p =
      on (is_exempt h.operation)
      (λ e. rw e)
      (λ e.
      let both : (does_nothing (stored_operation h).kind && does_nothing o.kind) ≡ true = rw e at p in
      let first : does_nothing (stored_operation h).kind ≡ true = and_left (does_nothing (stored_operation h).kind) (does_nothing o.kind) both in
      let second : does_nothing o.kind ≡ true = and_right (does_nothing (stored_operation h).kind) (does_nothing o.kind) both in
      rw e (stays o.kind _ _ second ∙ stays (stored_operation h).kind _ tags first))

-- ---- the frame

module _ (d : Departing) (plain : Plain d) where
  same_bytes : Bytes (frame_bytes d) → frame_bytes d ≡ leaving_bytes d
  same_bytes small =
      sym (leaving_theorems.untouched (frame_bytes d) small (omega (arith, whole d)))
      ∙ ap (retagged (frame_bytes d)) (sym (plain_tags (stored_at d.cells.now d.c) (operation_of_port d.links.now d.port.number) (tags_of (frame_bytes d)) plain))

  -- what stands in a buffer of bytes is bytes
  pub plain_wrote : (out after : List ℕ) (last : ℕ) → 4091 ≤ length out → Bytes after
      → last ≡ walk d.n.number d.links.now (cells d.long - 1) d.c
      → after ≡ load_from 0 out d.cells.now 0 d.long (follow d.n.number d.links.now (cells d.long) d.c)
      → Wrote d out (record { long = d.long; last = last }) after
  plain_wrote out after last room small l e =
      let is : after ≡ sets out 0 (frame_bytes d) = rw (bytes_are d) at e in
      let front = part_run out 0 (frame_bytes d) (omega (arith, whole d)) in
      let bytes : Bytes (frame_bytes d) = rw (← front, ← is) (take_bytes (length (frame_bytes d)) after small) in
      record {
        bytes = ap₂ (λ (x : ℕ) (y : List ℕ). (x, y)) (sym (whole d)) is ∙ ap (λ (v : List ℕ). (length v, sets out 0 v)) (same_bytes bytes);
        short = omega arith;
        last = last_is d last l;
      }
