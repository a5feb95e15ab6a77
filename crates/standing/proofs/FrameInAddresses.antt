-- Address memory after a frame-in stands for the table that the rules leave. Assumes nothing.
use Prim.Native.Nat.{ℕ, ◌^◌, ◌≤◌, ◌<◌}
use mathlib.Core.Path.{◌≡◌, ◌∙◌}
use mathlib.Core.Bool.{true}
use mathlib.Core.List.{List}
use native.Mathlib.Omega.{arith}
use lib.ListN.{length}
use Rattle.rules.specs.Tags.{Bytes, is_group, destination, source}
use Rattle.rules.specs.Addresses.{key}
use Rattle.rules.specs.Facts.{facts_of}
use Rattle.rules.specs.Outcomes.{learns, table_after}
use Rattle.rules.proofs.Choice.{on}
use Rattle.layout.specs.Lengths.{addresses_fit}
use Rattle.layout.proofs.Fits.{addresses_fit_law}
use Rattle.addresses.specs.Numbers.{table_of, all_in_range}
use Rattle.addresses.specs.Search.{look_up, found_by}
use Rattle.addresses.specs.Writes.{marked_by}
use Rattle.addresses.proofs.LookUps.{mark_keeps}
use Rattle.addresses.proofs.Steps.{range_theorems}
use Rattle.addresses.proofs.Frames.{length_theorems}
use Rattle.frame_in.specs.InRange.{InRange}
use Rattle.arrival.specs.Candidates.{destination_look_up}
use Rattle.frame_in.specs.Call.{facts_in, lesson_in, learned_in}
use Rattle.frame_in.proofs.Lessons.{address_below}
use Rattle.frame_in.proofs.Theorems.{frame_in_theorems}
use Rattle.standing.specs.Stands.{AddressesStand}
use Rattle.standing.proofs.FrameInVlans.{vlan_fits}

-- ---- one lesson

module _ (addresses : List ℕ) (good : all_in_range addresses ≡ true) (long : length addresses ≡ 4112) (gid port : ℕ) (frame : List ℕ)
    (there : port ≤ 4) (small : key gid (source frame) < 2 ^ 52) where
  lesson_long : length (lesson_in addresses gid port frame).1 ≡ length addresses
  unfolding lesson_in
  lesson_long =
      (length_theorems (marked_by (found_by (destination_look_up addresses gid (destination frame))) addresses)).learn_long (found_by (look_up addresses (key gid (source frame)))) (key gid (source frame)) port
      ∙ (length_theorems addresses).mark_long (found_by (destination_look_up addresses gid (destination frame)))

  -- the source was looked up before the mark, which moves no entry
  lesson_in_range : all_in_range (lesson_in addresses gid port frame).1 ≡ true
  unfolding lesson_in destination_look_up marked_by
  lesson_in_range =
      on (is_group (destination frame))
      (λ e. rw e ((range_theorems addresses good).learn_in_range (key gid (source frame)) port small there))
      (λ e. rw e
      (rw (← mark_keeps addresses (key gid (destination frame)) (key gid (source frame)) long)
      ((range_theorems (marked_by (found_by (look_up addresses (key gid (destination frame)))) addresses) ((range_theorems addresses good).mark_in_range (key gid (destination frame)))
      ).learn_in_range (key gid (source frame)) port small there)))

-- ---- the call

module _ (links addresses : List ℕ) (good : InRange links addresses) (fit : addresses_fit addresses ≡ true)
    (port : ℕ) (there : port ≤ 4) (frame : List ℕ) (each : Bytes frame) where
  abbrev gid : ℕ
  gid = (facts_in links addresses port frame).gid

  gid_small : gid ≤ 15
  unfolding facts_in facts_of
  gid_small = (vlan_fits links addresses good _).gid

  small : key gid (source frame) < 2 ^ 52
  unfolding key source
  small = omega (arith, gid_small, address_below frame 6 each)

  long : length addresses ≡ 4112
  long = addresses_fit_law addresses fit

  learned_long : length (learned_in links addresses port frame) ≡ length addresses
  unfolding learned_in
  learned_long =
      on (learns (facts_in links addresses port frame))
      (λ e. rw e (lesson_long addresses good.places long gid port frame there small))
      (λ e. rw e)

  learned_in_range : all_in_range (learned_in links addresses port frame) ≡ true
  unfolding learned_in
  learned_in_range =
      on (learns (facts_in links addresses port frame))
      (λ e. rw e (lesson_in_range addresses good.places long gid port frame there small))
      (λ e. rw e good.places)

  pub learned_stands : AddressesStand (learned_in links addresses port frame) (table_after (facts_in links addresses port frame) (table_of addresses))
  unfolding addresses_fit
  learned_stands =
      let theorems = frame_in_theorems links addresses frame port each there in
      record {
        fit = rw learned_long fit;
        says = theorems.table_stands long (theorems.meets_none good);
        in_range = learned_in_range;
      }
