-- The changes keep the length of memory, and a mark followed by learning is the rules' mark followed by learning. Assumes nothing.
use Prim.Native.Nat.{ℕ}
use mathlib.Core.Path.{◌≡◌, refl, ◌∙◌}
use mathlib.Core.Bool.{false}
use mathlib.Core.List.{List}
use lib.ListN.{length, get_or, length-set, length-map}
use Rattle.rules.specs.Numbers.{place_count}
use Rattle.rules.specs.Addresses.{look_up as rule_look_up, after_look_up}
use Rattle.rules.proofs.Choice.{on}
use Rattle.addresses.specs.Numbers.{static_in, table_of}
use Rattle.addresses.specs.Search.{look_up, found_by, damaged}
use Rattle.addresses.specs.Writes.{marked_number, marked_by, learned_number, learned_by, static_number, static_by, removed_by, older_number, aged_by}
use Rattle.addresses.specs.Theorems.{StepTheorems, FrameTheorems, LengthTheorems}
use Rattle.addresses.specs.declared.LookUp.{LookUp}
use Rattle.addresses.specs.declared.LookUp.TheVariants.{Found, Vacant, Full}
use Rattle.addresses.proofs.LookUps.{mark_keeps}
use Rattle.addresses.proofs.Steps.{step_theorems}

module _ (memory : List ℕ) where
  mark_long : (found : LookUp) → length (marked_by found memory) ≡ length memory
  unfolding marked_by
  mark_long (Found port place) = length-set memory place (marked_number (get_or memory place 0))
  mark_long (Vacant place) = refl
  mark_long Full = refl

  learn_long : (found : LookUp) (k port : ℕ) → length (learned_by found k port memory).1 ≡ length memory
  unfolding learned_by
  learn_long (Found _ place) k port =
      on (static_in (get_or memory place 0)) (λ s. rw s) (λ s. rw s (length-set memory place (learned_number k port)))
  learn_long (Vacant place) k port = length-set memory place (learned_number k port)
  learn_long Full k port = refl

  static_long : (found : LookUp) (k port : ℕ) → length (static_by found k port memory) ≡ length memory
  unfolding static_by
  static_long (Found _ place) k port = length-set memory place (static_number k port)
  static_long (Vacant place) k port = length-set memory place (static_number k port)
  static_long Full k port = refl

  remove_long : (found : LookUp) → length (removed_by found memory) ≡ length memory
  unfolding removed_by
  remove_long (Found port place) = length-set memory place 0
  remove_long (Vacant place) = refl
  remove_long Full = refl

  pub length_theorems : LengthTheorems memory
  unfolding aged_by
  length_theorems =
      record { mark_long = mark_long; learn_long = learn_long; static_long = static_long; remove_long = remove_long; age_long = length-map memory older_number }

module _ (memory : List ℕ) (long : length memory ≡ place_count) (destination source : ℕ)
    (whole : damaged (look_up memory destination) ≡ false) (whole₂ : damaged (look_up memory source) ≡ false) (port : ℕ) where
  abbrev after : List ℕ
  after = marked_by (found_by (look_up memory destination)) memory

  same : look_up after source ≡ look_up memory source
  same = mark_keeps memory destination source long

  steps : StepTheorems after (mark_long memory (found_by (look_up memory destination)) ∙ long) source (rw same whole₂)
  steps = step_theorems after (mark_long memory (found_by (look_up memory destination)) ∙ long) source (rw same whole₂)

  marks : table_of after ≡ after_look_up (rule_look_up (table_of memory) false destination) (table_of memory)
  marks = (step_theorems memory long destination whole).mark_is

  pub frame_theorems : FrameTheorems memory long destination source whole whole₂ port
  frame_theorems =
      record {
        learn_marked = λ h p. rw (← same, ← marks) (steps.learn_is port h p);
        placed_marked = rw (← same, ← marks) (steps.learn_placed port);
      }
