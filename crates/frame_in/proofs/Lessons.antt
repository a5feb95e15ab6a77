-- The look-ups: which ports are chosen, and that what is learned is the rules' lesson. Assumes nothing.
use Prim.Native.Nat.{ℕ, ◌^◌, ◌≤◌, ◌<◌}
use mathlib.Core.Path.{◌≡◌, refl, sym, ap, ◌∙◌}
use mathlib.Core.Bool.{Bool, true, false, not}
use mathlib.Core.List.{List}
use Rattle.std.specs.Prelude.{Option, None as none, Some as some, Result, Ok}
use native.Mathlib.Omega.{arith}
use lib.ListN.{length}
use Rattle.rules.specs.Tags.{is_group, destination, source}
use Rattle.rules.specs.Tables.{Found as Match, at, nowhere}
use Rattle.rules.specs.Addresses.{Entry, Table, LookUp as RuleLookUp, key, find, empty_for, group, answered as rule_answered, look_up as rule_look_up, after_look_up, learning_of, is_no_place, learn_by, learn}
use Rattle.rules.specs.Arguments.{bit}
use Rattle.rules.specs.PortTests.{is_chosen}
use Rattle.rules.specs.Facts.{Facts}
use Rattle.rules.specs.Outcomes.{learning_for}
use Rattle.rules.proofs.Choice.{on, eqb_sym}
use Rattle.addresses.specs.Numbers.{table_of}
use Rattle.addresses.specs.Search.{answered, look_up, place_of, found_by, damaged}
use Rattle.addresses.specs.Writes.{marked_by, learned_by}
use Rattle.addresses.specs.declared.LookUp.{LookUp}
use Rattle.addresses.specs.declared.LookUp.TheVariants.{Found, Full}
use Rattle.addresses.proofs.LookUps.{look_up_finds, place_inside, port_inside}
use Rattle.addresses.proofs.Steps.{step_theorems}
use Rattle.addresses.proofs.Frames.{frame_theorems}
use Rattle.arrival.specs.declared.plan.Lesson.{Lesson}
use Rattle.layout.specs.declared.damage.Damaged.{Damaged}
use Rattle.layout.proofs.BitLaws.{bit_power}
use Rattle.arrival.specs.Candidates.{destination_look_up, chosen_mask, ChosenFits}
use Rattle.arrival.proofs.Masks.{every_bit}
pub use Rattle.arrival.proofs.Arrivals.{address_below}
use Rattle.frame_in.specs.Carried.{learned_lesson, lesson_by}
use Rattle.frame_in.specs.Call.{facts_in, lesson_in}
use Rattle.frame_in.proofs.Facts.{facts_port, facts_source, facts_look_up, facts_chosen}

-- ---- the ports chosen

chosen_by : (m : List ℕ) (k : ℕ) (found : Match Entry) (empty : Option ℕ) → look_up m k ≡ Ok (answered found empty) → (r : ℕ) → r < 5
    → is_chosen (rule_answered found) r ≡ bit (chosen_mask (found_by (look_up m k))) r
unfolding is_chosen chosen_mask answered rule_answered
chosen_by m k nowhere none e r h = rw e (sym (every_bit r h))
chosen_by m k nowhere (some i) e r h = rw e (sym (every_bit r h))
chosen_by m k (at i x) empty e r h = rw e (eqb_sym r x.port ∙ sym (bit_power x.port r))

full_not_found : (port place : ℕ) → ◌≡◌ {A = Result LookUp Damaged} (Ok Full) (Ok (Found port place)) → ⊥
full_not_found port place q = cc

good : LookUp → Result LookUp Damaged
good d = Ok d

-- the port that a look-up finds is one of the five
pub chosen_fits : (m : List ℕ) (gid address : ℕ) (d : LookUp) → Ok d ≡ destination_look_up m gid address → ChosenFits d
unfolding destination_look_up good
chosen_fits m gid address d d_is =
    record {
      port_there = λ port place q.
          let found : destination_look_up m gid address ≡ Ok (Found port place) = sym d_is ∙ ap good q in
          on (is_group address)
          (λ e. absurd (full_not_found port place (rw e at found)))
          (λ e. let small = port_inside m (key gid address) port place (rw e at found) in omega arith);
    }

-- `m`: address memory
module _ (links m frame : List ℕ) (port gid : ℕ) (gid_is : (facts_in links m port frame).gid ≡ gid)
    (whole : damaged (destination_look_up m gid (destination frame)) ≡ false) where
  abbrev f : Facts
  f = facts_in links m port frame

  -- the two keys
  abbrev there : ℕ
  there = key gid (destination frame)

  abbrev own : ℕ
  own = key gid (source frame)

  look_up_at : f.look_up ≡ rule_look_up (table_of m) (is_group (destination frame)) there
  look_up_at = facts_look_up links m frame port ∙ ap (λ (g : ℕ). rule_look_up (table_of m) (is_group (destination frame)) (key g (destination frame))) gid_is

  source_at : f.source_key ≡ own
  source_at = facts_source links m frame port ∙ ap (λ (g : ℕ). key g (source frame)) gid_is

  group_found : is_group (destination frame) ≡ true → f.look_up ≡ group
  unfolding rule_look_up
  group_found e = look_up_at ∙ rw e

  single_found : is_group (destination frame) ≡ false → f.look_up ≡ rule_look_up (table_of m) false there
  single_found e = look_up_at ∙ ap (λ (b : Bool). rule_look_up (table_of m) b there) e

  group_look_up : is_group (destination frame) ≡ true → destination_look_up m gid (destination frame) ≡ Ok Full
  unfolding destination_look_up
  group_look_up e = rw e

  single_look_up : is_group (destination frame) ≡ false → destination_look_up m gid (destination frame) ≡ look_up m there
  unfolding destination_look_up
  single_look_up e = rw e

  single_whole : is_group (destination frame) ≡ false → damaged (look_up m there) ≡ false
  single_whole e = ap damaged (sym (single_look_up e)) ∙ whole

  group_chosen : (d : LookUp) (answer : RuleLookUp) → d ≡ Full → answer ≡ group → (r : ℕ) → r < 5 → is_chosen answer r ≡ bit (chosen_mask d) r
  unfolding is_chosen chosen_mask
  group_chosen d answer p q r h = rw (p, q) (sym (every_bit r h))

  single_chosen : is_group (destination frame) ≡ false → (r : ℕ) → r < 5
      → is_chosen (rule_look_up (table_of m) false there) r ≡ bit (chosen_mask (found_by (look_up m there))) r
  unfolding rule_look_up
  single_chosen e r h = chosen_by m there (find (table_of m) there) (empty_for (table_of m) there) (look_up_finds m there (single_whole e)) r h

  -- "a group address, or one not found, has all members as candidates; one found has its port"
  pub chosen_is : (r : ℕ) → r < 5 → f.chosen r ≡ bit (chosen_mask (found_by (destination_look_up m gid (destination frame)))) r
  chosen_is r h =
      ap (λ (c : ℕ → Bool). c r) (facts_chosen links m frame port)
      ∙ on (is_group (destination frame))
      (λ e. group_chosen (found_by (destination_look_up m gid (destination frame))) f.look_up (ap found_by (group_look_up e)) (group_found e) r h)
      (λ e. rw (single_found e, single_look_up e) (single_chosen e r h))

  -- ---- learning

  module _ (long : length m ≡ 4112) where
    pub destination_place : place_of (found_by (destination_look_up m gid (destination frame))) < 4112
    destination_place =
        on (is_group (destination frame))
        (λ e. rw (group_look_up e) (omega arith))
        (λ e. rw (single_look_up e) (place_inside m there))

    lesson_group : is_group (destination frame) ≡ true → lesson_in m gid port frame ≡ learned_by (found_by (look_up m own)) own port m
    unfolding lesson_in marked_by
    lesson_group e = rw (group_look_up e)

    lesson_single : is_group (destination frame) ≡ false → lesson_in m gid port frame ≡ learned_by (found_by (look_up m own)) own port (marked_by (found_by (look_up m there)) m)
    unfolding lesson_in
    lesson_single e = rw (single_look_up e)

    -- the table in which the source is learned
    after_group : is_group (destination frame) ≡ true → after_look_up f.look_up (table_of m) ≡ table_of m
    unfolding after_look_up
    after_group e = rw (group_found e)

    after_single : is_group (destination frame) ≡ false → after_look_up f.look_up (table_of m) ≡ after_look_up (rule_look_up (table_of m) false there) (table_of m)
    after_single e = ap (λ (l : RuleLookUp). after_look_up l (table_of m)) (single_found e)

    no_place : (t : Table) → after_look_up f.look_up (table_of m) ≡ t → not (is_no_place (learning_of t own)) ≡ not (is_no_place (learning_for f (table_of m)))
    unfolding learning_for
    no_place t e = rw (e, source_at)

    learned : (t : Table) → after_look_up f.look_up (table_of m) ≡ t
        → learn t own port ≡ learn_by (learning_for f (table_of m)) f.source_key f.port (after_look_up f.look_up (table_of m))
    unfolding learn learning_for
    learned t e = rw (e, source_at, facts_port links m frame port)

    module _ (sound : damaged (look_up m own) ≡ false) where
      -- "not learned" counts exactly where the rules find no place
      pub placed_is : (lesson_in m gid port frame).0 ≡ not (is_no_place (learning_for f (table_of m)))
      placed_is =
          on (is_group (destination frame))
          (λ e. ap (λ (p : Bool × List ℕ). p.0) (lesson_group e) ∙ (step_theorems m long own sound).learn_placed port ∙ no_place _ (after_group e))
          (λ e. ap (λ (p : Bool × List ℕ). p.0) (lesson_single e)
          ∙ (frame_theorems m long there own (single_whole e) sound port).placed_marked
          ∙ no_place _ (after_single e))

      -- what address memory then says is the rules' table
      pub table_is : own < 2 ^ 52 → port ≤ 4
          → table_of (lesson_in m gid port frame).1 ≡ learn_by (learning_for f (table_of m)) f.source_key f.port (after_look_up f.look_up (table_of m))
      table_is small port_there =
          on (is_group (destination frame))
          (λ e. ap (λ (p : Bool × List ℕ). table_of p.1) (lesson_group e) ∙ (step_theorems m long own sound).learn_is port small port_there
          ∙ learned _ (after_group e))
          (λ e. ap (λ (p : Bool × List ℕ). table_of p.1) (lesson_single e)
          ∙ (frame_theorems m long there own (single_whole e) sound port).learn_marked small port_there
          ∙ learned _ (after_single e))

-- the lesson of the plan
pub lesson_in_law : (lesson : Lesson) (port : ℕ) (m : List ℕ) (gid : ℕ) (frame : List ℕ) → Ok lesson.source ≡ look_up m (key gid (source frame))
    → lesson.key.number ≡ key gid (source frame) → Ok lesson.destination ≡ destination_look_up m gid (destination frame)
    → lesson_by (some lesson) port m ≡ (not (lesson_in m gid port frame).0, (lesson_in m gid port frame).1)
unfolding lesson_by learned_lesson lesson_in
lesson_in_law lesson port m gid frame b c d =
    rw (c, ap found_by b, ap found_by d)
    (taken (learned_by (found_by (look_up m (key gid (source frame)))) (key gid (source frame)) port (marked_by (found_by (destination_look_up m gid (destination frame))) m)))
  where
    taken : (p : Bool × List ℕ) → learned_lesson p ≡ (not p.0, p.1)
    taken (x, y) = refl
