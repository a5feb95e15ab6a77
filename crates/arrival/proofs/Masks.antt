-- The masks are the rules' tests of the five ports. Assumes nothing.
use Prim.Native.Nat.{ℕ, ◌*◌, ◌/◌, ◌^◌, ◌<◌}
use mathlib.Core.Path.{◌≡◌, refl, ap, ap₂, ◌∙◌}
use mathlib.Core.Bool.{Bool, true, false, ◌&&◌, ◌||◌, not}
use native.Mathlib.Nat.{lt_of_le_of_lt}
use native.Mathlib.Omega.{arith}
use borrow.Author.Tests.{eqb-true, eqb-false}
use lib.Dec.{eqb}
use lib.Bits.{bit_and, and_le_l, xor_lt}
use Rattle.std.specs.Prelude.{if◌then◌else◌}
use Rattle.rules.specs.Choice.{sift}
use Rattle.rules.specs.Numbers.{all_ports}
use Rattle.rules.specs.Settings.{Settings, Vlan, departs, state_for}
use Rattle.rules.specs.Arguments.{bit}
use Rattle.rules.specs.PortTests.{Test, passes, not_member, arrival, elsewhere, state, queue_off, is_candidate, is_passed, any_candidate, ports_left, port_test, bpdu_test}
use Rattle.rules.proofs.Choice.{on, eqb_sym, or_left, or_right}
use Rattle.layout.specs.Bits.{less}
use Rattle.settings.specs.Switches.{switch_in}
use Rattle.layout.proofs.BitLaws.{bit_and_law, bit_less, bit_power, zero_bits, bits_zero, five}
use Rattle.settings.proofs.SwitchLaws.{switches_of_law}
use Rattle.arrival.specs.declared.plan.Masks.{Masks}
use Rattle.arrival.specs.Candidates.{every_port, management_mask, ports_in, candidates_in, masks_of, is_state_out, is_queue_out, MasksAre}

-- ---- the masks, bit by bit

pub candidate_bit : (members chosen port r : ℕ) → bit (candidates_in members chosen port) r ≡ (bit members r && bit chosen r && not (eqb r port))
unfolding candidates_in
candidate_bit members chosen port r =
    bit_less (bit_and members chosen) (2 ^ port) r
    ∙ ap₂ (λ (a b : Bool). a && not b) (bit_and_law members chosen r) (bit_power port r ∙ eqb_sym port r)

pub candidates_small : (members chosen port : ℕ) → members < 32 → candidates_in members chosen port < 32
unfolding candidates_in less
candidates_small members chosen port h =
    let small : bit_and members chosen < 2 ^ 5 = lt_of_le_of_lt (and_le_l members chosen) h in
    xor_lt 5 (bit_and members chosen) (bit_and (bit_and members chosen) (2 ^ port)) small
    (lt_of_le_of_lt (and_le_l (bit_and members chosen) (2 ^ port)) small)

module _ (candidates states switches queue : ℕ) where
  -- the candidate's state, and its queue switch
  passing_bit : (r : ℕ) → bit (masks_of candidates states switches queue).passing r ≡ (bit candidates r && bit states r)
  unfolding masks_of
  passing_bit r = bit_and_law candidates states r

  left_bit : (r : ℕ) → bit (masks_of candidates states switches queue).left r ≡ (bit candidates r && bit states r && switch_in switches r queue)
  unfolding masks_of
  left_bit r =
      bit_and_law (bit_and candidates states) (switches / 2 ^ (8 * queue)) r
      ∙ ap₂ (λ (a b : Bool). a && b) (bit_and_law candidates states r) (switches_of_law switches r queue)

  candidates_are : (masks_of candidates states switches queue).candidates ≡ candidates
  unfolding masks_of
  candidates_are = refl

  left_small : candidates < 32 → (masks_of candidates states switches queue).left < 32
  unfolding masks_of
  left_small h =
      lt_of_le_of_lt (and_le_l (bit_and candidates states) (switches / 2 ^ (8 * queue))) (lt_of_le_of_lt (and_le_l candidates states) h)

-- ---- a mask of five bits is 0, or has one of them

any_bit : (m : ℕ) → m < 32 → not (eqb m 0) ≡ (bit m 0 || bit m 1 || bit m 2 || bit m 3 || bit m 4)
any_bit m h =
    on (eqb m 0)
    (λ e. let b = bits_zero m (eqb-true m 0 e) in rw (e, b 0, b 1, b 2, b 3, b 4))
    (λ e. on (bit m 0 || bit m 1 || bit m 2 || bit m 3 || bit m 4)
    (λ a. rw (e, a))
    (λ a.
    let four = or_left (bit m 0 || bit m 1 || bit m 2 || bit m 3) (bit m 4) a in
    let three = or_left (bit m 0 || bit m 1 || bit m 2) (bit m 3) four in
    let two = or_left (bit m 0 || bit m 1) (bit m 2) three in
    absurd (eqb-false m 0 e
    (zero_bits 5 m h
    (five (λ i. bit m i ≡ false) (or_left (bit m 0) (bit m 1) two) (or_right (bit m 0) (bit m 1) two)
    (or_right (bit m 0 || bit m 1) (bit m 2) three) (or_right (bit m 0 || bit m 1 || bit m 2) (bit m 3) four)
    (or_right (bit m 0 || bit m 1 || bit m 2 || bit m 3) (bit m 4) a))))))

same_sift : (f g : ℕ → Bool) → ((r : ℕ) → r < 5 → f r ≡ g r) → sift f all_ports ≡ sift g all_ports
unfolding sift
same_sift f g h = rw (h 0 (omega arith), h 1 (omega arith), h 2 (omega arith), h 3 (omega arith), h 4 (omega arith))

-- ---- a port's test is told by three bits: is it a candidate, does its state pass, is its queue on

pub record ToldBy (k o q : Bool) (t : Test) : Type 0 where
  pub candidate : k ≡ is_candidate t
  pub state_out_law : (k && not (k && o)) ≡ is_state_out t
  pub queue_out_law : ((k && o) && not (k && o && q)) ≡ is_queue_out t
  pub passed : (k && o && q) ≡ is_passed t

-- masks whose bits tell each port's test are those of the tests
module _ (test : ℕ → Test) (candidates states switches queue : ℕ) (small : candidates < 32)
    (told : (r : ℕ) → r < 5 → ToldBy (bit candidates r) (bit states r) (switch_in switches r queue) (test r)) where
  abbrev m : Masks
  m = masks_of candidates states switches queue

  any_is : not (eqb candidates 0) ≡ any_candidate test
  unfolding any_candidate
  any_is =
      any_bit candidates small
      ∙ rw ((told 0 (omega arith)).candidate, (told 1 (omega arith)).candidate, (told 2 (omega arith)).candidate, (told 3 (omega arith)).candidate, (told 4 (omega arith)).candidate)

  state_bit : (r : ℕ) → r < 5 → bit (less candidates m.passing) r ≡ is_state_out (test r)
  state_bit r h = bit_less candidates m.passing r ∙ rw (passing_bit candidates states switches queue r) (told r h).state_out_law

  queue_bit : (r : ℕ) → r < 5 → bit (less m.passing m.left) r ≡ is_queue_out (test r)
  queue_bit r h =
      bit_less m.passing m.left r
      ∙ rw (left_bit candidates states switches queue r, passing_bit candidates states switches queue r) (told r h).queue_out_law

  left_is : ports_in m.left ≡ ports_left test
  unfolding ports_in ports_left
  left_is = same_sift _ _ (λ r h. left_bit candidates states switches queue r ∙ (told r h).passed)

  pub masks_told : MasksAre test (masks_of candidates states switches queue)
  masks_told =
      record {
        small = left_small candidates states switches queue small;
        any = rw (candidates_are candidates states switches queue) any_is;
        state_out_law = λ r h. rw (candidates_are candidates states switches queue) (state_bit r h);
        queue_out_law = queue_bit;
        left = left_is;
      }

-- ---- an ordinary frame

told_by : (m a c o q : Bool)
    → ToldBy (m && c && not a) o q (if not m then not_member else (if a then arrival else (if not c then elsewhere else (if not o then state else (if not q then queue_off else passes)))))
unfolding is_candidate is_state_out is_queue_out is_passed
told_by false a c o q = record { candidate = refl; state_out_law = refl; queue_out_law = refl; passed = refl }
told_by true true true o q = record { candidate = refl; state_out_law = refl; queue_out_law = refl; passed = refl }
told_by true true false o q = record { candidate = refl; state_out_law = refl; queue_out_law = refl; passed = refl }
told_by true false false o q = record { candidate = refl; state_out_law = refl; queue_out_law = refl; passed = refl }
told_by true false true false q = record { candidate = refl; state_out_law = refl; queue_out_law = refl; passed = refl }
told_by true false true true false = record { candidate = refl; state_out_law = refl; queue_out_law = refl; passed = refl }
told_by true false true true true = record { candidate = refl; state_out_law = refl; queue_out_law = refl; passed = refl }

-- what words say of a frame's settings, VLAN and look-up, at the five ports
pub record Says (s : Settings) (v : Vlan) (chooses : ℕ → Bool) (queue members chosen states switches : ℕ) : Type 0 where
  pub member : (r : ℕ) → r < 5 → v.member r ≡ bit members r
  pub choice : (r : ℕ) → r < 5 → chooses r ≡ bit chosen r
  pub opened : (r : ℕ) → r < 5 → departs (state_for s v r) ≡ bit states r
  pub switched : (r : ℕ) → r < 5 → s.queue_on r queue ≡ switch_in switches r queue

module _ (s : Settings) (v : Vlan) (chooses : ℕ → Bool) (port queue members chosen states switches : ℕ) (small : members < 32)
    (says : Says s v chooses queue members chosen states switches) where
  told : (r : ℕ) → r < 5
      → ToldBy (bit (candidates_in members chosen port) r) (bit states r) (switch_in switches r queue) (port_test s v chooses port queue r)
  unfolding port_test
  told r h =
      rw (candidate_bit members chosen port r, says.member r h, says.choice r h, says.opened r h, says.switched r h)
      (told_by (bit members r) (eqb r port) (bit chosen r) (bit states r) (switch_in switches r queue))

  pub masks_are : MasksAre (port_test s v chooses port queue) (masks_of (candidates_in members chosen port) states switches queue)
  masks_are = masks_told (port_test s v chooses port queue) (candidates_in members chosen port) states switches queue (candidates_small members chosen port small) told

-- ---- a BPDU: "the one candidate 4, queue 3"; only its queue switch applies

management_bit : (r : ℕ) → r < 5 → bit management_mask r ≡ eqb r 4
unfolding bit
management_bit = five (λ r. bit management_mask r ≡ eqb r 4) refl refl refl refl refl

pub every_bit : (r : ℕ) → r < 5 → bit every_port r ≡ true
unfolding bit
every_bit = five (λ r. bit every_port r ≡ true) refl refl refl refl refl

bpdu_told : (b q : Bool) → ToldBy b true q (if b then (if q then passes else queue_off) else elsewhere)
unfolding is_candidate is_state_out is_queue_out is_passed
bpdu_told true true = record { candidate = refl; state_out_law = refl; queue_out_law = refl; passed = refl }
bpdu_told true false = record { candidate = refl; state_out_law = refl; queue_out_law = refl; passed = refl }
bpdu_told false q = record { candidate = refl; state_out_law = refl; queue_out_law = refl; passed = refl }

module _ (s : Settings) (switches : ℕ) (switched : s.queue_on 4 3 ≡ switch_in switches 4 3) where
  at_four : (r : ℕ) → eqb r 4 ≡ true → switch_in switches r 3 ≡ switch_in switches 4 3
  at_four r e = ap (λ (x : ℕ). switch_in switches x 3) (eqb-true r 4 e)

  bpdu_told_by : (r : ℕ) → r < 5 → ToldBy (bit management_mask r) (bit every_port r) (switch_in switches r 3) (bpdu_test s r)
  unfolding bpdu_test
  bpdu_told_by r h =
      rw (management_bit r h, every_bit r h, switched)
      (on (eqb r 4)
      (λ e. rw (e, at_four r e) (bpdu_told true (switch_in switches 4 3)))
      (λ e. rw e (bpdu_told false (switch_in switches r 3))))

  pub bpdu_masks_are : MasksAre (bpdu_test s) (masks_of management_mask every_port switches 3)
  bpdu_masks_are = masks_told (bpdu_test s) management_mask every_port switches 3 (omega arith) bpdu_told_by
