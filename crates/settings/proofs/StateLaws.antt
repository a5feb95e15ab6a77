-- The states' word: a state written is read back, the others are kept, the word stays in range; what the rules ask of a state.
-- Assumes nothing.
use Rattle.std.proofs.Common.{◌≡◌, ℕ, ◌+◌, ◌/◌, ◌%◌, ◌^◌, ◌<◌, ◌≤◌, Bool, true, false, ◌&&◌, ◌||◌, not, eqb, ltb, sym, refl, ap, ◌∙◌, arith, eqb-true, eq-eqb}
use Rattle.std.proofs.lemmas.Bool.Decides.{nat_tests}
use Rattle.std.proofs.lemmas.Grind.{common_steps}
use Rattle.std.specs.Prelude.{if◌then◌else◌, None as none}
use Rattle.std.specs.Int.Bits.{bit_and, bit_or}
use Rattle.rules.specs.Arguments.{bit, state_of}
use Rattle.rules.specs.Settings.{departs, is_blocking, is_listening, is_learning}
use Rattle.layout.proofs.BitLaws.{bit_and_law, bit_or_law, bit_shift, bits_zero, no_bit_zero, same_bits, all, each, bit_written, five}
use Rattle.settings.specs.States.{unused_states, is_states_word, state_number, state_in, opens, with_state, number_of, bar_of}

-- ---- the range, bit by bit

unfoldable pub clash : ℕ → ℕ → Bool
clash w i = bit w i && (bit w (8 + i) || bit unused_states i)

joined : (w i : ℕ) → bit (bit_and w (bit_or (w / 256) unused_states)) i ≡ clash w i
unfolding clash
joined w i =
    bit_and_law w (bit_or (w / 256) unused_states) i
    ∙ ap (λ (b : Bool). bit w i && b) (bit_or_law (w / 256) unused_states i ∙ ap (λ (b : Bool). b || bit unused_states i) (bit_shift w 8 i))

good_apart : (w : ℕ) → is_states_word w ≡ true → (i : ℕ) → clash w i ≡ false
unfolding is_states_word
good_apart w h i = sym (joined w i) ∙ bits_zero _ (eqb-true _ _ h) i

apart_good : (w : ℕ) → ((i : ℕ) → clash w i ≡ false) → is_states_word w ≡ true
unfolding is_states_word
apart_good w a = eq-eqb _ 0 (no_bit_zero (bit_and w (bit_or (w / 256) unused_states)) (λ i. joined w i ∙ a i))

-- the bits that a port has, and the ones behind them
used : (p : ℕ) → p < 5 → (bit unused_states p ≡ false) × (bit unused_states (8 + p) ≡ false) × (bit unused_states (16 + p) ≡ false) × (bit unused_states (24 + p) ≡ true)
unfolding bit
used =
    five (λ p. (bit unused_states p ≡ false) × (bit unused_states (8 + p) ≡ false) × (bit unused_states (16 + p) ≡ false) × (bit unused_states (24 + p) ≡ true))
    (refl, refl, refl, refl) (refl, refl, refl, refl) (refl, refl, refl, refl) (refl, refl, refl, refl) (refl, refl, refl, refl)

-- ---- one state written

written : (w p s j : ℕ)
    → bit (with_state w p s) j ≡ (if eqb (16 + p) j then ltb 2 s else (if eqb (8 + p) j then eqb s 2 else (if eqb p j then opens s else bit w j)))
unfolding with_state
written w p s j = rw (bit_written, bit_written, bit_written)

pattern : (s : ℕ) → s < 5 → state_number (opens s) (eqb s 2) (ltb 2 s) ≡ s
unfolding state_number opens
pattern = five (λ s. state_number (opens s) (eqb s 2) (ltb 2 s) ≡ s) refl refl refl refl refl

-- a state written is read back
pub state_set : (w p s : ℕ) → p < 5 → s ≤ 4 → state_in (with_state w p s) p ≡ s
unfolding state_in
state_set w p s h k = grind (arith, nat_tests, written, pattern)

-- and the others are kept
pub state_kept : (w p s r : ℕ) → p < 5 → r < 5 → (r ≡ p → ⊥) → state_in (with_state w p s) r ≡ state_in w r
unfolding state_in
state_kept w p s r h k o = grind (arith, nat_tests, written)

-- the word stays in range
pub state_good : (w p s : ℕ) → p < 5 → s ≤ 4 → is_states_word w ≡ true → is_states_word (with_state w p s) ≡ true
unfolding opens clash
state_good w p s h k g = apart_good (with_state w p s) (λ i. grind (arith, nat_tests, written, good_apart w g i, good_apart w g (24 + p), used p h))

-- ---- what the rules ask of a state

pub number_back : (s : ℕ) → s ≤ 4 → number_of (state_of s) ≡ s
unfolding number_of state_of
number_back s h = grind (arith, common_steps)

pub state_small : (w p : ℕ) → state_in w p ≤ 4
unfolding state_in state_number
state_small w p = grind (arith, common_steps)

-- "candidates not Disabled or Forwarding fall out": the mask of those that stay
pub open_in : (w p : ℕ) → departs (state_of (state_in w p)) ≡ bit w p
unfolding state_in departs state_of state_number
open_in w p = grind (arith, common_steps)

-- past 5 and 6, a port that is not open is Learning
pub learning_in : (w p : ℕ) → bar_of (state_of (state_in w p)) ≡ none → is_learning (state_of (state_in w p)) ≡ not (bit w p)
unfolding state_in bar_of is_blocking is_listening is_learning state_of state_number
learning_in w p h = grind (arith, common_steps)

-- ---- in range, a port's bits are its state's and no others: five patterns, five states

pub record Exact (w p : ℕ) : Type 0 where
  pub first : bit w p ≡ opens (state_in w p)
  pub second : bit w (8 + p) ≡ eqb (state_in w p) 2
  pub third : bit w (16 + p) ≡ ltb 2 (state_in w p)

pub state_exact : (w p : ℕ) → is_states_word w ≡ true → Exact w p
unfolding state_in state_number opens clash
state_exact w p g = grind (arith, common_steps, good_apart w g p, good_apart w g (8 + p))

-- so two words in range with the same states are the same word
used_test : ℕ → Bool
used_test i = bit unused_states i || (ltb (i % 8) 5 && ltb (i / 8) 3)

used_place : (i : ℕ) → i < 32 → bit unused_states i ≡ false → (i % 8 < 5) × (i / 8 < 3)
unfolding bit all used_test
used_place i l u = grind (arith, nat_tests, each 32 used_test refl i l)

module _ (v w : ℕ) (hv : is_states_word v ≡ true) (hw : is_states_word w ≡ true) (same : (p : ℕ) → p < 5 → state_in v p ≡ state_in w p) where
  same_bit : (i : ℕ) → i < 32 → bit v i ≡ bit w i
  unfolding clash
  same_bit i l =
      let p : ℕ = i % 8 in
      grind (arith, nat_tests, used_place i l, good_apart v hv i, good_apart w hw i, state_exact v p hv, state_exact w p hw, same p)

  pub states_same : v < 2 ^ 32 → w < 2 ^ 32 → v ≡ w
  states_same fv fw = same_bits 32 v w fv fw same_bit
