-- The map's word: a queue set is read back, the others and BPDU handling are kept, the word stays in range. Assumes nothing.
use Rattle.std.proofs.Common.{◌≡◌, ℕ, ◌+◌, ◌*◌, ◌<◌, ◌≤◌, Bool, true, eqb, arith, shr-shr}
use Rattle.std.proofs.lemmas.Bool.Decides.{nat_tests}
use Rattle.std.proofs.lemmas.Grind.{common_steps}
use Rattle.std.specs.Prelude.{if◌then◌else◌}
use Rattle.rules.specs.Arguments.{bit}
use Rattle.layout.proofs.BitLaws.{bit_written, written_small}
use Rattle.settings.specs.Maps.{is_map_word, queue_in, bpdu_in, with_queue, with_bpdu}

-- a queue is its two bits
unfoldable pub two_bits : Bool → Bool → ℕ
two_bits a b = (if a then 1 else 0) + (if b then 2 else 0)

pub queue_bits : (w pcp : ℕ) → queue_in w pcp ≡ two_bits (bit w (2 * pcp)) (bit w (2 * pcp + 1))
unfolding queue_in bit two_bits
queue_bits w pcp = grind (arith, common_steps, shr-shr w (2 * pcp) 1)

number_bits : (q : ℕ) → q ≤ 3 → two_bits (bit q 0) (bit q 1) ≡ q
unfolding bit two_bits
number_bits q h = grind (arith, common_steps)

pub queue_small : (w pcp : ℕ) → queue_in w pcp ≤ 3
unfolding queue_in
queue_small w pcp = omega arith

-- ---- one queue set

module _ (w pcp queue : ℕ) where
  written : (i : ℕ) → bit (with_queue w pcp queue) i ≡ (if eqb (2 * pcp + 1) i then bit queue 1 else (if eqb (2 * pcp) i then bit queue 0 else bit w i))
  unfolding with_queue
  written i = rw (bit_written, bit_written)

  pub queue_set : queue ≤ 3 → queue_in (with_queue w pcp queue) pcp ≡ queue
  queue_set h = grind (arith, nat_tests, queue_bits, written, number_bits)

  pub queue_kept : (from : ℕ) → (pcp ≡ from → ⊥) → queue_in (with_queue w pcp queue) from ≡ queue_in w from
  queue_kept from o = grind (arith, nat_tests, queue_bits, written)

  pub queue_keeps_bpdu : pcp < 8 → bpdu_in (with_queue w pcp queue) ≡ bpdu_in w
  unfolding bpdu_in
  queue_keeps_bpdu h = grind (arith, nat_tests, written)

  -- the word stays in range
  pub queue_good : pcp < 8 → is_map_word w ≡ true → is_map_word (with_queue w pcp queue) ≡ true
  unfolding with_queue
  queue_good h g = grind (arith, nat_tests, written_small 17)

-- ---- BPDU handling set

module _ (w : ℕ) (b : Bool) where
  pub bpdu_set : bpdu_in (with_bpdu w b) ≡ b
  unfolding bpdu_in with_bpdu
  bpdu_set = grind (arith, nat_tests, bit_written)

  pub bpdu_keeps_queue : (pcp : ℕ) → pcp < 8 → queue_in (with_bpdu w b) pcp ≡ queue_in w pcp
  unfolding with_bpdu
  bpdu_keeps_queue pcp h = grind (arith, nat_tests, queue_bits, bit_written)

  pub bpdu_good : is_map_word w ≡ true → is_map_word (with_bpdu w b) ≡ true
  unfolding with_bpdu
  bpdu_good g = grind (arith, nat_tests, written_small 17)
