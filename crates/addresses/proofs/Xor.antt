-- Exclusive or may be regrouped, so that a key is folded before its ten-bit groups are joined. Assumes nothing.
use Rattle.std.proofs.Common.{◌≡◌, ℕ, ◌/◌, ◌%◌, ◌^◌, sym, ap, ◌∙◌, arith}
use Rattle.std.specs.Int.Bits.{bit_xor, xor_assoc}
use Rattle.std.proofs.lemmas.Nat.{xor_comm}
use lib.Bits.{xor_zero_r, xor_shr, xor_mod}
use Rattle.rules.specs.Addresses.{joined, bucket_of}

swap : (a b c : ℕ) → bit_xor a (bit_xor b c) ≡ bit_xor b (bit_xor a c)
swap a b c = sym (xor_assoc a b c) ∙ ap (λ x. bit_xor x c) (xor_comm a b) ∙ xor_assoc b a c

regrouped : (a b c d e f : ℕ)
    → bit_xor (bit_xor a d) (bit_xor (bit_xor b e) (bit_xor c f)) ≡ bit_xor a (bit_xor b (bit_xor c (bit_xor d (bit_xor e f))))
regrouped a b c d e f =
    simp xor_assoc (rw (swap d b (bit_xor e (bit_xor c f)), swap e c f, swap d c (bit_xor e f)))

-- ---- the bucket

abbrev folded : ℕ → ℕ
folded k = bit_xor k (k / 2 ^ 30)

groups : (k : ℕ)
    → bit_xor (k % 1024) (bit_xor (k / 2 ^ 10 % 1024) (bit_xor (k / 2 ^ 20 % 1024) (bit_xor (k / 2 ^ 30 % 1024) (bit_xor (k / 2 ^ 30 / 2 ^ 10 % 1024) (k / 2 ^ 30 / 2 ^ 20 % 1024)))))
    ≡ bucket_of k
unfolding bucket_of joined
groups k =
    let third : k / 2 ^ 20 ≡ k / 1024 / 1024 = omega arith in
    let fourth : k / 2 ^ 30 ≡ k / 1024 / 1024 / 1024 = omega arith in
    let sixth : k / 1024 / 1024 / 1024 / 2 ^ 20 ≡ k / 1024 / 1024 / 1024 / 1024 / 1024 = omega arith in
    rw (third, fourth, sixth, xor_zero_r (k / 1024 / 1024 / 1024 / 1024 / 1024 % 1024))

-- one group of a folded key
group : (k n : ℕ) → folded k / 2 ^ n % 1024 ≡ bit_xor (k / 2 ^ n % 1024) (k / 2 ^ 30 / 2 ^ n % 1024)
group k n = ap (λ x. x % 1024) (xor_shr k (k / 2 ^ 30) n) ∙ xor_mod (k / 2 ^ n) (k / 2 ^ 30 / 2 ^ n) 10

pub bucket_folded : (k : ℕ) → bit_xor (bit_xor (folded k) (folded k / 2 ^ 10)) (folded k / 2 ^ 20) % 1024 ≡ bucket_of k
bucket_folded k =
    let x : ℕ = folded k in
    ap (λ y. y % 1024) (xor_assoc x (x / 2 ^ 10) (x / 2 ^ 20))
    ∙ xor_mod x (bit_xor (x / 2 ^ 10) (x / 2 ^ 20)) 10
    ∙ ap (bit_xor (x % 1024)) (xor_mod (x / 2 ^ 10) (x / 2 ^ 20) 10)
    ∙ rw (xor_mod k (k / 2 ^ 30) 10, group k 10, group k 20)
    (regrouped (k % 1024) (k / 2 ^ 10 % 1024) (k / 2 ^ 20 % 1024) (k / 2 ^ 30 % 1024) (k / 2 ^ 30 / 2 ^ 10 % 1024) (k / 2 ^ 30 / 2 ^ 20 % 1024)
    ∙ groups k)
