-- What comes next in the input, by its cases. Assumes nothing.
use Prim.Native.Nat.{ℕ, ◌+◌, ◌≤◌, ◌<◌}
use mathlib.Core.Path.{◌≡◌, refl, sym, ap, ◌∙◌}
use mathlib.Core.Bool.{Bool, true, false}
use mathlib.Core.List.{List, ◌++◌}
use native.Mathlib.Omega.{arith}
use native.Mathlib.Decide.{dec_le}
use lib.ListN.{length, length-append, get_or-append}
use Rattle.rules.specs.Tags.{Bytes}
use Rattle.records.specs.Reading.{little_endian_at}
use Rattle.records.specs.Framing.{if_ended, record_length, next_of}
use Rattle.records.proofs.FramingLaws.{next_none, next_one_byte, next_length_under_two, next_cut, next_whole}
use Rattle.records.specs.FramingTheorems.{FramingTheorems}
use Rattle.records.specs.declared.framing.Next.{Next}
use Rattle.records.specs.declared.framing.Next.TheVariants.{More, Finished, Cut, Whole}

module _ (input : List ℕ) (ended : Bool) (P : Next → Type 0)
    (empty : length input ≡ 0 → P (if_ended ended Finished))
    (one : length input ≡ 1 → P (if_ended ended Cut))
    (under : 2 ≤ length input → record_length input < 2 → P Cut)
    (cut : 2 ≤ length input → 2 ≤ record_length input → length input < 2 + record_length input → P (if_ended ended Cut))
    (whole : 2 ≤ length input → 2 ≤ record_length input → 2 + record_length input ≤ length input → P (Whole (record_length input)))
  where
    cases : P (next_of input ended)
    cases =
        elim (dec_le 2 (length input)) as (λ _. P (next_of input ended)) [
          | yes h ↦
              elim (dec_le 2 (record_length input)) as (λ _. P (next_of input ended)) [
                | yes g ↦
                    elim (dec_le (2 + record_length input) (length input)) as (λ _. P (next_of input ended)) [
                      | yes k ↦ rw (← next_whole input ended h g k) (whole h g k)
                      | no k ↦ rw (← next_cut input ended h g (omega arith)) (cut h g (omega arith))
                    ]
                | no g ↦ rw (← next_length_under_two input ended h (omega arith)) (under h (omega arith))
              ]
          | no h ↦
              elim (dec_le 1 (length input)) as (λ _. P (next_of input ended)) [
                | yes g ↦ rw (← next_one_byte input ended (λ e. omega arith) (omega arith)) (one (omega arith))
                | no g ↦ rw (← next_none input ended (omega arith)) (empty (omega arith))
              ]
        ]

-- ---- behind the end

-- where the input has ended it is known what comes next
pub end_known : (input : List ℕ) → next_of input true ≡ More → ⊥
unfolding if_ended
end_known input =
    cases input true (λ x. x ≡ More → ⊥)
    (λ h e. let z : ◌≡◌ {A = ℕ} 0 1 = cc in omega arith)
    (λ h e. let z : ◌≡◌ {A = ℕ} 0 1 = cc in omega arith)
    (λ h g e. let z : ◌≡◌ {A = ℕ} 0 1 = cc in omega arith)
    (λ h g k e. let z : ◌≡◌ {A = ℕ} 0 1 = cc in omega arith)
    (λ h g k e. let z : ◌≡◌ {A = ℕ} 0 1 = cc in omega arith)

-- ---- a whole record is there

finished_is_not_whole : (ended : Bool) (n : ℕ) → if_ended ended Finished ≡ Whole n → ⊥
unfolding if_ended
finished_is_not_whole true n e = let z : ◌≡◌ {A = ℕ} 0 1 = cc in omega arith
finished_is_not_whole false n e = let z : ◌≡◌ {A = ℕ} 0 1 = cc in omega arith

cut_is_not_whole : (ended : Bool) (n : ℕ) → if_ended ended Cut ≡ Whole n → ⊥
unfolding if_ended
cut_is_not_whole true n e = let z : ◌≡◌ {A = ℕ} 0 1 = cc in omega arith
cut_is_not_whole false n e = let z : ◌≡◌ {A = ℕ} 0 1 = cc in omega arith

whole_is_there : (input : List ℕ) (ended : Bool) (n : ℕ) → next_of input ended ≡ Whole n → (2 ≤ n) × (2 + n ≤ length input)
whole_is_there input ended n =
    cases input ended (λ x. x ≡ Whole n → (2 ≤ n) × (2 + n ≤ length input))
    (λ h e. absurd (finished_is_not_whole ended n e))
    (λ h e. absurd (cut_is_not_whole ended n e))
    (λ h g e. absurd (let z : ◌≡◌ {A = ℕ} 0 1 = cc in omega arith))
    (λ h g k e. absurd (cut_is_not_whole ended n e))
    (λ h g k e. let same : record_length input ≡ n = cc in (omega arith, omega arith))

-- ---- what is known stays so

length_stays : (seen rest : List ℕ) → 2 ≤ length seen → record_length (seen ++ rest) ≡ record_length seen
unfolding little_endian_at
length_stays seen rest h = rw (get_or-append seen rest 0 0 (omega arith), get_or-append seen rest 0 1 (omega arith))

known_stays : (seen rest : List ℕ) (ended : Bool) → (next_of seen false ≡ More → ⊥) → next_of (seen ++ rest) ended ≡ next_of seen false
unfolding if_ended
known_stays seen rest ended =
    let long : length (seen ++ rest) ≡ length seen + length rest = length-append seen rest in
    cases seen false (λ x. (x ≡ More → ⊥) → next_of (seen ++ rest) ended ≡ x)
    (λ h unknown. absurd (unknown refl))
    (λ h unknown. absurd (unknown refl))
    (λ h g known. sym (next_length_under_two (seen ++ rest) ended (omega arith) (omega (arith, length_stays seen rest h))))
    (λ h g k unknown. absurd (unknown refl))
    (λ h g k known.
    sym (next_whole (seen ++ rest) ended (omega arith) (omega (arith, length_stays seen rest h)) (omega (arith, length_stays seen rest h)))
    ∙ ap Whole (length_stays seen rest h))

-- ---- room

room_enough : (seen : List ℕ) → Bytes seen → 65537 ≤ length seen → next_of seen false ≡ More → ⊥
unfolding little_endian_at
room_enough seen bytes h =
    cases seen false (λ x. x ≡ More → ⊥)
    (λ e more. omega arith)
    (λ e more. omega arith)
    (λ g k more. let z : ◌≡◌ {A = ℕ} 0 1 = cc in omega arith)
    (λ g k short more. omega (arith, bytes 0, bytes 1))
    (λ g k all more. let z : ◌≡◌ {A = ℕ} 0 1 = cc in omega arith)

pub framing : FramingTheorems
framing = record { whole_is_there = whole_is_there; known_stays = known_stays; room_enough = room_enough }
