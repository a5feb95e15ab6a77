-- What was read and not yet taken moves to the front of the buffer, and what comes stands behind it. Assumes nothing.
use Rattle.std.proofs.Common.{◌≡◌, ℕ, zero, suc, ◌+◌, ◌-◌, ◌<◌, ◌≤◌, Bool, true, false, eqb, List, ◌++◌, length, take, drop, Option, Ok, sym, refl, ap, ◌∙◌, arith, append-nil, length-drop, length-take-le, drop-drop, ne_eqb}
use Rattle.std.specs.Io.KnownBytes.{Consumes, IsAtEnd}
use native.Mathlib.Nat.{sub-zero}
use native.Mathlib.Decide.{dec_le}
use Rattle.std.specs.Prelude.{slice_range}
use Rattle.std.specs.List.{copy_within}
use borrow.Rule.Slice.PartMut.{put_mid}
use Rattle.std.proofs.Math.Seq.{take-append_seam, take-append-add}
use Rattle.std.proofs.lemmas.List.{take-append-le}
use Rattle.std.proofs.lemmas.Slice.{between_is}
use Rattle.rules.specs.Tags.{Bytes}
use Rattle.records.specs.Framing.{next_of}
use Rattle.records.specs.declared.framing.Next.TheVariants.{More}
use Rattle.rules.proofs.ByteLists.{take_bytes}
use Rattle.records.proofs.Cutting.{framing, end_known}
use Rattle.bench.specs.declared.input.Input.{Input}
use Rattle.bench.specs.Progressing.{waiting, next_at, record_in, Refilled, came, no_more}

-- what stands behind the front of a part
pub behind_is : (l : List ℕ) (at end n : ℕ) → slice_range l (at + n) end ≡ drop n (slice_range l at end)
behind_is l at end n = rw (between_is l (at + n) end, between_is l at end, drop-drop)

module _ (l : List ℕ) (at end : ℕ) (h : at ≤ end) (g : end ≤ length l) where
  abbrev left : List ℕ
  left = slice_range l at end

  pub left_length : length left ≡ end - at
  left_length = length-take-le (end - at) (drop at l) (omega (arith, length-drop at l))

  -- `room`: the place behind it, of which `part` is what stands there
  module _ (moved : List ℕ) (e : moved ≡ copy_within l at end 0) (room : ℕ) (part : List ℕ) where
    abbrev post : List ℕ
    post = drop room (drop (end - at) moved)

    abbrev then : List ℕ
    then = put_mid (end - at) room moved part

    front : then ≡ left ++ (part ++ post)
    front =
        ap (λ (m : List ℕ). take (end - at) m ++ (part ++ post)) e
        ∙ ap (λ (k : ℕ). take k (copy_within l at end 0) ++ (part ++ post)) (sym left_length)
        ∙ ap (λ (m : List ℕ). m ++ (part ++ post)) (take-append_seam left (drop (0 + (end - at)) l))

    pub come : (n : ℕ) → n ≤ length part → slice_range then 0 (end - at + n) ≡ left ++ take n part
    come n k =
        ap (λ (i : ℕ). take i then) (sub-zero (end - at + n))
        ∙ ap (take (end - at + n)) front
        ∙ ap (λ (i : ℕ). take (i + n) (left ++ (part ++ post))) (sym left_length)
        ∙ take-append-add left (part ++ post) n
        ∙ ap (λ (r : List ℕ). left ++ r) (take-append-le n part post k)

    pub kept : slice_range then 0 (end - at) ≡ left
    kept =
        ap (λ (i : ℕ). take i then) (sub-zero (end - at))
        ∙ ap (take (end - at)) front
        ∙ ap (λ (i : ℕ). take i (left ++ (part ++ post))) (sym left_length)
        ∙ take-append_seam left (part ++ post)

-- a buffer that asks for more has room for it
pub more_has_room : (seen : List ℕ) (ended : Bool) → Bytes seen → next_of seen ended ≡ More → length seen < 65537
more_has_room seen true bytes e = absurd (end_known seen e)
more_has_room seen false bytes e =
    elim (dec_le 65537 (length seen)) as (λ _. length seen < 65537) [
      | yes h ↦ absurd (framing.room_enough seen bytes h e)
      | no h ↦ omega arith
    ]

-- one that asks for more has not met the end
not_ended : (seen : List ℕ) (ended : Bool) → next_of seen ended ≡ More → false ≡ ended
not_ended seen true e = absurd (end_known seen e)
not_ended seen false e = refl

module _ (was now : Input) (more : next_at was ≡ More) (left rest : Option (List ℕ)) (buf : List ℕ) (all : Bytes buf) (room : 0 < length buf) where
  pub refilled : (n : ℕ) → n ≤ length buf → waiting now ≡ waiting was ++ take n buf → now.ended ≡ eqb n 0
      → Consumes left rest (take n buf) × (n ≡ 0 → 0 < length buf → IsAtEnd rest) → Refilled was now left rest (Ok tt)
  refilled zero h e f c = no_more (e ∙ append-nil (waiting was)) f c.0 (c.1 refl room) refl
  refilled (suc n) h e f c =
      came (take (suc n) buf) (omega (arith, length-take-le (suc n) buf h)) e (f ∙ ne_eqb (suc n) 0 (λ z. omega arith) ∙ not_ended _ _ more) (take_bytes (suc n) buf all) c.0 refl

-- a record's length
pub record_long : (seen : List ℕ) (long : ℕ) → 2 + long ≤ length seen → length (record_in seen long) ≡ long
record_long seen long h = length-take-le long (drop 2 seen) (omega (arith, length-drop 2 seen))
