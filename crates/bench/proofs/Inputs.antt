-- The machine tells one list of lines of every input, and a record that is known is told alike, whatever follows it.
-- Assumes nothing.
use Rattle.std.proofs.Common.{◌≡◌, ℕ, zero, suc, ◌+◌, ◌<◌, Bool, true, false, List, [], ◌++◌, length, take, drop, sym, refl, ap, ◌∙◌, subst, ap₂, append-nil, arith, length-drop}
use lib.Seq.{take-append-le, drop-append-le}
use Rattle.machine.specs.State.{State}
use Rattle.records.specs.Reading.{kind_of}
use Rattle.records.specs.Lines.{line_of}
use Rattle.records.specs.Framing.{next_of}
use Rattle.records.specs.declared.framing.Next.{Next}
use Rattle.records.specs.declared.framing.Next.TheVariants.{More, Finished, Cut, Whole}
use Rattle.records.proofs.Cutting.{framing, end_known}
use Rattle.bench.specs.Progressing.{number_after, record_in}
use Rattle.bench.specs.Told.{reply, Told, at_the_end, at_a_cut, a_record}

-- ---- one list of lines

-- of the record of this length and of what follows it
abbrev lines_from : State → ℕ → List ℕ → ℕ → List ℕ → List ℕ
lines_from s n bytes long rest =
    line_of (number_after n) (kind_of (record_in bytes long)) (reply s (record_in bytes long)).0 ++ rest

abbrev ToldBehind : State → ℕ → List ℕ → ℕ → List ℕ → Type 0
ToldBehind s n bytes long rest = Told (reply s (record_in bytes long)).1 (number_after n) (drop (2 + long) bytes) rest

pub told_one : {s : State} {n : ℕ} {bytes lines others : List ℕ} → Told s n bytes lines → Told s n bytes others → lines ≡ others
told_one (at_the_end e) (at_the_end g) = refl
told_one (at_the_end e) (at_a_cut g) = absurd (let z : ◌≡◌ {A = ℕ} 0 1 = cc in omega arith)
told_one (at_the_end e) (a_record long g t) = absurd (let z : ◌≡◌ {A = ℕ} 0 1 = cc in omega arith)
told_one (at_a_cut e) (at_the_end g) = absurd (let z : ◌≡◌ {A = ℕ} 0 1 = cc in omega arith)
told_one (at_a_cut e) (at_a_cut g) = refl
told_one (at_a_cut e) (a_record long g t) = absurd (let z : ◌≡◌ {A = ℕ} 0 1 = cc in omega arith)
told_one (a_record long e t) (at_the_end g) = absurd (let z : ◌≡◌ {A = ℕ} 0 1 = cc in omega arith)
told_one (a_record long e t) (at_a_cut g) = absurd (let z : ◌≡◌ {A = ℕ} 0 1 = cc in omega arith)
told_one (a_record {s} {n} {bytes} long e t) (a_record {rest = others} again g u) =
    let same : again ≡ long = cc in
    ap₂ (lines_from s n bytes) (sym same) (told_one t (subst (λ (k : ℕ). ToldBehind s n bytes k others) same u))

-- ---- of every input

abbrev Telling : State → ℕ → List ℕ → Type 0
Telling s n bytes = (lines : List ℕ) × Told s n bytes lines

module _ (s : State) (n : ℕ) (bytes : List ℕ)
    (shorter : (t : State) (m : ℕ) (left : List ℕ) → length left < length bytes → Telling t m left)
  where
    told_next : (next : Next) → next_of bytes true ≡ next → Telling s n bytes
    told_next More e = absurd (end_known bytes e)
    told_next Finished e = ([], at_the_end e)
    told_next Cut e = (_, at_a_cut e)
    told_next (Whole long) e =
        let there = framing.whole_is_there bytes true long e in
        let others = shorter _ _ (drop (2 + long) bytes) (omega (arith, length-drop (2 + long) bytes)) in
        (_, a_record long e others.1)

told_within : (bound : ℕ) (s : State) (n : ℕ) (bytes : List ℕ) → length bytes < bound → Telling s n bytes
told_within zero s n bytes h = absurd (omega arith)
told_within (suc bound) s n bytes h =
    told_next s n bytes (λ t m left less. told_within bound t m left (omega arith)) (next_of bytes true) refl

pub told_always : (s : State) (n : ℕ) (bytes : List ℕ) → (lines : List ℕ) × Told s n bytes lines
told_always s n bytes = told_within (suc (length bytes)) s n bytes (omega arith)

-- ---- what is known of an input, whatever follows

module _ (waiting more : List ℕ) (ended : Bool) (none_more : ended ≡ true → more ≡ []) where
  pub next_stays : (next : Next) → (next ≡ More → ⊥) → next_of waiting ended ≡ next → next_of (waiting ++ more) true ≡ next
  next_stays next known e = stays ended none_more e
    where
      stays : (over : Bool) → (over ≡ true → more ≡ []) → next_of waiting over ≡ next → next_of (waiting ++ more) true ≡ next
      stays true none g = rw (none refl, append-nil waiting) g
      stays false none g = framing.known_stays waiting more true (λ unknown. known (sym g ∙ unknown)) ∙ g

  -- a whole record stands in what waits
  pub record_told : (s : State) (n long : ℕ) (rest : List ℕ) → next_of waiting ended ≡ Whole long
      → Told (reply s (record_in waiting long)).1 (number_after n) (drop (2 + long) waiting ++ more) rest
      → Told s n (waiting ++ more) (line_of (number_after n) (kind_of (record_in waiting long)) (reply s (record_in waiting long)).0 ++ rest)
  record_told s n long rest e t =
      let there = framing.whole_is_there waiting ended long e in
      let same : record_in (waiting ++ more) long ≡ record_in waiting long =
      ap (take long) (drop-append-le 2 waiting more (omega arith)) ∙ take-append-le long (drop 2 waiting) more (omega (arith, length-drop 2 waiting)) in
      told (record_in waiting long) (drop (2 + long) waiting ++ more) same (drop-append-le (2 + long) waiting more there.1) t
    where
      whole : next_of (waiting ++ more) true ≡ Whole long
      whole = next_stays (Whole long) (λ x. let z : ◌≡◌ {A = ℕ} 0 1 = cc in omega arith) e

      told : (bytes left : List ℕ) → record_in (waiting ++ more) long ≡ bytes → drop (2 + long) (waiting ++ more) ≡ left
          → Told (reply s bytes).1 (number_after n) left rest
          → Told s n (waiting ++ more) (line_of (number_after n) (kind_of bytes) (reply s bytes).0 ++ rest)
      told bytes left p q u = let behind : ToldBehind s n (waiting ++ more) long rest = rw (p, q) u in rw (← p) (a_record long whole behind)
