-- The table of reasons part by part: the reason of a frame, and how far it came. Assumes nothing.
use Prim.Native.Nat.{ℕ}
use mathlib.Core.Path.{◌≡◌, refl, sym, ap, ap₂, ◌∙◌}
use mathlib.Core.Logic.{◌↔◌}
use mathlib.Core.Bool.{Bool, true, false, ◌&&◌, not, false≢true}
use mathlib.Core.List.{List, [], ◌∷◌, ◌++◌, append-nil}
use Rattle.std.specs.Prelude.{Option, None as none, Some as some}
use native.Mathlib.Omega.{arith}
use lib.Dec.{leb}
use borrow.Author.Tests.{not-true}
use Rattle.rules.specs.Choice.{sift, is_nothing}
use Rattle.rules.specs.Lines.{Line, first}
use Rattle.rules.specs.Reasons.{Reason}
use Rattle.rules.specs.Facts.{Facts}
use Rattle.rules.specs.ReasonTable.{Part, Row, reading, entering, choosing, queueing, part_number, reason_table, lines_in, rows_of, is_asked, reason_for, is_past}
use Rattle.rules.specs.Outcomes.{counts_tests, learns}
use Rattle.rules.specs.ArrivalTheorems.{PastEntering, PastChoosing}
use Rattle.rules.proofs.Choice.{on, on_option, and_left, and_right}
use Rattle.rules.proofs.Lines.{first_append_none, first_append_some}

-- ---- the parts stand one behind the other

unfoldable pub cut : Bool → List (Line Reason) → List (Line Reason)
cut true ls = ls
cut false ls = []

-- the rows of one part with these lines
unfoldable tagged : Part → List (Line Reason) → List Row
tagged part [] = []
tagged part (l ∷ ls) = record { part = part; line = l } ∷ tagged part ls

by_parts : (f : Facts) → reason_table f
    ≡ tagged reading (rows_of reading f) ++ (tagged entering (rows_of entering f) ++ (tagged choosing (rows_of choosing f) ++ tagged queueing (rows_of queueing f)))
unfolding reason_table rows_of lines_in sift part_number tagged
by_parts f = refl

module _ (test : Part → Bool) where
  lines_tagged : (part : Part) (ls : List (Line Reason)) → lines_in test (tagged part ls) ≡ cut (test part) ls
  unfolding lines_in sift tagged cut
  lines_tagged part [] = on (test part) (λ e. rw e) (λ e. rw e)
  lines_tagged part (l ∷ ls) =
      let rest : lines_in test (tagged part ls) ≡ cut (test part) ls = lines_tagged part ls in
      on (test part)
      (λ e. rw e (ap (λ (ms : List (Line Reason)). l ∷ ms) (rw e at rest)))
      (λ e. rw e (rw e at rest))

  lines_append : (rows more : List Row) → lines_in test (rows ++ more) ≡ lines_in test rows ++ lines_in test more
  unfolding lines_in sift
  lines_append [] more = refl
  lines_append (r ∷ rows) more =
      on (test r.part)
      (λ e. rw e (ap (λ (ms : List (Line Reason)). r.line ∷ ms) (lines_append rows more)))
      (λ e. rw e (lines_append rows more))

  both : (part : Part) (ls : List (Line Reason)) (more : List Row) → lines_in test (tagged part ls ++ more) ≡ cut (test part) ls ++ lines_in test more
  both part ls more = lines_append (tagged part ls) more ∙ ap (λ (ms : List (Line Reason)). ms ++ lines_in test more) (lines_tagged part ls)

  split : (f : Facts) → lines_in test (reason_table f)
      ≡ cut (test reading) (rows_of reading f) ++ (cut (test entering) (rows_of entering f) ++ (cut (test choosing) (rows_of choosing f) ++ cut (test queueing) (rows_of queueing f)))
  split f =
      rw (by_parts f) (both reading _ _
      ∙ ap (λ (ls : List (Line Reason)). cut (test reading) (rows_of reading f) ++ ls)
      (both entering _ _
      ∙ ap (λ (ls : List (Line Reason)). cut (test entering) (rows_of entering f) ++ ls)
      (both choosing _ _ ∙ ap (λ (ls : List (Line Reason)). cut (test choosing) (rows_of choosing f) ++ ls) (lines_tagged queueing _))))

module _ (f : Facts) where
  asked : lines_in (is_asked f.bpdu) (reason_table f)
      ≡ rows_of reading f ++ (cut (not f.bpdu) (rows_of entering f) ++ (cut (not f.bpdu) (rows_of choosing f) ++ rows_of queueing f))
  unfolding is_asked cut
  asked = split (is_asked f.bpdu) f

  -- ---- the reason

  pub reason_reading : (r : Reason) → first (rows_of reading f) ≡ some r → reason_for f ≡ some r
  unfolding reason_for
  reason_reading r e = ap first asked ∙ first_append_some (rows_of reading f) _ r e

  module _ (read : first (rows_of reading f) ≡ none) where
    pub reason_bpdu : f.bpdu ≡ true → reason_for f ≡ first (rows_of queueing f)
    unfolding reason_for cut
    reason_bpdu b = ap first asked ∙ first_append_none (rows_of reading f) _ read ∙ rw b

    module _ (ordinary : f.bpdu ≡ false) where
      past_read : reason_for f ≡ first (rows_of entering f ++ (rows_of choosing f ++ rows_of queueing f))
      unfolding reason_for cut
      past_read = ap first asked ∙ first_append_none (rows_of reading f) _ read ∙ rw ordinary

      pub reason_entering : (r : Reason) → first (rows_of entering f) ≡ some r → reason_for f ≡ some r
      reason_entering r e = past_read ∙ first_append_some (rows_of entering f) _ r e

      module _ (entered : first (rows_of entering f) ≡ none) where
        pub reason_choosing : (r : Reason) → first (rows_of choosing f) ≡ some r → reason_for f ≡ some r
        reason_choosing r e = past_read ∙ first_append_none (rows_of entering f) _ entered ∙ first_append_some (rows_of choosing f) _ r e

        pub reason_queueing : first (rows_of choosing f) ≡ none → reason_for f ≡ first (rows_of queueing f)
        reason_queueing e = past_read ∙ first_append_none (rows_of entering f) _ entered ∙ first_append_none (rows_of choosing f) _ e

  -- ---- how far a frame came

  lines_entering : lines_in (λ (p : Part). is_asked f.bpdu p && leb (part_number p) 1) (reason_table f) ≡ rows_of reading f ++ cut (not f.bpdu) (rows_of entering f)
  unfolding is_asked part_number cut rows_of reason_table
  lines_entering =
      split (λ (p : Part). is_asked f.bpdu p && leb (part_number p) 1) f
      ∙ on f.bpdu
      (λ b. rw b)
      (λ b. rw b (ap (λ (ls : List (Line Reason)). rows_of reading f ++ ls) (append-nil (rows_of entering f))))

  lines_choosing : lines_in (λ (p : Part). is_asked f.bpdu p && leb (part_number p) 2) (reason_table f)
      ≡ rows_of reading f ++ (cut (not f.bpdu) (rows_of entering f) ++ cut (not f.bpdu) (rows_of choosing f))
  unfolding is_asked part_number cut rows_of reason_table
  lines_choosing =
      split (λ (p : Part). is_asked f.bpdu p && leb (part_number p) 2) f
      ∙ on f.bpdu
      (λ b. rw b)
      (λ b. rw b (ap (λ (ls : List (Line Reason)). rows_of reading f ++ (rows_of entering f ++ ls)) (append-nil (rows_of choosing f))))

  nothing_only : (o : Option Reason) → is_nothing o ≡ true → o ≡ none
  unfolding is_nothing
  nothing_only none h = refl
  nothing_only (some r) h = absurd (false≢true h)

  nothing_then : (o : Option Reason) → o ≡ none → is_nothing o ≡ true
  unfolding is_nothing
  nothing_then o e = rw e

  -- none of two lists holds exactly if none of each does
  none_each : (ls ms : List (Line Reason)) → first (ls ++ ms) ≡ none → (first ls ≡ none) × (first ms ≡ none)
  none_each ls ms h =
      on_option (first ls)
      (λ e. (e, sym (first_append_none ls ms e) ∙ h))
      (λ r e. absurd (let z : some r ≡ none = sym (first_append_some ls ms r e) ∙ h in let y : ◌≡◌ {A = ℕ} 0 1 = cc in omega arith))

  none_all : (ls ms : List (Line Reason)) → first ls ≡ none → first ms ≡ none → first (ls ++ ms) ≡ none
  none_all ls ms a b = first_append_none ls ms a ∙ b

  -- a part that only an ordinary frame is asked
  uncut : (ls : List (Line Reason)) → first (cut (not f.bpdu) ls) ≡ none → f.bpdu ≡ false → first ls ≡ none
  unfolding cut
  uncut ls h b = rw b at h

  recut : (ls : List (Line Reason)) → (f.bpdu ≡ false → first ls ≡ none) → first (cut (not f.bpdu) ls) ≡ none
  unfolding cut first
  recut ls h = on f.bpdu (λ b. rw b) (λ b. rw b (h b))

  past_entering : is_past entering f ≡ true → PastEntering f
  unfolding is_past part_number
  past_entering h =
      let x = none_each (rows_of reading f) _ (sym (ap first lines_entering) ∙ nothing_only _ h) in
      record { read = x.0; entered = uncut (rows_of entering f) x.1 }

  entering_past : PastEntering f → is_past entering f ≡ true
  unfolding is_past part_number
  entering_past h =
      nothing_then _ (ap first lines_entering ∙ none_all (rows_of reading f) _ h.read (recut (rows_of entering f) h.entered))

  pub learns_exactly : (learns f ≡ true) ↔ ((f.bpdu ≡ false) × PastEntering f)
  unfolding learns
  learns_exactly = (
    λ h. (not-true f.bpdu (and_left (not f.bpdu) (is_past entering f) h), past_entering (and_right (not f.bpdu) (is_past entering f) h)),
    λ h. ap₂ (λ (a b : Bool). not a && b) h.0 (entering_past h.1),
  )

  pub counts_only : counts_tests f ≡ true → PastChoosing f
  unfolding counts_tests is_past part_number
  counts_only h =
      let x = none_each (rows_of reading f) _ (sym (ap first lines_choosing) ∙ nothing_only _ h) in
      let y = none_each (cut (not f.bpdu) (rows_of entering f)) _ x.1 in
      record { past = record { read = x.0; entered = uncut (rows_of entering f) y.0 }; chosen = uncut (rows_of choosing f) y.1 }

  pub counts_then : PastChoosing f → counts_tests f ≡ true
  unfolding counts_tests is_past part_number
  counts_then h =
      nothing_then _
      (ap first lines_choosing
      ∙ none_all (rows_of reading f) _ h.past.read
      (none_all (cut (not f.bpdu) (rows_of entering f)) _ (recut (rows_of entering f) h.past.entered) (recut (rows_of choosing f) h.chosen)))

  pub counts_exactly : (counts_tests f ≡ true) ↔ PastChoosing f
  counts_exactly = (counts_only, counts_then)

  -- ---- what does not hold where a reason was found before

  not_true_false : (b : Bool) → (b ≡ true → ⊥) → b ≡ false
  not_true_false b n = on b (λ e. absurd (n e)) (λ e. e)

  two : {o : Option Reason} {r : Reason} → o ≡ some r → o ≡ none → ⊥
  two a b = let z : ◌≡◌ {A = ℕ} 0 1 = cc in omega arith

  pub read_stops : (r : Reason) → first (rows_of reading f) ≡ some r → (learns f ≡ false) × (counts_tests f ≡ false)
  read_stops r e = (
    not_true_false (learns f) (λ h. two e (learns_exactly.0 h).1.read),
    not_true_false (counts_tests f) (λ h. two e (counts_only h).past.read),
  )

  pub entering_stops : f.bpdu ≡ false → (r : Reason) → first (rows_of entering f) ≡ some r → (learns f ≡ false) × (counts_tests f ≡ false)
  entering_stops b r e = (
    not_true_false (learns f) (λ h. two e ((learns_exactly.0 h).1.entered b)),
    not_true_false (counts_tests f) (λ h. two e ((counts_only h).past.entered b)),
  )

  pub choosing_stops : f.bpdu ≡ false → (r : Reason) → first (rows_of choosing f) ≡ some r → counts_tests f ≡ false
  choosing_stops b r e = not_true_false (counts_tests f) (λ h. two e ((counts_only h).chosen b))

  pub bpdu_learns_nothing : f.bpdu ≡ true → learns f ≡ false
  bpdu_learns_nothing b = not_true_false (learns f) (λ h. false≢true (sym (learns_exactly.0 h).0 ∙ b))
