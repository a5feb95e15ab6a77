-- An entry of the VLAN table replaced, added or cleared by its place is the machine's entry set or cleared by its VID. Assumes nothing.
use Prim.Native.Nat.{ℕ, zero, suc, ◌+◌, ◌<◌}
use mathlib.Core.Path.{◌≡◌, refl, sym, ap, ◌∙◌}
use mathlib.Core.Bool.{false, true≢false}
use mathlib.Core.List.{List, [], ◌∷◌, ◌++◌}
use native.Mathlib.Omega.{arith}
use borrow.Author.Tests.{eq-eqb, ne_eqb, eqb-false}
use lib.Dec.{eqb}
use lib.ListN.{length, get_or, set, take, drop}
use Rattle.rules.specs.Choice.{sift, among, Distinct}
use Rattle.rules.specs.Settings.{Vlan, absent_vlan, is_there}
use Rattle.rules.proofs.Choice.{on, or_left, or_right, eqb_sym}
use Rattle.machine.specs.SettingCalls.{with_entry, without_entry}
use Rattle.machine.specs.Demands.{vids}

-- the VID of an entry by its place
abbrev pub vid_of : List Vlan → ℕ → ℕ
vid_of vs e = (get_or vs e absent_vlan).vid

-- ---- an entry set

pub replaced_is : (new : Vlan) (vs : List Vlan) (e : ℕ) → e < length vs → vid_of vs e ≡ new.vid → ((i : ℕ) → i < e → vid_of vs i ≡ new.vid → ⊥)
    → set vs e new ≡ with_entry new vs
unfolding with_entry
replaced_is new [] e h here before = absurd (omega arith)
replaced_is new (v ∷ vs) zero h here before = rw (eq-eqb v.vid new.vid here)
replaced_is new (v ∷ vs) (suc e) h here before =
    rw (ne_eqb v.vid new.vid (before 0 (omega arith)))
    (ap (λ (rest : List Vlan). v ∷ rest) (replaced_is new vs e (omega arith) here (λ i k. before (suc i) (omega arith))))

pub added_is : (new : Vlan) (vs : List Vlan) → is_there vs new.vid ≡ false → vs ++ (new ∷ []) ≡ with_entry new vs
unfolding with_entry is_there
added_is new [] h = refl
added_is new (v ∷ vs) h =
    on (eqb v.vid new.vid)
    (λ e. absurd (true≢false (rw e at h)))
    (λ e. rw e (ap (λ (rest : List Vlan). v ∷ rest) (added_is new vs (rw e at h))))

-- ---- an entry cleared

-- without an entry of the VID nothing is cleared
none_cleared : (vid : ℕ) (vs : List Vlan) → among vid (vids vs) ≡ false → without_entry vid vs ≡ vs
unfolding without_entry sift among
none_cleared vid [] h = refl
none_cleared vid (v ∷ vs) h =
    rw (eqb_sym v.vid vid, or_left (eqb vid v.vid) (among vid (vids vs)) h)
    (ap (λ (rest : List Vlan). v ∷ rest) (none_cleared vid vs (or_right (eqb vid v.vid) (among vid (vids vs)) h)))

-- a VID that is not among them is no entry's
not_at : (vid : ℕ) (vs : List Vlan) (e : ℕ) → e < length vs → among vid (vids vs) ≡ false → vid_of vs e ≡ vid → ⊥
unfolding among
not_at vid [] e h none here = absurd (omega arith)
not_at vid (v ∷ vs) zero h none here = eqb-false vid v.vid (or_left (eqb vid v.vid) (among vid (vids vs)) none) (sym here)
not_at vid (v ∷ vs) (suc e) h none here = not_at vid vs e (omega arith) (or_right (eqb vid v.vid) (among vid (vids vs)) none) here

cleared_at : (vid : ℕ) (vs : List Vlan) (e : ℕ) → Distinct (vids vs) → e < length vs → vid_of vs e ≡ vid
    → take e vs ++ drop (suc e) vs ≡ without_entry vid vs
unfolding without_entry sift
cleared_at vid [] e once h here = absurd (omega arith)
cleared_at vid (v ∷ vs) zero once h here = rw (eq-eqb v.vid vid here) (sym (none_cleared vid vs (rw here at once.0)))
cleared_at vid (v ∷ vs) (suc e) once h here =
    rw (ne_eqb v.vid vid (λ same. not_at v.vid vs e (omega arith) once.0 (here ∙ sym same)))
    (ap (λ (rest : List Vlan). v ∷ rest) (cleared_at vid vs e once.1 (omega arith) here))

pub cleared_is : (vid : ℕ) (vs : List Vlan) (e : ℕ) → Distinct (vids vs) → e < length vs → vid_of vs e ≡ vid
    → take e vs ++ drop (e + 1) vs ≡ without_entry vid vs
cleared_is vid vs e once h here = let next : e + 1 ≡ suc e = omega arith in rw next (cleared_at vid vs e once h here)
