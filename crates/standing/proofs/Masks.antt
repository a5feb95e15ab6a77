-- Masks of ports: what a port's leaving makes of the mask, and when none is left. Assumes nothing.
use Prim.Native.Nat.{ℕ, ◌+◌, ◌^◌, ◌≤◌}
use mathlib.Core.Path.{◌≡◌, refl, sym, ap, ◌∙◌}
use mathlib.Core.Bool.{Bool, true, false, ◌&&◌, not, false≢true}
use mathlib.Core.List.{List, [], ◌∷◌}
use native.Mathlib.Omega.{arith}
use lib.Dec.{eqb}
use lib.Pow.{pow_pos}
use borrow.Author.Tests.{eqb-true, eq-eqb, ne_eqb}
use Rattle.rules.specs.Choice.{sift, among, without, Distinct, is_empty}
use Rattle.rules.specs.Numbers.{all_ports}
use Rattle.rules.proofs.Choice.{on, on_list, distinct_sift}
use Rattle.machine.specs.FrameIn.{mask}
use Rattle.standing.proofs.Reading.{without_absent}

pub mask_without : (p : ℕ) (ps : List ℕ) → Distinct ps → among p ps ≡ true → mask ps ≡ 2 ^ p + mask (without p ps)
unfolding mask among without sift
mask_without p [] d h = absurd (false≢true h)
mask_without p (m ∷ ms) d h =
    on (eqb p m)
    (λ e. rw e (let same : p ≡ m = eqb-true p m e in
    let none : among p ms ≡ false = ap (λ (z : ℕ). among z ms) same ∙ d.0 in
    omega (arith, ap (2 ^◌) same, ap mask (without_absent p ms none))))
    (λ e. rw e (omega (arith, mask_without p ms d.1 (rw e at h))))

mask_some : (m : ℕ) (ms : List ℕ) → 1 ≤ mask (m ∷ ms)
unfolding mask
mask_some m ms = omega (arith, pow_pos m)

pub mask_left : (m : ℕ) (ms ps : List ℕ) → ps ≡ m ∷ ms → 1 ≤ mask ps
mask_left m ms ps e = rw e (mask_some m ms)

-- the mask is this port's alone exactly if no other port is left
pub last_is : (p : ℕ) (ps : List ℕ) → Distinct ps → among p ps ≡ true → eqb (mask ps) (2 ^ p) ≡ is_empty (without p ps)
unfolding is_empty mask
last_is p ps d h =
    on_list (without p ps)
    (λ e. rw e (eq-eqb (mask ps) (2 ^ p) (omega (arith, mask_without p ps d h, ap mask e))))
    (λ m ms e. rw e (ne_eqb (mask ps) (2 ^ p) (λ z. omega (arith, mask_without p ps d h, ap mask e, mask_some m ms, z))))

-- ---- ascending ports

pub sift_sift : (t u : ℕ → Bool) (xs : List ℕ) → sift t (sift u xs) ≡ sift (λ x. u x && t x) xs
unfolding sift
sift_sift t u [] = refl
sift_sift t u (x ∷ xs) =
    on (u x)
    (λ e. rw e (on (t x) (λ f. rw f (ap (x ∷◌) (sift_sift t u xs))) (λ f. rw f (sift_sift t u xs))))
    (λ e. rw e (sift_sift t u xs))

pub sift_ext : (t u : ℕ → Bool) → ((x : ℕ) → t x ≡ u x) → (xs : List ℕ) → sift t xs ≡ sift u xs
unfolding sift
sift_ext t u h [] = refl
sift_ext t u h (x ∷ xs) = rw (h x, sift_ext t u h xs)

pub among_sift_is : (t : ℕ → Bool) (x : ℕ) (xs : List ℕ) → among x (sift t xs) ≡ among x xs && t x
unfolding among sift
among_sift_is t x [] = refl
among_sift_is t x (y ∷ ys) =
    on (eqb x y)
    (λ e. let same : x ≡ y = eqb-true x y e in
    on (t y)
    (λ f. rw (f, e, ap t same ∙ f))
    (λ f. rw f (among_sift_is t x ys ∙ rw (e, ap t same ∙ f) (and_none (among x ys)))))
    (λ e. rw e (on (t y) (λ f. rw (f, e) (among_sift_is t x ys)) (λ f. rw f (among_sift_is t x ys))))
  where
    and_none : (b : Bool) → b && false ≡ false
    and_none true = refl
    and_none false = refl

-- the ports of a frame that left one
pub ascending_without : (p : ℕ) (ps : List ℕ) → ps ≡ sift (λ r. among r ps) all_ports → without p ps ≡ sift (λ r. among r (without p ps)) all_ports
unfolding without
ascending_without p ps asc =
    ap (sift (λ r. not (eqb p r))) asc
    ∙ sift_sift (λ r. not (eqb p r)) (λ r. among r ps) all_ports
    ∙ sift_ext _ _ (λ r. sym (among_sift_is (λ s. not (eqb p s)) r ps)) all_ports

pub ascending_distinct : (ps : List ℕ) → ps ≡ sift (λ r. among r ps) all_ports → Distinct ps
unfolding among
ascending_distinct ps asc = rw asc (distinct_sift (λ r. among r ps) all_ports (refl, (refl, (refl, (refl, (refl, tt))))))

mask_sift : (t : ℕ → Bool) (xs : List ℕ) → mask (sift t xs) ≤ mask xs
unfolding mask sift
mask_sift t [] = omega arith
mask_sift t (x ∷ xs) = on (t x) (λ e. rw e (omega (arith, mask_sift t xs))) (λ e. rw e (omega (arith, mask_sift t xs)))

-- five ports make a mask of at most 31
pub ascending_mask : (ps : List ℕ) → ps ≡ sift (λ r. among r ps) all_ports → mask ps ≤ 31
unfolding mask
ascending_mask ps asc = omega (arith, ap mask asc, mask_sift (λ r. among r ps) all_ports)
