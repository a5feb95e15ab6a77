-- Something done at each port of a mask, one turn for each of the five; and two runs, one for each of two masks, are one run that does
-- both at each port: so counters may go up test by test where the events stand port by port. Assumes nothing.
use Prim.Native.Nat.{ℕ, zero, suc, ◌+◌, ◌-◌, ◌*◌, ◌/◌, ◌%◌, ◌^◌, ◌<◌, ◌≤◌}
use mathlib.Core.Path.{◌≡◌, refl, sym, ap, ◌∙◌}
use mathlib.Core.Bool.{Bool, true, false}
use mathlib.Core.List.{List, [], ◌∷◌}
use native.Mathlib.Omega.{arith}
use lib.Dec.{eqb}
use lib.ListN.{get_or, set}
use lib.Seq.{set_comm, get_or-set_other}
use Rattle.std.specs.Prelude.{if◌then◌else◌}
use Rattle.rules.specs.Choice.{sift}
use Rattle.rules.specs.Numbers.{all_ports}
use Rattle.rules.specs.Addresses.{run}
use Rattle.rules.specs.Arguments.{bit}
use Rattle.machine.specs.FrameIn.{mask}
use Rattle.layout.specs.Places.{counter_word}
use Rattle.layout.proofs.BitLaws.{bits_zero}
use Rattle.arrival.specs.Candidates.{ports_in}
use Rattle.frame_in.specs.Carried.{each_port, bump_at}

-- ---- one turn for each port

-- the ports of a mask from one on
unfoldable pub ports_from : ℕ → ℕ → List ℕ
ports_from m p = sift (bit m) (run p (5 - p))

module _ {A : Type 0} (f : ℕ → A → A) (m : ℕ) where
  pub each_starts : (x : A) → each_port f (ports_from m 0) x ≡ each_port f (ports_in m) x
  unfolding ports_from ports_in run
  each_starts x = refl

  -- the port's turn: it is one of the mask, or not
  module _ (p : ℕ) (x : A) (h : p < 5) where
    more : 5 - p ≡ suc (5 - (p + 1))
    more = omega arith

    next : suc p ≡ p + 1
    next = omega arith

    pub each_here : bit m p ≡ true → each_port f (ports_from m (p + 1)) (f p x) ≡ each_port f (ports_from m p) x
    unfolding ports_from run sift each_port
    each_here e = rw (more, next, e)

    pub each_past : bit m p ≡ false → each_port f (ports_from m (p + 1)) x ≡ each_port f (ports_from m p) x
    unfolding ports_from run sift each_port
    each_past e = rw (more, next, e)

  pub each_ends : (p : ℕ) (x : A) → 5 ≤ p → each_port f (ports_from m p) x ≡ x
  unfolding ports_from run sift each_port
  each_ends p x h = let none : 5 - p ≡ 0 = omega arith in rw none

  pub each_none : (x : A) → m ≡ 0 → x ≡ each_port f (ports_in m) x
  unfolding ports_in sift each_port
  each_none x e = let b = bits_zero m e in rw (b 0, b 1, b 2, b 3, b 4)

-- ---- two runs in one

module _ {A : Type 0} (f g : ℕ → A → A) (apart : (p q : ℕ) (m : A) → g q (f p m) ≡ f p (g q m)) where
  pub later : (q : ℕ) (ps : List ℕ) (m : A) → g q (each_port f ps m) ≡ each_port f ps (g q m)
  unfolding each_port
  later q [] m = refl
  later q (p ∷ ps) m = later q ps (f p m) ∙ ap (each_port f ps) (apart p q m)

-- one port's part of both
module _ {A : Type 0} (f g : ℕ → A → A) (a b : ℕ → Bool) where
  unfoldable pub both_at : ℕ → A → A
  both_at p m = if b p then g p (if a p then f p m else m) else (if a p then f p m else m)

module _ {A : Type 0} (f g : ℕ → A → A) (a b : ℕ → Bool) (apart : (p q : ℕ) (m : A) → g q (f p m) ≡ f p (g q m)) where
  step : (p : ℕ) (ps : List ℕ) (m : A) (x y : Bool)
      → each_port g (if y then (p ∷ sift b ps) else sift b ps) (each_port f (if x then (p ∷ sift a ps) else sift a ps) m)
      ≡ each_port g (sift b ps) (each_port f (sift a ps) (if y then g p (if x then f p m else m) else (if x then f p m else m)))
  unfolding each_port
  step p ps m true true = ap (each_port g (sift b ps)) (later f g apart p (sift a ps) (f p m))
  step p ps m false true = ap (each_port g (sift b ps)) (later f g apart p (sift a ps) m)
  step p ps m true false = refl
  step p ps m false false = refl

  together : (ps : List ℕ) (m : A) → each_port g (sift b ps) (each_port f (sift a ps) m) ≡ each_port (both_at f g a b) ps m
  unfolding each_port sift both_at
  together [] m = refl
  together (p ∷ ps) m = step p ps m (a p) (b p) ∙ together ps (both_at f g a b p m)

-- two counters of different number
pub bump_apart : (n k : ℕ) → n < 32 → k < 32 → (n ≡ k → ⊥) → (p q : ℕ) (l : List ℕ) → bump_at k q (bump_at n p l) ≡ bump_at n p (bump_at k q l)
bump_apart n k h i o p q l =
    let x = (get_or l (counter_word p n) 0 + 1) % 2 ^ 32 in
    let y = (get_or l (counter_word q k) 0 + 1) % 2 ^ 32 in
    let off : counter_word q k ≡ counter_word p n → ⊥ = λ e. o (same p q n k h i e) in
    ap (λ (v : ℕ). set (set l (counter_word p n) x) (counter_word q k) ((v + 1) % 2 ^ 32)) (get_or-set_other l (counter_word p n) (counter_word q k) x 0 off)
    ∙ set_comm l (counter_word p n) (counter_word q k) x y (λ e. off (sym e))
    ∙ sym (ap (λ (v : ℕ). set (set l (counter_word q k) y) (counter_word p n) ((v + 1) % 2 ^ 32)) (get_or-set_other l (counter_word q k) (counter_word p n) y 0 (λ e. off (sym e))))
  where
    same : (p q n k : ℕ) → n < 32 → k < 32 → counter_word q k ≡ counter_word p n → n ≡ k
    same p q n k h i e = omega arith

pub falls_together : (n k : ℕ) → n < 32 → k < 32 → (n ≡ k → ⊥) → (fell off : ℕ) (l : List ℕ)
    → each_port (bump_at k) (ports_in off) (each_port (bump_at n) (ports_in fell) l)
    ≡ each_port (both_at (bump_at n) (bump_at k) (bit fell) (bit off)) all_ports l
unfolding ports_in
falls_together n k h i o fell off l = together (bump_at n) (bump_at k) (bit fell) (bit off) (λ p q m. bump_apart n k h i o p q m) all_ports l

-- ---- the mask of the ports of a mask is the mask

either : (b : Bool) (p : ℕ) (ps : List ℕ) → mask (if b then (p ∷ ps) else ps) ≡ (if b then 2 ^ p else 0) + mask ps
unfolding mask
either true p ps = refl
either false p ps = omega arith

mask_first : (f : ℕ → Bool) (p : ℕ) (ps : List ℕ) → mask (sift f (p ∷ ps)) ≡ (if f p then 2 ^ p else 0) + mask (sift f ps)
unfolding sift
mask_first f p ps = either (f p) p (sift f ps)

digit : (x k : ℕ) → x < 2 → (if eqb x 1 then k else 0) ≡ x * k
digit zero k h = omega arith
digit (suc zero) k h = omega arith
digit (suc (suc x)) k h = absurd (omega (arith, h))

part : (m p : ℕ) → (if bit m p then 2 ^ p else 0) ≡ m / 2 ^ p % 2 * 2 ^ p
unfolding bit
part m p = digit (m / 2 ^ p % 2) (2 ^ p) (omega arith)

mask_none : (f : ℕ → Bool) → mask (sift f []) ≡ 0
unfolding mask sift
mask_none f = refl

digits : (m : ℕ) → m < 32 → m / 1 % 2 * 1 + (m / 2 % 2 * 2 + (m / 4 % 2 * 4 + (m / 8 % 2 * 8 + (m / 16 % 2 * 16 + 0)))) ≡ m
digits m h =
    sum m (m / 2) (m / 4) (m / 8) (m / 16) (m / 1 % 2) (m / 2 % 2) (m / 4 % 2) (m / 8 % 2) (m / 16 % 2) (omega arith) (omega arith) (omega arith) (omega arith)
    (omega arith)
  where
    sum : (m a b c d v w x y z : ℕ) → m ≡ v + a * 2 → a ≡ w + b * 2 → b ≡ x + c * 2 → c ≡ y + d * 2 → d ≡ z
        → v * 1 + (w * 2 + (x * 4 + (y * 8 + (z * 16 + 0)))) ≡ m
    sum m a b c d v w x y z e f g h i = omega arith

pub mask_of_ports : (m : ℕ) → m < 32 → mask (ports_in m) ≡ m
unfolding ports_in
mask_of_ports m h =
    let a = mask_first (bit m) 0 (1 ∷ 2 ∷ 3 ∷ 4 ∷ []) in
    let b = mask_first (bit m) 1 (2 ∷ 3 ∷ 4 ∷ []) in
    let c = mask_first (bit m) 2 (3 ∷ 4 ∷ []) in
    let d = mask_first (bit m) 3 (4 ∷ []) in
    let e = mask_first (bit m) 4 [] in
    let n = mask_none (bit m) in
    a ∙ rw (b, c, d, e, n, part m 0, part m 1, part m 2, part m 3, part m 4) (digits m h)
