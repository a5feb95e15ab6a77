-- Fresh link memory is sound. Assumes nothing.
use mathlib.Core.Path.{◌≡◌, refl, ap, ap₂, ◌∙◌}
use mathlib.Core.List.{List, [], ◌++◌}
use Prim.Native.Nat.{ℕ, zero, suc, ◌+◌, ◌≤◌, ◌<◌}
use native.Mathlib.Decide.{ℕ_discrete, dec_lt}
use native.Mathlib.Omega.{arith}
use lib.Dec.{eqb, ltb}
use borrow.Author.Tests.{eq-eqb, ne_eqb, lt-ltb, le-ltb}
use Rattle.layout.specs.Counting.{times, one}
use Rattle.layout.specs.Cells.{clamped}
use Rattle.layout.proofs.Cells.{clamped_below}
use Rattle.cells.specs.Chains.{next_in, next, follow}
use Rattle.cells.specs.Free.{ports_of, free_cells}
use Rattle.cells.specs.Sound.{all_waiting, Sound, FreshCells}
use Rattle.cells.proofs.Kept.{waiting_none}

none_waits : (n : ℕ) (l : List ℕ) (m : ℕ) → ((c : ℕ) → c < m → ports_of l c ≡ 0) → all_waiting n l m ≡ []
unfolding all_waiting
none_waits n l zero h = refl
none_waits n l (suc m) h = ap₂ ◌++◌ (none_waits n l m (λ c b. h c (omega arith))) (waiting_none n l m (h m (omega arith)))

module _ (n : ℕ) (l : List ℕ) (fresh : FreshCells n l) where
  tail_is : (k c : ℕ) → c + suc k ≤ n → follow n l k (next n l c) ≡ follow n l k (c + 1)
  tail_is zero c h = refl
  tail_is (suc k) c h = ap (follow n l (suc k)) (ap (clamped n) (fresh.goes_on c (omega arith)) ∙ clamped_below n (c + 1) (omega arith))

  -- the k cells from c on are c to c + k - 1
  pub record Run (k c d : ℕ) : Type 0 where
    pub before : d < c → times d (follow n l k c) ≡ 0
    pub inside : c ≤ d → d < c + k → times d (follow n l k c) ≡ 1
    pub behind : c + k ≤ d → times d (follow n l k c) ≡ 0

  run : (k c d : ℕ) → c + k ≤ n → Run k c d
  run zero c d h = record { before = λ b. refl; inside = λ b e. absurd (omega arith); behind = λ b. refl }
  run (suc k) c d h =
      let more : Run k (c + 1) d = run k (c + 1) d (omega arith) in
      let tail : times d (follow n l k (next n l c)) ≡ times d (follow n l k (c + 1)) = ap (times d) (tail_is k c h) in
      elim (ℕ_discrete c d) as (λ _. Run (suc k) c d) [
        | yes e ↦
            let here : one (eqb c d) ≡ 1 = rw (eq-eqb c d e) in
            let rest : times d (follow n l k (c + 1)) ≡ 0 = more.before (omega arith) in
            record { before = λ b. absurd (omega arith); inside = λ b f. omega arith; behind = λ b. absurd (omega arith) }
        | no e ↦
            let here : one (eqb c d) ≡ 0 = rw (ne_eqb c d e) in
            record {
              before = λ b. omega (arith, more.before (omega arith));
              inside = λ b f. omega (arith, more.inside (omega arith) (omega arith));
              behind = λ b. omega (arith, more.behind (omega arith));
            }
      ]

  pub fresh_sound : 1 ≤ n → Sound n l
  fresh_sound some =
      let free : free_cells n l ≡ follow n l n 0 = ap₂ (follow n l) fresh.free fresh.first in
      let waiting : all_waiting n l n ≡ [] = none_waits n l n fresh.ports in
      record {
        once = λ c.
            let whole : Run n 0 c = run n 0 c (omega arith) in
            elim (dec_lt c n) as (λ _. times c (free_cells n l) + times c (all_waiting n l n) ≡ one (ltb c n)) [
              | yes h ↦
                  rw (free, waiting, lt-ltb c n h) (omega (arith, whole.inside (omega arith) (omega arith)))
              | no h ↦
                  let above : n ≤ c = omega arith in
                  rw (free, waiting, le-ltb c n above) (omega (arith, whole.behind (omega arith)))
            ];
        nexts = λ c h.
            elim (ℕ_discrete (c + 1) n) as (λ _. next_in l c < n) [
              | yes e ↦ rw (fresh.ends c e) some
              | no e ↦ rw (fresh.goes_on c (omega arith)) (omega arith)
            ];
        first = rw fresh.first some;
      }
