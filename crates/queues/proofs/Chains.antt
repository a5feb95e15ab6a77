-- A list that memory holds as a queue is the list that is read from it, and no write elsewhere changes it. Assumes nothing.
use Prim.Native.Nat.{ℕ, zero, suc, ◌≤◌, ◌<◌}
use mathlib.Core.Path.{◌≡◌, sym, ap, ◌∙◌}
use mathlib.Core.List.{List, [], ◌∷◌}
use native.Mathlib.Omega.{arith}
use lib.ListN.{length}
use borrow.Author.Tests.{eq-eqb, ne_eqb}
use Rattle.layout.specs.Counting.{times}
use Rattle.rules.specs.Choice.{Each, also}
use Rattle.rules.proofs.Choice.{each_first, each_rest}
use Rattle.queues.specs.Lists.{waiting_of, oldest_of, youngest_of, behind_of, bit, list_from, list_of}
use Rattle.queues.specs.Queued.{has_frames, Behind, Chained, Queued}
use Rattle.layout.proofs.Cells.{clamped_below}
use Rattle.layout.proofs.Counting.{times_here}
use Rattle.queues.proofs.Counts.{times_rest, at_most}

-- ---- the last of a chain

pub last_in : (l : List ℕ) (p last c : ℕ) (cs : List ℕ) → Behind l p last c cs → 1 ≤ times last (c ∷ cs)
last_in l p last c [] e = rw (sym e) (omega (arith, times_here c []))
last_in l p last c (d ∷ ds) b = omega (arith, last_in l p last d ds b.1, times_rest last c (d ∷ ds))

-- one that has others behind it is not the last
pub not_last : (l : List ℕ) (p last c d : ℕ) (ds : List ℕ) → Behind l p last d ds → ((x : ℕ) → times x (c ∷ d ∷ ds) ≤ 1) → c ≡ last → ⊥
not_last l p last c d ds b once e =
    let many : 2 ≤ times c (c ∷ d ∷ ds) = omega (arith, times_here c (d ∷ ds), ap (λ (x : ℕ). times x (d ∷ ds)) e, last_in l p last d ds b) in
    omega (arith, once c)

once_rest : (c : ℕ) (cs : List ℕ) → ((x : ℕ) → times x (c ∷ cs) ≤ 1) → (x : ℕ) → times x cs ≤ 1
once_rest c cs once x = grind arith

-- ---- read from memory

from_chain : (n : ℕ) (l : List ℕ) (p last k c : ℕ) (cs : List ℕ) → Behind l p last c cs → Each (λ (x : ℕ). x < n) cs → ((x : ℕ) → times x (c ∷ cs) ≤ 1)
    → suc (length cs) ≤ k → list_from n l p last k c ≡ c ∷ cs
unfolding list_from
from_chain n l p last zero c cs b below once h = absurd (omega arith)
from_chain n l p last (suc k) c [] e below once h = rw (eq-eqb c last e)
from_chain n l p last (suc k) c (d ∷ ds) b (also here more) once h =
    rw (ne_eqb c last (not_last l p last c d ds b.1 once), b.0, clamped_below n d here)
    (ap (c ∷◌) (from_chain n l p last k d ds b.1 more (once_rest c (d ∷ ds) once) (omega arith)))

pub queued_list : {n : ℕ} {l : List ℕ} {p q : ℕ} (cells : List ℕ) → Queued n l p q cells → list_of n l p q ≡ cells
unfolding list_of has_frames
queued_list [] Q = rw Q.waits
queued_list {n} {l} {p} {q} (c ∷ cs) Q =
    rw (Q.waits, Q.chained.0, clamped_below n c (each_first Q.below))
    (from_chain n l p (youngest_of l p q) n c cs Q.chained.1 (each_rest Q.below) Q.once (at_most n (c ∷ cs) Q.below Q.once))

-- ---- other writes

-- memory m reads as l does along these frames of queue q of port p
pub record ListSame (p q : ℕ) (cells l m : List ℕ) : Type 0 where
  pub waits : bit (waiting_of m p) q ≡ bit (waiting_of l p) q
  pub oldest : oldest_of m p q ≡ oldest_of l p q
  pub youngest : youngest_of m p q ≡ youngest_of l p q
  pub behind : (c : ℕ) → 1 ≤ times c cells → behind_of m p c ≡ behind_of l p c

behind_same : (l m : List ℕ) (p last c : ℕ) (cs : List ℕ) → ((x : ℕ) → 1 ≤ times x (c ∷ cs) → behind_of m p x ≡ behind_of l p x) → Behind l p last c cs → Behind m p last c cs
behind_same l m p last c [] same b = b
behind_same l m p last c (d ∷ ds) same b =
    (same c (omega (arith, times_here c (d ∷ ds))) ∙ b.0, behind_same l m p last d ds (λ x h. same x (omega (arith, h, times_rest x c (d ∷ ds)))) b.1)

chained_same : (l m : List ℕ) (p first last : ℕ) (cells : List ℕ) → ((x : ℕ) → 1 ≤ times x cells → behind_of m p x ≡ behind_of l p x) → Chained l p first last cells → Chained m p first last cells
chained_same l m p first last [] same h = h
chained_same l m p first last (c ∷ cs) same h = (h.0, behind_same l m p last c cs same h.1)

pub queued_same : {n : ℕ} {l m : List ℕ} {p q : ℕ} {cells : List ℕ} → ListSame p q cells l m → Queued n l p q cells → Queued n m p q cells
queued_same {n} {l} {m} {p} {q} {cells} same Q =
    record {
      waits = same.waits ∙ Q.waits;
      below = Q.below;
      once = Q.once;
      chained = rw (same.oldest, same.youngest) (chained_same l m p (oldest_of l p q) (youngest_of l p q) cells same.behind Q.chained);
    }
