-- A take serves the highest-numbered waiting queue, and its oldest frame; it serves none exactly if nothing waits. Assumes nothing.
use Prim.Native.Nat.{ℕ, zero, suc, ◌≤◌, ◌<◌}
use mathlib.Core.Path.{◌≡◌, refl, sym, ap, ◌∙◌, subst}
use mathlib.Core.Bool.{true, false, false≢true, true≢false}
use mathlib.Core.List.{List, [], ◌∷◌}
use Rattle.std.specs.Prelude.{None as none, Some as some}
use native.Mathlib.Omega.{arith}
use lib.ListN as ListN
use Rattle.rules.specs.Outcomes.{Frame}
use Rattle.rules.specs.Choice.{is_empty}
use Rattle.rules.proofs.Choice.{on, on_list, on_option}
use Rattle.machine.specs.Waiting.{Waiting, waits_at, queue_at, oldest}
use Rattle.machine.specs.State.{State}
use Rattle.machine.specs.TakeOut.{first_waiting, served_queue, oldest_of, served}
use Rattle.machine.specs.CallTheorems.{NothingWaits, Serves}
use Rattle.machine.proofs.Waits.{own_queue}

-- the frames of a queue carry its number
pub queue_number : (p q : ℕ) (ws : List Waiting) (f : Frame) (fs : List Frame) → queue_at p q ws ≡ f ∷ fs → q ≡ f.queue
unfolding queue_at
queue_number p q [] f fs h = cc
queue_number p q (w ∷ ws) f fs h =
    on (waits_at p q w)
    (λ e. let d : w.frame ∷ queue_at p q ws ≡ f ∷ fs = rw e at h in let g : w.frame ≡ f = cc in rw (← g) (own_queue p q w e))
    (λ e. queue_number p q ws f fs (rw e at h))

-- a queue that is chosen has a frame, and it is the first such of the list
chosen_waits : (qs : List ℕ) (p : ℕ) (ws : List Waiting) (q : ℕ) → first_waiting qs p ws ≡ some q → is_empty (queue_at p q ws) ≡ false
unfolding first_waiting
chosen_waits [] p ws q h = absurd (let z : ◌≡◌ {A = ℕ} 0 1 = cc in omega arith)
chosen_waits (r ∷ rs) p ws q h =
    on (is_empty (queue_at p r ws))
    (λ e. chosen_waits rs p ws q (rw e at h))
    (λ e. let x : some r ≡ some q = rw e at h in let y : r ≡ q = cc in subst (λ (z : ℕ). is_empty (queue_at p z ws) ≡ false) y e)

empty_is : (fs : List Frame) → is_empty fs ≡ true → fs ≡ []
unfolding is_empty
empty_is [] h = refl
empty_is (f ∷ fs) h = absurd (false≢true h)

not_empty : (fs : List Frame) → fs ≡ [] → is_empty fs ≡ true
unfolding is_empty
not_empty fs h = rw h

module _ (p : ℕ) (ws : List Waiting) where
  chosen_here : (q : ℕ) (qs : List ℕ) → is_empty (queue_at p q ws) ≡ false → first_waiting (q ∷ qs) p ws ≡ some q
  unfolding first_waiting
  chosen_here q qs e = rw e

  passed_over : (q : ℕ) (qs : List ℕ) → is_empty (queue_at p q ws) ≡ true → first_waiting (q ∷ qs) p ws ≡ first_waiting qs p ws
  unfolding first_waiting
  passed_over q qs e = rw e

  none_left : first_waiting [] p ws ≡ none
  unfolding first_waiting
  none_left = refl

  -- the four queues, from the highest down
  by_four {ℓ} : {C : Type ℓ} → (served_queue p ws ≡ some 3 → is_empty (queue_at p 3 ws) ≡ false → C)
      → (served_queue p ws ≡ some 2 → is_empty (queue_at p 3 ws) ≡ true → is_empty (queue_at p 2 ws) ≡ false → C)
      → (served_queue p ws ≡ some 1 → is_empty (queue_at p 3 ws) ≡ true → is_empty (queue_at p 2 ws) ≡ true → is_empty (queue_at p 1 ws) ≡ false → C)
      → (served_queue p ws ≡ some 0 → is_empty (queue_at p 3 ws) ≡ true → is_empty (queue_at p 2 ws) ≡ true → is_empty (queue_at p 1 ws) ≡ true → is_empty (queue_at p 0 ws) ≡ false → C)
      → (served_queue p ws ≡ none → is_empty (queue_at p 3 ws) ≡ true → is_empty (queue_at p 2 ws) ≡ true → is_empty (queue_at p 1 ws) ≡ true → is_empty (queue_at p 0 ws) ≡ true → C) → C
  unfolding served_queue
  by_four c3 c2 c1 c0 none_waits =
      on (is_empty (queue_at p 3 ws))
      (λ e3. on (is_empty (queue_at p 2 ws))
      (λ e2. on (is_empty (queue_at p 1 ws))
      (λ e1. on (is_empty (queue_at p 0 ws))
      (λ e0. none_waits (passed_over 3 _ e3 ∙ passed_over 2 _ e2 ∙ passed_over 1 _ e1 ∙ passed_over 0 [] e0 ∙ none_left) e3 e2 e1 e0)
      (λ e0. c0 (passed_over 3 _ e3 ∙ passed_over 2 _ e2 ∙ passed_over 1 _ e1 ∙ chosen_here 0 [] e0) e3 e2 e1 e0))
      (λ e1. c1 (passed_over 3 _ e3 ∙ passed_over 2 _ e2 ∙ chosen_here 1 _ e1) e3 e2 e1))
      (λ e2. c2 (passed_over 3 _ e3 ∙ chosen_here 2 _ e2) e3 e2))
      (λ e3. c3 (chosen_here 3 _ e3) e3)

  -- "its highest-numbered waiting queue"
  record Highest (q : ℕ) : Type 0 where
    low : q ≤ 3
    higher_empty : (r : ℕ) → q < r → r ≤ 3 → queue_at p r ws ≡ []

  highest : (q : ℕ) → served_queue p ws ≡ some q → Highest q
  highest q h =
      by_four
      (λ e a3. is q 3 (sym e ∙ h) (record { low = omega arith; higher_empty = λ r l m. absurd (omega arith) }))
      (λ e a3 a2. is q 2 (sym e ∙ h) (record { low = omega arith; higher_empty = λ r l m. above r 3 (omega arith) (empty_is _ a3) }))
      (λ e a3 a2 a1. is q 1 (sym e ∙ h) (record { low = omega arith; higher_empty = λ r l m. two r l m (empty_is _ a3) (empty_is _ a2) }))
      (λ e a3 a2 a1 a0. is q 0 (sym e ∙ h) (record { low = omega arith; higher_empty = λ r l m. three r l m (empty_is _ a3) (empty_is _ a2) (empty_is _ a1) }))
      (λ e a3 a2 a1 a0. absurd (let x : none ≡ some q = sym e ∙ h in let z : ◌≡◌ {A = ℕ} 0 1 = cc in omega arith))
    where
      is : (q k : ℕ) → some k ≡ some q → Highest k → Highest q
      is q k e x = let y : k ≡ q = cc in subst Highest y x

      above : (r k : ℕ) → k ≡ r → queue_at p k ws ≡ [] → queue_at p r ws ≡ []
      above r k e x = subst (λ (z : ℕ). queue_at p z ws ≡ []) e x

      two : (r : ℕ) → 1 < r → r ≤ 3 → queue_at p 3 ws ≡ [] → queue_at p 2 ws ≡ [] → queue_at p r ws ≡ []
      two zero l m a b = absurd (omega arith)
      two (suc zero) l m a b = absurd (omega arith)
      two (suc (suc zero)) l m a b = b
      two (suc (suc (suc zero))) l m a b = a
      two (suc (suc (suc (suc r)))) l m a b = absurd (omega arith)

      three : (r : ℕ) → 0 < r → r ≤ 3 → queue_at p 3 ws ≡ [] → queue_at p 2 ws ≡ [] → queue_at p 1 ws ≡ [] → queue_at p r ws ≡ []
      three zero l m a b c = absurd (omega arith)
      three (suc zero) l m a b c = c
      three (suc (suc zero)) l m a b c = b
      three (suc (suc (suc zero))) l m a b c = a
      three (suc (suc (suc (suc r)))) l m a b c = absurd (omega arith)

  none_waits : served_queue p ws ≡ none → NothingWaits p ws
  none_waits h =
      by_four
      (λ e a3. not_none e) (λ e a3 a2. not_none e) (λ e a3 a2 a1. not_none e) (λ e a3 a2 a1 a0. not_none e)
      (λ e a3 a2 a1 a0 q l. four q l (empty_is _ a0) (empty_is _ a1) (empty_is _ a2) (empty_is _ a3))
    where
      not_none : {q : ℕ} → served_queue p ws ≡ some q → NothingWaits p ws
      not_none {q} e = absurd (let x : some q ≡ none = sym e ∙ h in let z : ◌≡◌ {A = ℕ} 0 1 = cc in omega arith)

      four : (r : ℕ) → r ≤ 3 → queue_at p 0 ws ≡ [] → queue_at p 1 ws ≡ [] → queue_at p 2 ws ≡ [] → queue_at p 3 ws ≡ [] → queue_at p r ws ≡ []
      four zero l a b c d = a
      four (suc zero) l a b c d = b
      four (suc (suc zero)) l a b c d = c
      four (suc (suc (suc zero))) l a b c d = d
      four (suc (suc (suc (suc r)))) l a b c d = absurd (omega arith)

  pub nothing_served : NothingWaits p ws → served_queue p ws ≡ none
  unfolding served_queue first_waiting
  nothing_served h =
      rw (not_empty _ (h 3 (omega arith)), not_empty _ (h 2 (omega arith)), not_empty _ (h 1 (omega arith)), not_empty _ (h 0 (omega arith)))

-- ---- the frame that is served

oldest_is : (fs : List Frame) (f : Frame) → oldest fs ≡ some f → fs ≡ f ∷ ListN.drop 1 fs
unfolding oldest
oldest_is [] f h = absurd (let z : ◌≡◌ {A = ℕ} 0 1 = cc in omega arith)
oldest_is (g ∷ gs) f h = let e : g ≡ f = cc in ap (λ (x : Frame). x ∷ gs) e

record ServedFrom (s : State) (p : ℕ) (f : Frame) : Type 0 where
  queue : ℕ
  chosen : served_queue p s.core.waiting ≡ some queue
  heads : queue_at p queue s.core.waiting ≡ f ∷ ListN.drop 1 (queue_at p queue s.core.waiting)

served_from : (s : State) (p : ℕ) (f : Frame) → served s p ≡ some f → ServedFrom s p f
unfolding served oldest_of
served_from s p f h =
    on_option (served_queue p s.core.waiting)
    (λ e. absurd (let x : none ≡ some f = rw e at h in let z : ◌≡◌ {A = ℕ} 0 1 = cc in omega arith))
    (λ q e. record { queue = q; chosen = e; heads = oldest_is (queue_at p q s.core.waiting) f (rw e at h) })

-- the frame that a take serves is the head of its queue
pub served_heads : (s : State) (p : ℕ) (f : Frame) → served s p ≡ some f → queue_at p f.queue s.core.waiting ≡ f ∷ ListN.drop 1 (queue_at p f.queue s.core.waiting)
served_heads s p f h =
    let x = served_from s p f h in
    subst (λ (q : ℕ). queue_at p q s.core.waiting ≡ f ∷ ListN.drop 1 (queue_at p q s.core.waiting)) (queue_number p x.queue s.core.waiting f _ x.heads) x.heads

pub served_serves : (s : State) (p : ℕ) (f : Frame) → served s p ≡ some f → Serves s.core.waiting p f.queue f
served_serves s p f h =
    let x = served_from s p f h in
    let n = queue_number p x.queue s.core.waiting f _ x.heads in
    let y = highest p s.core.waiting x.queue x.chosen in
    subst (λ (q : ℕ). Serves s.core.waiting p q f) n
    (record { low = y.low; higher_empty = y.higher_empty; behind = ListN.drop 1 (queue_at p x.queue s.core.waiting); oldest = x.heads })

queue_waits : (p : ℕ) (ws : List Waiting) (q : ℕ) → served_queue p ws ≡ some q → is_empty (queue_at p q ws) ≡ false
unfolding served_queue
queue_waits p ws q e = chosen_waits (3 ∷ 2 ∷ 1 ∷ 0 ∷ []) p ws q e

pub served_none : (s : State) (p : ℕ) → served s p ≡ none → NothingWaits p s.core.waiting
unfolding served oldest_of oldest is_empty
served_none s p h =
    on_option (served_queue p s.core.waiting)
    (λ e. none_waits p s.core.waiting e)
    (λ q e. on_list (queue_at p q s.core.waiting)
    (λ x. absurd (true≢false (rw x at (queue_waits p s.core.waiting q e))))
    (λ f fs x. absurd (let y : some f ≡ none = rw (e, x) at h in let z : ◌≡◌ {A = ℕ} 0 1 = cc in omega arith)))

pub none_served : (s : State) (p : ℕ) → NothingWaits p s.core.waiting → served s p ≡ none
unfolding served oldest_of
none_served s p h = rw (nothing_served p s.core.waiting h)

-- a take that finds a queue to serve serves the head of it
pub serves_served : (s : State) (p q : ℕ) (f : Frame) → Serves s.core.waiting p q f → served s p ≡ some f
unfolding served oldest_of oldest served_queue first_waiting is_empty
serves_served s p q f v = go q v.low v.higher_empty v.oldest
  where
    go : (q : ℕ) → q ≤ 3 → ((r : ℕ) → q < r → r ≤ 3 → queue_at p r s.core.waiting ≡ []) → queue_at p q s.core.waiting ≡ f ∷ v.behind
        → oldest_of (served_queue p s.core.waiting) p s.core.waiting ≡ some f
    go zero l h o = rw (h 3 (omega arith) (omega arith), h 2 (omega arith) (omega arith), h 1 (omega arith) (omega arith), o) (rw o)
    go (suc zero) l h o = rw (h 3 (omega arith) (omega arith), h 2 (omega arith) (omega arith), o) (rw o)
    go (suc (suc zero)) l h o = rw (h 3 (omega arith) (omega arith), o) (rw o)
    go (suc (suc (suc zero))) l h o = rw o (rw o)
    go (suc (suc (suc (suc q)))) l h o = absurd (omega arith)
