-- A drain: its tests turn by turn, and its copies one after another. Assumes nothing.
use Prim.Native.Nat.{ℕ, zero, suc, ◌+◌, ◌-◌, ◌≤◌, ◌<◌}
use mathlib.Core.Path.{◌≡◌, refl, sym, ap, ap₂, ◌∙◌}
use mathlib.Core.Bool.{Bool, true, false, ◌&&◌}
use mathlib.Core.List.{List}
use native.Mathlib.Omega.{arith}
use Rattle.std.specs.Prelude.{None as none}
use Rattle.rules.proofs.Choice.{on}
use Rattle.queues.specs.Lists.{waiting_of, youngest_of, behind_cell, is_youngest, bit, list_from, turns, turn_count}
use Rattle.queues.proofs.Turns.{turns_next, count_next, turns_stop, count_stop, turns_end, count_end}
use Rattle.departure.specs.Leaving.{can_leave, word_left}
use Rattle.departure.specs.Draining.{all_can_leave, can_drain, drain_one, drain_queue, queue_copies, drained_queue, drain_all, copies, drained_all}

-- ---- the frames of a queue, one after another

-- those that are left after so many turns
abbrev pub rest_from : ℕ → ℕ → ℕ → List ℕ → ℕ → ℕ → List ℕ
rest_from n port queue l turn c = list_from n l port (youngest_of l port queue) (n - turn) c

module _ (n port queue : ℕ) (l : List ℕ) (turn c : ℕ) where
  pub rest_none : n ≤ turn → all_can_leave n port l (rest_from n port queue l turn c) ≡ true
  unfolding all_can_leave list_from
  rest_none h = let none : n - turn ≡ 0 = omega arith in rw none

  module _ (more : turn < n) where
    one : n - turn ≡ suc (n - (turn + 1))
    one = omega arith

    pub rest_bad : word_left n port c l ≡ none → all_can_leave n port l (rest_from n port queue l turn c) ≡ false
    unfolding all_can_leave list_from word_left
    rest_bad e =
        let stays : can_leave n port c l ≡ false = on (can_leave n port c l) (λ t. let z = rw t at e in cc) (λ f. f) in
        rw (one, stays)

    module _ (leaves : word_left n port c l ≡ none → ⊥) where
      leaves_now : can_leave n port c l ≡ true
      unfolding word_left
      leaves_now = on (can_leave n port c l) (λ e. e) (λ e. absurd (leaves (rw e)))

      pub rest_last : is_youngest l port queue c ≡ true → all_can_leave n port l (rest_from n port queue l turn c) ≡ true
      unfolding all_can_leave list_from is_youngest
      rest_last e = rw (one, leaves_now, e)

      pub rest_next : is_youngest l port queue c ≡ false
          → all_can_leave n port l (rest_from n port queue l (turn + 1) (behind_cell n l port c)) ≡ all_can_leave n port l (rest_from n port queue l turn c)
      unfolding all_can_leave list_from is_youngest
      rest_next e = rw (one, leaves_now, e)

-- ---- the queues of a port from 3 down: those below a number

module _ (n port : ℕ) where
  abbrev pub can_drain_below : ℕ → List ℕ → Bool
  can_drain_below zero l = true
  can_drain_below (suc q) l = can_drain n port q l && can_drain_below q l

  abbrev pub drain_below : ℕ → List ℕ → List ℕ
  drain_below zero l = l
  drain_below (suc q) l = drain_below q (drain_queue n port q l)

  abbrev pub copies_below : ℕ → List ℕ → ℕ
  copies_below zero l = 0
  copies_below (suc q) l = queue_copies n port q l + copies_below q (drain_queue n port q l)
