-- The outcomes of the tests before a copy leaves, and what they say of link memory. Assumes nothing.
use Prim.Native.Nat.{ℕ, ◌-◌, ◌*◌, ◌/◌, ◌^◌, ◌%◌, ◌≤◌, ◌<◌}
use mathlib.Core.Path.{◌≡◌, sym, ap, ◌∙◌}
use mathlib.Core.Bool.{Bool, true, false, ◌&&◌}
use mathlib.Core.List.{List}
use native.Mathlib.Omega.{arith}
use lib.Dec.{ltb}
use lib.ListN.{set}
use borrow.Author.Tests.{lt-ltb, le-ltb, ltb-true, eq-eqb, ne_eqb}
use Rattle.std.specs.Prelude.{Some as some, None as none}
use Rattle.rules.specs.Arguments.{bit}
use Rattle.rules.proofs.Choice.{on, and_left, and_right, and_false}
use Rattle.layout.specs.Places.{frame_word}
use Rattle.layout.specs.Same.{QueuesSame}
use Rattle.cells.specs.Free.{word_of, size_of, ports_of, is_frame, can_give_back, given_back}
use Rattle.cells.proofs.Apart.{given_queues, ports_queues}
use Rattle.departure.specs.Leaving.{is_last, turned, has_room, can_leave, word_left, departed}
use Rattle.departure.proofs.Turns.{bit_le, turned_waits, less_waits, more_absent}

-- ---- what a copy that can leave is known by

pub record Leaves (n port c : ℕ) (l : List ℕ) : Type 0 where
  pub below : c < n
  pub frame : is_frame c l ≡ true
  pub waits : bit (ports_of l c) port ≡ true
  pub room : is_last port c l ≡ true → can_give_back n c l ≡ true

pub leaves : (n port c : ℕ) (l : List ℕ) → can_leave n port c l ≡ true → Leaves n port c l
unfolding can_leave has_room
leaves n port c l h =
    let free : Bool = has_room n port c l in
    let one : (is_frame c l && (bit (ports_of l c) port && free)) ≡ true = and_right (ltb c n) _ h in
    let two : (bit (ports_of l c) port && free) ≡ true = and_right (is_frame c l) _ one in
    let three : free ≡ true = and_right (bit (ports_of l c) port) _ two in
    record {
      below = ltb-true c n (and_left (ltb c n) _ h);
      frame = and_left (is_frame c l) _ one;
      waits = and_left (bit (ports_of l c) port) _ two;
      room = λ e. rw e at three;
    }

-- ---- the frame's word when the copy has left

module _ (port c : ℕ) (l : List ℕ) (known : port < 5) (waits : bit (ports_of l c) port ≡ true) where
  stands : 2 ^ port ≤ word_of l c % 32
  stands = bit_le port (word_of l c) known waits

  pub left_size : (word_of l c - 2 ^ port) / 32 ≡ size_of l c
  left_size = omega (arith, stands)

  pub none_left : (word_of l c - 2 ^ port) % 32 ≡ 0 → is_last port c l ≡ true
  unfolding is_last
  none_left e = eq-eqb (ports_of l c) (2 ^ port) (omega (arith, stands))

  pub some_left : ((word_of l c - 2 ^ port) % 32 ≡ 0 → ⊥) → is_last port c l ≡ false
  unfolding is_last
  some_left e = ne_eqb (ports_of l c) (2 ^ port) (λ f. e (omega arith))

-- ---- the outcomes of the tests, as the code finds them

pub size_left : (port c : ℕ) (l : List ℕ) → port < 5 → turned (word_of l c) port < word_of l c → turned (word_of l c) port / 32 ≡ size_of l c
size_left port c l known h =
    let waits : bit (ports_of l c) port ≡ true = less_waits port (word_of l c) known h in
    ap (◌/ 32) (turned_waits port (word_of l c) known waits) ∙ left_size port c l known waits

module _ (n port c : ℕ) (l : List ℕ) where
  pub no_cell : n ≤ c → none ≡ word_left n port c l
  unfolding word_left can_leave
  no_cell h = rw (le-ltb c n h)

  pub no_frame : is_frame c l ≡ false → none ≡ word_left n port c l
  unfolding word_left can_leave
  no_frame e = rw (e, and_false)

  module _ (left : ℕ) (below : c < n) (frame : is_frame c l ≡ true) (known : port < 5) (is : left ≡ turned (word_of l c) port) where
    module _ (less : left < word_of l c) where
      waits : bit (ports_of l c) port ≡ true
      waits = less_waits port (word_of l c) known (rw (← is) less)

      left_is : left ≡ word_of l c - 2 ^ port
      left_is = is ∙ turned_waits port (word_of l c) known waits

      pub copy_leaves : (left % 32 ≡ 0 → ⊥) → some left ≡ word_left n port c l
      unfolding word_left can_leave has_room
      copy_leaves other =
          let last : is_last port c l ≡ false = some_left port c l known waits (rw left_is at other) in
          rw (lt-ltb c n below, frame, waits, last, ← left_is)

      module _ (last : left % 32 ≡ 0) where
        alone : is_last port c l ≡ true
        alone = none_left port c l known waits (rw left_is at last)

        pub last_leaves : can_give_back n c l ≡ true → some left ≡ word_left n port c l
        unfolding word_left can_leave has_room
        last_leaves room = rw (lt-ltb c n below, frame, waits, alone, room, ← left_is)

        pub no_room : can_give_back n c l ≡ false → none ≡ word_left n port c l
        unfolding word_left can_leave has_room
        no_room room = rw (lt-ltb c n below, frame, waits, alone, room)

    pub no_copy : word_of l c ≤ left → none ≡ word_left n port c l
    unfolding word_left can_leave
    no_copy more = rw (lt-ltb c n below, frame, more_absent port (word_of l c) known (rw (← is) more))

  -- ---- what is written

  module _ (known : port < 5) (copy : can_leave n port c l ≡ true) where
    pub given : (word_of l c - 2 ^ port) % 32 ≡ 0 → (can_give_back n c l ≡ true) × (word_of l c - 2 ^ port ≡ 32 * size_of l c)
    given e =
        let f = leaves n port c l copy in
        (f.room (none_left port c l known f.waits e), omega (arith, left_size port c l known f.waits))

    pub departed_last : (word_of l c - 2 ^ port) % 32 ≡ 0 → given_back n c l ≡ departed n port c l
    unfolding departed
    departed_last e = rw (none_left port c l known (leaves n port c l copy).waits e)

    pub departed_other : ((word_of l c - 2 ^ port) % 32 ≡ 0 → ⊥) → set l (frame_word c) (word_of l c - 2 ^ port) ≡ departed n port c l
    unfolding departed
    departed_other e = rw (some_left port c l known (leaves n port c l copy).waits e)

-- ---- a frame's leaving alone changes no word of a queue

pub departed_queues : (n port c : ℕ) (l : List ℕ) → QueuesSame l (departed n port c l)
unfolding departed
departed_queues n port c l =
    on (is_last port c l)
    (λ e. rw e (given_queues n c l))
    (λ e. rw e (ports_queues c l (word_of l c - 2 ^ port)))
