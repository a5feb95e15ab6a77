-- The frame that take serves from the queues is the one that the machine serves. Assumes nothing.
use Prim.Native.Nat.{ℕ, zero, suc, ◌≤◌, ◌<◌}
use mathlib.Core.Path.{◌≡◌, refl, sym, ap, ◌∙◌, subst}
use mathlib.Core.Bool.{true}
use mathlib.Core.List.{List, [], ◌∷◌, map}
use Rattle.std.specs.Prelude.{None as none, Some as some}
use native.Mathlib.Omega.{arith}
use lib.Dec.{eqb}
use borrow.Author.Tests.{lt-ltb, eqb-true, eqb-false}
use Rattle.rules.specs.Choice.{is_empty}
use Rattle.rules.proofs.Choice.{on, on_list}
use Rattle.machine.specs.Waiting.{Waiting, waits_at, queue_at, oldest}
use Rattle.machine.specs.State.{State}
use Rattle.machine.specs.TakeOut.{first_waiting, served_queue, oldest_of}
use Rattle.machine.specs.TakeOut as Machine
use Rattle.machine.proofs.Waits.{own_queue}
use Rattle.queues.specs.Lists.{waiting_of, list_of, waiting_in_range}
use Rattle.queues.specs.Queued as Lists
use Rattle.queues.specs.Queued.{HighestIs}
use Rattle.queues.proofs.Answers.{highest_lists, queue_highest, nothing_highest}
use Rattle.take_out.specs.Serving.{nobody, served_of, served}
use Rattle.take_out.specs.Serving.{frame as next_frame}
use Rattle.take_out.specs.Frames.{frame_at}
use Rattle.standing.specs.LinkTraffic.{links_in, LinkTraffic}
use Rattle.standing.specs.Traffic.{Traffic}
use Rattle.standing.proofs.Departures.{sift_head, heads}
use Rattle.standing.proofs.Reading.{list_is_queue}
use Rattle.standing.proofs.Oldest.{oldest_is, oldest_below}

-- ---- the queues in the order in which they are served

abbrev below : ℕ → List ℕ
below zero = []
below (suc q) = q ∷ below q

-- what holds below a number and at it
up_to : (P : ℕ → Type 0) (k : ℕ) → ((q : ℕ) → q < k → P q) → P k → (q : ℕ) → q < suc k → P q
up_to P k less here q h = on (eqb q k) (λ e. subst P (sym (eqb-true q k e)) here) (λ e. less q (omega (arith, eqb-false q k e)))

module _ (n : ℕ) (links : List ℕ) (ws : List Waiting) (T : LinkTraffic n links ws) (p : ℕ) (hp : p < 5) where
  abbrev lists : ℕ → List ℕ
  lists = list_of n links p

  -- a list is its queue
  queue_is : (q : ℕ) → q < 4 → (is : List ℕ) → lists q ≡ is → queue_at p q ws ≡ map (λ (i : ℕ). (T.held i).frame) is
  unfolding links_in
  queue_is q hq is e =
      sym (list_is_queue n (links_in n links T.held) ws T.stands p q hp hq) ∙ ap (map (λ (i : ℕ). (T.held i).frame)) e

  -- none of the first k has a frame, or there is a highest that has one
  on_first : {C : Type 0} (k : ℕ) → k ≤ 4
      → (((q : ℕ) → q < k → lists q ≡ []) → first_waiting (below k) p ws ≡ none → C)
      → ((q i : ℕ) (tail : List ℕ) → q < k → lists q ≡ i ∷ tail → ((s : ℕ) → s < k → q < s → lists s ≡ []) → first_waiting (below k) p ws ≡ some q → C)
      → C
  unfolding first_waiting is_empty
  on_first zero h nay yea = nay (λ q k. absurd (omega arith)) refl
  on_first (suc k) h nay yea =
      on_list (lists k)
      (λ e.
      let queue = queue_is k (omega arith) [] e in
      on_first k (omega arith)
      (λ a b. nay (up_to (λ (q : ℕ). lists q ≡ []) k a e) (rw queue b))
      (λ q i tail hq head above b. yea q i tail (omega arith) head
      (up_to (λ (s : ℕ). q < s → lists s ≡ []) k above (λ z. e)) (rw queue b)))
      (λ i tail e. yea k i tail (omega arith) e (λ s a b. absurd (omega arith)) (rw (queue_is k (omega arith) (i ∷ tail) e)))

  -- ---- what take serves

  module _ (some_cells : 1 ≤ n) where
    word_good : waiting_in_range links p ≡ true
    unfolding waiting_in_range
    word_good = lt-ltb (waiting_of links p) 16 (T.waiting_words p hp)

    serves_nobody : ((q : ℕ) → q < 4 → lists q ≡ []) → served n p links ≡ nobody
    unfolding served served_of
    serves_nobody none_waits = rw (word_good, highest_lists n links p some_cells ∙ nothing_highest lists none_waits)

    serves_head : (q i : ℕ) (tail : List ℕ) → q < 4 → lists q ≡ i ∷ tail → ((s : ℕ) → s < 4 → q < s → lists s ≡ []) → served n p links ≡ next_frame q i
    unfolding served served_of Lists.has_frames
    serves_head q i tail hq head above =
        let highest : HighestIs lists q = record { below = hq; waits = ap Lists.has_frames head; none_above = λ s a b. above s b a } in
        rw (
          word_good,
          highest_lists n links p some_cells ∙ queue_highest lists q highest,
          oldest_is n links ws T p q hp hq i tail head,
          lt-ltb i n (oldest_below n links ws T p q hp hq i tail head),
        )

-- ---- nobody is served, or the head of a queue

module _ (cells links : List ℕ) (s : State) (T : Traffic s.cell_count cells links s.core.waiting) (some_cells : 1 ≤ s.cell_count) (p : ℕ) (hp : p < 5) where
  abbrev n : ℕ
  n = s.cell_count

  abbrev L : LinkTraffic n links s.core.waiting
  L = T.links_stand

  pub on_served : {C : Type 0}
      → (served n p links ≡ nobody → Machine.served s p ≡ none → C)
      → ((q i : ℕ) (tail : List ℕ) → q < 4 → list_of n links p q ≡ i ∷ tail
      → served n p links ≡ next_frame q i → Machine.served s p ≡ some (frame_at n cells links i q) → C)
      → C
  unfolding Machine.served served_queue oldest_of oldest
  on_served nay yea =
      on_first n links s.core.waiting L p hp 4 (omega arith)
      (λ a b. nay (serves_nobody n links s.core.waiting L p hp some_cells a) (rw b))
      (λ q i tail hq head above b.
      let here = sift_head (λ j. waits_at p q (L.held j)) i tail T.frames (heads n links s.core.waiting L p q i hp hq tail head) in
      let own : q ≡ (L.held i).frame.queue = own_queue p q (L.held i) here.1 in
      let frame : frame_at n cells links i q ≡ (L.held i).frame = ap (frame_at n cells links i) own ∙ here.0.frame in
      yea q i tail hq head (serves_head n links s.core.waiting L p hp some_cells q i tail hq head above)
      (rw (b, queue_is n links s.core.waiting L p hp q hq (i ∷ tail) head) (ap some (sym frame))))
