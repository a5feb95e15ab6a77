-- Each frame that stands in a port's queue can leave that port: no test before a take or a drain finds damage. Assumes nothing.
use Prim.Native.Nat.{ℕ, zero, suc, ◌+◌, ◌*◌, ◌/◌, ◌%◌, ◌^◌, ◌≤◌, ◌<◌}
use mathlib.Core.Path.{◌≡◌, sym, ap, ◌∙◌}
use mathlib.Core.Bool.{Bool, true, false}
use mathlib.Core.List.{List, [], ◌∷◌}
use native.Mathlib.Omega.{arith}
use lib.Dec.{eqb}
use borrow.Author.Tests.{lt-ltb, eq-eqb}
use Rattle.rules.specs.Choice.{sift, among, Each, nobody, also}
use Rattle.rules.specs.Numbers.{all_ports}
use Rattle.rules.specs.Arguments.{bit}
use Rattle.rules.proofs.Choice.{on, and_left, each_map, each_zip}
use Rattle.machine.specs.Waiting.{Waiting, size, waits_at}
use Rattle.machine.specs.FrameIn.{mask}
use Rattle.cells.specs.Free.{size_of, ports_of, is_frame}
use Rattle.cells.proofs.Room.{frame_is, give_back_can}
use Rattle.cells.proofs.Paths.{length_follow}
use Rattle.queues.specs.Lists.{list_of}
use Rattle.standing.specs.Links.{RowOk}
use Rattle.standing.specs.LinkTraffic.{links_in, WaitsAs, LinkTraffic}
use Rattle.departure.specs.Leaving.{is_last, has_room, can_leave}

-- ---- the bit of a port in the mask of ascending ports

abbrev weight : Bool → ℕ
weight true = 1
weight false = 0

weight_few : (b : Bool) → weight b ≤ 1
weight_few true = omega arith
weight_few false = omega arith

mask_step : (t : ℕ → Bool) (x : ℕ) (xs : List ℕ) → mask (sift t (x ∷ xs)) ≡ weight (t x) * 2 ^ x + mask (sift t xs)
unfolding mask sift
mask_step t x xs = on (t x) (λ e. rw e (omega arith)) (λ e. rw e (omega arith))

mask_weights : (t : ℕ → Bool) → mask (sift t all_ports) ≡ weight (t 0) + 2 * weight (t 1) + 4 * weight (t 2) + 8 * weight (t 3) + 16 * weight (t 4)
unfolding mask sift
mask_weights t =
    omega (
      arith,
      mask_step t 0 (1 ∷ 2 ∷ 3 ∷ 4 ∷ []),
      mask_step t 1 (2 ∷ 3 ∷ 4 ∷ []),
      mask_step t 2 (3 ∷ 4 ∷ []),
      mask_step t 3 (4 ∷ []),
      mask_step t 4 [],
    )

module _ (t : ℕ → Bool) (m : ℕ) (is : m ≡ mask (sift t all_ports)) where
  weights : m ≡ weight (t 0) + 2 * weight (t 1) + 4 * weight (t 2) + 8 * weight (t 3) + 16 * weight (t 4)
  weights = is ∙ mask_weights t

  mask_bit : (p : ℕ) → p < 5 → m / 2 ^ p % 2 ≡ weight (t p)
  mask_bit zero h = omega (arith, weights, weight_few (t 0))
  mask_bit (suc zero) h = omega (arith, weights, weight_few (t 0), weight_few (t 1))
  mask_bit (suc (suc zero)) h = omega (arith, weights, weight_few (t 0), weight_few (t 1), weight_few (t 2))
  mask_bit (suc (suc (suc zero))) h = omega (arith, weights, weight_few (t 0), weight_few (t 1), weight_few (t 2), weight_few (t 3))
  mask_bit (suc (suc (suc (suc zero)))) h =
      omega (arith, weights, weight_few (t 0), weight_few (t 1), weight_few (t 2), weight_few (t 3), weight_few (t 4))
  mask_bit (suc (suc (suc (suc (suc p))))) h = absurd (omega arith)

ascending_bit : (p : ℕ) (ps : List ℕ) → p < 5 → ps ≡ sift (λ r. among r ps) all_ports → among p ps ≡ true → bit (mask ps) p ≡ true
unfolding bit
ascending_bit p ps hp asc h =
    eq-eqb (mask ps / 2 ^ p % 2) 1 (mask_bit (λ r. among r ps) (mask ps) (ap mask asc) p hp ∙ ap weight h)

-- ---- the members of a queue

-- a member of a part of a list passes its test, and has what each member has
sift_each : {P : ℕ → Type 0} (t : ℕ → Bool) {xs : List ℕ} → Each P xs → Each (λ (x : ℕ). P x × (t x ≡ true)) (sift t xs)
unfolding sift
sift_each t nobody = nobody
sift_each t (also {a = x} h hs) = on (t x) (λ e. rw e (also (h, e) (sift_each t hs))) (λ e. rw e (sift_each t hs))

module _ (n : ℕ) (links : List ℕ) (ws : List Waiting) (T : LinkTraffic n links ws) (p : ℕ) (hp : p < 5) where
  leaves_one : (c : ℕ) → WaitsAs n links c (T.held c) → RowOk (links_in n links T.held) c → among p (T.held c).ports ≡ true
      → can_leave n p c links ≡ true
  unfolding can_leave has_room links_in size
  leaves_one c W R h =
      let waits : 1 ≤ ports_of links c = rw W.said W.somewhere in
      let sized : size_of links c ≡ size (T.held c).frame = sym (length_follow n links (size_of links c) c) ∙ R.sized in
      let is_frame_law : is_frame c links ≡ true =
      frame_is n links T.sound c (omega (arith, sized)) (omega (arith, sized, W.few)) in
      rw (lt-ltb c n W.below, is_frame_law, ap (λ (m : ℕ). bit m p) W.said ∙ ascending_bit p (T.held c).ports hp W.ascending h)
      (on (is_last p c links) (λ e. rw (e, give_back_can n links T.sound c W.below waits)) (λ e. rw e))

  module _ (q : ℕ) (hq : q < 4) where
    -- each member of queue (p, q)
    pub can_leave_law : Each (λ (c : ℕ). can_leave n p c links ≡ true) (list_of n links p q)
    unfolding links_in waits_at
    can_leave_law =
        rw (T.stands.lists p q hp hq)
        (each_map
        (λ c k. leaves_one c k.0.0 k.0.1 (and_left (among p (T.held c).ports) (eqb q (T.held c).frame.queue) k.1))
        (sift_each (λ i. waits_at p q (T.held i)) (each_zip T.waits T.stands.rows)))
