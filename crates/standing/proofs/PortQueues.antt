-- What waits at a port waits in its four queues, and memory's lists are as long. Assumes nothing.
use Prim.Native.Nat.{ℕ, zero, suc, ◌+◌, ◌<◌}
use mathlib.Core.Path.{◌≡◌, refl, sym, ap, ◌∙◌}
use mathlib.Core.Bool.{Bool, true, false}
use mathlib.Core.List.{List, [], ◌∷◌, map}
use native.Mathlib.Omega.{arith}
use lib.Dec.{eqb}
use lib.ListN.{length, length-map}
use Rattle.rules.specs.Choice.{among, Each, nobody, also}
use Rattle.rules.specs.Outcomes.{Frame}
use Rattle.rules.proofs.Choice.{on, on_list, each_map}
use Rattle.machine.specs.Waiting.{Waiting, port_at, waits_at, queue_at}
use Rattle.machine.specs.FrameIn.{mask}
use Rattle.queues.specs.Lists.{list_of}
use Rattle.standing.specs.TrafficTheorems.{Somewhere}
use Rattle.standing.specs.LinkTraffic.{links_in, WaitsAs, LinkTraffic}
use Rattle.standing.proofs.Reading.{list_is_queue}

-- ---- the four queues of a port

-- the frame's queue is one of the four
abbrev pub InQueue : Waiting → Type 0
InQueue w = w.frame.queue < 4

abbrev one : Bool → ℕ
one true = 1
one false = 0

one_queue : (q : ℕ) → q < 4 → one (eqb 3 q) + one (eqb 2 q) + one (eqb 1 q) + one (eqb 0 q) ≡ 1
one_queue zero h = refl
one_queue (suc zero) h = refl
one_queue (suc (suc zero)) h = refl
one_queue (suc (suc (suc zero))) h = refl
one_queue (suc (suc (suc (suc q)))) h = absurd (omega arith)

queue_step : (p q : ℕ) (w : Waiting) (ws : List Waiting) → length (queue_at p q (w ∷ ws)) ≡ one (waits_at p q w) + length (queue_at p q ws)
unfolding queue_at
queue_step p q w ws = on (waits_at p q w) (λ e. rw e (omega arith)) (λ e. rw e (omega arith))

queues_step : (p : ℕ) (w : Waiting) → InQueue w
    → one (waits_at p 3 w) + one (waits_at p 2 w) + one (waits_at p 1 w) + one (waits_at p 0 w) ≡ one (among p w.ports)
unfolding waits_at
queues_step p w h = on (among p w.ports) (λ e. rw e (one_queue w.frame.queue h)) (λ e. rw e)

port_step : (p : ℕ) (w : Waiting) (ws : List Waiting) → length (port_at p (w ∷ ws)) ≡ one (among p w.ports) + length (port_at p ws)
unfolding port_at
port_step p w ws = on (among p w.ports) (λ e. rw e (omega arith)) (λ e. rw e (omega arith))

pub port_count : (p : ℕ) (ws : List Waiting) → Each InQueue ws
    → length (port_at p ws) ≡ length (queue_at p 3 ws) + length (queue_at p 2 ws) + length (queue_at p 1 ws) + length (queue_at p 0 ws)
unfolding port_at queue_at
port_count p [] nobody = refl
port_count p (w ∷ ws) (also h hs) =
    omega (
      arith,
      port_step p w ws,
      queues_step p w h,
      queue_step p 3 w ws,
      queue_step p 2 w ws,
      queue_step p 1 w ws,
      queue_step p 0 w ws,
      port_count p ws hs,
    )

-- ---- what memory says of the waiting frames

each_held : {P : Waiting → Type 0} (held : ℕ → Waiting) {ids : List ℕ} → Each (λ (c : ℕ). P (held c)) ids → Each P (map held ids)
each_held held nobody = nobody
each_held held (also h hs) = also h (each_held held hs)

module _ (n : ℕ) (links : List ℕ) (ws : List Waiting) (T : LinkTraffic n links ws) where
  pub all_in_queues : Each InQueue ws
  unfolding links_in
  all_in_queues = rw (← T.stands.holds) (each_held T.held (each_map (λ c h. h.low) T.waits))

  pub all_somewhere : Each Somewhere ws
  unfolding links_in mask
  all_somewhere = rw (← T.stands.holds) (each_held T.held (each_map (λ c h. at_one c h) T.waits))
    where
      at_one : (c : ℕ) → WaitsAs n links c (T.held c) → Somewhere (T.held c)
      at_one c h =
          on_list (T.held c).ports
          (λ e. absurd (omega (arith, h.somewhere, ap mask e)))
          (λ m ms e. (m, ms, e))

  -- a list has as many frames as its queue
  pub list_length : (p q : ℕ) → p < 5 → q < 4 → length (list_of n links p q) ≡ length (queue_at p q ws)
  unfolding links_in
  list_length p q hp hq =
      let frame_at : ℕ → Frame = λ i. (T.held i).frame in
      sym (length-map (list_of n links p q) frame_at)
      ∙ ap length (list_is_queue n (links_in n links T.held) ws T.stands p q hp hq)
