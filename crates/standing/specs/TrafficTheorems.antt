-- Links that stand for the waiting traffic go on standing for it as frames come and go. `proofs/Traffic.antt` proves
-- it.
-- Assumes nothing: these are definitions.
use Rattle.std.specs.Prelude.{ℕ, suc, ◌+◌, ◌<◌, ◌≡◌, List, [], ◌∷◌, ◌++◌, map, length}
use Rattle.layout.specs.Counting.{times}
use Rattle.rules.specs.Choice.{Each}
use Rattle.rules.specs.Outcomes.{Frame}
use Rattle.machine.specs.Waiting.{Waiting, size, port_at, queue_at, send, drain, join}
use Rattle.standing.specs.Links.{Links, rows_of, Stands, link_in, link_out}

-- a frame waits at some port
abbrev pub Somewhere : Waiting → Type 0
Somewhere w = (m : ℕ) × (ms : List ℕ) × (w.ports ≡ m ∷ ms)

pub record TrafficTheorems : Type 0 where
  -- each cell below n is free or in the row of exactly one waiting frame, and none is there twice
  pub cells_once : (n : ℕ) (l : Links) (ws : List Waiting) (S : Stands n l ws) (c : ℕ) → c < n
      → times c l.free + times c (rows_of l.row S.ids) ≡ 1
  -- the frames of a list are those of its queue, in order
  pub list_is_queue : (n : ℕ) (l : Links) (ws : List Waiting) → Stands n l ws → (p q : ℕ) → p < 5 → q < 4
      → map (λ (i : ℕ). (l.held i).frame) (l.list p q) ≡ queue_at p q ws
  -- an arrival on the first free cells
  pub arrival_keeps : (n : ℕ) (l : Links) (ws : List Waiting) → Stands n l ws
      → (f : Frame) (p : ℕ) (ps : List ℕ) (rest : List ℕ) (i : ℕ) (more : List ℕ)
      → l.free ≡ (i ∷ more) ++ rest → suc (length more) ≡ size f
      → Stands n (link_in f (p ∷ ps) rest i more l) (join f (p ∷ ps) ws)
  -- the oldest frame of a queue leaves its port; its cells are free when no port is left to it
  pub departure_keeps : (n : ℕ) (l : Links) (ws : List Waiting) → Stands n l ws → (p q i : ℕ) (tail : List ℕ) → p < 5
      → q < 4
      → l.list p q ≡ i ∷ tail → Stands n (link_out p q i tail l) (send p q ws)
  -- a drain is departures until nothing waits at the port
  pub drain_after_send : (p q : ℕ) (ws : List Waiting) → drain p (send p q ws) ≡ drain p ws
  pub drain_empty : (p : ℕ) (ws : List Waiting) → Each Somewhere ws → port_at p ws ≡ [] → drain p ws ≡ ws
