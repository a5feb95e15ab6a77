-- How link memory stands for the waiting traffic: the free list, the chains and the queues are read as links. A frame's
-- queue is the one in whose lists it stands, so `held` is told by the lists and not by a word.
-- Assumes nothing: these are definitions.
use Rattle.std.specs.Prelude.{ℕ, ◌≤◌, ◌<◌, ◌≡◌, List, length}
use Rattle.rules.specs.Choice.{sift, among, Each}
use Rattle.rules.specs.Numbers.{all_ports}
use Rattle.rules.specs.Cells.{cells, longest}
use Rattle.machine.specs.Waiting.{Waiting, size}
use Rattle.machine.specs.FrameIn.{mask}
use Rattle.layout.specs.Places.{link_words}
use Rattle.cells.specs.Free.{ports_of, free_cells, frame_cells}
use Rattle.cells.specs.Sound.{Sound}
use Rattle.queues.specs.Lists.{list_of}
use Rattle.queues.specs.Queued.{AllQueued, WaitingInRange}
use Rattle.standing.specs.Links.{Links, Stands}

unfoldable pub links_in : ℕ → List ℕ → (ℕ → Waiting) → Links
links_in n links held =
    record { free = free_cells n links; row = frame_cells n links; held = held; list = list_of n links }

-- the frame whose first cell is c waits at these ports, which its frame word says
pub record WaitsAs (n : ℕ) (links : List ℕ) (c : ℕ) (w : Waiting) : Type 0 where
  pub below : c < n
  pub somewhere : 1 ≤ mask w.ports
  pub ascending : w.ports ≡ sift (λ p. among p w.ports) all_ports
  pub said : ports_of links c ≡ mask w.ports
  pub few : size w.frame ≤ cells longest
  -- a frame of a queue above 3 would stand in no list
  pub low : w.frame.queue < 4

pub record LinkTraffic (n : ℕ) (links : List ℕ) (ws : List Waiting) : Type 0 where
  pub held : ℕ → Waiting
  pub stands : Stands n (links_in n links held) ws
  pub waits : Each (λ (c : ℕ). WaitsAs n links c (held c)) stands.ids
  pub long : link_words n ≤ length links
  pub sound : Sound n links
  pub queues : AllQueued n links
  pub waiting_words : WaitingInRange links
