-- A plan carried out: what it makes of each memory. Link memory is said in this order: cells, queues with the
-- counters of queued copies, the other counters; the code may count first, since counters stand aside
-- (`proofs/Aside.antt`).
-- Assumes nothing: these are definitions.
use Rattle.std.specs.Prelude.{ℕ, ◌<◌, ◌≤◌, ◌≡◌, Bool, true, false, not, List, [], ◌∷◌, ◌++◌, length, if◌then◌else◌}
use Rattle.std.specs.Prelude.{Option, None as none, Some as some, Ok}
use Rattle.std.specs.Borrow.{MutBor}
use Rattle.std.specs.Fn.{Shared}
use Rattle.rules.specs.Cells.{cells, longest}
use Rattle.rules.specs.Reasons.{reason_number}
use Rattle.rules.specs.Counters.{counter_number}
use Rattle.rules.specs.declared.counters.Counter.{Counter}
use Rattle.rules.specs.declared.counters.Counter.TheVariants.{Offered as offered, Reason as reason, Accepted as accepted, NotLearned as not_learned, Queued as queued, StateOut as state_out, QueueOut as queue_out}
use Rattle.layout.specs.declared.answers.Answer.{Answer}
use Rattle.layout.specs.declared.ports.Port.{Port}
use Rattle.layout.specs.Answers.{done_with}
use Rattle.cells.specs.Chains.{follow}
use Rattle.cells.specs.Bytes.{store_cells}
use Rattle.cells.specs.Stored.{stored_bytes}
use Rattle.cells.specs.Free.{first_free, room_for, taken}
use Rattle.queues.specs.Lists.{pushed}
use Rattle.addresses.specs.Writes.{marked_by, learned_by}
use Rattle.arrival.specs.declared.plan.Lesson.{Lesson}
use Rattle.arrival.specs.declared.plan.Masks.{Masks}
use Rattle.arrival.specs.declared.plan.Offer.{Offer}
use Rattle.arrival.specs.declared.plan.Plan.{Plan}
use Rattle.arrival.specs.declared.plan.Plan.TheVariants.{Drop, Queue}
use Rattle.arrival.specs.Candidates.{ports_in}
use Rattle.layout.specs.Bits.{less}
use Rattle.layout.specs.Counters.{bumped}

-- ---- something done at some ports

-- at each port of a list, in its order
unfoldable pub each_port : {A : Type 0} → (ℕ → A → A) → List ℕ → A → A
each_port f [] m = m
each_port f (p ∷ ps) m = each_port f ps (f p m)

-- a closure over link memory and a port
module _ {F : Type 0} (g : Shared F (MutBor (List ℕ) × (Port × Unit {0})) (Unit {0} × (MutBor (List ℕ) × Unit {0}))) (act : F) where
  -- it may be called on a memory of this length, at any port
  pub record MayAct (long : ℕ) : Type 0 where
    pub at : (p : MutBor (List ℕ)) (port : Port) → length p.now ≡ long → g.pre act (p, (port, tt))

  -- it makes of link memory what f makes of it
  pub record ActsAs (f : ℕ → List ℕ → List ℕ) : Type 0 where
    pub is : (p : MutBor (List ℕ)) (port : Port) (q : MutBor (List ℕ)) → g.post act (p, (port, tt)) (tt, (q, tt)) → q.now ≡ f port.number p.now

  -- whatever that f is, it was done at each port of a mask
  pub record ActsAtEach (mask : ℕ) (old new : List ℕ) : Type 0 where
    pub is : (f : ℕ → List ℕ → List ℕ) → ActsAs f → new ≡ each_port f (ports_in mask) old

-- ---- counters

abbrev pub bump_at : ℕ → ℕ → List ℕ → List ℕ
bump_at number port links = bumped port number links

-- the candidates that fall out: by the state, then by the queue switch
unfoldable pub counted_falls : Masks → List ℕ → List ℕ
counted_falls m links =
    each_port (bump_at (counter_number queue_out)) (ports_in (less m.passing m.left))
    (each_port (bump_at (counter_number state_out)) (ports_in (less m.candidates m.passing)) links)

unfoldable pub count_if : Bool → ℕ → List ℕ → List ℕ
count_if unlearned port links = if unlearned then bumped port (counter_number not_learned) links else links

-- with the counter of the outcome: "accepted", or the reason
unfoldable pub counted_with : Counter → ℕ → Bool → Masks → List ℕ → List ℕ
counted_with outcome port unlearned masks links =
    bumped port (counter_number outcome) (counted_falls masks (count_if unlearned port (bumped port (counter_number offered) links)))

-- ---- cells and queues

-- a frame's first cell into the queue of a port
abbrev pub push_at : ℕ → ℕ → ℕ → ℕ → List ℕ → List ℕ
push_at n queue first port links = pushed n port queue first links

-- and counted there
abbrev pub enqueue_at : ℕ → ℕ → ℕ → ℕ → List ℕ → List ℕ
enqueue_at n queue first port links = bumped port (counter_number queued) (push_at n queue first port links)

unfoldable pub joined_at : ℕ → Offer → List ℕ → List ℕ → List ℕ
joined_at n offer frame links =
    each_port (enqueue_at n offer.queue.number (first_free links)) (ports_in offer.masks.left)
    (taken n (cells (length frame)) offer.masks.left links)

unfoldable pub stored_at : ℕ → Offer → List ℕ → List ℕ → List ℕ → List ℕ
stored_at n offer memory links frame =
    store_cells memory (follow n links (cells (length frame)) (first_free links)) (stored_bytes offer.header ++ frame)

abbrev pub join_at : ℕ → Offer → List ℕ → List ℕ → List ℕ → List ℕ × List ℕ
join_at n offer frame memory links = (stored_at n offer memory links frame, joined_at n offer frame links)

-- ---- addresses

-- whether "not learned" counts, and the memory
unfoldable pub learned_lesson : Bool × List ℕ → Bool × List ℕ
learned_lesson (placed, memory) = (not placed, memory)

unfoldable pub lesson_by : Option Lesson → ℕ → List ℕ → Bool × List ℕ
lesson_by none port addresses = (false, addresses)
lesson_by (some lesson) port addresses =
    learned_lesson (learned_by lesson.source lesson.key.number port (marked_by lesson.destination addresses))

-- ---- all of it

unfoldable pub carried_out : ℕ → Plan → ℕ → List ℕ → List ℕ → List ℕ → List ℕ → Answer × (List ℕ × List ℕ × List ℕ)
carried_out n (Drop lesson masks why) port frame memory links addresses = (
  done_with (reason_number why) 0,
  (
    memory,
    counted_with (reason why) port (lesson_by lesson port addresses).0 masks links,
    (lesson_by lesson port addresses).1,
  ),
)
carried_out n (Queue lesson offer) port frame memory links addresses = (
  done_with 0 offer.masks.left,
  (
    stored_at n offer memory links frame,
    counted_with accepted port (lesson_by lesson port addresses).0 offer.masks (joined_at n offer frame links),
    (lesson_by lesson port addresses).1,
  ),
)

-- what a frame that is queued needs of link memory before the first write
pub record Room (n : ℕ) (links frame : List ℕ) (offer : Offer) : Type 0 where
  pub long : length frame ≤ longest
  pub left : offer.masks.left < 32
  pub enough : room_for n (cells (length frame)) links ≡ Ok true

abbrev pub Ready : ℕ → List ℕ → List ℕ → Plan → Type 0
Ready n links frame (Drop lesson masks why) = Unit {0}
Ready n links frame (Queue lesson offer) = Room n links frame offer
