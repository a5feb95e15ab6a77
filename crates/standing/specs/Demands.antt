-- Demand 3 on memory, as one record: what holds of the memories after every history. `proofs/Demands.antt` proves it.
-- Assumes nothing: these are definitions.
use Rattle.std.specs.Prelude.{ℕ, ◌+◌, ◌-◌, ◌%◌, ◌^◌, ◌≤◌, ◌<◌, ◌≡◌, ◌↔◌, true, List, ◌++◌, map, length}
use Rattle.std.proofs.lemmas.List.Edits.{sets}
use Rattle.layout.specs.Counting.{times}
use Rattle.rules.specs.Choice.{sift, Each}
use Rattle.rules.specs.Numbers.{last_counter, place_count}
use Rattle.rules.specs.Tags.{Bytes}
use Rattle.rules.specs.Cells.{cells}
use Rattle.rules.specs.PortTests.{passes}
use Rattle.rules.specs.Addresses.{Sound}
use Rattle.rules.specs.AddressTheorems.{entries}
use Rattle.rules.specs.Outcomes.{Frame}
use Rattle.rules.specs.Counters.{outcomes, sum_over}
use Rattle.rules.specs.ArrivalTheorems.{PastChoosing}
use Rattle.machine.specs.Waiting.{Waiting, size, cells_in_use, waits_at}
use Rattle.machine.specs.Events.{count, put_in, taken_out}
use Rattle.rules.specs.Requests.{FrameInRequest, TakeRequest, CounterRequest}
use Rattle.machine.specs.State.{Call, frame_in, take, counter, age}
use Rattle.machine.specs.FrameIn.{mask}
use Rattle.machine.specs.CallTheorems.{facts_now}
use Rattle.machine.specs.Demands.{Came, Left}
use Rattle.machine.specs.History.{fresh, after, events}
use Rattle.layout.specs.Answers.{done_with}
use Rattle.cells.specs.Free.{free_count, free_cells, frame_cells, ports_of}
use Rattle.queues.specs.Lists.{list_of}
use Rattle.layout.specs.Counters.{counter_at}
use Rattle.addresses.specs.Numbers.{table_of}
use Rattle.standing.specs.Links.{rows_of}
use Rattle.take_out.specs.Frames.{frame_at}
use Rattle.gufhrandi.specs.Memories.{Memories}
use Rattle.gufhrandi.specs.Runs.{run}

-- the frames of queue (p, q), the oldest first, as cell memory holds them
abbrev pub queue_frames : ℕ → Memories → ℕ → ℕ → List Frame
queue_frames n m p q = map (λ (c : ℕ). frame_at n m.cells m.links c q) (list_of n m.links p q)

-- The waiting frames, each known by the first cell of its chain, oldest first.
pub record WaitingFrames (n : ℕ) (m : Memories) (ws : List Waiting) : Type 0 where
  pub firsts : List ℕ
  pub held : ℕ → Waiting
  -- They are the machine's waiting frames, in order, and cell memory holds each: packet, header, operation.
  pub are : map held firsts ≡ ws
  pub stored : Each (λ (c : ℕ). frame_at n m.cells m.links c (held c).frame.queue ≡ (held c).frame) firsts
  -- The queues hold just these frames, in order: queue (p, q) those that wait there; and each of them is in a queue.
  pub in_queues : (p q : ℕ) → p < 5 → q < 4 → list_of n m.links p q ≡ sift (λ c. waits_at p q (held c)) firsts
  pub in_a_queue : Each (λ (c : ℕ). (p : ℕ) × (q : ℕ) × (p < 5) × (q < 4) × (waits_at p q (held c) ≡ true)) firsts
  pub ports_said : Each (λ (c : ℕ). ports_of m.links c ≡ mask (held c).ports) firsts
  -- One chain each, of as many cells as the frame takes.
  pub one_chain : Each (λ (c : ℕ). length (frame_cells n m.links c) ≡ size (held c).frame) firsts
  -- Each cell is free or belongs to exactly one waiting frame, and to it once.
  pub cells_once : (c : ℕ) → c < n
      → times c (free_cells n m.links) + times c (rows_of (frame_cells n m.links) firsts) ≡ 1

-- `n`: the cell count; `m`: the memories after the calls `cs` of the history under way
pub record MemoryHolds (n : ℕ) (m : Memories) (cs : List Call) : Type 0 where
  pub waiting : WaitingFrames n m (after (fresh n) cs).core.waiting
  -- The queues hold just the frames that the history queued there and neither sent nor drained, in order.
  pub queues : (p q : ℕ) → p < 5 → q < 4
      → put_in p q (events (fresh n) cs) ≡ taken_out p q (events (fresh n) cs) ++ queue_frames n m p q
  -- Each waiting frame is the frame of a frame-in of the history, with the bytes that it brought.
  pub came : (p q : ℕ) → p < 5 → q < 4 → Each (Came (fresh n) cs p) (queue_frames n m p q)
  -- Each frame that a take writes is one that came, and leaves by the sentence on leaving; the rest of the buffer keeps
  -- its bytes.
  pub left : (c : TakeRequest) (buffer : List ℕ) → c.buffer ≡ length buffer → (x y : ℕ)
      → (run m (take c) buffer).answer ≡ done_with x y → 1 ≤ x
      → (out : List ℕ) × ((run m (take c) buffer).buffer ≡ sets buffer 0 out) × Left n cs c.port x y out
  -- The free cells are all cells less those of the waiting frames.
  pub free : free_count m.links ≡ n - cells_in_use (after (fresh n) cs).core.waiting
  -- A frame that passed every other rule is dropped for room exactly if its cells outnumber the free ones.
  pub room : (c : FrameInRequest) (buffer : List ℕ) → c.port ≤ 4 → Bytes c.packet.bytes
      → PastChoosing (facts_now (after (fresh n) cs) c) → (r : ℕ) → r ≤ 4
      → (facts_now (after (fresh n) cs) c).test r ≡ passes
      → ((run m (frame_in c) buffer).answer ≡ done_with 13 0) ↔ (free_count m.links < cells (length c.packet.bytes))
  -- Counters in memory are the history's counts, the counter call answers them, and 0 is the sum of 1 to 14.
  pub counters : (p k : ℕ) → p < 5 → k ≤ last_counter
      → counter_at m.links p k ≡ count p k (events (fresh n) cs) % 2 ^ 32
  pub counter_answers : (c : CounterRequest) (buffer : List ℕ) → c.port ≤ 4 → c.number ≤ 20
      → (run m (counter c) buffer).answer ≡ done_with (count c.port c.number (events (fresh n) cs) % 2 ^ 32) 0
  pub counter_sum : (p : ℕ) → p < 5
      → counter_at m.links p 0 ≡ sum_over (λ k. counter_at m.links p k) outcomes % 2 ^ 32
  -- A key has at most one address entry, where the search finds it; the age call answers the number of entries that
  -- went.
  pub one_entry : Sound (table_of m.addresses)
  pub age_answers : (buffer : List ℕ) → (x : ℕ) × ((run m age buffer).answer ≡ done_with x 0)
      × (x + entries (table_of (run m age buffer).memories.addresses) place_count
      ≡ entries (table_of m.addresses) place_count)
