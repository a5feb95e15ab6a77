-- Demand 3 on memory, from what the machine's histories hold and from memory that stands for the machine. Assumes nothing.
use Prim.Native.Nat.{ℕ, ◌+◌, ◌-◌, ◌%◌, ◌^◌, ◌≤◌, ◌<◌}
use mathlib.Core.Path.{◌≡◌, refl, sym, ap, ap₂, ◌∙◌, subst}
use mathlib.Core.Bool.{Bool, true}
use native.Mathlib.Omega.{arith}
use mathlib.Core.List.{List, [], ◌∷◌, ◌++◌, map}
use lib.Dec.{eqb}
use lib.ListN.{length}
use lib.Seq.{sets}
use borrow.Author.Tests.{eqb-true, lt-ltb, le-ltb}
use Rattle.std.specs.Prelude.{if◌then◌else◌}
use Rattle.rules.specs.Choice.{sift, among, Each, nobody, also}
use Rattle.rules.specs.Numbers.{all_ports}
use Rattle.rules.specs.Addresses.{Table}
use Rattle.rules.specs.AddressTheorems.{entries}
use Rattle.rules.specs.Counters.{outcomes, sum_over}
use Rattle.rules.specs.Lines.{first}
use Rattle.rules.specs.Refusals.{refusal_number, frame_in_lines}
use Rattle.rules.specs.declared.refusals.Refusal.{Refusal}
use Rattle.rules.specs.declared.refusals.Refusal.TheVariants.{MemoryLength as memory_length, PortAboveFour as port_above_four, OutOfRange as out_of_range, GroupAddress as group_address, ShortBuffer as short_buffer, VlansInUse as vlans_in_use, VlanNotThere as vlan_not_there, PlacesInUse as places_in_use, AddressNotThere as address_not_there, MemoryDamaged as memory_damaged, BadRecord as bad_record}
use Rattle.rules.specs.Outcomes.{Outcome, drops, queues, outcome_of}
use Rattle.rules.proofs.Choice.{on, on_list, and_right, each_back, each_map, eqb_self}
use Rattle.rules.proofs.PortTests.{among_sifted, among_port}
use Rattle.machine.specs.Waiting.{Waiting, cells_in_use, waits_at, queue_at}
use Rattle.machine.specs.Events.{count, put_in, taken_out}
use Rattle.rules.specs.Requests.{FrameInRequest, TakeRequest, CounterRequest}
use Rattle.machine.specs.State.{State, free_cells, Call, frame_in, take, counter, age, Answer, refused, done}
use Rattle.machine.specs.FrameIn.{facts_at, mask, outcome_answer, enters, frame_in_step}
use Rattle.machine.specs.Demands.{Came, Left}
use Rattle.machine.specs.Machine.{lines_of, carry_out, unless_refused, perform, next}
use Rattle.machine.specs.History.{fresh, after, events}
use Rattle.machine.proofs.Demands as Machine
use Rattle.machine.proofs.Calls.{call_theorems}
use Rattle.layout.specs.declared.answers.Answer as Lent
use Rattle.layout.specs.Answers.{done_with}
use Rattle.cells.specs.Free.{free_count}
use Rattle.queues.specs.Lists.{list_of}
use Rattle.take_out.specs.Frames.{frame_at}
use Rattle.settings.proofs.CounterLaws.{counter_at}
use Rattle.addresses.specs.Numbers.{table_of}
use Rattle.standing.specs.LinkTraffic.{links_in, WaitsAs}
use Rattle.standing.specs.Traffic.{HoldsFrame, Traffic}
use Rattle.standing.proofs.Reading.{list_is_queue}
use Rattle.gufhrandi.specs.Memories.{Memories}
use Rattle.standing.specs.Stands.{Stands}
use Rattle.gufhrandi.specs.Runs.{run}
use Rattle.standing.specs.Demands.{queue_frames, WaitingFrames, MemoryHolds}
use Rattle.standing.specs.Follows.{Handed, numbers_of, handed_back}
use Rattle.standing.proofs.FrameInRoom.{free_is}
use Rattle.standing.proofs.FrameIn.{frame_in_follows}
use Rattle.standing.proofs.Take.{take_follows}
use Rattle.standing.proofs.AddressCalls.{age_follows}
use Rattle.standing.proofs.SettingCalls.{counter_follows}

-- ---- a list's frames are its queue's

module _ (n : ℕ) (cells links : List ℕ) (held : ℕ → Waiting) (p q : ℕ) where
  frame_here : (c : ℕ) → HoldsFrame n cells links c (held c) → waits_at p q (held c) ≡ true → frame_at n cells links c q ≡ (held c).frame
  unfolding waits_at
  frame_here c h e =
      let same : q ≡ (held c).frame.queue = eqb-true q (held c).frame.queue (and_right (among p (held c).ports) (eqb q (held c).frame.queue) e) in
      ap (frame_at n cells links c) same ∙ h.frame

  frames_here : (ids : List ℕ) → Each (λ (c : ℕ). HoldsFrame n cells links c (held c)) ids
      → map (λ (c : ℕ). frame_at n cells links c q) (sift (λ c. waits_at p q (held c)) ids) ≡ map (λ (c : ℕ). (held c).frame) (sift (λ c. waits_at p q (held c)) ids)
  unfolding sift
  frames_here [] h = refl
  frames_here (c ∷ ids) (also h t) =
      on (waits_at p q (held c))
      (λ e. rw e (ap₂ (◌∷◌) (frame_here c h e) (frames_here ids t)))
      (λ e. rw e (frames_here ids t))

pub queue_frames_law : (n : ℕ) (m : Memories) (ws : List Waiting) → Traffic n m.cells m.links ws → (p q : ℕ) → p < 5 → q < 4
    → queue_frames n m p q ≡ queue_at p q ws
unfolding links_in
queue_frames_law n m ws T p q hp hq =
    let L = T.links_stand in
    let list : list_of n m.links p q ≡ sift (λ c. waits_at p q (L.held c)) L.stands.ids = L.stands.lists p q hp hq in
    ap (map (λ (c : ℕ). frame_at n m.cells m.links c q)) list
    ∙ frames_here n m.cells m.links L.held p q L.stands.ids T.frames
    ∙ ap (map (λ (c : ℕ). (L.held c).frame)) (sym list)
    ∙ list_is_queue n (links_in n m.links L.held) ws L.stands p q hp hq

-- ---- no room

-- a frame-in's numbers tell its answer, for it hands back no bytes
outcome_by_numbers : (o : Outcome) (x y : ℕ) → numbers_of (outcome_answer o) ≡ done_with x y → outcome_answer o ≡ done x y []
unfolding numbers_of outcome_answer
outcome_by_numbers (drops r) x y e =
    ap₂ (λ (a b : ℕ). done a b []) (ap (λ (a : Lent.Answer). a.x) e) (ap (λ (a : Lent.Answer). a.y) e)
outcome_by_numbers (queues f ports) x y e =
    ap₂ (λ (a b : ℕ). done a b []) (ap (λ (a : Lent.Answer). a.x) e) (ap (λ (a : Lent.Answer). a.y) e)

frame_in_by_numbers : (s : State) (c : FrameInRequest) → c.port ≤ 4 → (x y : ℕ) → numbers_of (perform s (frame_in c)).answer ≡ done_with x y
    → (perform s (frame_in c)).answer ≡ done x y []
unfolding perform unless_refused lines_of frame_in_lines first carry_out frame_in_step enters
frame_in_by_numbers s c hp x y =
    rw (le-ltb 4 c.port hp) (outcome_by_numbers (outcome_of (facts_at s c.port c.packet)) x y)

-- ---- all of it

refusal_some : (r : Refusal) → refusal_number r ≡ 0 → ⊥
unfolding refusal_number
refusal_some memory_length e = omega arith
refusal_some port_above_four e = omega arith
refusal_some out_of_range e = omega arith
refusal_some group_address e = omega arith
refusal_some short_buffer e = omega arith
refusal_some vlans_in_use e = omega arith
refusal_some vlan_not_there e = omega arith
refusal_some places_in_use e = omega arith
refusal_some address_not_there e = omega arith
refusal_some memory_damaged e = omega arith
refusal_some bad_record e = omega arith

sum_each : (f g : ℕ → ℕ) (ns : List ℕ) → Each (λ (k : ℕ). f k ≡ g k) ns → sum_over f ns ≡ sum_over g ns
unfolding sum_over
sum_each f g [] nobody = refl
sum_each f g (k ∷ ks) (also h t) = omega (arith, h, sum_each f g ks t)

outcomes_low : {P : ℕ → Type 0} → ((k : ℕ) → k ≤ 20 → P k) → Each P outcomes
unfolding outcomes
outcomes_low h =
    also (h 1 (omega arith)) (also (h 2 (omega arith)) (also (h 3 (omega arith)) (also (h 4 (omega arith)) (also (h 5 (omega arith)) (also (h 6 (omega arith)) (also (h 7 (omega arith))
    (also (h 8 (omega arith)) (also (h 9 (omega arith)) (also (h 10 (omega arith)) (also (h 11 (omega arith)) (also (h 12 (omega arith)) (also (h 13 (omega arith)) (also (h 14 (omega arith)) nobody)))))))))))))

port_below : (p : ℕ) → among p all_ports ≡ true → p < 5
port_below p h = omega (arith, among_port p h)

module _ (n : ℕ) (m : Memories) (cs : List Call) (S : Stands m (after (fresh n) cs)) (same : (after (fresh n) cs).cell_count ≡ n) where
  abbrev s : State
  s = after (fresh n) cs

  traffic : Traffic n m.cells m.links s.core.waiting
  traffic = rw same at S.traffic

  in_queues : (p q : ℕ) → p < 5 → q < 4 → put_in p q (events (fresh n) cs) ≡ taken_out p q (events (fresh n) cs) ++ queue_frames n m p q
  in_queues p q hp hq =
      (Machine.holds n cs).queues p q
      ∙ ap (taken_out p q (events (fresh n) cs) ++◌) (sym (queue_frames_law n m s.core.waiting traffic p q hp hq))

  free : free_count m.links ≡ n - cells_in_use s.core.waiting
  unfolding free_cells
  free = free_is m s S ∙ ap (λ (c : ℕ). c - cells_in_use s.core.waiting) same

  -- ---- the waiting frames

  in_a_queue : (c : ℕ) (w : Waiting) → WaitsAs n m.links c w → (p : ℕ) × (q : ℕ) × (p < 5) × (q < 4) × (waits_at p q w ≡ true)
  unfolding waits_at mask among
  in_a_queue c w h =
      on_list w.ports
      (λ e. absurd (let z : 1 ≤ mask [] = rw e at h.somewhere in omega arith))
      (λ p ps e. (p, w.frame.queue, low p ps e, h.low, rw (e, eqb_self p, eqb_self w.frame.queue)))
    where
      low : (p : ℕ) (ps : List ℕ) → w.ports ≡ p ∷ ps → p < 5
      low p ps e = port_below p (among_sifted p (λ r. among r w.ports) all_ports (sym (ap (among p) h.ascending) ∙ (rw e (rw (eqb_self p))))).0

  waiting_frames : WaitingFrames n m s.core.waiting
  unfolding links_in
  waiting_frames =
      let L = traffic.links_stand in
      record {
        firsts = L.stands.ids;
        held = L.held;
        are = L.stands.holds;
        stored = each_map (λ c h. h.frame) traffic.frames;
        in_queues = L.stands.lists;
        in_a_queue = each_map (λ c h. in_a_queue c (L.held c) h) L.waits;
        ports_said = each_map (λ c h. h.said) L.waits;
        one_chain = each_map (λ c h. h.sized) L.stands.rows;
        cells_once = λ c h. L.stands.cells c ∙ ap (λ (b : Bool). if b then 1 else 0) (lt-ltb c n h);
      }

  -- ---- a take's numbers tell its answer

  done_by_numbers : (a : Answer) (x y : ℕ) → numbers_of a ≡ done_with x y → (out : List ℕ) × (a ≡ done x y out)
  unfolding numbers_of
  done_by_numbers (refused r) x y e = absurd (refusal_some r (ap (λ (b : Lent.Answer). b.refusal) e))
  done_by_numbers (done x' y' out) x y e =
      (out, ap₂ (λ (a b : ℕ). done a b out) (ap (λ (b : Lent.Answer). b.x) e) (ap (λ (b : Lent.Answer). b.y) e))

  left : (c : TakeRequest) (buffer : List ℕ) → c.buffer ≡ length buffer → (x y : ℕ) → (run m (take c) buffer).answer ≡ done_with x y → 1 ≤ x
      → (out : List ℕ) × ((run m (take c) buffer).buffer ≡ sets buffer 0 out) × Left n cs c.port x y out
  unfolding Handed handed_back
  left c buffer long x y e some_x =
      let f = take_follows c m s S buffer long in
      let a = done_by_numbers (perform s (take c)).answer x y (sym f.same_answer ∙ e) in
      (a.0, f.same_bytes ∙ ap (λ (b : Answer). sets buffer 0 (handed_back b)) a.1, (Machine.holds n cs).leaves c x y a.0 a.1 some_x)

  -- ---- counters and addresses

  counted : (p k : ℕ) → p < 5 → k ≤ 20 → counter_at m.links p k ≡ s.counters p k
  counted p k hp hk = S.counters p k hp hk

  counter_sum : (p : ℕ) → p < 5 → counter_at m.links p 0 ≡ sum_over (λ k. counter_at m.links p k) outcomes % 2 ^ 32
  counter_sum p hp =
      counted p 0 hp (omega arith)
      ∙ (Machine.holds n cs).offered p
      ∙ ap (λ (x : ℕ). x % 2 ^ 32) (sym (sum_each (λ k. counter_at m.links p k) (λ k. s.counters p k) outcomes (outcomes_low (λ k h. counted p k hp h))))

  counter_answers : (c : CounterRequest) (buffer : List ℕ) → c.port ≤ 4 → c.number ≤ 20
      → (run m (counter c) buffer).answer ≡ done_with (count c.port c.number (events (fresh n) cs) % 2 ^ 32) 0
  unfolding Handed numbers_of
  counter_answers c buffer low small = (counter_follows c m s S buffer tt).same_answer ∙ ap numbers_of ((Machine.holds n cs).counter_answers c low small)

  age_answers : (buffer : List ℕ) → (x : ℕ) × ((run m age buffer).answer ≡ done_with x 0)
      × (x + entries (table_of (run m age buffer).memories.addresses) 4112 ≡ entries (table_of m.addresses) 4112)
  unfolding Handed numbers_of next
  age_answers buffer =
      let f = age_follows m s S buffer tt in
      let a = call_theorems.others.age_answers s in
      (a.0, f.same_answer ∙ ap numbers_of a.1, ap (λ (t : Table). a.0 + entries t 4112) f.stands_kept.addresses.says ∙ a.2 ∙ ap (λ (t : Table). entries t 4112) (sym S.addresses.says))

  pub memory_holds : MemoryHolds n m cs
  unfolding Handed numbers_of
  memory_holds =
      record {
        waiting = waiting_frames;
        queues = in_queues;
        came = λ p q hp hq.
            each_back (taken_out p q (events (fresh n) cs)) (queue_frames n m p q)
            (subst (Each (Came (fresh n) cs p)) (in_queues p q hp hq) ((Machine.holds n cs).came p q));
        left = left;
        free = free;
        room = λ c buffer hp each past r hr passes.
            let answer = (frame_in_follows c m s S buffer each).same_answer in
            let exactly = (Machine.holds n cs).room c hp past r hr passes in (
              λ e. rw (sym free) at (exactly.0 (frame_in_by_numbers s c hp 13 0 (sym answer ∙ e))),
              λ h. answer ∙ ap numbers_of (exactly.1 (rw free at h)),
            );
        counters = λ p k hp hk. S.counters p k hp hk ∙ (Machine.holds n cs).counters p k;
        counter_answers = counter_answers;
        counter_sum = counter_sum;
        one_entry = rw S.addresses.says (Machine.holds n cs).addresses;
        age_answers = age_answers;
      }
