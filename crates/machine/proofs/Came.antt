-- Whatever a history queues, sends or drains, a frame-in of that history brought, and it is the frame of its facts of that moment.
-- Assumes nothing.
use Prim.Native.Nat.{ℕ, ◌≤◌}
use mathlib.Core.Path.{◌≡◌, refl, sym, ap, ◌∙◌}
use mathlib.Core.Bool.{true, ◌&&◌}
use mathlib.Core.List.{List, [], ◌∷◌}
use Rattle.std.specs.Prelude.{Option, None as none, Some as some}
use native.Mathlib.Omega.{arith}
use lib.Dec.{eqb}
use lib.ListN.{length}
use borrow.Author.Tests.{ltb-false}
use Rattle.rules.specs.Choice.{sift, among, Each, nobody, also}
use Rattle.rules.specs.Lines.{first}
use Rattle.rules.specs.Tags.{Bytes, tags_of}
use Rattle.rules.specs.declared.reasons.Reason.{Reason}
use Rattle.rules.specs.PortTests.{ports_left}
use Rattle.rules.specs.Facts.{Packet, Facts, facts_of}
use Rattle.rules.specs.ReasonTable.{reading, part_number, reason_table, lines_in, rows_of, reason_for}
use Rattle.rules.specs.Outcomes.{Frame, frame_of, outcome_by, outcome_of, is_not_learned}
use Rattle.rules.specs.Operations.{retagged}
use Rattle.rules.proofs.Choice.{on, on_option, and_left, each_append, each_back, each_first, each_map}
use Rattle.rules.proofs.Lines.{holds_none}
use Rattle.rules.proofs.Leaving.{leaving_theorems}
use Rattle.rules.proofs.Parts.{reason_reading}
use Rattle.rules.proofs.PortTests.{left_passes}
use Rattle.rules.proofs.Arrival.{stored_as}
use Rattle.rules.proofs.Facts.{facts_theorems}
use Rattle.machine.specs.Waiting.{port_at, queue_at}
use Rattle.machine.specs.Events.{here, frame_into, put_in, taken_out}
use Rattle.rules.specs.Requests.{FrameInRequest, TakeRequest}
use Rattle.machine.specs.State.{State, Call, frame_in, take, age, counter, port, vlan, clear_vlan, static, remove, map, queue_switch, drain, bpdu, done}
use Rattle.machine.specs.FrameIn.{facts_at, outcome_events, enters, frame_in_step}
use Rattle.machine.specs.TakeOut.{served, taken, take_step, drain_step}
use Rattle.machine.specs.SettingCalls.{silently, settle}
use Rattle.machine.specs.Machine.{age_step, carry_out, refusing, perform, next}
use Rattle.machine.specs.History.{after, events, fresh}
use Rattle.machine.specs.CallTheorems.{facts_now, Sends}
use Rattle.machine.specs.Demands.{Came, Left}
use Rattle.machine.proofs.Steps.{perform_has}
use Rattle.machine.proofs.Queues.{put_in_append, put_in_joined, distinct_left, frame_in_puts, fifo_fresh, drained_in}
use Rattle.machine.proofs.Leaving.{take_theorems}
use Rattle.machine.proofs.Refusals.{done_allowed}

-- ---- one call

module _ (s : State) (c : FrameInRequest) (cs : List Call) (p : ℕ) where
  came_now : among p (ports_left (facts_now s c).test) ≡ true → reason_for (facts_now s c) ≡ none → Came s (frame_in c ∷ cs) p (frame_of (facts_now s c))
  unfolding after
  came_now h e =
      let passed = left_passes (facts_now s c).test p h in
      record {
        earlier = [];
        request = c;
        later = cs;
        happened = refl;
        queued = e;
        stored = stored_as (facts_now s c);
        port_there = passed.0;
        passed = passed.1;
      }

  frame_came : (q : ℕ) (o : Option Reason) → reason_for (facts_now s c) ≡ o
      → Each (Came s (frame_in c ∷ cs) p) (put_in p q (outcome_events (facts_now s c).port (outcome_by o (frame_of (facts_now s c)) (ports_left (facts_now s c).test))))
  unfolding outcome_by outcome_events put_in here frame_into
  frame_came q (some r) e = nobody
  frame_came q none e =
      rw (put_in_joined p q (frame_of (facts_now s c)) (ports_left (facts_now s c).test) (distinct_left (facts_now s c).test))
      (on (among p (ports_left (facts_now s c).test) && eqb q (frame_of (facts_now s c)).queue)
      (λ h. rw h (also (came_now (and_left (among p (ports_left (facts_now s c).test)) (eqb q (frame_of (facts_now s c)).queue) h) e) nobody))
      (λ h. rw h nobody))

  entered_came : (q : ℕ) → Each (Came s (frame_in c ∷ cs) p) (put_in p q (enters s (facts_now s c)).events)
  unfolding enters outcome_of
  entered_came q =
      rw (frame_in_puts (facts_now s c) (is_not_learned (facts_now s c) s.core.table) p q) (frame_came q (reason_for (facts_now s c)) refl)

carried_came : (s : State) (c : Call) (cs : List Call) (p q : ℕ) → Each (Came s (c ∷ cs) p) (put_in p q (carry_out s c).events)
unfolding carry_out age_step settle silently frame_in_step take_step taken drain_step put_in here frame_into
carried_came s (frame_in c) cs p q = entered_came s c cs p q
carried_came s (take c) cs p q = on_option (served s c.port) (λ d. rw d nobody) (λ f d. rw d nobody)
carried_came s age cs p q = nobody
carried_came s (counter c) cs p q = nobody
carried_came s (port c) cs p q = nobody
carried_came s (vlan n) cs p q = nobody
carried_came s (clear_vlan vid) cs p q = nobody
carried_came s (static c) cs p q = nobody
carried_came s (remove c) cs p q = nobody
carried_came s (map c) cs p q = nobody
carried_came s (queue_switch c) cs p q = nobody
carried_came s (drain a) cs p q = rw (drained_in a p q (port_at a s.core.waiting)) nobody
carried_came s (bpdu flag) cs p q = nobody

call_came : (s : State) (c : Call) (cs : List Call) (p q : ℕ) → Each (Came s (c ∷ cs) p) (put_in p q (perform s c).events)
unfolding refusing put_in
call_came s c cs p q = perform_has (λ d. Each (Came s (c ∷ cs) p) (put_in p q d.events)) s c (λ r. nobody) (λ e. carried_came s c cs p q)

-- ---- a history

-- what came after a first call came in the history with it
came_later : (s : State) (c : Call) (cs : List Call) (p : ℕ) (f : Frame) → Came (next s (perform s c)) cs p f → Came s (c ∷ cs) p f
unfolding after
came_later s c cs p f h =
    record {
      earlier = c ∷ h.earlier;
      request = h.request;
      later = h.later;
      happened = ap (λ (ds : List Call). c ∷ ds) h.happened;
      queued = h.queued;
      stored = h.stored;
      port_there = h.port_there;
      passed = h.passed;
    }

pub queued_came : (s : State) (cs : List Call) (p q : ℕ) → Each (Came s cs p) (put_in p q (events s cs))
unfolding events put_in
queued_came s [] p q = nobody
queued_came s (c ∷ cs) p q =
    rw (put_in_append p q (perform s c).events (events (next s (perform s c)) cs))
    (each_append (call_came s c cs p q) (each_map (came_later s c cs p) (queued_came (next s (perform s c)) cs p q)))

-- whatever waits came by a frame-in of the history
pub waiting_came : (n : ℕ) (cs : List Call) (p q : ℕ) → Each (Came (fresh n) cs p) (queue_at p q (after (fresh n) cs).core.waiting)
waiting_came n cs p q =
    each_back (taken_out p q (events (fresh n) cs)) (queue_at p q (after (fresh n) cs).core.waiting) (rw (fifo_fresh n cs p q) at (queued_came (fresh n) cs p q))

-- ---- what leaves

some_none : {r : Reason} → some r ≡ none → ⊥
some_none e = let z : ◌≡◌ {A = ℕ} 0 1 = cc in omega arith

-- a frame that was queued is not too short
queued_read : (f : Facts) → reason_for f ≡ none → first (rows_of reading f) ≡ none
queued_read f e = on_option (first (rows_of reading f)) (λ h. h) (λ r h. absurd (some_none (sym (reason_reading f r h) ∙ e)))

read_long : (f : Facts) → first (rows_of reading f) ≡ none → 60 ≤ length f.packet.bytes
unfolding rows_of lines_in reason_table sift part_number
read_long f e = ltb-false (length f.packet.bytes) 60 (each_first (holds_none _ e))

three : (s : State) (c : FrameInRequest) → (facts_now s c).bpdu ≡ true → (facts_now s c).queue ≡ 3
unfolding facts_at
three s c b = (facts_theorems s.core.settings s.core.table _ c.port c.packet).queue.bpdu_queue_law b

module _ (n : ℕ) (cs : List Call) (p x y : ℕ) (out : List ℕ) (v : Sends (after (fresh n) cs) p x y out) where
  came : Came (fresh n) cs p v.frame
  came = each_first (rw v.serves.oldest at (waiting_came n cs p y))

  abbrev then_facts : Facts
  then_facts = facts_now (after (fresh n) came.earlier) came.request

  packet_is : then_facts.packet ≡ came.request.packet
  unfolding facts_at facts_of
  packet_is = refl

  tags_are : then_facts.tags ≡ tags_of came.request.packet.bytes
  unfolding facts_at facts_of
  tags_are = refl

  long : 60 ≤ length came.request.packet.bytes
  long = rw (sym (ap (λ (k : Packet). k.bytes) packet_is)) (read_long then_facts (queued_read then_facts came.queued))

  -- the stored bytes and tags are those that came
  stored_bytes : v.frame.packet.bytes ≡ came.request.packet.bytes
  stored_bytes = ap (λ (k : Packet). k.bytes) (came.stored.packet ∙ packet_is)

  bpdu_out : Bytes came.request.packet.bytes → then_facts.bpdu ≡ true → out ≡ came.request.packet.bytes
  bpdu_out each b =
      v.leaves.bytes (rw stored_bytes (omega (arith, long)))
      ∙ sym (leaving_theorems.keeps v.frame.packet.bytes v.leaves.stack (rw stored_bytes (omega (arith, long))))
      ∙ ap (retagged v.frame.packet.bytes) (v.leaves.exempt_keeps (came.stored.exempt ∙ b) ∙ came.stored.tags ∙ tags_are)
      ∙ ap (λ (bytes : List ℕ). retagged bytes (tags_of came.request.packet.bytes)) stored_bytes
      ∙ leaving_theorems.untouched came.request.packet.bytes each long

  bpdu_queue_law : then_facts.bpdu ≡ true → y ≡ 3
  bpdu_queue_law b =
      v.queue_is ∙ came.stored.queue ∙ three (after (fresh n) came.earlier) came.request b

  pub left : Left n cs p x y out
  left = record { sends = v; came = came; long = long; bpdu_as_it_came = λ each b. (bpdu_out each b, bpdu_queue_law b) }

pub leaves : (n : ℕ) (cs : List Call) (c : TakeRequest) (x y : ℕ) (out : List ℕ) → (perform (after (fresh n) cs) (take c)).answer ≡ done x y out → 1 ≤ x
    → Left n cs c.port x y out
leaves n cs c x y out e some_x =
    let s = after (fresh n) cs in
    left n cs c.port x y out ((take_theorems s c (done_allowed s (take c) x y out e)).sends x y out e some_x)
