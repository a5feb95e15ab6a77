-- Each waiting frame waits somewhere, at ports that there are, in one of the four queues. Assumes nothing.
use Prim.Native.Nat.{ℕ, ◌≤◌}
use mathlib.Core.Path.{refl}
use mathlib.Core.Bool.{Bool}
use mathlib.Core.List.{List, [], ◌∷◌}
use native.Mathlib.Omega.{arith}
use borrow.Author.Tests.{eq-eqb}
use Rattle.rules.specs.Choice.{sift, among, without, Distinct, Each, nobody, also}
use Rattle.rules.specs.Numbers.{all_ports}
use Rattle.rules.specs.Tags.{Header, Tag, Bytes, tags_of}
use Rattle.rules.specs.TagTheorems.{IsTag}
use Rattle.rules.specs.Operations.{header_at}
use Rattle.rules.specs.Settings.{Settings, queue_pcp}
use Rattle.rules.specs.Addresses.{Table}
use Rattle.rules.specs.PortTests.{Test, ports_left}
use Rattle.rules.specs.Facts.{Packet, is_bpdu, facts_of}
use Rattle.rules.specs.ReasonTable.{reason_for}
use Rattle.rules.specs.Outcomes.{Frame, frame_of, outcome_by, outcome_of}
use Rattle.rules.proofs.Choice.{on, on_option, each_append, distinct_sift}
use Rattle.rules.proofs.Tags.{decoded_are_tags}
use Rattle.machine.specs.Waiting.{Waiting, waits_at, stay, leave, send, join}
use Rattle.machine.specs.Waiting as Waiting
use Rattle.rules.specs.Requests.{FrameInRequest}
use Rattle.machine.specs.State.{State, Call, frame_in, take, age, counter, port, vlan, clear_vlan, static, remove, map, queue_switch, drain, bpdu}
use Rattle.machine.specs.FrameIn.{facts_at, outcome_waiting, enters, frame_in_step}
use Rattle.machine.specs.TakeOut.{served, taken, take_step, drain_step}
use Rattle.machine.specs.SettingCalls.{silently, settle}
use Rattle.machine.specs.Machine.{age_step, carry_out, refusing, perform, next}
use Rattle.machine.specs.History.{after, fresh}
use Rattle.machine.specs.CallTheorems.{facts_now}
use Rattle.machine.specs.Demands.{OfBytes, WaitsSomewhere}
use Rattle.machine.proofs.Steps.{perform_has}
use Rattle.machine.proofs.Queues.{distinct_left}
use Rattle.machine.proofs.Settings.{InOrder, call_in_order, start_in_order}

-- ---- what holds of each waiting frame is kept by leaving, if it is kept by losing a port

each_sift : {P : ℕ → Type 0} (test : ℕ → Bool) (ps : List ℕ) → Each P ps → Each P (sift test ps)
unfolding sift
each_sift test [] nobody = nobody
each_sift test (p ∷ ps) (also h t) = on (test p) (λ e. rw e (also h (each_sift test ps t))) (λ e. rw e (each_sift test ps t))

-- a list of ports that is not empty, of ports that there are, each once
record Ports (ps : List ℕ) : Type 0 where
  there : Each (λ (p : ℕ). p ≤ 4) ps
  apart : Distinct ps

waits_at_law : (f : Frame) (p : ℕ) (ps : List ℕ) → Ports (p ∷ ps) → WaitsSomewhere (record { frame = f; ports = p ∷ ps })
unfolding among
waits_at_law f p ps h = record { lowest = p; waits = rw (eq-eqb p p refl); there = h.there; once = h.apart }

stay_waits : (f : Frame) (ps : List ℕ) (ws : List Waiting) → Ports ps → Each WaitsSomewhere ws → Each WaitsSomewhere (stay f ps ws)
unfolding stay
stay_waits f [] ws h t = t
stay_waits f (p ∷ ps) ws h t = also (waits_at_law f p ps h) t

leave_waits : (p : ℕ) (w : Waiting) (ws : List Waiting) → WaitsSomewhere w → Each WaitsSomewhere ws → Each WaitsSomewhere (leave p w ws)
unfolding leave without
leave_waits p w ws h t =
    stay_waits w.frame _ ws (record { there = each_sift _ w.ports h.there; apart = distinct_sift _ w.ports h.once }) t

send_waits : (p q : ℕ) (ws : List Waiting) → Each WaitsSomewhere ws → Each WaitsSomewhere (send p q ws)
unfolding send
send_waits p q [] nobody = nobody
send_waits p q (w ∷ ws) (also h t) =
    on (waits_at p q w)
    (λ e. rw e (leave_waits p w ws h t))
    (λ e. rw e (also h (send_waits p q ws t)))

drain_waits : (p : ℕ) (ws : List Waiting) → Each WaitsSomewhere ws → Each WaitsSomewhere (Waiting.drain p ws)
unfolding Waiting.drain
drain_waits p [] nobody = nobody
drain_waits p (w ∷ ws) (also h t) = leave_waits p w (Waiting.drain p ws) h (drain_waits p ws t)

left_ports : (test : ℕ → Test) → Ports (ports_left test)
unfolding ports_left
left_ports test =
    record {
      there = each_sift _ all_ports (also (omega arith) (also (omega arith) (also (omega arith) (also (omega arith) (also (omega arith) nobody)))));
      apart = distinct_left test;
    }

outcome_waits : (s : State) (c : FrameInRequest) → Each WaitsSomewhere s.core.waiting → Each WaitsSomewhere (outcome_waiting (outcome_of (facts_now s c)) s.core.waiting)
unfolding outcome_of outcome_by outcome_waiting join
outcome_waits s c h =
    on_option (reason_for (facts_now s c))
    (λ e. rw e (each_append h (stay_waits (frame_of (facts_now s c)) (ports_left (facts_now s c).test) [] (left_ports (facts_now s c).test) nobody)))
    (λ r e. rw e h)

carried_waits : (s : State) (c : Call) → Each WaitsSomewhere s.core.waiting → Each WaitsSomewhere (carry_out s c).core.waiting
unfolding carry_out age_step settle silently frame_in_step enters take_step taken drain_step
carried_waits s (frame_in c) h = outcome_waits s c h
carried_waits s (take c) h = on_option (served s c.port) (λ d. rw d h) (λ f d. rw d (send_waits c.port f.queue s.core.waiting h))
carried_waits s age h = h
carried_waits s (counter c) h = h
carried_waits s (port c) h = h
carried_waits s (vlan n) h = h
carried_waits s (clear_vlan vid) h = h
carried_waits s (static c) h = h
carried_waits s (remove c) h = h
carried_waits s (map c) h = h
carried_waits s (queue_switch c) h = h
carried_waits s (drain a) h = drain_waits a s.core.waiting h
carried_waits s (bpdu flag) h = h

call_waits : (s : State) (c : Call) → Each WaitsSomewhere s.core.waiting → Each WaitsSomewhere (perform s c).core.waiting
unfolding refusing
call_waits s c h = perform_has (λ d. Each WaitsSomewhere d.core.waiting) s c (λ r. h) (λ e. carried_waits s c h)

after_waits : (s : State) (cs : List Call) → Each WaitsSomewhere s.core.waiting → Each WaitsSomewhere (after s cs).core.waiting
unfolding after next
after_waits s [] h = h
after_waits s (c ∷ cs) h = after_waits (next s (perform s c)) cs (call_waits s c h)

pub fresh_waits : (n : ℕ) (cs : List Call) → Each WaitsSomewhere (after (fresh n) cs).core.waiting
unfolding fresh
fresh_waits n cs = after_waits (fresh n) cs nobody

-- ---- the queue of a frame of bytes is one of the four

pcp_small : (default : Header) (tags : List Tag) → default.pcp ≤ 7 → Each IsTag tags → queue_pcp default tags ≤ 7
unfolding queue_pcp header_at
pcp_small default [] d h = d
pcp_small default (t ∷ ts) d (also h r) = omega (arith, h.header.pcp)

queue_low : (s : Settings) (t : Table) (free p : ℕ) (k : Packet) → InOrder s → Bytes k.bytes → (facts_of s t free p k).queue ≤ 3
unfolding facts_of
queue_low s t free p k o each =
    on (is_bpdu s p k.bytes)
    (λ b. rw b (omega arith))
    (λ b. rw b (o.queue_map _ (pcp_small (s.port p).default (tags_of k.bytes) (o.default_pcp p) (decoded_are_tags k.bytes each))))

abbrev Low : Waiting → Type 0
Low w = w.frame.queue ≤ 3

stay_low : (f : Frame) (ps : List ℕ) (ws : List Waiting) → f.queue ≤ 3 → Each Low ws → Each Low (stay f ps ws)
unfolding stay
stay_low f [] ws h t = t
stay_low f (p ∷ ps) ws h t = also h t

send_low : (p q : ℕ) (ws : List Waiting) → Each Low ws → Each Low (send p q ws)
unfolding send leave
send_low p q [] nobody = nobody
send_low p q (w ∷ ws) (also h t) =
    on (waits_at p q w)
    (λ e. rw e (stay_low w.frame (without p w.ports) ws h t))
    (λ e. rw e (also h (send_low p q ws t)))

drain_low : (p : ℕ) (ws : List Waiting) → Each Low ws → Each Low (Waiting.drain p ws)
unfolding Waiting.drain leave
drain_low p [] nobody = nobody
drain_low p (w ∷ ws) (also h t) = stay_low w.frame (without p w.ports) (Waiting.drain p ws) h (drain_low p ws t)

frame_low : (s : State) (c : FrameInRequest) → InOrder s.core.settings → Bytes c.packet.bytes → (frame_of (facts_now s c)).queue ≤ 3
unfolding frame_of facts_at
frame_low s c o each = queue_low s.core.settings s.core.table _ c.port c.packet o each

outcome_low : (s : State) (c : FrameInRequest) → InOrder s.core.settings → Bytes c.packet.bytes → Each Low s.core.waiting
    → Each Low (outcome_waiting (outcome_of (facts_now s c)) s.core.waiting)
unfolding outcome_of outcome_by outcome_waiting join
outcome_low s c o each h =
    on_option (reason_for (facts_now s c))
    (λ e. rw e (each_append h (stay_low (frame_of (facts_now s c)) (ports_left (facts_now s c).test) [] (frame_low s c o each) nobody)))
    (λ r e. rw e h)

carried_low : (s : State) (c : Call) → InOrder s.core.settings → OfBytes c → Each Low s.core.waiting → Each Low (carry_out s c).core.waiting
unfolding carry_out age_step settle silently frame_in_step enters take_step taken drain_step OfBytes
carried_low s (frame_in c) o b h = outcome_low s c o b h
carried_low s (take c) o b h = on_option (served s c.port) (λ d. rw d h) (λ f d. rw d (send_low c.port f.queue s.core.waiting h))
carried_low s age o b h = h
carried_low s (counter c) o b h = h
carried_low s (port c) o b h = h
carried_low s (vlan n) o b h = h
carried_low s (clear_vlan vid) o b h = h
carried_low s (static c) o b h = h
carried_low s (remove c) o b h = h
carried_low s (map c) o b h = h
carried_low s (queue_switch c) o b h = h
carried_low s (drain a) o b h = drain_low a s.core.waiting h
carried_low s (bpdu flag) o b h = h

call_low : (s : State) (c : Call) → InOrder s.core.settings → OfBytes c → Each Low s.core.waiting → Each Low (perform s c).core.waiting
unfolding refusing
call_low s c o b h = perform_has (λ d. Each Low d.core.waiting) s c (λ r. h) (λ e. carried_low s c o b h)

after_low : (s : State) (cs : List Call) → InOrder s.core.settings → Each OfBytes cs → Each Low s.core.waiting → Each Low (after s cs).core.waiting
unfolding after next
after_low s [] o nobody h = h
after_low s (c ∷ cs) o (also b bs) h = after_low (next s (perform s c)) cs (call_in_order s c o) bs (call_low s c o b h)

pub fresh_low : (n : ℕ) (cs : List Call) → Each OfBytes cs → Each Low (after (fresh n) cs).core.waiting
unfolding fresh
fresh_low n cs bs = after_low (fresh n) cs (start_in_order n) bs nobody
