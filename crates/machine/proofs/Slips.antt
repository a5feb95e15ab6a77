-- The opposites of the slips that are seen in class. Assumes nothing.
use Prim.Native.Nat.{ℕ}
use mathlib.Core.Path.{◌≡◌, refl, sym, ap, ◌∙◌}
use mathlib.Core.Bool.{true, false, ◌||◌, false≢true, true≢false}
use mathlib.Core.List.{List, [], ◌∷◌}
use Rattle.std.specs.Prelude.{None as none, Some as some}
use native.Mathlib.Omega.{arith}
use lib.Dec.{eqb}
use borrow.Author.Tests.{eqb-true, ne_eqb}
use Rattle.rules.specs.Choice.{sift, among}
use Rattle.rules.specs.Lines.{first}
use Rattle.rules.specs.Tags.{Header, Tag, is_group, destination, source}
use Rattle.rules.specs.Operations.{Operation, Origin}
use Rattle.rules.specs.declared.operations.Source.{Source}
use Rattle.rules.specs.declared.operations.Source.TheVariants.{Outermost as outermost}
use Rattle.rules.specs.declared.operations.Kind.TheVariants.{Nothing as no_kind, Pop as pop, Push as push, Swap as swap, PopAll as pop_all}
use Rattle.rules.specs.LeavingTheorems.{HeaderFrom, from_operation, from_outermost, outermost_missing, from_second, second_missing, both_missing, IsNew, Operated, by_none, by_pop, by_pop_of_none, by_push, by_swap, by_swap_of_none, by_pop_all}
use Rattle.rules.specs.Settings.{Vlan, is_learning, vlan_of}
use Rattle.rules.specs.declared.states.PortState.TheVariants.{Learning as learning}
use Rattle.rules.specs.Tables.{nowhere}
use Rattle.rules.specs.Addresses.{Entry, key, found, find}
use Rattle.rules.specs.Reasons.{reason_number}
use Rattle.rules.specs.declared.reasons.Reason.TheVariants.{NoCandidate as no_candidate}
use Rattle.rules.specs.PortTests.{passes, state, queue_off}
use Rattle.rules.specs.Facts.{facts_of}
use Rattle.rules.specs.ReasonTable.{choosing, part_number, reason_table, lines_in, rows_of, reason_for}
use Rattle.rules.specs.FactsTheorems.{FactsTheorems}
use Rattle.rules.specs.ArrivalTheorems.{PastEntering, Candidate, TestTheorems, DisabledOrForwarding}
use Rattle.rules.proofs.Choice.{on, on_option}
use Rattle.rules.proofs.Facts.{facts_theorems}
use Rattle.rules.proofs.PortTests.{test_theorems}
use Rattle.rules.proofs.Parts.{reason_choosing}
use Rattle.rules.proofs.Arrival.{no_candidate_exactly, learning_exactly}
use Rattle.rules.specs.Requests.{FrameInRequest}
use Rattle.machine.specs.State.{State, Call, frame_in, done, free_cells}
use Rattle.machine.specs.FrameIn.{facts_at}
use Rattle.machine.specs.Machine.{perform}
use Rattle.machine.specs.History.{fresh, after}
use Rattle.machine.specs.CallTheorems.{Allowed, facts_now, Joined, Sends, only_at}
use Rattle.machine.specs.Slips.{PriorityTagged, reads_none, reads_outermost, reads_second, Broadcast, OfTheFirst, SecondTag, Slips}
use Rattle.machine.proofs.Arrivals.{frame_in_theorems}
use Rattle.machine.proofs.Leaving.{cell_theorems}
use Rattle.machine.proofs.Demands.{holds}

-- ---- VID 0

module _ (s : State) (c : FrameInRequest) where
  facts_are : FactsTheorems s.core.settings s.core.table (free_cells s) c.port c.packet
  facts_are = facts_theorems s.core.settings s.core.table (free_cells s) c.port c.packet

  tests_are : (ordinary : (facts_of s.core.settings s.core.table (free_cells s) c.port c.packet).bpdu ≡ false) (r : ℕ)
      → TestTheorems s.core.settings s.core.table (free_cells s) c.port c.packet ordinary r
  tests_are = test_theorems s.core.settings s.core.table (free_cells s) c.port c.packet

  vlan_is_law : (facts_now s c).vlan ≡ vlan_of s.core.settings.vlans (facts_now s c).vid
  unfolding facts_at facts_of
  vlan_is_law = refl

  default_vid : PriorityTagged s c → (facts_now s c).vid ≡ (s.core.settings.port c.port).default.vid
  unfolding facts_at
  default_vid (reads_none a) = facts_are.vid.by_default a
  default_vid (reads_outermost a x rest e z) = facts_are.vid.outermost_priority a x rest e z
  default_vid (reads_second a x y rest e z) = facts_are.vid.second_priority a x y rest e z

  goes_by_default : (allowed : Allowed s (frame_in c)) → PriorityTagged s c → (facts_now s c).bpdu ≡ false → reason_for (facts_now s c) ≡ none
      → (j : Joined s c (perform s (frame_in c)).core.waiting)
      → (j.frame.vlan_operation ≡ (vlan_of s.core.settings.vlans (s.core.settings.port c.port).default.vid).operation)
      × ((r : ℕ) → among r j.ports ≡ true → (vlan_of s.core.settings.vlans (s.core.settings.port c.port).default.vid).member r ≡ true)
  unfolding facts_at
  goes_by_default allowed tagged b e j =
      let v : (facts_now s c).vlan ≡ vlan_of s.core.settings.vlans (s.core.settings.port c.port).default.vid = vlan_is_law ∙ ap (vlan_of s.core.settings.vlans) (default_vid tagged) in (
        j.stored.vlan_operation_law b ∙ ap (λ (x : Vlan). x.operation) v,
        λ r h. sym (ap (λ (x : Vlan). x.member r) v) ∙ ((tests_are b r).passes_exactly.0 ((j.passing r).0 h).1).0.member,
      )

never_looked_up : (n : ℕ) (cs : List Call) (c : FrameInRequest) → (facts_now (after (fresh n) cs) c).vid ≡ 0 → ⊥
unfolding facts_at
never_looked_up n cs c e =
    (facts_are (after (fresh n) cs) c).vid.never_zero (λ z. omega (arith, (holds n cs).default_vid c.port)) e

-- ---- the broadcast

not_only : (p r : ℕ) (ports : List ℕ) → among r ports ≡ true → (r ≡ p → ⊥) → only_at p ports ≡ false
unfolding only_at among
not_only p r [] h n = absurd (false≢true h)
not_only p r (a ∷ rest) h n =
    on (eqb p a)
    (λ e. rw e (not_only p r rest (later (ne_eqb r a (λ x. n (x ∙ sym (eqb-true p a e)))) h) n))
    (λ e. rw e)
  where
    later : eqb r a ≡ false → (eqb r a || among r rest) ≡ true → among r rest ≡ true
    later e x = rw e at x

keeps_its_cells : Broadcast
keeps_its_cells =
    record {
      keeps_its_cells = λ s c allowed q f v before behind w split none_before here r there n.
          let e = cell_theorems.take_frees s c allowed q f v before behind w split none_before here in
          omega (arith, rw (not_only c.port r w.ports there n) at e);
    }

-- ---- the second new tag

module _ (o : Origin) (own : Header) where
  of_outermost : (x : Source) (h : Header) → HeaderFrom o own x h → x ≡ outermost
      → ((a : Tag) (others : List Tag) → o.tags ≡ a ∷ others → h ≡ a.header) × (o.tags ≡ [] → h ≡ o.default)
  of_outermost x h from_operation e = absurd (let z : ◌≡◌ {A = ℕ} 0 1 = cc in omega arith)
  of_outermost x h (from_outermost a rest t) e = (
    λ b others u. let y : a ∷ rest ≡ b ∷ others = sym t ∙ u in let z : a ≡ b = cc in ap (λ (v : Tag). v.header) z,
    λ u. absurd (let y : a ∷ rest ≡ [] = sym t ∙ u in let z : ◌≡◌ {A = ℕ} 0 1 = cc in omega arith),
  )
  of_outermost x h (outermost_missing t) e = (
    λ b others u. absurd (let y : [] ≡ b ∷ others = sym t ∙ u in let z : ◌≡◌ {A = ℕ} 0 1 = cc in omega arith),
    λ u. refl,
  )
  of_outermost x h (from_second a b rest t) e = absurd (let z : ◌≡◌ {A = ℕ} 0 1 = cc in omega arith)
  of_outermost x h (second_missing a t) e = absurd (let z : ◌≡◌ {A = ℕ} 0 1 = cc in omega arith)
  of_outermost x h (both_missing t) e = absurd (let z : ◌≡◌ {A = ℕ} 0 1 = cc in omega arith)

-- an operation that makes a tag has made the outermost one
record MadeFirst (o : Origin) (operation : Operation) (stack : List Tag) : Type 0 where
  new : Tag
  rest : List Tag
  stack_is : stack ≡ new ∷ rest
  is_new : IsNew o operation new

made_by_push : (o : Origin) (operation : Operation) (before stack : List Tag) → Operated o operation before stack → operation.kind ≡ push → MadeFirst o operation stack
made_by_push o operation before stack (by_none _ k) e = absurd (let y : no_kind ≡ push = sym k ∙ e in let z : ◌≡◌ {A = ℕ} 0 1 = cc in omega arith)
made_by_push o operation before stack (by_pop a _ k) e = absurd (let y : pop ≡ push = sym k ∙ e in let z : ◌≡◌ {A = ℕ} 0 1 = cc in omega arith)
made_by_push o operation before stack (by_pop_of_none k) e = absurd (let y : pop ≡ push = sym k ∙ e in let z : ◌≡◌ {A = ℕ} 0 1 = cc in omega arith)
made_by_push o operation before stack (by_push new old k n) e = record { new = new; rest = old; stack_is = refl; is_new = n }
made_by_push o operation before stack (by_swap new a rest k n) e = absurd (let y : swap ≡ push = sym k ∙ e in let z : ◌≡◌ {A = ℕ} 0 1 = cc in omega arith)
made_by_push o operation before stack (by_swap_of_none new k n) e = absurd (let y : swap ≡ push = sym k ∙ e in let z : ◌≡◌ {A = ℕ} 0 1 = cc in omega arith)
made_by_push o operation before stack (by_pop_all _ k) e = absurd (let y : pop_all ≡ push = sym k ∙ e in let z : ◌≡◌ {A = ℕ} 0 1 = cc in omega arith)

made_by_swap : (o : Origin) (operation : Operation) (before stack : List Tag) → Operated o operation before stack → operation.kind ≡ swap → MadeFirst o operation stack
made_by_swap o operation before stack (by_none _ k) e = absurd (let y : no_kind ≡ swap = sym k ∙ e in let z : ◌≡◌ {A = ℕ} 0 1 = cc in omega arith)
made_by_swap o operation before stack (by_pop a _ k) e = absurd (let y : pop ≡ swap = sym k ∙ e in let z : ◌≡◌ {A = ℕ} 0 1 = cc in omega arith)
made_by_swap o operation before stack (by_pop_of_none k) e = absurd (let y : pop ≡ swap = sym k ∙ e in let z : ◌≡◌ {A = ℕ} 0 1 = cc in omega arith)
made_by_swap o operation before stack (by_push new old k n) e = absurd (let y : push ≡ swap = sym k ∙ e in let z : ◌≡◌ {A = ℕ} 0 1 = cc in omega arith)
made_by_swap o operation before stack (by_swap new a rest k n) e = record { new = new; rest = rest; stack_is = refl; is_new = n }
made_by_swap o operation before stack (by_swap_of_none new k n) e = record { new = new; rest = []; stack_is = refl; is_new = n }
made_by_swap o operation before stack (by_pop_all _ k) e = absurd (let y : pop_all ≡ swap = sym k ∙ e in let z : ◌≡◌ {A = ℕ} 0 1 = cc in omega arith)

of_the_first : (s : State) (p x y : ℕ) (out : List ℕ) (v : Sends s p x y out) → MadeFirst v.frame.origin (s.core.settings.port p).operation v.leaves.stack
    → (s.core.settings.port p).operation.pcp_from ≡ outermost → OfTheFirst v
of_the_first s p x y out v m e =
    let h = of_outermost v.frame.origin (s.core.settings.port p).operation.header _ m.is_new.pcp_header_law m.is_new.pcp_from_law e in
    record {
      new = m.new;
      rest = m.rest;
      stack_is = m.stack_is;
      of_tag = λ a others t. (m.is_new.pcp ∙ ap (λ (z : Header). z.pcp) (h.0 a others t), m.is_new.dei ∙ ap (λ (z : Header). z.dei) (h.0 a others t));
      of_default = λ t. (m.is_new.pcp ∙ ap (λ (z : Header). z.pcp) (h.1 t), m.is_new.dei ∙ ap (λ (z : Header). z.dei) (h.1 t));
    }

second_tag : SecondTag
second_tag =
    record {
      pushed = λ s p x y out v n k e.
          let l = v.leaves.by_operations n in
          of_the_first s p x y out v (made_by_push _ _ l.between v.leaves.stack l.port_second k) e;
      swapped = λ s p x y out v n k e.
          let l = v.leaves.by_operations n in
          of_the_first s p x y out v (made_by_swap _ _ l.between v.leaves.stack l.port_second k) e;
    }

-- ---- a found address whose port is no member

module _ (s : State) (c : FrameInRequest) (b : (facts_now s c).bpdu ≡ false) (i : ℕ) (e : Entry) (l : (facts_now s c).look_up ≡ found i e)
    (n : (facts_now s c).vlan.member e.port ≡ false) where
  no_candidate_law : (r : ℕ) → Candidate s.core.settings s.core.table (free_cells s) c.port c.packet r → ⊥
  unfolding facts_at
  no_candidate_law r h =
      let same : r ≡ e.port = ((facts_are s c).look_up_law.found_chooses_its_port i e l r).0 h.chosen in
      true≢false (sym h.member ∙ ap (facts_now s c).vlan.member same ∙ n)

  none_passes : (r : ℕ) → ((facts_now s c).test r ≡ passes → ⊥) × ((facts_now s c).test r ≡ state → ⊥) × ((facts_now s c).test r ≡ queue_off → ⊥)
  unfolding facts_at
  none_passes r = (
    λ h. no_candidate_law r ((tests_are s c b r).passes_exactly.0 h).0,
    λ h. no_candidate_law r ((tests_are s c b r).state_exactly.0 h).0,
    λ h. no_candidate_law r ((tests_are s c b r).queue_off_exactly.0 h).0,
  )

  some_reason : reason_for (facts_now s c) ≡ none → (allowed : Allowed s (frame_in c)) → ⊥
  unfolding facts_at
  some_reason h allowed =
      let j = (frame_in_theorems s c allowed).queued_joins h in
      (none_passes j.lowest).0 ((j.passing j.lowest).0 j.waits).1

  goes_nowhere : (allowed : Allowed s (frame_in c)) → (perform s (frame_in c)).core.waiting ≡ s.core.waiting
  goes_nowhere allowed =
      on_option (reason_for (facts_now s c))
      (λ h. absurd (some_reason h allowed))
      (λ r h. (frame_in_theorems s c allowed).drop_queues_nothing r h)

  choosing_is : ((facts_now s c).state ≡ learning → ⊥) → first (rows_of choosing (facts_now s c)) ≡ some no_candidate
  unfolding rows_of lines_in reason_table sift part_number first
  choosing_is no_learning =
      rw (not_learning, (no_candidate_exactly (facts_now s c).test).1 (λ r low. none_passes r))
    where
      not_learning : is_learning (facts_now s c).state ≡ false
      not_learning = on (is_learning (facts_now s c).state) (λ h. absurd (no_learning ((learning_exactly (facts_now s c).state).0 h))) (λ h. h)

  reason_eleven : (allowed : Allowed s (frame_in c)) → PastEntering (facts_now s c) → ((facts_now s c).state ≡ learning → ⊥) → (perform s (frame_in c)).answer ≡ done 11 0 []
  unfolding reason_number
  reason_eleven allowed past no_learning =
      (frame_in_theorems s c allowed).drop_answers no_candidate (reason_choosing (facts_now s c) past.read b (past.entered b) no_candidate (choosing_is no_learning))

-- ---- a frame to its own sender

flooded : (s : State) (c : FrameInRequest) → (facts_now s c).bpdu ≡ false → destination c.packet.bytes ≡ source c.packet.bytes
    → find s.core.table (key (facts_now s c).vlan.gid (source c.packet.bytes)) ≡ nowhere
    → (r : ℕ) → (facts_now s c).vlan.member r ≡ true → (r ≡ c.port → ⊥) → DisabledOrForwarding (s.core.settings.port r).state
    → s.core.settings.queue_on r (facts_now s c).queue ≡ true → (facts_now s c).test r ≡ passes
unfolding facts_at
flooded s c b same unknown_source r member away state_good queue_on_law =
    (tests_are s c b r).passes_exactly.1 (record { member = member; not_arrival = away; chosen = chosen }, state_good, queue_on_law)
  where
    chosen : (facts_now s c).chosen r ≡ true
    chosen =
        on (is_group (destination c.packet.bytes))
        (λ g. (facts_are s c).look_up_law.group_chooses_all ((facts_are s c).look_up_law.group_not_looked_up g) r)
        (λ g. (facts_are s c).look_up_law.unknown_chooses_all
        ((facts_are s c).look_up_law.not_found g (ap (λ (a : ℕ). find s.core.table (key (facts_now s c).vlan.gid a)) same ∙ unknown_source)) r)

pub slips : Slips
slips =
    record {
      vid_zero = record { never_looked_up = never_looked_up; goes_by_default = λ s c allowed tagged b e j. goes_by_default s c allowed tagged b e j };
      broadcast = keeps_its_cells;
      second_tag = second_tag;
      found_no_member = record {
        goes_nowhere = λ s c allowed b i e l n. goes_nowhere s c b i e l n allowed;
        reason_eleven = λ s c allowed b i e l n past no_learning. reason_eleven s c b i e l n allowed past no_learning;
      };
      own_sender = record { flooded = flooded };
    }
