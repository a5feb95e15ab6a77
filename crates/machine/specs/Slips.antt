-- The slips that are seen in class, each as its opposite, said of the call itself. `proofs/Slips.antt` proves it.
-- Assumes nothing: these are definitions.
use Rattle.std.specs.Prelude.{ℕ, ◌≡◌, true, false, List, [], ◌∷◌, ◌++◌}
use Rattle.std.specs.Prelude.{None as none}
use Rattle.rules.specs.Choice.{Each, among}
use Rattle.rules.specs.Tags.{Tag, tags_of, destination, source}
use Rattle.rules.specs.declared.operations.Source.TheVariants.{Outermost as outermost}
use Rattle.rules.specs.declared.operations.Kind.TheVariants.{Push as push, Swap as swap}
use Rattle.rules.specs.Settings.{vlan_of}
use Rattle.rules.specs.Tables.{nowhere}
use Rattle.rules.specs.Addresses.{Entry, key, found, find}
use Rattle.rules.specs.PortTests.{passes}
use Rattle.rules.specs.ReasonTable.{reason_for}
use Rattle.rules.specs.declared.states.PortState.TheVariants.{Learning as learning_state}
use Rattle.rules.specs.ArrivalTheorems.{PastEntering, DisabledOrForwarding}
use Rattle.machine.specs.Waiting.{Waiting, cells_in_use, waits_at}
use Rattle.rules.specs.Requests.{FrameInRequest, TakeRequest}
use Rattle.machine.specs.State.{State, Call, frame_in, take, done}
use Rattle.machine.specs.Machine.{perform}
use Rattle.machine.specs.History.{fresh, after}
use Rattle.machine.specs.CallTheorems.{Allowed, facts_now, Joined, Serves, Sends}
use Rattle.rules.specs.Outcomes.{Frame}

-- "VID 0 looked up as a VLAN." A frame whose tag has VID 0 is a frame of its port's default VLAN, whichever tag the
-- port reads.
pub data PriorityTagged (s : State) (c : FrameInRequest) : Type 0 where
  -- assignment 0 reads no tag
  reads_none : (s.core.settings.port c.port).assignment ≡ 0 → PriorityTagged s c
  reads_outermost : (s.core.settings.port c.port).assignment ≡ 1 → (a : Tag) (rest : List Tag)
      → tags_of c.packet.bytes ≡ a ∷ rest → a.header.vid ≡ 0
      → PriorityTagged s c
  reads_second : (s.core.settings.port c.port).assignment ≡ 2 → (a b : Tag) (rest : List Tag)
      → tags_of c.packet.bytes ≡ a ∷ b ∷ rest → b.header.vid ≡ 0
      → PriorityTagged s c

pub record VidZero : Type 0 where
  -- After every history no frame-in looks up VID 0.
  pub never_looked_up : (n : ℕ) (cs : List Call) (c : FrameInRequest) → (facts_now (after (fresh n) cs) c).vid ≡ 0 → ⊥
  -- A priority-tagged frame goes to members of its port's default VLAN alone, under that VLAN's operation.
  pub goes_by_default : (s : State) (c : FrameInRequest) (allowed : Allowed s (frame_in c)) → PriorityTagged s c
      → (facts_now s c).bpdu ≡ false
      → reason_for (facts_now s c) ≡ none → (j : Joined s c (perform s (frame_in c)).core.waiting)
      → (j.frame.vlan_operation
      ≡ (vlan_of s.core.settings.vlans (s.core.settings.port c.port).default.vid).operation)
      × ((r : ℕ) → among r j.ports ≡ true
      → (vlan_of s.core.settings.vlans (s.core.settings.port c.port).default.vid).member r ≡ true)

-- "A broadcast's cells freed at its first departure." While another port is left to the frame that a take sends, no
-- cell is freed.
pub record Broadcast : Type 0 where
  pub keeps_its_cells : (s : State) (c : TakeRequest) → Allowed s (take c) → (q : ℕ) (f : Frame)
      → Serves s.core.waiting c.port q f
      → (before behind : List Waiting) (w : Waiting) → s.core.waiting ≡ before ++ (w ∷ behind)
      → Each (λ (v : Waiting). waits_at c.port q v ≡ false) before
      → waits_at c.port q w ≡ true → (r : ℕ) → among r w.ports ≡ true → (r ≡ c.port → ⊥)
      → cells_in_use (perform s (take c)).core.waiting ≡ cells_in_use s.core.waiting

-- "The second new tag copying its PCP from the first." Where the departing port pushes or swaps a tag with the PCP of
-- the outermost tag, the tag that leaves outermost has PCP and DEI of the tag that came outermost, or of the arrival
-- port's default header if none came, whatever
-- tag the VLAN's operation has made in between.
pub record OfTheFirst {s : State} {p x y : ℕ} {out : List ℕ} (v : Sends s p x y out) : Type 0 where
  pub new : Tag
  pub rest : List Tag
  pub stack_is : v.leaves.stack ≡ new ∷ rest
  pub of_tag : (a : Tag) (others : List Tag) → v.frame.origin.tags ≡ a ∷ others
      → (new.header.pcp ≡ a.header.pcp) × (new.header.dei ≡ a.header.dei)
  pub of_default : v.frame.origin.tags ≡ []
      → (new.header.pcp ≡ v.frame.origin.default.pcp) × (new.header.dei ≡ v.frame.origin.default.dei)

pub record SecondTag : Type 0 where
  pub pushed : (s : State) (p x y : ℕ) (out : List ℕ) (v : Sends s p x y out) → v.frame.exempt ≡ false
      → (s.core.settings.port p).operation.kind ≡ push → (s.core.settings.port p).operation.pcp_from ≡ outermost
      → OfTheFirst v
  pub swapped : (s : State) (p x y : ℕ) (out : List ℕ) (v : Sends s p x y out) → v.frame.exempt ≡ false
      → (s.core.settings.port p).operation.kind ≡ swap → (s.core.settings.port p).operation.pcp_from ≡ outermost
      → OfTheFirst v

-- "A found address sent out although its port is no member." Such a frame is queued nowhere: reason 11, if none before
-- it holds.
pub record FoundNoMember : Type 0 where
  pub goes_nowhere : (s : State) (c : FrameInRequest) (allowed : Allowed s (frame_in c)) → (facts_now s c).bpdu ≡ false
      → (i : ℕ) (e : Entry) → (facts_now s c).look_up ≡ found i e → (facts_now s c).vlan.member e.port ≡ false
      → (perform s (frame_in c)).core.waiting ≡ s.core.waiting
  pub reason_eleven : (s : State) (c : FrameInRequest) (allowed : Allowed s (frame_in c)) → (facts_now s c).bpdu ≡ false
      → (i : ℕ) (e : Entry) → (facts_now s c).look_up ≡ found i e → (facts_now s c).vlan.member e.port ≡ false
      → PastEntering (facts_now s c) → ((facts_now s c).state ≡ learning_state → ⊥)
      → (perform s (frame_in c)).answer ≡ done 11 0 []

-- "Learning before lookup, so a frame to its own sender counts as found." A frame from an unknown station to itself is
-- flooded: every member but the arrival port passes, if its state and its queue let it.
pub record OwnSender : Type 0 where
  pub flooded : (s : State) (c : FrameInRequest) → (facts_now s c).bpdu ≡ false
      → destination c.packet.bytes ≡ source c.packet.bytes
      → find s.core.table (key (facts_now s c).vlan.gid (source c.packet.bytes)) ≡ nowhere
      → (r : ℕ) → (facts_now s c).vlan.member r ≡ true → (r ≡ c.port → ⊥)
      → DisabledOrForwarding (s.core.settings.port r).state
      → s.core.settings.queue_on r (facts_now s c).queue ≡ true → (facts_now s c).test r ≡ passes

pub record Slips : Type 0 where
  pub vid_zero : VidZero
  pub broadcast : Broadcast
  pub second_tag : SecondTag
  pub found_no_member : FoundNoMember
  pub own_sender : OwnSender
