-- What each counter counts of each call: every counter, every port, exactly when. `proofs/CallCounts.antt` proves it.
-- Assumes nothing: these are definitions.
use Rattle.std.specs.Prelude.{ℕ, ◌≤◌, ◌≡◌, Bool, false, ◌&&◌, [], eqb, length, if◌then◌else◌}
use Rattle.std.specs.Prelude.{Option, None as none, Some as some}
use Rattle.rules.specs.Choice.{is_nothing}
use Rattle.rules.specs.Tables.{nowhere}
use Rattle.rules.specs.Addresses.{find, empty_for, after_look_up}
use Rattle.rules.specs.Reasons.{reason_number}
use Rattle.rules.specs.declared.reasons.Reason.{Reason}
use Rattle.rules.specs.PortTests.{passes, state, queue_off}
use Rattle.rules.specs.ReasonTable.{reason_for}
use Rattle.rules.specs.ArrivalTheorems.{PastEntering, PastChoosing}
use Rattle.machine.specs.Waiting.{port_at}
use Rattle.machine.specs.Events.{count}
use Rattle.rules.specs.Requests.{FrameInRequest, TakeRequest}
use Rattle.machine.specs.State.{State, Call, frame_in, take, drain}
use Rattle.machine.specs.Machine.{perform}
use Rattle.machine.specs.CallTheorems.{Allowed, facts_now, NothingWaits}

-- one if the test holds
abbrev pub once : Bool → ℕ
once b = if b then 1 else 0

-- the number of the reason, and 0 for queued
abbrev pub outcome_number : Option Reason → ℕ
outcome_number none = 0
outcome_number (some r) = reason_number r

-- counted once if it happened, and else not at all
pub record CountedIf (n : ℕ) (Happened : Type 0) : Type 0 where
  pub counted : Happened → n ≡ 1
  pub not_counted : (Happened → ⊥) → n ≡ 0

-- the source is to be learned, and there is no place for it
pub record NoPlace (s : State) (c : FrameInRequest) : Type 0 where
  pub ordinary : (facts_now s c).bpdu ≡ false
  pub past : PastEntering (facts_now s c)
  pub not_there : find (after_look_up (facts_now s c).look_up s.core.table) (facts_now s c).source_key ≡ nowhere
  pub all_in_use : empty_for (after_look_up (facts_now s c).look_up s.core.table) (facts_now s c).source_key ≡ none

-- of a frame-in, at port r
pub record FrameInCounts (s : State) (c : FrameInRequest) (allowed : Allowed s (frame_in c)) (r : ℕ) : Type 0 where
  -- by arrival port: 0 offered, 1 to 13 the reasons, 14 accepted, 15 not learned
  pub offered : count r 0 (perform s (frame_in c)).events ≡ once (eqb r c.port)
  pub reasons : (x : Reason)
      → count r (reason_number x) (perform s (frame_in c)).events
      ≡ once (eqb r c.port && eqb (reason_number x) (outcome_number (reason_for (facts_now s c))))
  pub accepted : count r 14 (perform s (frame_in c)).events
      ≡ once (eqb r c.port && is_nothing (reason_for (facts_now s c)))
  pub not_learned_law : CountedIf (count r 15 (perform s (frame_in c)).events) ((r ≡ c.port) × NoPlace s c)
  -- by departing port: 16 queued, 17 state, 18 queue off; 17 and 18 past 11, also if 12 or 13 follows
  pub queued : CountedIf (count r 16 (perform s (frame_in c)).events) ((reason_for (facts_now s c) ≡ none) × (r ≤ 4)
      × ((facts_now s c).test r ≡ passes))
  pub state_out_law : CountedIf (count r 17 (perform s (frame_in c)).events) (PastChoosing (facts_now s c) × (r ≤ 4)
      × ((facts_now s c).test r ≡ state))
  pub queue_out_law : CountedIf (count r 18 (perform s (frame_in c)).events) (PastChoosing (facts_now s c) × (r ≤ 4)
      × ((facts_now s c).test r ≡ queue_off))
  -- 19 sent, 20 drained
  pub none_sent : count r 19 (perform s (frame_in c)).events ≡ 0
  pub none_drained : count r 20 (perform s (frame_in c)).events ≡ 0

pub record CountTheorems : Type 0 where
  pub frame_in_law : (s : State) (c : FrameInRequest) (allowed : Allowed s (frame_in c)) (r : ℕ)
      → FrameInCounts s c allowed r
  -- A take counts 19 once at its port if something waits there, and nothing else; a drain counts 20 for each copy, and
  -- nothing else.
  pub take_sent : (s : State) (c : TakeRequest) → Allowed s (take c) → (NothingWaits c.port s.core.waiting → ⊥)
      → (r k : ℕ) → count r k (perform s (take c)).events ≡ once (eqb r c.port && eqb k 19)
  pub take_empty : (s : State) (c : TakeRequest) → Allowed s (take c) → NothingWaits c.port s.core.waiting
      → (perform s (take c)).events ≡ []
  pub drained : (s : State) (p : ℕ) → Allowed s (drain p)
      → (r k : ℕ)
      → count r k (perform s (drain p)).events
      ≡ (if eqb r p && eqb k 20 then length (port_at p s.core.waiting) else 0)
  -- No other call counts anything.
  pub others : (s : State) (c : Call) → ((d : FrameInRequest) → c ≡ frame_in d → ⊥)
      → ((d : TakeRequest) → c ≡ take d → ⊥) → ((p : ℕ) → c ≡ drain p → ⊥)
      → (perform s c).events ≡ []
