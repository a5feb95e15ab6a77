-- An outcome that queues a frame has room for it, and what such a frame makes of the memories stands for the traffic with it.
-- Assumes nothing.
use Prim.Native.Nat.{ℕ, ◌≤◌}
use mathlib.Core.Path.{◌≡◌, refl, ◌∙◌}
use mathlib.Core.Bool.{false, true≢false}
use mathlib.Core.List.{List, ◌∷◌, ◌++◌}
use Rattle.std.specs.Prelude.{None as none}
use native.Mathlib.Omega.{arith}
use lib.ListN.{length}
use borrow.Author.Tests.{ltb-false}
use Rattle.rules.specs.Choice.{sift, among, Distinct, Each, is_empty}
use Rattle.rules.specs.Cells.{cells, longest}
use Rattle.rules.specs.Tags.{Bytes}
use Rattle.rules.specs.PortTests.{ports_left}
use Rattle.rules.specs.Numbers.{all_ports}
use Rattle.rules.specs.Facts.{Facts, facts_of}
use Rattle.rules.specs.ReasonTable.{reason_for}
use Rattle.rules.specs.Outcomes.{Frame, frame_of, Outcome, drops, queues, outcome_by, outcome_of}
use Rattle.rules.proofs.Choice.{on_list, on_option}
use Rattle.machine.specs.Waiting.{Waiting, size}
use Rattle.machine.specs.FrameIn.{mask, outcome_waiting}
use Rattle.layout.specs.Same.{SettingsSame}
use Rattle.layout.proofs.Stores.{settings_then, settings_self}
use Rattle.cells.specs.Chains.{follow}
use Rattle.cells.specs.Stored.{stored_bytes}
use Rattle.cells.specs.Free.{free_count, first_free, taken}
use Rattle.cells.proofs.Apart.{taken_settings}
use Rattle.cells.proofs.Words.{length_taken}
use Rattle.cells.proofs.Loads.{length_store}
use Rattle.standing.specs.Traffic.{Traffic}
use Rattle.standing.proofs.Masks.{mask_left}
use Rattle.queues.proofs.Broadcasts.{length_pushed_at}
use Rattle.standing.proofs.Pushes.{pushed_settings_all}
use Rattle.standing.proofs.Frames.{arrival_keeps}
use Rattle.arrival.specs.Stored.{operation_for, stored_header}
use Rattle.frame_in.specs.InRange.{InRange}
use Rattle.frame_in.specs.Call.{facts_in, stored_for, joined_for}
use Rattle.standing.proofs.FrameInFrames.{Fitted, not_dropped, queued_fitted}
use Rattle.standing.proofs.FrameInPorts.{Inside, PortsInside, left_inside, left_distinct, left_ascending}

-- a frame for which there is room, and its ports
pub record Joins (links : List ℕ) (operation : ℕ) (f : Frame) (ports : List ℕ) : Type 0 where
  pub fitted : Fitted operation f
  pub enough : size f ≤ free_count links
  pub lowest : ℕ
  pub more : List ℕ
  pub are : ports ≡ lowest ∷ more
  pub inside : Each Inside ports
  pub distinct : Distinct ports
  pub ascending : ports ≡ sift (λ r. among r ports) all_ports

abbrev pub Carries : List ℕ → ℕ → Outcome → Type 0
Carries links operation (drops r) = Unit {0}
Carries links operation (queues f ports) = Joins links operation f ports

pub carries_inside : (links : List ℕ) (operation : ℕ) (o : Outcome) → Carries links operation o → PortsInside o
carries_inside links operation (drops r) c = tt
carries_inside links operation (queues f ports) c = c.inside

-- ---- 12 and 13 do not hold of a frame that is queued

module _ (links addresses : List ℕ) (good : InRange links addresses) (p : ℕ) (there : p ≤ 4) (bytes : List ℕ) (each : Bytes bytes) where
  abbrev facts : Facts
  facts = facts_in links addresses p bytes

  enough_free : facts.outnumbers ≡ false → size (frame_of facts) ≤ free_count links
  unfolding facts_in facts_of frame_of size
  enough_free room = ltb-false (free_count links) (cells (length bytes)) room

  queued_joins : reason_for facts ≡ none → Joins links (operation_for links facts.vid) (frame_of facts) (ports_left facts.test)
  unfolding is_empty
  queued_joins e =
      let kept = not_dropped facts e in
      on_list (ports_left facts.test)
      (λ h. absurd (true≢false (rw h at kept.port_left)))
      (λ r rs h. record {
        fitted = queued_fitted links addresses good p there bytes each e;
        enough = enough_free kept.room;
        lowest = r;
        more = rs;
        are = h;
        inside = left_inside facts.test;
        distinct = left_distinct facts.test;
        ascending = left_ascending facts.test;
      })

  pub outcome_carries : Carries links (operation_for links facts.vid) (outcome_of facts)
  unfolding outcome_of outcome_by
  outcome_carries = on_option (reason_for facts) (λ e. rw e (queued_joins e)) (λ r e. rw e tt)

-- ---- what the outcome makes of the memories

pub stored_length : (n operation : ℕ) (memory links : List ℕ) (o : Outcome) → length (stored_for n operation o links memory) ≡ length memory
unfolding stored_for
stored_length n operation memory links (drops r) = refl
stored_length n operation memory links (queues f ports) =
    length_store memory (follow n links (size f) (first_free links)) (stored_bytes (stored_header operation f) ++ f.packet.bytes)

few_cells : (operation : ℕ) (f : Frame) → Fitted operation f → size f ≤ cells longest
unfolding size
few_cells operation f h = omega (arith, h.storable.long)

module _ (n : ℕ) (links : List ℕ) (operation : ℕ) where
  pub joined_settings : (o : Outcome) → Carries links operation o → SettingsSame links (joined_for n o links)
  unfolding joined_for
  joined_settings (drops r) c = settings_self links
  joined_settings (queues f ports) c =
      settings_then (taken_settings n (size f) (mask ports) links)
      (pushed_settings_all n f.queue (first_free links) c.fitted.low c.inside (taken n (size f) (mask ports) links))

  pub joined_length : (o : Outcome) → Carries links operation o → length (joined_for n o links) ≡ length links
  unfolding joined_for
  joined_length (drops r) c = refl
  joined_length (queues f ports) c =
      length_pushed_at n f.queue (first_free links) c.fitted.low ports (taken n (size f) (mask ports) links)
      ∙ length_taken n (size f) (mask ports) links

  module _ (memory : List ℕ) (ws : List Waiting) (T : Traffic n memory links ws) where
    frame_joins : (f : Frame) (r : ℕ) (rs : List ℕ) → Joins links operation f (r ∷ rs)
        → Traffic n (stored_for n operation (queues f (r ∷ rs)) links memory) (joined_for n (queues f (r ∷ rs)) links) (outcome_waiting (queues f (r ∷ rs)) ws)
    unfolding stored_for joined_for outcome_waiting
    frame_joins f r rs c =
        arrival_keeps n memory links ws T f r rs c.enough c.fitted.low c.inside c.distinct c.ascending (mask_left r rs (r ∷ rs) refl)
        (few_cells operation f c.fitted) operation c.fitted.storable

    pub joined_traffic : (o : Outcome) → Carries links operation o → Traffic n (stored_for n operation o links memory) (joined_for n o links) (outcome_waiting o ws)
    unfolding stored_for joined_for outcome_waiting
    joined_traffic (drops r) c = T
    joined_traffic (queues f ports) c = rw c.are (frame_joins f c.lowest c.more (rw c.are at c))
