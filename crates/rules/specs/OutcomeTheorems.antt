-- What a frame's facts come to: its outcome, and the address table that it leaves. `proofs/Outcomes.antt` proves it.
-- Assumes nothing: these are definitions.
use Rattle.std.specs.Prelude.{◌≡◌, ◌↔◌, true, false}
use Rattle.std.specs.Prelude.{None as none, Some as some}
use Rattle.rules.specs.Tables.{nowhere}
use Rattle.rules.specs.Addresses.{Table, find, empty_for, after_look_up, learn}
use Rattle.rules.specs.Reasons.{Reason}
use Rattle.rules.specs.PortTests.{ports_left}
use Rattle.rules.specs.Facts.{Facts}
use Rattle.rules.specs.ReasonTable.{reason_for}
use Rattle.rules.specs.Outcomes.{frame_of, drops, queues, outcome_of, learns, table_after, is_not_learned}

pub record OutcomeTheorems (f : Facts) (t : Table) : Type 0 where
  pub dropped : (r : Reason) → reason_for f ≡ some r → outcome_of f ≡ drops r
  pub queued : reason_for f ≡ none → outcome_of f ≡ queues (frame_of f) (ports_left f.test)
  -- a frame that learns marks by its look-up, and then its source is learned for the arrival port; another changes
  -- nothing
  pub learned : learns f ≡ true → table_after f t ≡ learn (after_look_up f.look_up t) f.source_key f.port
  pub not_learned_law : learns f ≡ false → table_after f t ≡ t
  -- "not learned": it was to be learned, and there was no place
  pub no_place_exactly : (is_not_learned f t ≡ true)
      ↔ ((learns f ≡ true) × (find (after_look_up f.look_up t) f.source_key ≡ nowhere)
      × (empty_for (after_look_up f.look_up t) f.source_key ≡ none))
