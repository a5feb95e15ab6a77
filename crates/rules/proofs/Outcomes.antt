-- What a frame's facts come to. Assumes nothing.
use mathlib.Core.Path.{ap, ap₂}
use mathlib.Core.Bool.{Bool, ◌&&◌}
use Rattle.std.specs.Prelude.{if◌then◌else◌}
use Rattle.rules.specs.Addresses.{Table, after_look_up, is_no_place, learning_of, learn_by, learn}
use Rattle.rules.specs.Facts.{Facts}
use Rattle.rules.specs.Outcomes.{outcome_by, outcome_of, learns, learning_for, table_after, is_not_learned, frame_of}
use Rattle.rules.specs.PortTests.{ports_left}
use Rattle.rules.specs.Reasons.{Reason}
use Rattle.std.specs.Prelude.{Option}
use Rattle.rules.specs.OutcomeTheorems.{OutcomeTheorems}
use Rattle.rules.proofs.Choice.{and_left, and_right}
use Rattle.rules.proofs.Addresses.{no_place_only, no_place_then}

pub outcome_theorems : (f : Facts) (t : Table) → OutcomeTheorems f t
unfolding outcome_of outcome_by table_after learn learning_for is_not_learned
outcome_theorems f t =
    let known = after_look_up f.look_up t in
    record {
      dropped = λ r e. ap (λ (o : Option Reason). outcome_by o (frame_of f) (ports_left f.test)) e;
      queued = λ e. ap (λ (o : Option Reason). outcome_by o (frame_of f) (ports_left f.test)) e;
      learned = λ e. ap (λ (b : Bool). if b then learn_by (learning_for f t) f.source_key f.port known else t) e;
      not_learned_law = λ e. ap (λ (b : Bool). if b then learn_by (learning_for f t) f.source_key f.port known else t) e;
      no_place_exactly = (
        λ h. let n = no_place_only known f.source_key (and_right (learns f) (is_no_place (learning_of known f.source_key)) h) in
            (and_left (learns f) (is_no_place (learning_of known f.source_key)) h, n.0, n.1),
        λ h. ap₂ (λ (a b : Bool). a && b) h.0 (no_place_then known f.source_key (h.1, h.2)),
      );
    }
