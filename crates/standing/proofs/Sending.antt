-- What take meets of the frame that it serves is in range: a take on memory that stands for a state finds no damage. Assumes nothing.
use Prim.Native.Nat.{ℕ, ◌<◌}
use mathlib.Core.Path.{◌≡◌}
use mathlib.Core.Bool.{true}
use mathlib.Core.List.{List, ◌∷◌}
use borrow.Author.Tests.{eq-eqb}
use Rattle.rules.proofs.Choice.{on, each_first}
use Rattle.machine.specs.Waiting.{Waiting, waits_at}
use Rattle.queues.specs.Lists.{list_of}
use Rattle.settings.specs.Operations.{is_operation_word, is_exempt}
use Rattle.settings.specs.Records.{port_operation_at}
use Rattle.take_out.specs.Frames.{stored_at, operation_fits, header_fits, can_send}
use Rattle.standing.specs.Traffic.{HoldsFrame, Traffic}
use Rattle.standing.proofs.Departures.{sift_head, heads}
use Rattle.standing.proofs.Leaving.{can_leave_law}

module _ (n : ℕ) (cells links : List ℕ) (ws : List Waiting) (T : Traffic n cells links ws) (p : ℕ) (hp : p < 5)
    (operation : is_operation_word (port_operation_at links p) ≡ true) where
  operation_fits_law : (i : ℕ) → operation_fits (stored_at cells i) links p ≡ true
  operation_fits_law i = on (is_exempt (stored_at cells i).operation) (λ e. rw e) (λ e. rw e operation)

  header_fits_law : (i : ℕ) (w : Waiting) → HoldsFrame n cells links i w → header_fits (stored_at cells i) p i links ≡ true
  unfolding header_fits
  header_fits_law i w h = rw (h.in_range, eq-eqb _ _ h.size) (operation_fits_law i)

  -- the head of a queue
  pub can_send_law : (q i : ℕ) (tail : List ℕ) → q < 4 → list_of n links p q ≡ i ∷ tail → can_send cells n p i links ≡ true
  unfolding can_send
  can_send_law q i tail hq head =
      let L = T.links_stand in
      let here = sift_head (λ j. waits_at p q (L.held j)) i tail T.frames (heads n links ws L p q i hp hq tail head) in
      rw (each_first (rw head at (can_leave_law n links ws L p hp q hq))) (header_fits_law i (L.held i) here.0)
