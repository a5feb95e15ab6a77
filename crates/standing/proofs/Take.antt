-- The call take follows the machine. Assumes nothing.
use Prim.Native.Nat.{ℕ, ◌<◌}
use mathlib.Core.Path.{◌≡◌, refl}
use mathlib.Core.Bool.{true, false, ◌&&◌}
use mathlib.Core.List.{List, ◌∷◌}
use Rattle.std.specs.Prelude.{None as none, Some as some}
use native.Mathlib.Omega.{arith}
use lib.Dec.{ltb}
use lib.ListN.{length}
use borrow.Author.Tests.{ltb-false}
use Rattle.rules.specs.Lines.{first}
use Rattle.rules.specs.Refusals.{take_lines}
use Rattle.rules.specs.Numbers.{management_port}
use Rattle.rules.proofs.Choice.{on, each_first}
use Rattle.rules.proofs.Lines.{holds_none}
use Rattle.machine.specs.Events.{sends, tally}
use Rattle.rules.specs.Requests.{TakeRequest}
use Rattle.machine.specs.State.{State, take}
use Rattle.machine.specs.TakeOut.{leaving_bytes, taken, take_step}
use Rattle.machine.specs.TakeOut as Machine
use Rattle.machine.specs.Machine.{lines_of, carry_out, next}
use Rattle.layout.specs.Lengths.{cell_count, links_fit, cells_fit}
use Rattle.queues.specs.Lists.{list_of}
use Rattle.take_out.specs.Serving.{served}
use Rattle.take_out.specs.Frames.{frame_of, frame_at}
use Rattle.take_out.specs.Take.{leaving_at, sent_from, taken_frame, damaged_in, taken_from, take_refusals, take_by, take_call}
use Rattle.gufhrandi.specs.Memories.{Memories}
use Rattle.standing.specs.Stands.{Stands}
use Rattle.gufhrandi.specs.Runs.{on_buffer, run}
use Rattle.standing.specs.Follows.{Handed, numbers_of, handed_back, Follows, CallFollows}
use Rattle.standing.proofs.Answers.{lines_between, follows_by}
use Rattle.standing.proofs.Departing.{departing}
use Rattle.standing.proofs.Settled.{some_cells}
use Rattle.standing.proofs.Serving.{on_served}
use Rattle.standing.proofs.Sending.{can_send_law}

take_port : (c : TakeRequest) → first (take_lines c) ≡ none → c.port < 5
unfolding take_lines
take_port c e = omega (arith, ltb-false management_port c.port (each_first (holds_none _ e)))

module _ (m : Memories) (s : State) (S : Stands m s) (p : ℕ) (buffer : List ℕ) where
  abbrev n : ℕ
  n = s.cell_count

  -- ---- the lines

  undamaged : p < 5 → damaged_in m.cells n m.links p (served n p m.links) ≡ false
  unfolding damaged_in
  undamaged hp =
      on_served m.cells m.links s S.traffic (some_cells m s S) p hp
      (λ a b. rw a)
      (λ q i tail hq head a b. rw (a, can_send_law n m.cells m.links s.core.waiting S.traffic p hp (S.settings.in_range.operations p hp) q i tail hq head))

  same_lines : first (take_refusals m.cells m.links p buffer (served n p m.links)) ≡ first (take_lines (record { port = p; buffer = length buffer }))
  unfolding take_refusals take_lines first
  same_lines =
      let fits : links_fit m.links && cells_fit m.cells m.links ≡ true = rw (S.links_fit_law, S.cells_fit_law) in
      on (ltb management_port p)
      (λ e. rw (fits, e))
      (λ e. rw S.cell_count_law (lines_between (take_lines (record { port = p; buffer = length buffer })) fits (undamaged (omega (arith, ltb-false management_port p e)))))

  -- ---- what is done

  same_leaving : (q i : ℕ) → leaving_at n m.cells m.links p q i ≡ leaving_bytes s.core.settings p (frame_at n m.cells m.links i q)
  unfolding leaving_at
  same_leaving q i = rw S.settings.says

  frame_sent : p < 5 → (q i : ℕ) (tail : List ℕ) → q < 4 → list_of n m.links p q ≡ i ∷ tail
      → Follows (on_buffer m (taken_frame m.cells n m.links p buffer q i)) buffer s (taken s p (some (frame_at n m.cells m.links i q)))
  unfolding taken_frame sent_from taken numbers_of handed_back next tally frame_of
  frame_sent hp q i tail hq head =
      record {
        same_answer = rw (same_leaving q i);
        same_bytes = rw (same_leaving q i);
        stands_kept = departing m s S p q i hp hq tail head (sends p (frame_at n m.cells m.links i q)) refl;
      }

  take_done : p < 5 → Follows (on_buffer m (taken_from m.cells n m.links p buffer (served n p m.links))) buffer s (taken s p (Machine.served s p))
  unfolding taken_from taken numbers_of handed_back next tally
  take_done hp =
      on_served m.cells m.links s S.traffic (some_cells m s S) p hp
      (λ a b. rw (a, b) (record { same_answer = refl; same_bytes = refl; stands_kept = S }))
      (λ q i tail hq head a b. rw (a, b) (frame_sent hp q i tail hq head))

pub take_follows : (c : TakeRequest) → CallFollows (take c)
unfolding run take_call take_by Handed lines_of carry_out take_step
take_follows c m s S buffer handed =
    let p = c.port in
    let serving = served (cell_count m.links) p m.links in
    follows_by m s S (take c) buffer
    (m.links, buffer)
    (taken_from m.cells (cell_count m.links) m.links p buffer serving)
    (on_buffer m)
    (λ r. refl)
    (first (take_refusals m.cells m.links p buffer serving))
    (rw (S.cell_count_law, handed) (same_lines m s S p buffer))
    (λ e. rw S.cell_count_law (take_done m s S p buffer (take_port c e)))
