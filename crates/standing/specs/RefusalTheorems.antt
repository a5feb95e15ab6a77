-- Every call over lent memories, whatever they hold, is refused exactly by its lines. `proofs/Refused.antt` proves it.
-- Assumes nothing: these are definitions.
use Rattle.std.specs.Prelude.{ℕ, ◌≡◌, ◌↔◌, false, List}
use Rattle.rules.specs.Choice.{Each}
use Rattle.rules.specs.Lines.{Fails, FirstOf}
use Rattle.rules.specs.LineTheorems.{InOrder}
use Rattle.rules.specs.Refusals.{refusal_number}
use Rattle.rules.specs.declared.refusals.Refusal.{Refusal}
use Rattle.rules.specs.declared.refusals.Refusal.TheVariants.{MemoryLength as memory_length}
use Rattle.machine.specs.State.{Call}
use Rattle.layout.specs.Answers.{refused_by}
use Rattle.gufhrandi.specs.Memories.{Memories, Done}
use Rattle.gufhrandi.specs.Runs.{run}
use Rattle.standing.specs.Lines.{lines_on, fits_for}

-- the answer, and nothing changed: neither the memories nor the lent buffer
abbrev pub unchanged : Refusal → Memories → List ℕ → Done
unchanged r m buffer = record { answer = refused_by r; buffer = buffer; memories = m }

pub record RefusedExactly (m : Memories) (c : Call) (buffer : List ℕ) : Type 0 where
  pub in_order : InOrder (lines_on m c buffer)
  pub refused_exactly : (r : Refusal)
      → ((run m c buffer).answer.refusal ≡ refusal_number r) ↔ FirstOf (lines_on m c buffer) r
  pub nothing_else : (r : Refusal) → FirstOf (lines_on m c buffer) r → run m c buffer ≡ unchanged r m buffer
  pub done_exactly : ((run m c buffer).answer.refusal ≡ 0) ↔ Each Fails (lines_on m c buffer)
  -- "a lent memory has no length listed above, or not the one that the fresh call got": 1 comes before every other
  pub misfit_is_one : fits_for m c ≡ false → run m c buffer ≡ unchanged memory_length m buffer
