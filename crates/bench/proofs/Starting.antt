-- The run starts on a fresh switch of 200 cells. Assumes nothing.
use Rattle.std.proofs.Common.{◌≡◌, ℕ, true, List, [], length, sym, ap}
use Rattle.layout.specs.declared.answers.Answer.{Answer}
use Rattle.fresh_call.specs.Calls.{lengths_fit, fresh_call}
use Rattle.gufhrandi.specs.Memories.{Done}
use Rattle.gufhrandi.specs.Runs.{on_all}
use Rattle.gufhrandi.specs.Asked.{memories, came_to}
use Rattle.standing.specs.Histories.{fits}
use Rattle.bench.specs.SessionTheorems.{Fresh}

module _ (cells links addresses : List ℕ) (a : length cells ≡ 16000) (b : length links ≡ 5024) (c : length addresses ≡ 4112) where
  lengths_fit_law : fits (memories cells links addresses) ≡ true
  unfolding lengths_fit
  lengths_fit_law = rw (a, b, c)

  pub starts_fresh : (r : Answer) (words numbers : List ℕ)
      → came_to r [] (memories cells words numbers) ≡ on_all [] (fresh_call cells links addresses) → Fresh (memories cells words numbers)
  starts_fresh r words numbers e =
      record { lent = memories cells links addresses; fit = lengths_fit_law; count = rw a; are = sym (ap (λ (d : Done). d.memories) e) }
