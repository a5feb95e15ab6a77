-- A record that is carried out over memory answers as the machine does, and the memories stand for the machine's state
-- then. Assumes nothing.
use Rattle.std.proofs.Common.{◌≡◌, ℕ, List, length, drop, refl, subst, Result, Ok, Err}
use Rattle.rules.specs.Tags.{Bytes}
use Rattle.rules.specs.Cells.{largest_result}
use Rattle.rules.proofs.ByteLists.{drop_bytes}
use Rattle.machine.specs.State.{State}
use Rattle.machine.specs.Machine.{perform, next}
use Rattle.layout.specs.declared.answers.Answer.{Answer}
use Rattle.rules.specs.declared.refusals.Refusal.{Refusal}
use Rattle.settings.specs.declared.call.Call.{Call}
use Rattle.gufhrandi.specs.Memories.{Memories}
use Rattle.gufhrandi.specs.Runs.{run}
use Rattle.gufhrandi.specs.Asked.{asked}
use Rattle.standing.specs.Stands.{Stands}
use Rattle.standing.specs.Follows.{numbers_of}
use Rattle.standing.proofs.Theorems.{follows}
use Rattle.standing.proofs.Asking.{asked_handed}
use Rattle.bench.specs.Carried.{carried_out}
use Rattle.bench.specs.Told.{answered}

pub record Carries (done : Answer × Memories) (reply : Answer × State) : Type 0 where
  pub same_answer : done.0 ≡ reply.0
  pub stands_kept : Stands done.1 reply.1

module _ (m : Memories) (s : State) (stands : Stands m s) (out bytes : List ℕ) (room : length out ≡ largest_result)
    (all : Bytes bytes)
  where
    pub carried_follows : (request : Result Call Refusal) → Carries (carried_out m out bytes request) (answered s bytes request)
    unfolding carried_out answered
    carried_follows (Ok call) =
        let frame : List ℕ = drop 3 bytes in
        let f = follows (asked frame (length out) call) m s stands out (asked_handed frame out call (drop_bytes 3 bytes all)) in
        record {
          same_answer = subst (λ (n : ℕ). (run m (asked frame (length out) call) out).answer ≡ numbers_of (perform s (asked frame n call)).answer) room
              f.same_answer;
          stands_kept = subst (λ (n : ℕ). Stands (run m (asked frame (length out) call) out).memories (next s (perform s (asked frame n call)))) room
              f.stands_kept;
        }
    carried_follows (Err refusal) = record { same_answer = refl; stands_kept = stands }
