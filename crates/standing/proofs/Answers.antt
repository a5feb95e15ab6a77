-- Memory that stands for a state is refused by the lines by which the machine refuses, and a refusal keeps it standing. Assumes nothing.
use Prim.Native.Nat.{ℕ}
use mathlib.Core.Path.{◌≡◌, refl, ◌∙◌}
use mathlib.Core.Bool.{Bool, true, false}
use mathlib.Core.List.{List, [], ◌∷◌, ◌++◌}
use Rattle.std.specs.Prelude.{Option, None as none}
use Rattle.rules.specs.Lines.{first}
use Rattle.rules.specs.Refusals.{Lines}
use Rattle.rules.specs.declared.refusals.Refusal.{Refusal}
use Rattle.rules.proofs.Choice.{on, on_option}
use Rattle.machine.specs.Events.{tally}
use Rattle.machine.specs.State.{State, Call}
use Rattle.machine.specs.Machine.{lines_of, carry_out, refusing, unless_refused, perform, next}
use Rattle.layout.specs.declared.answers.Answer as Lent
use Rattle.layout.specs.Answers.{refused_by, length_line, damage_line, or_refused}
use Rattle.gufhrandi.specs.Memories.{Memories, Done}
use Rattle.standing.specs.Stands.{Stands}
use Rattle.standing.specs.Follows.{numbers_of, handed_back, Follows}

-- ---- lines 1 and 10 do not hold

last_fails : (ls : Lines) {damaged : Bool} → damaged ≡ false → first (ls ++ (damage_line damaged ∷ [])) ≡ first ls
unfolding first
last_fails [] h = rw h
last_fails (l ∷ ls) h = on l.holds (λ e. rw e) (λ e. rw e (last_fails ls h))

pub lines_alone : (ls : Lines) {fits : Bool} → fits ≡ true → first (length_line fits ∷ ls) ≡ first ls
unfolding first
lines_alone ls h = rw h

pub lines_between : (ls : Lines) {fits damaged : Bool} → fits ≡ true → damaged ≡ false
    → first (length_line fits ∷ (ls ++ (damage_line damaged ∷ []))) ≡ first ls
lines_between ls h d = lines_alone (ls ++ (damage_line _ ∷ [])) h ∙ last_fails ls d

-- ---- a call by its lines

refused_follows : (m : Memories) (s : State) → Stands m s → (buffer : List ℕ) (r : Refusal)
    → Follows (record { answer = refused_by r; buffer = buffer; memories = m }) buffer s (refusing s r)
unfolding refusing numbers_of handed_back next tally
refused_follows m s S buffer r = record { same_answer = refl; same_bytes = refl; stands_kept = S }

-- `memory`: what the call was lent; `done`: how its answer and that memory make what the call comes to
pub follows_by : (m : Memories) (s : State) → Stands m s → (c : Call) (buffer : List ℕ)
    {M : Type 0} (memory : M) (step : Lent.Answer × M) (done : Lent.Answer × M → Done)
    → ((r : Refusal) → done (refused_by r, memory) ≡ record { answer = refused_by r; buffer = buffer; memories = m })
    → (o : Option Refusal) → o ≡ first (lines_of s c)
    → (first (lines_of s c) ≡ none → Follows (done step) buffer s (carry_out s c))
    → Follows (done (or_refused o memory step)) buffer s (perform s c)
unfolding perform unless_refused
follows_by m s S c buffer memory step done refusal o same doing =
    rw same
    (on_option (first (lines_of s c))
    (λ e. rw e (doing e))
    (λ r e. rw e (rw (refusal r) (refused_follows m s S buffer r))))
