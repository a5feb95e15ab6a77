-- What a session has read and written is what the reader gave and what the writer took. Assumes nothing.
use Rattle.std.proofs.Common.{◌≡◌, ℕ, true, List, [], ◌∷◌, ◌++◌, length, None, Some, IfSome, sym, refl, ap, ◌∙◌, subst, append-nil, length-append, arith, Option}
use Rattle.std.proofs.lemmas.List.{append_cancel_left}
use Rattle.std.specs.Io.KnownBytes.{Consumes, Appends, IsAtEnd}
use Rattle.std.proofs.KnownBytes.{Consumes-nil, Consumes-trans, Consumes-whole, Appends-nil, Appends-trans}
use Rattle.bench.specs.Outside.{Outside, Moved}
use Rattle.bench.specs.Sessions.{Session, Action, write, bring, no_more, unread, finish, cut, play, acted, read_by, written_by}

-- nothing is read and nothing written
pub still : (around : Outside) → Moved around around [] []
still around = record { read = Consumes-nil around.left; wrote = Appends-nil around.held }

-- ---- an action adds to what came and to what was handed over

came_on : (a : Action) (s : Session) → s.came ++ read_by a ≡ (acted a s).came
unfolding acted
came_on (write n) s = append-nil s.came
came_on (bring bytes) s = refl
came_on no_more s = append-nil s.came
came_on unread s = append-nil s.came
came_on finish s = append-nil s.came
came_on cut s = append-nil s.came
came_on (play long out) s = append-nil s.came

handed_on : (a : Action) (s : Session) → s.handed ++ written_by a s ≡ (acted a s).handed
unfolding acted
handed_on (write n) s = refl
handed_on (bring bytes) s = append-nil s.handed
handed_on no_more s = append-nil s.handed
handed_on unread s = append-nil s.handed
handed_on finish s = append-nil s.handed
handed_on cut s = append-nil s.handed
handed_on (play long out) s = append-nil s.handed

pub moved_on : (a : Action) (s : Session) (was now then : Outside) → Moved was now s.came s.handed → Moved now then (read_by a) (written_by a s)
    → Moved was then (acted a s).came (acted a s).handed
moved_on a s was now then before step =
    record {
      read = subst (Consumes was.left then.left) (came_on a s) (Consumes-trans was.left now.left then.left s.came (read_by a) before.read step.read);
      wrote = subst (Appends was.held then.held) (handed_on a s) (Appends-trans was.held now.held then.held s.handed (written_by a s) before.wrote step.wrote);
    }

-- ---- the end of the input is met only when all of it was read

-- these bytes are all that the reader had left
abbrev pub IsAll : Option (List ℕ) → List ℕ → Type 0
IsAll left came = IfSome left (λ bytes. bytes ≡ came)

-- where all was read, no more is
all_more : (was now : Option (List ℕ)) (came more : List ℕ) → IsAll was came → Consumes was now (came ++ more) → IsAll was (came ++ more)
all_more None now came more h c = tt
all_more (Some x) None came more h c = absurd c
all_more (Some x) (Some y) came [] h c = h ∙ sym (append-nil came)
all_more (Some x) (Some y) came (b ∷ more) h c = absurd (omega (arith, simp length-append at (ap length (sym h ∙ c))))

pub all_on : (a : Action) (s : Session) (was then : Outside) → Moved was then (acted a s).came (acted a s).handed
    → (a ≡ no_more → IsAtEnd then.left) → (s.ended ≡ true → IsAll was.left s.came) → (acted a s).ended ≡ true
    → IsAll was.left (acted a s).came
unfolding acted
all_on (write n) s was then moved end h over = h over
all_on (bring bytes) s was then moved end h over = all_more was.left then.left s.came bytes (h over) moved.read
all_on no_more s was then moved end h over = Consumes-whole was.left then.left s.came (λ (bytes : List ℕ). bytes ≡ s.came) moved.read (end refl) refl
all_on unread s was then moved end h over = h over
all_on finish s was then moved end h over = h over
all_on cut s was then moved end h over = h over
all_on (play long out) s was then moved end h over = h over

-- what holds of what came, whatever is still to come, holds of all that the reader had
pub of_all : (was now : Option (List ℕ)) (came : List ℕ) (Ended : Type 0) (P : List ℕ → Type 0) → Consumes was now came
    → (Ended → IsAll was came) → ((more : List ℕ) → (Ended → more ≡ []) → P (came ++ more)) → IfSome was P
of_all None now came Ended P c all holds = tt
of_all (Some x) None came Ended P c all holds = absurd c
of_all (Some x) (Some y) came Ended P c all holds =
    subst P (sym c) (holds y (λ e. append_cancel_left came y [] (sym c ∙ (all e ∙ sym (append-nil came)))))
