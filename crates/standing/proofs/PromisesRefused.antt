-- A call that is its lines and then what it does. Assumes nothing.
use mathlib.Core.Path.{◌≡◌, sym, ap, ◌∙◌}
use Rattle.std.specs.Prelude.{Option, Some as some}
use Rattle.rules.specs.Choice.{Each}
use Rattle.rules.specs.Lines.{first, Fails, FirstOf}
use Rattle.rules.specs.LineTheorems.{InOrder}
use Rattle.rules.specs.Refusals.{Lines, refusal_number}
use Rattle.rules.specs.declared.refusals.Refusal.{Refusal}
use Rattle.rules.proofs.Choice.{on_option}
use Rattle.rules.proofs.Lines.{says_exactly, holds_none, none_holds}
use Rattle.layout.specs.declared.answers.Answer.{Answer}
use Rattle.layout.specs.Answers.{refused_by, or_refused}
use Rattle.standing.specs.Promises.{OfAFunction, Refuses}
use Rattle.standing.proofs.RefusalNumbers.{same_number, number_above_none}

pub of_a_function : {A : Type 0} (promised : A) → OfAFunction promised
of_a_function promised one other e f = e ∙ sym f

module _ {M : Type 0} (lines : Lines) (memory : M) (step : Answer × M) where
  abbrev promised : Answer × M
  promised = or_refused (first lines) memory step

  pub refused_as : (r : Refusal) → FirstOf lines r → promised ≡ (refused_by r, memory)
  refused_as r f = ap (λ (o : Option Refusal). or_refused o memory step) ((says_exactly lines r).1 f)

  module _ (undone : step.0.refusal ≡ 0) where
    first_of : (r : Refusal) → promised.0.refusal ≡ refusal_number r → FirstOf lines r
    first_of r e =
        on_option (first lines)
        (λ n. absurd (number_above_none r (sym undone ∙ (rw n at e))))
        (λ s q. (says_exactly lines r).0 (q ∙ ap some (same_number s r (rw q at e))))

    none_of : promised.0.refusal ≡ 0 → Each Fails lines
    none_of e = on_option (first lines) (holds_none lines) (λ s q. absurd (number_above_none s (sym (rw q at e))))

    pub refuses : InOrder lines → Refuses lines memory promised
    refuses order =
        record {
          in_order = order;
          refused_exactly = λ r. (first_of r, λ f. ap (λ (o : Answer × M). o.0.refusal) (refused_as r f));
          nothing_else = refused_as;
          done_exactly = (none_of, λ h. ap (λ (o : Option Refusal). (or_refused o memory step).0.refusal) (none_holds lines h) ∙ undone);
          of_a_function = of_a_function promised;
        }
