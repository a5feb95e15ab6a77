-- The numbers, computed. Assumes nothing.
use mathlib.Core.Path.{refl}
use Rattle.rules.specs.Reasons.{reason_number}
use Rattle.rules.specs.Counters.{counter_number}
use Rattle.rules.specs.Arguments.{kind_of, type_of, source_of, state_of, bit, flag}
use Rattle.rules.specs.NumberTheorems.{NumberTheorems}

pub number_theorems : NumberTheorems
unfolding reason_number counter_number state_of kind_of type_of source_of flag bit
number_theorems =
    record {
      reasons = refl;
      counters = refl;
      reason_counters = refl;
      states = refl;
      kinds = refl;
      types = refl;
      sources = refl;
      flags = refl;
      bits = refl;
      places = refl;
      spares_from = refl;
    }
