-- The bench program: where the next record ends. Assumes nothing: these are definitions.
use Rattle.std.specs.Prelude.{ℕ, ◌+◌, Bool, List, eqb, ltb, length, if◌then◌else◌}
use Rattle.records.specs.Reading.{little_endian_at}
use Rattle.records.specs.declared.framing.Next.{Next}
use Rattle.records.specs.declared.framing.Next.TheVariants.{More, Finished, Cut, Whole}

unfoldable pub if_ended : Bool → Next → Next
if_ended ended last = if ended then last else More

-- the length of the record that begins here, counting what follows it
abbrev pub record_length : List ℕ → ℕ
record_length input = little_endian_at input 0

unfoldable pub next_of : List ℕ → Bool → Next
next_of input ended =
    if eqb (length input) 0 then if_ended ended Finished else
    (if ltb (length input) 2 then if_ended ended Cut else
    (if ltb (record_length input) 2 then Cut else
    (if ltb (length input) (2 + record_length input) then if_ended ended Cut else
    Whole (record_length input))))
