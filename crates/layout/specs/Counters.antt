-- A counter in link memory, and one event more in it. Assumes nothing: these are definitions.
use Rattle.std.specs.Prelude.{ℕ, ◌+◌, ◌%◌, ◌^◌, List, slice_index, slice_set}
use Rattle.layout.specs.Places.{counter_word}

-- counter `number` of a port
abbrev pub counter_at : List ℕ → ℕ → ℕ → ℕ
counter_at links port number = slice_index links (counter_word port number)

-- "counters are 32 bits and go from the largest value to 0"
abbrev pub bumped : ℕ → ℕ → List ℕ → List ℕ
bumped port number links = slice_set links (counter_word port number) ((counter_at links port number + 1) % 2 ^ 32)
