-- What a frame-in comes to, for the proof that memory stands for the machine. `proofs/Theorems.antt` proves it.
-- Assumes nothing: these are definitions.
use Rattle.std.specs.Prelude.{ℕ, ◌≤◌, ◌≡◌, false, List, length}
use Rattle.rules.specs.Tags.{Bytes}
use Rattle.rules.specs.Numbers.{place_count}
use Rattle.rules.specs.Outcomes.{table_after}
use Rattle.addresses.specs.Numbers.{table_of}
use Rattle.frame_in.specs.InRange.{InRange}
use Rattle.frame_in.specs.Met.{met}
use Rattle.frame_in.specs.Call.{facts_in, learned_in}

-- a frame is of bytes, and refusal 2 has been asked
pub record FrameInTheorems (links addresses frame : List ℕ) (port : ℕ) (each : Bytes frame) (there : port ≤ 4) : Type 0
  where
    -- memory in range is never refused with 10
    pub meets_none : InRange links addresses → met links addresses port frame ≡ false
    -- what address memory then says is the rules' table after the frame
    pub table_stands : length addresses ≡ place_count → met links addresses port frame ≡ false
        → table_of (learned_in links addresses port frame)
        ≡ table_after (facts_in links addresses port frame) (table_of addresses)
