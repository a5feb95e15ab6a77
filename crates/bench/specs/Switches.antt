-- The switch of the run as the memories that a history runs on. Assumes nothing: these are definitions.
use Rattle.std.specs.Prelude.{ℕ}
use Rattle.layout.specs.declared.answers.Answer.{Answer}
use Rattle.take_out.specs.Take.{take_call}
use Rattle.gufhrandi.specs.Memories.{Memories}
use Rattle.gufhrandi.specs.Asked.{memories}
use Rattle.gufhrandi.specs.Runs.{on_buffer}
use Rattle.bench.specs.declared.switch.Switch.{Switch}
use Rattle.bench.specs.Carried.{leaving}

abbrev pub memories_of : Switch → Memories
memories_of s = memories s.cells s.links s.addresses

-- what a take comes to
abbrev pub take_of : Switch → ℕ → Answer × Memories
take_of s port = leaving (on_buffer (memories_of s) (take_call s.cells s.links port s.out))
