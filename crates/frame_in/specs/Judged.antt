-- What a plan must be: carried out it does what the rules say; and damage is found exactly if the call meets it. And
-- how far the rules have been followed when a stage begins. Assumes nothing: these are definitions.
use Rattle.std.specs.Prelude.{ℕ, ◌≤◌, ◌≡◌, Bool, true, false, List, length, Result, Ok, Err}
use Rattle.std.specs.Prelude.{None as none}
use Rattle.rules.specs.Lines.{first}
use Rattle.rules.specs.ReasonTable.{reading, rows_of}
use Rattle.layout.specs.Places.{link_words}
use Rattle.layout.specs.Lengths.{cell_count}
use Rattle.layout.specs.declared.damage.Damaged.{Damaged}
use Rattle.arrival.specs.declared.plan.Plan.{Plan}
use Rattle.frame_in.specs.declared.judge.Arriving.{Arriving}
use Rattle.frame_in.specs.Carried.{carried_out, Ready}
use Rattle.frame_in.specs.Met.{met}
use Rattle.frame_in.specs.Call.{facts_in, entered}

-- of a frame that arrives: the memory, the frame, the count of cells and the port
abbrev pub At {ℓ} : {B : Type ℓ} → (List ℕ → List ℕ → List ℕ → ℕ → ℕ → B) → Arriving → B
At says a = says a.links.now a.addresses.now a.frame.now a.n.number a.port.number

-- memory whose lengths were found right, and a port that there is
pub record Lent (links addresses : List ℕ) (n port : ℕ) : Type 0 where
  pub count : n ≡ cell_count links
  pub most : n ≤ 2048
  pub long : length links ≡ link_words n
  pub places : length addresses ≡ 4112
  pub port_there : port ≤ 4

pub record Right (links addresses frame : List ℕ) (n port : ℕ) (plan : Plan) : Type 0 where
  pub unmet : met links addresses port frame ≡ false
  pub ready : Ready n links frame plan
  pub carried : (memory : List ℕ)
      → carried_out n plan port frame memory links addresses ≡ entered port frame memory links addresses

abbrev pub Judged : List ℕ → List ℕ → List ℕ → ℕ → ℕ → Result Plan Damaged → Type 0
Judged links addresses frame n port (Ok plan) = Right links addresses frame n port plan
Judged links addresses frame n port (Err damage) = met links addresses port frame ≡ true

-- past the reasons 1 to 3: what is left to be met
pub record Way (links addresses frame : List ℕ) (n port : ℕ) (meets : Bool) : Type 0 where
  pub lent : Lent links addresses n port
  pub shortest : 60 ≤ length frame
  pub longest : length frame ≤ 4083
  pub meets_is : met links addresses port frame ≡ meets
  pub read : first (rows_of reading (facts_in links addresses port frame)) ≡ none
