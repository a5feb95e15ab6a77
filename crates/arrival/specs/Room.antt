-- Rules 12 and 13 on link memory: the ports left, the cells and the queues, and the plan that they give. Assumes
-- nothing: these are definitions.
use Rattle.std.specs.Prelude.{ℕ, Bool, true, false, not, List, eqb, Option, Result, Ok, Err, if◌then◌else◌}
use Rattle.rules.specs.Cells.{cells}
use Rattle.rules.specs.declared.reasons.Reason.TheVariants.{NoPortLeft as no_port_left, NoRoom as no_room}
use Rattle.layout.specs.declared.damage.Damaged.{Damaged}
use Rattle.cells.specs.Free.{room_for}
use Rattle.queues.specs.Lists.{all_waiting_in_range}
use Rattle.arrival.specs.declared.plan.Lesson.{Lesson}
use Rattle.arrival.specs.declared.plan.Offer.{Offer}
use Rattle.arrival.specs.declared.plan.Plan.{Plan}
use Rattle.arrival.specs.declared.plan.Plan.TheVariants.{Drop, Queue}

-- "if the frame's cells do not outnumber the free ones": the cells taken, and the words of waiting queues
unfoldable pub room_met : Result Bool Damaged → Bool → Bool
room_met (Err damage) ready = true
room_met (Ok false) ready = false
room_met (Ok true) ready = not ready

-- a port left: free cells, the cells to be taken, the words of waiting queues of all ports
unfoldable pub met_room : ℕ → List ℕ → ℕ → ℕ → Bool
met_room n links long left =
    if eqb left 0 then false else room_met (room_for n (cells long) links) (all_waiting_in_range links)

-- ---- the plan

unfoldable pub with_room : Result Bool Damaged → Bool → Option Lesson → Offer → Result Plan Damaged
with_room (Err damage) ready lesson offer = Err damage
with_room (Ok false) ready lesson offer = Ok (Drop lesson offer.masks no_room)
with_room (Ok true) ready lesson offer = if ready then Ok (Queue lesson offer) else Err (record {})

unfoldable pub plan_offered : ℕ → List ℕ → ℕ → Option Lesson → Offer → Result Plan Damaged
plan_offered n links long lesson offer =
    if eqb offer.masks.left 0
    then Ok (Drop lesson offer.masks no_port_left)
    else with_room (room_for n (cells long) links) (all_waiting_in_range links) lesson offer
