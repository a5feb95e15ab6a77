-- The tests of the five ports as masks of ports: the candidates, those whose state passes, those left; and when masks
-- are those of the rules' tests. Assumes nothing: these are definitions.
use Rattle.std.specs.Prelude.{ℕ, ◌*◌, ◌/◌, ◌^◌, ◌<◌, ◌≡◌, Bool, true, false, not, List, eqb, Result, Ok, if◌then◌else◌}
use Rattle.std.specs.Int.Bits.{bit_and}
use Rattle.rules.specs.Choice.{sift}
use Rattle.rules.specs.Numbers.{all_ports}
use Rattle.rules.specs.Tags.{is_group}
use Rattle.rules.specs.Addresses.{key}
use Rattle.rules.specs.Arguments.{bit}
use Rattle.rules.specs.PortTests.{Test, passes, not_member, arrival, elsewhere, state, queue_off, any_candidate, ports_left}
use Rattle.layout.specs.Bits.{less}
use Rattle.layout.specs.declared.damage.Damaged.{Damaged}
use Rattle.addresses.specs.Search.{look_up}
use Rattle.addresses.specs.declared.LookUp.{LookUp}
use Rattle.addresses.specs.declared.LookUp.TheVariants.{Found, Vacant, Full}
use Rattle.arrival.specs.declared.plan.Masks.{Masks}

-- all five ports, and port 4 alone
abbrev pub every_port : ℕ
every_port = 31

abbrev pub management_mask : ℕ
management_mask = 16

-- the ports of a mask, in ascending order
unfoldable pub ports_in : ℕ → List ℕ
ports_in mask = sift (bit mask) all_ports

-- ---- candidates

-- a group address is not looked up
unfoldable pub destination_look_up : List ℕ → ℕ → ℕ → Result LookUp Damaged
destination_look_up addresses gid address = if is_group address then Ok Full else look_up addresses (key gid address)

-- "a group address, or one not found, has all members as candidates; one found has its port, if a member"
unfoldable pub chosen_mask : LookUp → ℕ
chosen_mask (Found port place) = 2 ^ port
chosen_mask (Vacant place) = every_port
chosen_mask Full = every_port

-- the port that was found is one of the five
pub record ChosenFits (found : LookUp) : Type 0 where
  pub port_there : (port place : ℕ) → found ≡ Found port place → port < 5

-- the members that were chosen, without the arrival port
unfoldable pub candidates_in : ℕ → ℕ → ℕ → ℕ
candidates_in members chosen port = less (bit_and members chosen) (2 ^ port)

-- ---- a candidate's tests: its state, then its queue switch

unfoldable pub masks_of : ℕ → ℕ → ℕ → ℕ → Masks
masks_of candidates states switches queue =
    record {
      candidates = candidates;
      passing = bit_and candidates states;
      left = bit_and (bit_and candidates states) (switches / 2 ^ (8 * queue));
    }

-- ---- the rules' tests by masks

-- taken out by the state; by the queue switch
unfoldable pub is_state_out : Test → Bool
is_state_out passes = false
is_state_out not_member = false
is_state_out arrival = false
is_state_out elsewhere = false
is_state_out state = true
is_state_out queue_off = false

unfoldable pub is_queue_out : Test → Bool
is_queue_out passes = false
is_queue_out not_member = false
is_queue_out arrival = false
is_queue_out elsewhere = false
is_queue_out state = false
is_queue_out queue_off = true

-- a candidate that no other mask has fell by its state, one that passes and is not left by its queue switch
pub record MasksAre (test : ℕ → Test) (m : Masks) : Type 0 where
  pub small : m.left < 32
  pub any : not (eqb m.candidates 0) ≡ any_candidate test
  pub state_out_law : (r : ℕ) → r < 5 → bit (less m.candidates m.passing) r ≡ is_state_out (test r)
  pub queue_out_law : (r : ℕ) → r < 5 → bit (less m.passing m.left) r ≡ is_queue_out (test r)
  pub left : ports_in m.left ≡ ports_left test
