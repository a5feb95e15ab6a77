-- What the arrival port gives a frame, by the rules' words: rules 4 to 8, the VID and the queue.
-- Assumes nothing: these are definitions.
use Rattle.std.specs.Prelude.{ℕ, ◌≤◌, ◌≡◌, Bool, ◌&&◌, not, List, [], ◌∷◌, eqb, length, if◌then◌else◌}
use Rattle.rules.specs.Lines.{Line, line, first}
use Rattle.rules.specs.Numbers.{barred_vid, management_port, bpdu_address}
use Rattle.rules.specs.Tags.{Tag, tags_of, destination}
use Rattle.rules.specs.Settings.{Port, is_blocking, is_listening, assigned_vid, queue_pcp}
use Rattle.rules.specs.Arguments.{OperationNumbers, port_of}
use Rattle.rules.specs.declared.reasons.Reason.{Reason}
use Rattle.rules.specs.declared.reasons.Reason.TheVariants.{TagCount as tag_count, PortBlocking as port_blocking, PortListening as port_listening, Vid4095 as vid4095, NoVlan as no_vlan}
use Rattle.settings.specs.Ports.{port_in, default_of}
use Rattle.settings.specs.States.{state_in}
use Rattle.settings.specs.Maps.{bpdu_in, queue_in}
use Rattle.arrival.specs.declared.entering.Arrival.{Arrival}
use Rattle.arrival.specs.declared.entering.Told.{Told}

-- a BPDU to port 4, by the word of the queue map
abbrev pub is_bpdu_by : ℕ → ℕ → List ℕ → Bool
is_bpdu_by map port frame = bpdu_in map && not (eqb port management_port) && eqb (destination frame) bpdu_address

-- the port that its word and that of the states give, with any operation
abbrev pub port_by : ℕ → ℕ → ℕ → OperationNumbers → Port
port_by word states port operation = port_of (port_in (state_in states port) operation word)

-- 4 to 6
unfoldable pub port_rules : Port → ℕ → List (Line Reason)
port_rules port count =
    line tag_count (port.bars count)
    ∷ line port_blocking (is_blocking port.state)
    ∷ line port_listening (is_listening port.state)
    ∷ []

-- 7 or 8
unfoldable pub absent_reason : ℕ → Reason
absent_reason vid = if eqb vid barred_vid then vid4095 else no_vlan

-- "0: the default VID. 1: the outermost tag's. 2: the second tag's"; "PCP of the outermost tag, else the port's default
-- PCP"
pub record ToldIs (port : Port) (tags : List Tag) (t : Told) : Type 0 where
  pub vid : t.vid ≡ assigned_vid port.assignment port.default tags
  pub pcp : t.pcp ≡ queue_pcp port.default tags

-- `map`: the word of the queue map
pub record ArrivalIs (port : Port) (map : ℕ) (frame : List ℕ) (a : Arrival) : Type 0 where
  pub default : default_of a.default ≡ port.default
  pub pcp_small : queue_pcp port.default (tags_of frame) ≤ 7
  pub queue : a.queue.number ≡ queue_in map (queue_pcp port.default (tags_of frame))
  pub vid : a.vid ≡ assigned_vid port.assignment port.default (tags_of frame)
  pub barred : a.barred ≡ first (port_rules port (length (tags_of frame)))
