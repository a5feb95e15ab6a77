-- The facts of a frame at its arrival port: what the frame, the settings, the address table and the free cells give it.
-- They are made once, when it arrives; the reasons, the events and the stored frame read them. Assumes nothing: these
-- are definitions.
use Rattle.std.specs.Prelude.{ℕ, Bool, ◌&&◌, not, List, eqb, ltb, length, if◌then◌else◌}
use Rattle.rules.specs.Numbers.{management_port, bpdu_queue, bpdu_address}
use Rattle.rules.specs.Cells.{cells}
use Rattle.rules.specs.Tags.{Header, Tag, tags_of, destination, source, is_group}
use Rattle.rules.specs.Settings.{PortState, Vlan, Settings, is_there, vlan_of, assigned_vid, queue_pcp, state_for}
use Rattle.rules.specs.Addresses.{Table, LookUp, key}
use Rattle.rules.specs.Addresses as Addresses
use Rattle.rules.specs.PortTests.{Test, is_chosen, port_test, bpdu_test}

-- what the host hands over with a frame, and what stays with it until it leaves
pub record Packet : Type 0 where
  pub bytes : List ℕ

pub record Facts : Type 0 where
  pub packet : Packet
  -- the arrival port
  pub port : ℕ
  -- the decoded tags, outermost first
  pub tags : List Tag
  -- the arrival port's default header
  pub default : Header
  -- the port drops frames with so many tags
  pub barred : Bool
  -- a BPDU that goes to port 4, by the rule of its own
  pub bpdu : Bool
  -- the assigned VID, whether the VLAN table has it, and its entry
  pub vid : ℕ
  pub there : Bool
  pub vlan : Vlan
  pub gid : ℕ
  -- the arrival port's state for this frame
  pub state : PortState
  pub pcp : ℕ
  pub queue : ℕ
  -- the key under which its source is learned
  pub source_key : ℕ
  -- what the look-up of its destination gave, the ports that this chooses, and each port's test
  pub look_up : LookUp
  pub chosen : ℕ → Bool
  pub test : ℕ → Test
  -- its cells outnumber the free ones
  pub outnumbers : Bool

-- "destination 01:80:C2:00:00:00 arriving on a port other than 4, with BPDU handling on"
unfoldable pub is_bpdu : Settings → ℕ → List ℕ → Bool
is_bpdu s p bytes = s.bpdu_handling && not (eqb p management_port) && eqb (destination bytes) bpdu_address

-- `free`: the cells that are free when it arrives
unfoldable pub facts_of : Settings → Table → ℕ → ℕ → Packet → Facts
facts_of s t free p k =
    let bytes = k.bytes in
    let default = (s.port p).default in
    let tags = tags_of bytes in
    let bpdu = is_bpdu s p bytes in
    let vid = assigned_vid (s.port p).assignment default tags in
    let vlan = vlan_of s.vlans vid in
    let gid = vlan.gid in
    let pcp = queue_pcp default tags in
    let queue = if bpdu then bpdu_queue else s.queue_of pcp in
    let look_up = Addresses.look_up t (is_group (destination bytes)) (key gid (destination bytes)) in
    record {
      packet = k;
      port = p;
      tags = tags;
      default = default;
      barred = (s.port p).bars (length tags);
      bpdu = bpdu;
      vid = vid;
      there = is_there s.vlans vid;
      vlan = vlan;
      gid = gid;
      state = state_for s vlan p;
      pcp = pcp;
      queue = queue;
      source_key = key gid (source bytes);
      look_up = look_up;
      chosen = is_chosen look_up;
      test = if bpdu then bpdu_test s else port_test s vlan (is_chosen look_up) p queue;
      outnumbers = ltb free (cells (length bytes));
    }
