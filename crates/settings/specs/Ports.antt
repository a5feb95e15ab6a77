-- A port's settings but for its state and its operation in one word: bits 0-1 assignment, 2-4 flags, 5 DEI, 6-8 PCP,
-- 9-20 VID; the rest is 0. A VLAN but for its operation likewise: bits 0-4 members, 5-8 GID, 9-20 VID.
-- VID stands on top of both, so that one comparison, of the word less 512, says that it is 1 to 4,094 and that the
-- unused bits are 0. An assignment 3 reads as 2. Assumes nothing: these are definitions.
use Rattle.std.specs.Prelude.{ℕ, ◌+◌, ◌*◌, ◌/◌, ◌%◌, min, Bool, ◌&&◌, ltb, leb}
use Rattle.rules.specs.Tags.{Header}
use Rattle.rules.specs.Arguments.{OperationNumbers, PortNumbers, VlanNumbers}
use Rattle.settings.specs.Operations.{operation_is}
use Rattle.settings.specs.declared.port.PortSettings.{PortSettings}
use Rattle.settings.specs.declared.vlan.VlanSettings.{VlanSettings}

-- ---- a word with a VID on top

abbrev pub vid_start : ℕ
vid_start = 512

-- 4095 * 512
abbrev pub vid_end : ℕ
vid_end = 2096640

abbrev pub vid_in : ℕ → ℕ
vid_in w = w / 512

abbrev pub pcp_in : ℕ → ℕ
pcp_in w = w / 64 % 8

abbrev pub is_vid_word : ℕ → Bool
is_vid_word w = leb vid_start w && ltb w vid_end

-- ---- a port

abbrev pub port_is : PortSettings → PortNumbers
port_is p =
    record {
      state = p.state;
      assignment = p.assignment;
      vid = p.vid;
      pcp = p.pcp;
      dei = p.dei;
      flags = p.flags;
      operation = operation_is p.operation;
    }

abbrev pub port_word : PortNumbers → ℕ
port_word n = n.assignment + n.flags * 4 + n.dei * 32 + n.pcp * 64 + n.vid * 512

-- with the state and the operation, which stand elsewhere
unfoldable pub port_in : ℕ → OperationNumbers → ℕ → PortNumbers
port_in state operation w =
    record {
      state = state;
      assignment = min (w % 4) 2;
      vid = w / 512;
      pcp = w / 64 % 8;
      dei = w / 32 % 2;
      flags = w / 4 % 8;
      operation = operation;
    }

-- ---- a VLAN

abbrev pub vlan_is : VlanSettings → VlanNumbers
vlan_is v = record { vid = v.vid; members = v.members; gid = v.gid; operation = operation_is v.operation }

abbrev pub vlan_word : VlanNumbers → ℕ
vlan_word n = n.members + n.gid * 32 + n.vid * 512

unfoldable pub vlan_in : OperationNumbers → ℕ → VlanNumbers
vlan_in operation w = record { vid = w / 512; members = w % 32; gid = w / 32 % 16; operation = operation }

-- ---- what a frame's way reads

-- the default header as a frame is stored with it: the word from DEI on
abbrev pub default_in : ℕ → ℕ
default_in w = w / 32

unfoldable pub default_of : ℕ → Header
default_of d = record { pcp = d / 2 % 8; dei = d % 2; vid = d / 16 }

unfoldable pub default_number : Header → ℕ
default_number h = h.dei + h.pcp * 2 + h.vid * 16
