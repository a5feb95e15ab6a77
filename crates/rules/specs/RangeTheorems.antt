-- The ranges of what a call hands over, said field by field. `proofs/Ranges.antt` proves it. Assumes nothing: these are
-- definitions.
use Rattle.std.specs.Prelude.{ℕ, ◌^◌, ◌≤◌, ◌<◌, ◌≡◌, ◌↔◌, true}
use Rattle.rules.specs.Arguments.{is_vid, is_address, OperationNumbers, operation_in_range, PortNumbers, port_in_range}
use Rattle.rules.specs.Arguments.{VlanNumbers, vlan_in_range}

-- "given VID in an operation: 0 to 4094"; fields are checked for each kind
pub record OperationFits (n : OperationNumbers) : Type 0 where
  pub kind : n.kind ≤ 4
  pub type : n.type ≤ 1
  pub vid_source_law : n.vid_source ≤ 2
  pub pcp_source_law : n.pcp_source ≤ 2
  pub vid : n.vid ≤ 4094
  pub pcp : n.pcp ≤ 7
  pub dei : n.dei ≤ 1

pub record PortFits (n : PortNumbers) : Type 0 where
  pub state : n.state ≤ 4
  pub assignment : n.assignment ≤ 2
  pub vid_least : 1 ≤ n.vid
  pub vid_most : n.vid ≤ 4094
  pub pcp : n.pcp ≤ 7
  pub dei : n.dei ≤ 1
  pub flags : n.flags ≤ 7
  pub operation : OperationFits n.operation

pub record VlanFits (n : VlanNumbers) : Type 0 where
  pub vid_least : 1 ≤ n.vid
  pub vid_most : n.vid ≤ 4094
  pub members : n.members ≤ 31
  pub gid : n.gid ≤ 15
  pub operation : OperationFits n.operation

pub record RangeTheorems : Type 0 where
  pub vids : (vid : ℕ) → (is_vid vid ≡ true) ↔ ((1 ≤ vid) × (vid ≤ 4094))
  pub addresses : (address : ℕ) → (is_address address ≡ true) ↔ (address < 2 ^ 48)
  pub operations : (n : OperationNumbers) → (operation_in_range n ≡ true) ↔ OperationFits n
  pub ports : (n : PortNumbers) → (port_in_range n ≡ true) ↔ PortFits n
  pub vlans : (n : VlanNumbers) → (vlan_in_range n ≡ true) ↔ VlanFits n
