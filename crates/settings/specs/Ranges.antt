-- The rules' ranges, field by field. Assumes nothing: these are definitions.
use Rattle.std.specs.Prelude.{ℕ, ◌≤◌}
use Rattle.rules.specs.Arguments.{OperationNumbers, PortNumbers, VlanNumbers}

pub record OperationRange (n : OperationNumbers) : Type 0 where
  pub kind : n.kind ≤ 4
  pub type : n.type ≤ 1
  pub vid_source : n.vid_source ≤ 2
  pub pcp_source : n.pcp_source ≤ 2
  pub vid : n.vid ≤ 4094
  pub pcp : n.pcp ≤ 7
  pub dei : n.dei ≤ 1

pub record VidRange (vid : ℕ) : Type 0 where
  pub least : 1 ≤ vid
  pub most : vid ≤ 4094

pub record PortRange (n : PortNumbers) : Type 0 where
  pub state : n.state ≤ 4
  pub assignment : n.assignment ≤ 2
  pub vid : VidRange n.vid
  pub pcp : n.pcp ≤ 7
  pub dei : n.dei ≤ 1
  pub flags : n.flags ≤ 7
  pub operation : OperationRange n.operation

pub record VlanRange (n : VlanNumbers) : Type 0 where
  pub vid : VidRange n.vid
  pub members : n.members ≤ 31
  pub gid : n.gid ≤ 15
  pub operation : OperationRange n.operation
