-- What the numbers of a call mean, said field by field. (What a kind, a type, a source, a state, a flag stand for:
-- `NumberTheorems`.) `proofs/Meanings.antt` proves it. Assumes nothing: these are definitions.
use Rattle.std.specs.Prelude.{ℕ, ◌≡◌}
use Rattle.rules.specs.Operations.{Operation}
use Rattle.rules.specs.Settings.{Port, Vlan}
use Rattle.rules.specs.Arguments.{kind_of, type_of, source_of, state_of, bit, OperationNumbers, operation_of}
use Rattle.rules.specs.Arguments.{PortNumbers, port_of, VlanNumbers, vlan_entry}

pub record OperationMeans (n : OperationNumbers) (o : Operation) : Type 0 where
  pub kind : o.kind ≡ kind_of n.kind
  pub type : o.type ≡ type_of n.type
  pub vid_from_law : o.vid_from ≡ source_of n.vid_source
  pub pcp_from_law : o.pcp_from ≡ source_of n.pcp_source
  pub vid : o.header.vid ≡ n.vid
  pub pcp : o.header.pcp ≡ n.pcp
  pub dei : o.header.dei ≡ n.dei

pub record PortMeans (n : PortNumbers) (p : Port) : Type 0 where
  pub state : p.state ≡ state_of n.state
  pub assignment : p.assignment ≡ n.assignment
  pub vid : p.default.vid ≡ n.vid
  pub pcp : p.default.pcp ≡ n.pcp
  pub dei : p.default.dei ≡ n.dei
  -- "bit t bars t decoded tags"
  pub bars : (t : ℕ) → p.bars t ≡ bit n.flags t
  pub operation : OperationMeans n.operation p.operation

pub record VlanMeans (n : VlanNumbers) (v : Vlan) : Type 0 where
  pub vid : v.vid ≡ n.vid
  -- "in a mask, bit p is port p"
  pub member : (p : ℕ) → v.member p ≡ bit n.members p
  pub gid : v.gid ≡ n.gid
  pub operation : OperationMeans n.operation v.operation

pub record MeaningTheorems : Type 0 where
  pub operations : (n : OperationNumbers) → OperationMeans n (operation_of n)
  pub ports : (n : PortNumbers) → PortMeans n (port_of n)
  pub vlans : (n : VlanNumbers) → VlanMeans n (vlan_entry n)
