-- The numbers of a call mean what their fields say. Assumes nothing.
use mathlib.Core.Path.{refl}
use Rattle.rules.specs.Arguments.{OperationNumbers, operation_of, PortNumbers, port_of, VlanNumbers, vlan_entry}
use Rattle.rules.specs.MeaningTheorems.{OperationMeans, PortMeans, VlanMeans, MeaningTheorems}

operations : (n : OperationNumbers) → OperationMeans n (operation_of n)
unfolding operation_of
operations n = record { kind = refl; type = refl; vid_from_law = refl; pcp_from_law = refl; vid = refl; pcp = refl; dei = refl }

ports : (n : PortNumbers) → PortMeans n (port_of n)
unfolding port_of
ports n =
    record { state = refl; assignment = refl; vid = refl; pcp = refl; dei = refl; bars = λ t. refl; operation = operations n.operation }

vlans : (n : VlanNumbers) → VlanMeans n (vlan_entry n)
unfolding vlan_entry
vlans n = record { vid = refl; member = λ p. refl; gid = refl; operation = operations n.operation }

pub meaning_theorems : MeaningTheorems
meaning_theorems = record { operations = operations; ports = ports; vlans = vlans }
