-- Numbers that pass the rules' range tests are in their ranges, field by field. Assumes nothing.
use Rattle.std.proofs.Common.{◌≡◌, ℕ, true, arith}
use Rattle.std.proofs.lemmas.Bool.Decides.{nat_tests}
use Rattle.rules.specs.Arguments.{is_vid, OperationNumbers, operation_in_range, PortNumbers, port_in_range, VlanNumbers, vlan_in_range}
use Rattle.settings.specs.Ranges.{OperationRange, VidRange, PortRange, VlanRange}

pub vid_range : (vid : ℕ) → is_vid vid ≡ true → VidRange vid
unfolding is_vid
vid_range vid e = grind (arith, nat_tests)

pub operation_range : (n : OperationNumbers) → operation_in_range n ≡ true → OperationRange n
unfolding operation_in_range
operation_range n e = grind (arith, nat_tests)

pub port_range : (n : PortNumbers) → port_in_range n ≡ true → PortRange n
unfolding port_in_range
port_range n e = grind (arith, nat_tests, vid_range, operation_range)

pub vlan_range : (n : VlanNumbers) → vlan_in_range n ≡ true → VlanRange n
unfolding vlan_in_range
vlan_range n e = grind (arith, nat_tests, vid_range, operation_range)
