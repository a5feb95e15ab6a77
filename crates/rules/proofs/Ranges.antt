-- The ranges of what a call hands over. Assumes nothing.
use Prim.Native.Nat.{ℕ, ◌^◌, ◌≤◌, ◌<◌}
use mathlib.Core.Path.{◌≡◌}
use mathlib.Core.Logic.{◌↔◌}
use mathlib.Core.Bool.{Bool, true, ◌&&◌}
use lib.Dec.{leb}
use borrow.Author.Tests.{leb-true, le-leb, ltb-true, lt-ltb}
use Rattle.rules.specs.Arguments.{is_vid, is_address, OperationNumbers, operation_in_range, PortNumbers, port_in_range, VlanNumbers, vlan_in_range}
use Rattle.rules.specs.RangeTheorems.{OperationFits, PortFits, VlanFits, RangeTheorems}
use Rattle.rules.proofs.Choice.{and_left, and_right}

both_true : {a b : Bool} → a ≡ true → b ≡ true → (a && b) ≡ true
both_true p q = rw (p, q)

pub vids : (vid : ℕ) → (is_vid vid ≡ true) ↔ ((1 ≤ vid) × (vid ≤ 4094))
unfolding is_vid
vids vid = (
  λ h. (leb-true 1 vid (and_left (leb 1 vid) (leb vid 4094) h), leb-true vid 4094 (and_right (leb 1 vid) (leb vid 4094) h)),
  λ h. both_true (le-leb 1 vid h.0) (le-leb vid 4094 h.1),
)

pub addresses : (address : ℕ) → (is_address address ≡ true) ↔ (address < 2 ^ 48)
unfolding is_address
addresses address = (λ h. ltb-true address (2 ^ 48) h, λ h. lt-ltb address (2 ^ 48) h)

operations : (n : OperationNumbers) → (operation_in_range n ≡ true) ↔ OperationFits n
unfolding operation_in_range
operations n =
    let a = leb n.kind 4 in let b = leb n.type 1 in let c = leb n.vid_source 2 in let d = leb n.pcp_source 2 in
    let e = leb n.vid 4094 in let f = leb n.pcp 7 in let g = leb n.dei 1 in (
      λ h.
          let six = and_left (a && b && c && d && e && f) g h in
          let five = and_left (a && b && c && d && e) f six in
          let four = and_left (a && b && c && d) e five in
          let three = and_left (a && b && c) d four in
          let two = and_left (a && b) c three in
          record {
            kind = leb-true n.kind 4 (and_left a b two);
            type = leb-true n.type 1 (and_right a b two);
            vid_source_law = leb-true n.vid_source 2 (and_right (a && b) c three);
            pcp_source_law = leb-true n.pcp_source 2 (and_right (a && b && c) d four);
            vid = leb-true n.vid 4094 (and_right (a && b && c && d) e five);
            pcp = leb-true n.pcp 7 (and_right (a && b && c && d && e) f six);
            dei = leb-true n.dei 1 (and_right (a && b && c && d && e && f) g h);
          },
      λ h. both_true (both_true (both_true (both_true (both_true (both_true
          (le-leb n.kind 4 h.kind) (le-leb n.type 1 h.type)) (le-leb n.vid_source 2 h.vid_source_law)) (le-leb n.pcp_source 2 h.pcp_source_law))
          (le-leb n.vid 4094 h.vid)) (le-leb n.pcp 7 h.pcp)) (le-leb n.dei 1 h.dei),
    )

ports : (n : PortNumbers) → (port_in_range n ≡ true) ↔ PortFits n
unfolding port_in_range
ports n =
    let a = leb n.state 4 in let b = leb n.assignment 2 in let c = is_vid n.vid in let d = leb n.pcp 7 in
    let e = leb n.dei 1 in let f = leb n.flags 7 in let g = operation_in_range n.operation in (
      λ h.
          let six = and_left (a && b && c && d && e && f) g h in
          let five = and_left (a && b && c && d && e) f six in
          let four = and_left (a && b && c && d) e five in
          let three = and_left (a && b && c) d four in
          let two = and_left (a && b) c three in
          let v = (vids n.vid).0 (and_right (a && b) c three) in
          record {
            state = leb-true n.state 4 (and_left a b two);
            assignment = leb-true n.assignment 2 (and_right a b two);
            vid_least = v.0;
            vid_most = v.1;
            pcp = leb-true n.pcp 7 (and_right (a && b && c) d four);
            dei = leb-true n.dei 1 (and_right (a && b && c && d) e five);
            flags = leb-true n.flags 7 (and_right (a && b && c && d && e) f six);
            operation = (operations n.operation).0 (and_right (a && b && c && d && e && f) g h);
          },
      λ h. both_true (both_true (both_true (both_true (both_true (both_true
          (le-leb n.state 4 h.state) (le-leb n.assignment 2 h.assignment)) ((vids n.vid).1 (h.vid_least, h.vid_most)))
          (le-leb n.pcp 7 h.pcp)) (le-leb n.dei 1 h.dei)) (le-leb n.flags 7 h.flags)) ((operations n.operation).1 h.operation),
    )

vlans : (n : VlanNumbers) → (vlan_in_range n ≡ true) ↔ VlanFits n
unfolding vlan_in_range
vlans n =
    let a = is_vid n.vid in let b = leb n.members 31 in let c = leb n.gid 15 in let d = operation_in_range n.operation in (
      λ h.
          let three = and_left (a && b && c) d h in
          let two = and_left (a && b) c three in
          let v = (vids n.vid).0 (and_left a b two) in
          record {
            vid_least = v.0;
            vid_most = v.1;
            members = leb-true n.members 31 (and_right a b two);
            gid = leb-true n.gid 15 (and_right (a && b) c three);
            operation = (operations n.operation).0 (and_right (a && b && c) d h);
          },
      λ h. both_true (both_true (both_true ((vids n.vid).1 (h.vid_least, h.vid_most)) (le-leb n.members 31 h.members))
          (le-leb n.gid 15 h.gid)) ((operations n.operation).1 h.operation),
    )

pub range_theorems : RangeTheorems
range_theorems = record { vids = vids; addresses = addresses; operations = operations; ports = ports; vlans = vlans }
