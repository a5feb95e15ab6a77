-- The words of a fresh switch one by one: those of the fixed part, and those of a cell's record. Assumes nothing.
use Rattle.std.proofs.Common.{◌≡◌, ℕ, zero, suc, ◌+◌, ◌*◌, ◌<◌, List, ◌++◌, get_or, ◌∙◌, arith, append_assoc, get_or-append-add}
use Rattle.std.proofs.lemmas.List.{length-replicate, get_or-replicate}
use lib.ListN.{get_or-append}
use Rattle.layout.specs.Places.{counter_word, port_word, port_operation_word, vlan_word, next_word}
use Rattle.settings.specs.Operations.{operation_word}
use Rattle.settings.specs.Ports as Packed
use Rattle.settings.specs.Records.{port_words}
use Rattle.settings.specs.SettingsOf.{fresh_port}
use Rattle.fresh_call.specs.Words.{copies, fresh_switch, fresh_port_record, fresh_ports, fresh_vlans, fresh_next, fresh_cell, fresh_cells, fresh_links}
use Rattle.fresh_call.proofs.Runs.{switch_length, port_length, vlans_length, cell_length, fresh_fixed, fixed_length, parts}

cell_word : (left n cell c k : ℕ) → c < left → k < 20
    → get_or (fresh_cells left n cell) (20 * c + k) 0 ≡ get_or (fresh_cell (fresh_next n (cell + c))) k 0
unfolding fresh_cells
cell_word zero n cell c k h hk = absurd (omega arith)
cell_word (suc left) n cell zero k h hk =
    let same : cell + 0 ≡ cell = omega arith in
    rw same (grind (arith, get_or-append (fresh_cell (fresh_next n cell)) (fresh_cells left n (cell + 1)) 0 k, cell_length))
cell_word (suc left) n cell (suc c) k h hk =
    let later : cell + suc c ≡ cell + 1 + c = omega arith in
    rw later
    (grind (arith, get_or-append-add (fresh_cell (fresh_next n cell)) (fresh_cells left n (cell + 1)) (20 * c + k) 0, cell_length, cell_word left n (cell + 1) c k))

-- word k of the record of cell c
pub fresh_cell_law : (n c k : ℕ) → c < n → k < 20 → get_or (fresh_links n) (next_word c + k) 0 ≡ get_or (fresh_cell (fresh_next n c)) k 0
fresh_cell_law n c k h hk =
    grind (arith, parts, fixed_length, get_or-append-add (fresh_fixed n) (fresh_cells n n 0) (20 * c + k) 0, cell_word n n 0 c k)

-- ---- the VLAN table

pub fresh_table : (n k : ℕ) → k < 352 → get_or (fresh_links n) (vlan_word 0 + k) 0 ≡ get_or fresh_vlans k 0
unfolding fresh_links
fresh_table n k h =
    let rest = fresh_ports 5 ++ fresh_cells n n 0 in
    grind (arith, switch_length, vlans_length, get_or-append-add (fresh_switch n) (fresh_vlans ++ rest) k 0, get_or-append fresh_vlans rest 0 k)

-- ---- a port's record

port_word_law : (left p k : ℕ) (rest : List ℕ) → p < left → k < 128
    → get_or (fresh_ports left ++ rest) (128 * p + k) 0 ≡ get_or fresh_port_record k 0
unfolding fresh_ports
port_word_law zero p k rest h hk = absurd (omega arith)
port_word_law (suc left) zero k rest h hk =
    grind (arith, append_assoc {A = ℕ}, get_or-append fresh_port_record (fresh_ports left ++ rest) 0 k, port_length)
port_word_law (suc left) (suc p) k rest h hk =
    grind (arith, append_assoc {A = ℕ}, get_or-append-add fresh_port_record (fresh_ports left ++ rest) (128 * p + k) 0, port_length, port_word_law left p k rest)

-- word k of the record of port p
pub fresh_record : (n p k : ℕ) → p < 5 → k < 128 → get_or (fresh_links n) (counter_word p k) 0 ≡ get_or fresh_port_record k 0
unfolding fresh_links
fresh_record n p k h hk =
    let ports = fresh_ports 5 ++ fresh_cells n n 0 in
    grind (
      arith,
      switch_length,
      vlans_length,
      get_or-append-add (fresh_switch n) (fresh_vlans ++ ports) (352 + (128 * p + k)) 0,
      get_or-append-add fresh_vlans ports (128 * p + k) 0,
      port_word_law 5 p k (fresh_cells n n 0),
    )

pub fresh_counter : (n p k : ℕ) → p < 5 → k < 32 → get_or (fresh_links n) (counter_word p k) 0 ≡ 0
unfolding fresh_port_record copies
fresh_counter n p k hp hk =
    fresh_record n p k hp (omega arith)
    ∙ get_or-append (copies 32 0) (port_words fresh_port ++ copies 94 0) 0 k (omega (arith, length-replicate {A = ℕ} 32 0))
    ∙ get_or-replicate 32 k 0 0 hk

pub fresh_own : (n p : ℕ) → p < 5 → get_or (fresh_links n) (port_word p) 0 ≡ Packed.port_word fresh_port
unfolding fresh_port_record copies
fresh_own n p h = grind (arith, fresh_record n p 32)

pub fresh_operation_law : (n p : ℕ) → p < 5 → get_or (fresh_links n) (port_operation_word p) 0 ≡ operation_word fresh_port.operation
unfolding fresh_port_record copies
fresh_operation_law n p h = grind (arith, fresh_record n p 33)

-- behind its own words a port's record is 0: no queue waits
pub fresh_rest : (n p k : ℕ) → p < 5 → k < 94 → get_or (fresh_links n) (counter_word p (34 + k)) 0 ≡ 0
unfolding fresh_port_record copies
fresh_rest n p k hp hk =
    let at : 34 + k ≡ 32 + (2 + k) = omega arith in
    fresh_record n p (34 + k) hp (omega arith)
    ∙ rw at (get_or-append-add (copies 32 0) (port_words fresh_port ++ copies 94 0) (2 + k) 0)
    ∙ get_or-append-add (port_words fresh_port) (copies 94 0) k 0
    ∙ get_or-replicate 94 k 0 0 hk
