-- Links that stand for the waiting traffic go on standing for it as frames come and go. Assumes nothing.
use Prim.Native.Nat.{ℕ, ◌+◌, ◌<◌}
use mathlib.Core.Path.{◌≡◌}
use mathlib.Core.List.{List}
use borrow.Author.Tests.{lt-ltb}
use Rattle.layout.specs.Counting.{times}
use Rattle.machine.specs.Waiting.{Waiting}
use Rattle.standing.specs.Links.{Links, rows_of, Stands}
use Rattle.standing.specs.TrafficTheorems.{TrafficTheorems}
use Rattle.standing.proofs.Linked.{stands_in, stands_out}
use Rattle.standing.proofs.Reading.{list_is_queue, drain_after_send, drain_empty}

cells_once : (n : ℕ) (l : Links) (ws : List Waiting) (S : Stands n l ws) (c : ℕ) → c < n
    → times c l.free + times c (rows_of l.row S.ids) ≡ 1
cells_once n l ws S c h = rw (lt-ltb c n h) at (S.cells c)

pub traffic_theorems : TrafficTheorems
traffic_theorems =
    record {
      cells_once = cells_once;
      list_is_queue = list_is_queue;
      arrival_keeps = λ n l ws S f p ps rest i more cut fit. stands_in n l ws S f p ps rest i more cut fit;
      departure_keeps = λ n l ws S p q i tail hp hq head. stands_out n l ws S p q i hp hq tail head;
      drain_after_send = drain_after_send;
      drain_empty = drain_empty;
    }
