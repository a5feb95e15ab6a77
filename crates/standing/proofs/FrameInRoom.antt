-- Memory that stands for a state meets no refusal 10 in a frame-in, and has as many free cells as the machine. Assumes nothing.
use Prim.Native.Nat.{ℕ, ◌≤◌}
use mathlib.Core.Path.{◌≡◌, sym, ◌∙◌}
use mathlib.Core.List.{List}
use native.Mathlib.Omega.{arith}
use lib.Dec.{leb}
use borrow.Author.Tests.{leb-true, leb-false}
use Rattle.rules.proofs.Choice.{on}
use Rattle.machine.specs.State.{State, free_cells}
use Rattle.cells.specs.Free.{free_count, room_for}
use Rattle.cells.specs.Sound.{Sound}
use Rattle.std.specs.Prelude.{Bool, true, false, Result, Ok as ok, Err as err}
use Rattle.layout.specs.declared.damage.Damaged.{Damaged}
use Rattle.cells.proofs.Room.{room_enough, room_none}
use Rattle.standing.specs.LinkTraffic.{LinkTraffic}
use Rattle.standing.proofs.Arrivals.{free_room}
use Rattle.frame_in.specs.InRange.{InRange}
use Rattle.gufhrandi.specs.Memories.{Memories}
use Rattle.standing.specs.Stands.{Stands}

-- an answer is no damage
no_damage : (enough : Bool) → ◌≡◌ {A = Result Bool Damaged} (ok enough) (err (record {})) → ⊥
no_damage enough e = let z : ◌≡◌ {A = ℕ} 0 1 = cc in omega arith

module _ (n : ℕ) (links : List ℕ) (sound : Sound n links) where
  -- enough are free, or too few
  room_by : (k : ℕ) {C : Type 0} → (k ≤ free_count links → C) → (room_for n k links ≡ ok false → C) → C
  room_by k yea nay =
      on (leb k (free_count links))
      (λ e. yea (leb-true k (free_count links) e))
      (λ e. nay (room_none n links sound k (leb-false k (free_count links) e)))

  room_whole : (k : ℕ) → room_for n k links ≡ err (record {}) → ⊥
  room_whole k e = room_by k (λ h. no_damage true (sym (room_enough n links sound k h) ∙ e)) (λ h. no_damage false (sym h ∙ e))

module _ (m : Memories) (s : State) (S : Stands m s) where
  abbrev L : LinkTraffic s.cell_count m.links s.core.waiting
  L = S.traffic.links_stand

  -- "all cells less those of the waiting frames"
  pub free_is : free_count m.links ≡ free_cells s
  unfolding free_cells
  free_is = omega (arith, free_room s.cell_count m.links s.core.waiting L)

  pub meets_in_range : InRange m.links m.addresses
  meets_in_range =
      let good = S.settings.in_range in
      record {
        map = good.map;
        switches = good.switches;
        states = good.states;
        ports = good.ports;
        vlan_count_law = good.vlan_count_law;
        vlans = good.vlans;
        vlan_operations = good.vlan_operations;
        places = S.addresses.in_range;
        cells = rw S.cell_count_law (λ k e. room_whole s.cell_count m.links L.sound k e);
        queues = L.waiting_words;
      }
