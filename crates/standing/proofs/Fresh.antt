-- A fresh switch's memory stands for no traffic: all cells are free. Assumes nothing.
use Prim.Native.Nat.{ℕ, zero, suc, ◌≤◌, ◌<◌}
use mathlib.Core.Path.{◌≡◌, refl, ap}
use mathlib.Core.Bool.{Bool, true, false}
use mathlib.Core.List.{List, []}
use native.Mathlib.Omega.{arith}
use lib.Dec.{ltb}
use lib.ListN.{length}
use Rattle.layout.specs.Counting.{times, one}
use Rattle.std.specs.Prelude.{if◌then◌else◌}
use Rattle.rules.specs.Choice.{sift, nobody}
use Rattle.rules.specs.Settings.{no_operation}
use Rattle.machine.specs.Waiting.{Waiting, cells_in_use}
use Rattle.layout.specs.Places.{link_words, cell_bytes}
use Rattle.cells.specs.Free.{free_count, first_free}
use Rattle.cells.specs.Sound.{all_waiting, Sound, FreshCells}
use Rattle.cells.proofs.Paths.{length_follow}
use Rattle.cells.proofs.Kept.{waiting_none}
use Rattle.cells.proofs.Fresh.{fresh_sound}
use Rattle.queues.specs.Lists.{waiting_of}
use Rattle.queues.proofs.Fresh.{fresh_list, fresh_all}
use Rattle.queues.proofs.WaitingWords.{words_none}
use Rattle.standing.specs.Links.{rows_of, Stands}
use Rattle.standing.specs.LinkTraffic.{links_in}
use Rattle.standing.specs.Traffic.{Traffic}

one_is : (b : Bool) → one b ≡ (if b then 1 else 0)
one_is true = refl
one_is false = refl

module _ (n : ℕ) (links : List ℕ) (some : 1 ≤ n) (long : link_words n ≤ length links) (fresh : FreshCells n links)
    (empty : (p : ℕ) → p < 5 → waiting_of links p ≡ 0) where
  -- no frame waits, so nobody asks what is held of one
  nobody_waits : ℕ → Waiting
  nobody_waits c =
      record {
        frame = record {
          packet = record { bytes = [] };
          origin = record { tags = []; default = record { pcp = 0; dei = 0; vid = 0 } };
          vlan_operation = no_operation;
          exempt = true;
          queue = 0;
        };
        ports = [];
      }

  none_waiting : (m : ℕ) → m ≤ n → all_waiting n links m ≡ []
  unfolding all_waiting
  none_waiting zero h = refl
  none_waiting (suc m) h = rw (none_waiting m (omega arith), waiting_none n links m (fresh.ports m (omega arith)))

  sound : Sound n links
  sound = fresh_sound n links fresh some

  stands : Stands n (links_in n links nobody_waits) []
  unfolding links_in rows_of cells_in_use sift
  stands =
      record {
        ids = [];
        holds = refl;
        rows = nobody;
        lists = fresh_list n links empty;
        cells = λ c. omega (arith, sound.once c, ap (times c) (none_waiting n (omega arith)), one_is (ltb c n));
        room = omega (arith, length_follow n links (free_count links) (first_free links), fresh.free);
      }

  pub fresh_stands : (cells : List ℕ) → cell_bytes n ≤ length cells → Traffic n cells links []
  unfolding stands
  fresh_stands cells enough =
      record {
        links_stand = record {
          held = nobody_waits;
          stands = stands;
          waits = nobody;
          long = long;
          sound = sound;
          queues = fresh_all n links empty;
          waiting_words = words_none links empty;
        };
        cells_long = enough;
        frames = nobody;
      }
