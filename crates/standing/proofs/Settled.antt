-- A call that writes words of settings and nothing else leaves memories that stand for the state with those settings. Assumes nothing.
use Prim.Native.Nat.{ℕ, ◌+◌, ◌≤◌, ◌<◌}
use mathlib.Core.Path.{◌≡◌, refl, ◌∙◌}
use mathlib.Core.List.{List}
use Rattle.std.specs.Prelude.{Option, None as none}
use native.Mathlib.Omega.{arith}
use lib.ListN.{length}
use lib.Seq.{sets, length-sets}
use Rattle.slices.proofs.Runs.{get_d_sets_before}
use Rattle.rules.specs.Lines.{first}
use Rattle.rules.specs.Settings.{Settings}
use Rattle.rules.specs.Arguments.{PortNumbers}
use Rattle.rules.specs.declared.refusals.Refusal.{Refusal}
use Rattle.machine.specs.Events.{tally}
use Rattle.machine.specs.State.{State, Call}
use Rattle.machine.specs.SettingCalls.{silently, settle}
use Rattle.machine.specs.Machine.{lines_of, carry_out, perform, next}
use Rattle.layout.specs.Places.{fixed_words, free_count_word, first_free_word, port_record}
use Rattle.layout.specs.Same.{CellsSame, QueuesSame}
use Rattle.layout.proofs.Stores.{cells_then, queues_then}
use Rattle.layout.specs.Lengths.{cell_count}
use Rattle.layout.specs.Answers.{done_with, or_refused}
use Rattle.layout.proofs.Fits.{links_fit_law}
use Rattle.settings.specs.Records.{port_written}
use Rattle.settings.proofs.RecordLaws.{port_length, port_keeps}
use Rattle.settings.proofs.CounterLaws.{counter_at, setting_keeps_counters, port_keeps_counters}
use Rattle.settings.proofs.SameLaws.{queues_kept, cells_kept_after, cells_kept_before, port_keeps_queues, port_keeps_cells}
use Rattle.gufhrandi.specs.Memories.{Memories}
use Rattle.standing.specs.Stands.{SettingsStand, Stands}
use Rattle.gufhrandi.specs.Runs.{on_links}
use Rattle.standing.specs.Follows.{numbers_of, handed_back, Follows}
use Rattle.standing.proofs.Answers.{follows_by}
use Rattle.standing.proofs.Kept.{fit_same, cells_fit_same, traffic_same}

-- the words of the settings and of the counters are there
pub links_long : (m : Memories) (s : State) → Stands m s → fixed_words ≤ length m.links
links_long m s S = omega (arith, (links_fit_law m.links S.links_fit_law).long)

pub some_cells : (m : Memories) (s : State) → Stands m s → 1 ≤ s.cell_count
some_cells m s S = omega (arith, (links_fit_law m.links S.links_fit_law).fewest, S.cell_count_law)

-- what a write of settings leaves alone
pub record OnlySet (l m : List ℕ) : Type 0 where
  pub long : length m ≡ length l
  pub cell_count_law : cell_count m ≡ cell_count l
  pub counters : (p k : ℕ) → k < 32 → counter_at m p k ≡ counter_at l p k
  pub cells : CellsSame l m
  pub queues : QueuesSame l m

-- settings stand before the free cells' two words and behind them
module _ (l : List ℕ) (at : ℕ) (ws : List ℕ) where
  pub set_before : 1 ≤ at → at + length ws ≤ free_count_word → OnlySet l (sets l at ws)
  set_before first last =
      record {
        long = length-sets l at ws;
        cell_count_law = get_d_sets_before l at ws 0 0 first;
        counters = λ p k hk. setting_keeps_counters l at ws (omega arith) p k;
        cells = cells_kept_after l at ws last;
        queues = queues_kept l at ws (omega arith);
      }

  pub set_behind : first_free_word < at → at + length ws ≤ port_record 0 → OnlySet l (sets l at ws)
  set_behind first last =
      record {
        long = length-sets l at ws;
        cell_count_law = get_d_sets_before l at ws 0 0 (omega arith);
        counters = λ p k hk. setting_keeps_counters l at ws last p k;
        cells = cells_kept_before l at ws first (omega arith);
        queues = queues_kept l at ws last;
      }

-- and a port's in its record and among the states
pub set_port : (l : List ℕ) (p : ℕ) (n : PortNumbers) → p < 5 → OnlySet l (port_written l p n)
set_port l p n h =
    record {
      long = port_length l p n;
      cell_count_law = port_keeps l p n 0 (λ e. omega arith) (λ e. omega arith) (λ e. omega arith);
      counters = λ q k hk. port_keeps_counters l p n q k hk;
      cells = port_keeps_cells l p n h;
      queues = port_keeps_queues l p n h;
    }

pub set_then : {l m n : List ℕ} → OnlySet l m → OnlySet m n → OnlySet l n
set_then a b =
    record {
      long = b.long ∙ a.long;
      cell_count_law = b.cell_count_law ∙ a.cell_count_law;
      counters = λ p k h. b.counters p k h ∙ a.counters p k h;
      cells = cells_then a.cells b.cells;
      queues = queues_then a.queues b.queues;
    }

settled : (m : Memories) (s : State) → Stands m s → (buffer links : List ℕ) (new : Settings)
    → OnlySet m.links links → SettingsStand links new
    → Follows (on_links m buffer (done_with 0 0, links)) buffer s (settle s new)
unfolding settle silently numbers_of handed_back next tally
settled m s S buffer links new only stands =
    record {
      same_answer = refl;
      same_bytes = refl;
      stands_kept = record {
        links_fit_law = fit_same m.links links only.long only.cell_count_law S.links_fit_law;
        cells_fit_law = cells_fit_same m.links links only.long m.cells only.cell_count_law S.cells_fit_law;
        cell_count_law = only.cell_count_law ∙ S.cell_count_law;
        settings = stands;
        addresses = S.addresses;
        counters = λ p k hp hk. only.counters p k (omega arith) ∙ S.counters p k hp hk;
        traffic = traffic_same m.links links only.long s.cell_count m.cells s.core.waiting only.cells only.queues S.traffic;
      };
    }

-- such a call by its refusal lines
pub setting_follows : (m : Memories) (s : State) → Stands m s → (c : Call) (buffer : List ℕ) (o : Option Refusal) → o ≡ first (lines_of s c)
    → (links : List ℕ) (new : Settings) → carry_out s c ≡ settle s new
    → (first (lines_of s c) ≡ none → OnlySet m.links links × SettingsStand links new)
    → Follows (on_links m buffer (or_refused o m.links (done_with 0 0, links))) buffer s (perform s c)
setting_follows m s S c buffer o same links new acts doing =
    follows_by m s S c buffer m.links (done_with 0 0, links) (on_links m buffer) (λ r. refl) o same
    (λ e. rw acts (settled m s S buffer links new (doing e).0 (doing e).1))
