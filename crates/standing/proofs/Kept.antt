-- What stands for a part of the state goes on standing for it over a write that leaves that part's words alone. Assumes nothing.
use Prim.Native.Nat.{ℕ, ◌<◌}
use mathlib.Core.Path.{◌≡◌, refl, ap, ◌∙◌}
use mathlib.Core.Bool.{true}
use mathlib.Core.List.{List}
use native.Mathlib.Omega.{arith}
use lib.ListN.{length}
use Rattle.rules.specs.Settings.{Settings}
use Rattle.rules.proofs.Choice.{each_map}
use Rattle.machine.specs.Waiting.{Waiting}
use Rattle.machine.specs.Events.{Counts}
use Rattle.layout.specs.Places.{map_word, switches_word, vlan_count_word, states_word, vlan_word, vlan_operation_word}
use Rattle.layout.specs.Same.{SettingsSame, CellsSame, QueuesSame}
use Rattle.layout.specs.Lengths.{cell_count, links_fit, cells_fit}
use Rattle.settings.specs.Table.{vlan_count}
pub use Rattle.settings.proofs.SettingsAlike.{SettingWords}
use Rattle.settings.proofs.SettingsAlike.{settings_alike}
pub use Rattle.settings.proofs.SameLaws.{same_words}
use Rattle.settings.proofs.SameLaws.{same_counters}
use Rattle.cells.specs.Bytes.{frame_in}
use Rattle.cells.proofs.Unchanged.{same_size, same_ports, same_free, same_frame, same_sound}
use Rattle.queues.proofs.Lists.{list_same, all_same}
use Rattle.queues.proofs.WaitingWords.{waiting_same}
use Rattle.take_out.specs.Frames.{stored_at, frame_of}
use Rattle.standing.specs.LinkTraffic.{links_in, WaitsAs}
use Rattle.standing.specs.Traffic.{HoldsFrame, Traffic}
use Rattle.standing.proofs.Reading.{stands_same}
use Rattle.standing.specs.Stands.{SettingsInRange, SettingsStand, CountersStand}

module _ (l m : List ℕ) (long : length m ≡ length l) where
  -- ---- lengths and the cell count

  pub fit_same : cell_count m ≡ cell_count l → links_fit l ≡ true → links_fit m ≡ true
  unfolding links_fit
  fit_same same fit = rw (same, long) fit

  pub cells_fit_same : (cells : List ℕ) → cell_count m ≡ cell_count l → cells_fit cells l ≡ true → cells_fit cells m ≡ true
  unfolding cells_fit
  cells_fit_same cells same fit = rw same fit

  -- ---- the traffic: cells and queues

  module _ (n : ℕ) (cells : List ℕ) (ws : List Waiting) (same : CellsSame l m) (queues : QueuesSame l m) where
    holds_same : (c : ℕ) (w : Waiting) → HoldsFrame n cells l c w → HoldsFrame n cells m c w
    holds_same c w h =
        record {
          frame = ap (λ (row : List ℕ). frame_of (stored_at cells c) (frame_in cells row (stored_at cells c).length) w.frame.queue) (same_frame same n c) ∙ h.frame;
          in_range = h.in_range;
          size = same_size same c ∙ h.size;
        }

    waits_same : (c : ℕ) (w : Waiting) → WaitsAs n l c w → WaitsAs n m c w
    waits_same c w h =
        record { below = h.below; somewhere = h.somewhere; ascending = h.ascending; said = same_ports same c ∙ h.said; few = h.few; low = h.low }

    pub traffic_same : Traffic n cells l ws → Traffic n cells m ws
    unfolding links_in stands_same
    traffic_same T =
        let L = T.links_stand in
        record {
          links_stand = record {
            held = L.held;
            stands = stands_same n (links_in n l L.held) (links_in n m L.held) ws L.stands (same_free same n)
                (list_same n queues)
                (each_map (λ c k. (same_frame same n c, refl)) L.waits);
            waits = each_map (λ c k. waits_same c (L.held c) k) L.waits;
            long = omega (arith, long, L.long);
            sound = same_sound same L.sound;
            queues = all_same n queues L.queues;
            waiting_words = waiting_same queues L.waiting_words;
          };
          cells_long = T.cells_long;
          frames = each_map (λ c k. holds_same c (L.held c) k) T.frames;
        }

-- ---- settings and counters

-- the same words, and one write after another
pub words_self : (l : List ℕ) → SettingWords l l
words_self l = record { word = λ w h f g. refl; own = λ p h. refl; operation = λ p h. refl }

pub words_then : {l m n : List ℕ} → SettingWords l m → SettingWords m n → SettingWords l n
words_then a b =
    record {
      word = λ w h f g. b.word w h f g ∙ a.word w h f g;
      own = λ p h. b.own p h ∙ a.own p h;
      operation = λ p h. b.operation p h ∙ a.operation p h;
    }

module _ {l m : List ℕ} (same : SettingWords l m) where
  pub cell_count_same : cell_count m ≡ cell_count l
  cell_count_same = same.word 0 (omega arith) (λ e. omega arith) (λ e. omega arith)

  in_range_same : SettingsInRange l → SettingsInRange m
  in_range_same h =
      let count = same.word vlan_count_word (omega arith) (λ e. omega arith) (λ e. omega arith) in
      record {
        map = rw (same.word map_word (omega arith) (λ e. omega arith) (λ e. omega arith)) h.map;
        switches = rw (same.word switches_word (omega arith) (λ e. omega arith) (λ e. omega arith)) h.switches;
        states = rw (same.word states_word (omega arith) (λ e. omega arith) (λ e. omega arith)) h.states;
        ports = λ p hp. rw (same.own p hp) (h.ports p hp);
        operations = λ p hp. rw (same.operation p hp) (h.operations p hp);
        vlan_count_law = rw count h.vlan_count_law;
        vlans = λ e he.
            let used : e < vlan_count l = omega (arith, count) in
            rw (same.word (vlan_word e) (omega (arith, h.vlan_count_law)) (λ z. omega arith) (λ z. omega arith)) (h.vlans e used);
        vlan_operations = λ e he.
            let used : e < vlan_count l = omega (arith, count) in
            rw (same.word (vlan_operation_word e) (omega (arith, h.vlan_count_law)) (λ z. omega arith) (λ z. omega arith)) (h.vlan_operations e used);
      }

  pub settings_same : (s : Settings) → SettingsStand l s → SettingsStand m s
  settings_same s h = record { says = settings_alike same ∙ h.says; in_range = in_range_same h.in_range; once = h.once }

-- a write of cells or queues leaves the counters
module _ {l m : List ℕ} (same : SettingsSame l m) where
  pub counters_same : (c : Counts) → CountersStand l c → CountersStand m c
  counters_same c h p k hp hk = same_counters same p k hp (omega arith) ∙ h p k hp hk
