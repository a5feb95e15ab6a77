-- The calls on addresses follow the machine: age, static, remove. Assumes nothing.
use Prim.Native.Nat.{ℕ, ◌^◌, ◌≤◌, ◌<◌}
use mathlib.Core.Path.{◌≡◌, refl, ap, ◌∙◌}
use mathlib.Core.Bool.{Bool, true, false, ◌&&◌}
use mathlib.Core.List.{List}
use Rattle.std.specs.Prelude.{None as none}
use native.Mathlib.Omega.{arith}
use lib.Dec.{leb}
use lib.ListN.{length}
use borrow.Author.Tests.{leb-true, ltb-true, ltb-false, not-false}
use Rattle.rules.specs.Lines.{first}
use Rattle.rules.specs.Refusals.{age_lines, static_lines, remove_lines}
use Rattle.rules.specs.Numbers.{place_count}
use Rattle.rules.specs.Addresses.{Table, key, find, no_place_for}
use Rattle.rules.specs.Tables.{is_found}
use Rattle.rules.specs.Arguments.{is_address}
use Rattle.rules.proofs.Choice.{and_left, and_right, each_first, each_rest}
use Rattle.rules.proofs.Lines.{holds_none}
use Rattle.machine.specs.Events.{tally}
use Rattle.rules.specs.Requests.{StaticRequest, RemoveRequest}
use Rattle.machine.specs.State.{State, set_table, age, static, remove}
use Rattle.machine.specs.SettingCalls.{silently}
use Rattle.machine.specs.Machine.{lines_of, age_step, carry_out, next}
use Rattle.layout.specs.Lengths.{addresses_fit}
use Rattle.layout.proofs.Fits.{addresses_fit_law}
use Rattle.layout.specs.Answers.{done_with}
use Rattle.addresses.specs.Search.{look_up, found_by, full, damaged}
use Rattle.addresses.specs.Writes.{aged_by, static_by, removed_by}
use Rattle.addresses.specs.Theorems.{StepTheorems}
use Rattle.addresses.proofs.LookUps.{undamaged}
use Rattle.addresses.proofs.Steps.{step_theorems, range_theorems}
use Rattle.addresses.proofs.Frames.{length_theorems}
use Rattle.address_calls.specs.Calls.{age_refusals, age_call, static_refusals, static_call, there, remove_refusals, remove_call}
use Rattle.gufhrandi.specs.Memories.{Memories}
use Rattle.standing.specs.Stands.{AddressesStand, Stands}
use Rattle.gufhrandi.specs.Runs.{on_addresses, run}
use Rattle.standing.specs.Follows.{numbers_of, handed_back, Follows, CallFollows}
use Rattle.standing.proofs.Answers.{lines_between, follows_by}

-- other address memory, for another table
abbrev with_table : State → Table → State
with_table s t = record { cell_count = s.cell_count; counters = s.counters; core = set_table t s.core }

addresses_then : (m : Memories) (s : State) → Stands m s → (addresses : List ℕ) (t : Table) → AddressesStand addresses t
    → Stands (record { cells = m.cells; links = m.links; addresses = addresses }) (with_table s t)
addresses_then m s S addresses t A =
    record {
      links_fit_law = S.links_fit_law;
      cells_fit_law = S.cells_fit_law;
      cell_count_law = S.cell_count_law;
      settings = S.settings;
      addresses = A;
      counters = S.counters;
      traffic = S.traffic;
    }

key_small : (gid address : ℕ) → gid ≤ 15 → address < 2 ^ 48 → key gid address < 2 ^ 52
unfolding key
key_small gid address hg ha = omega arith

module _ (m : Memories) (s : State) (S : Stands m s) where
  abbrev memory : List ℕ
  memory = m.addresses

  long : length memory ≡ place_count
  long = addresses_fit_law memory S.addresses.fit

  whole : (k : ℕ) → damaged (look_up memory k) ≡ false
  whole k = undamaged memory k S.addresses.in_range

  steps : (k : ℕ) → StepTheorems memory long k (whole k)
  steps k = step_theorems memory long k (whole k)

  fits : (other : List ℕ) → length other ≡ length memory → addresses_fit other ≡ true
  unfolding addresses_fit
  fits other same = rw same S.addresses.fit

  -- ---- age

  age_done : (buffer : List ℕ) → Follows (on_addresses m buffer (done_with (aged_by memory).0 0, (aged_by memory).1)) buffer s (age_step s)
  unfolding age_step numbers_of handed_back next tally aged_by
  age_done buffer =
      record {
        same_answer = rw S.addresses.says refl;
        same_bytes = refl;
        stands_kept =
            addresses_then m s S (aged_by memory).1 _
            (record {
              fit = fits (aged_by memory).1 (length_theorems memory).age_long;
              says = (range_theorems memory S.addresses.in_range).age_is ∙ rw S.addresses.says refl;
              in_range = (range_theorems memory S.addresses.in_range).age_in_range;
            });
      }

  -- ---- static

  static_done : (c : StaticRequest) (buffer : List ℕ) → c.gid ≤ 15 → c.port ≤ 4 → c.address < 2 ^ 48
      → Follows (on_addresses m buffer (done_with 0 0, static_by (found_by (look_up memory (key c.gid c.address))) (key c.gid c.address) c.port memory)) buffer s (carry_out s (static c))
  unfolding carry_out silently numbers_of handed_back next tally
  static_done c buffer hg hp ha =
      let k = key c.gid c.address in
      let p = c.port in
      let small = key_small c.gid c.address hg ha in
      record {
        same_answer = refl;
        same_bytes = refl;
        stands_kept =
            addresses_then m s S (static_by (found_by (look_up memory k)) k p memory) _
            (record {
              fit = fits _ ((length_theorems memory).static_long (found_by (look_up memory k)) k p);
              says = (steps k).static_is p small hp ∙ rw S.addresses.says refl;
              in_range = (range_theorems memory S.addresses.in_range).static_in_range k p small hp;
            });
      }

  -- ---- remove

  remove_done : (c : RemoveRequest) (buffer : List ℕ)
      → Follows (on_addresses m buffer (done_with 0 0, removed_by (found_by (look_up memory (key c.gid c.address))) memory)) buffer s (carry_out s (remove c))
  unfolding carry_out silently numbers_of handed_back next tally
  remove_done c buffer =
      let k = key c.gid c.address in
      record {
        same_answer = refl;
        same_bytes = refl;
        stands_kept =
            addresses_then m s S (removed_by (found_by (look_up memory k)) memory) _
            (record {
              fit = fits _ ((length_theorems memory).remove_long (found_by (look_up memory k)));
              says = (steps k).remove_is ∙ rw S.addresses.says refl;
              in_range = (range_theorems memory S.addresses.in_range).remove_in_range k;
            });
      }

  -- ---- their lines are the machine's

  full_is : (k : ℕ) → full (look_up memory k) ≡ no_place_for s.core.table k
  full_is k = (steps k).full_is ∙ ap (λ (t : Table). no_place_for t k) S.addresses.says

  there_is : (k : ℕ) → there (look_up memory k) ≡ is_found (find s.core.table k)
  there_is k = rw (whole k) ((steps k).matched_is ∙ ap (λ (t : Table). is_found (find t k)) S.addresses.says)

-- ---- what the lines of static exclude

module _ (no_place : Bool) (c : StaticRequest) (e : first (static_lines no_place c) ≡ none) where
  port_small : c.port ≤ 4
  unfolding static_lines
  port_small = ltb-false 4 c.port (each_first (holds_none _ e))

  gid_and_address : (leb c.gid 15 && is_address c.address) ≡ true
  unfolding static_lines
  gid_and_address = not-false _ (each_first (each_rest (holds_none _ e)))

  gid_small : c.gid ≤ 15
  gid_small = leb-true c.gid 15 (and_left (leb c.gid 15) (is_address c.address) gid_and_address)

  address_small : c.address < 2 ^ 48
  unfolding is_address
  address_small = ltb-true c.address (2 ^ 48) (and_right (leb c.gid 15) (is_address c.address) gid_and_address)

-- ---- the calls

pub age_follows : CallFollows age
unfolding run age_call age_refusals lines_of carry_out
age_follows m s S buffer h =
    follows_by m s S age buffer m.addresses _ (on_addresses m buffer) (λ r. refl) _
    (lines_between age_lines S.addresses.fit (rw S.addresses.in_range refl))
    (λ e. age_done m s S buffer)

pub static_follows : (c : StaticRequest) → CallFollows (static c)
unfolding run static_call static_refusals lines_of
static_follows c m s S buffer h =
    let gid = c.gid in
    let address = c.address in
    follows_by m s S (static c) buffer m.addresses _ (on_addresses m buffer) (λ r. refl) _
    (lines_between _ S.addresses.fit (whole m s S (key gid address))
    ∙ ap (λ (b : Bool). first (static_lines b c)) (full_is m s S (key gid address)))
    (λ e. static_done m s S c buffer (gid_small _ c e) (port_small _ c e) (address_small _ c e))

pub remove_follows : (c : RemoveRequest) → CallFollows (remove c)
unfolding run remove_call remove_refusals lines_of
remove_follows c m s S buffer h =
    let gid = c.gid in
    let address = c.address in
    follows_by m s S (remove c) buffer m.addresses _ (on_addresses m buffer) (λ r. refl) _
    (lines_between _ S.addresses.fit (whole m s S (key gid address))
    ∙ ap (λ (b : Bool). first (remove_lines b c)) (there_is m s S (key gid address)))
    (λ e. remove_done m s S c buffer)
