-- Counters in memory go up by the machine's events. Assumes nothing.
use Prim.Native.Nat.{ℕ, ◌+◌, ◌%◌, ◌^◌, ◌≤◌, ◌<◌}
use mathlib.Core.Path.{◌≡◌, refl, ap, ◌∙◌}
use mathlib.Core.List.{List, [], ◌∷◌}
use native.Mathlib.Omega.{arith}
use lib.Dec.{eqb}
use lib.ListN.{length, length-set}
use borrow.Author.Tests.{eqb-true, eqb-false}
use Rattle.rules.specs.Choice.{Each, also}
use Rattle.rules.specs.Reasons.{reason_number}
use Rattle.rules.specs.declared.reasons.Reason.{Reason}
use Rattle.rules.specs.declared.reasons.Reason.TheVariants.{Short as short, Long as long, GroupSource as group_source, TagCount as tag_count, PortBlocking as port_blocking, PortListening as port_listening, Vid4095 as vid4095, NoVlan as no_vlan, NoMember as no_member, PortLearning as port_learning, NoCandidate as no_candidate, NoPortLeft as no_port_left, NoRoom as no_room}
use Rattle.rules.specs.Counters.{counter_number}
use Rattle.rules.specs.declared.counters.Counter.{Counter}
use Rattle.rules.specs.declared.counters.Counter.TheVariants.{Offered as offered, Accepted as accepted, NotLearned as not_learned, Queued as queued, StateOut as state_out, QueueOut as queue_out, Sent as sent, Drained as drained, Reason as reason}
use Rattle.rules.specs.Numbers.{last_counter}
use Rattle.rules.proofs.Choice.{on}
use Rattle.machine.specs.Events.{Event, Counts, bumps, bump, tally}
use Rattle.layout.specs.Places.{fixed_words, counter_word}
use Rattle.layout.specs.Same.{CellsSame, QueuesSame}
use Rattle.layout.proofs.Stores.{cells_then, queues_then, cells_self, queues_self, queues_store, counter_elsewhere}
use Rattle.settings.proofs.CounterLaws.{counter_set, counter_of_port_kept, counter_elsewhere_kept, counter_keeps_settings}
use Rattle.settings.proofs.SameLaws.{cells_kept_before}
use Rattle.layout.specs.Counters.{bumped}
use Rattle.frame_in.specs.Counting.{counted}
use Rattle.standing.specs.Stands.{CountersStand}
use Rattle.standing.proofs.Kept.{SettingWords, words_self, words_then}

reason_number_law : (r : Reason) → reason_number r ≤ 13
unfolding reason_number
reason_number_law short = omega arith
reason_number_law long = omega arith
reason_number_law group_source = omega arith
reason_number_law tag_count = omega arith
reason_number_law port_blocking = omega arith
reason_number_law port_listening = omega arith
reason_number_law vid4095 = omega arith
reason_number_law no_vlan = omega arith
reason_number_law no_member = omega arith
reason_number_law port_learning = omega arith
reason_number_law no_candidate = omega arith
reason_number_law no_port_left = omega arith
reason_number_law no_room = omega arith

counter_number_law : (c : Counter) → counter_number c ≤ last_counter
unfolding counter_number
counter_number_law offered = omega arith
counter_number_law accepted = omega arith
counter_number_law not_learned = omega arith
counter_number_law queued = omega arith
counter_number_law state_out = omega arith
counter_number_law queue_out = omega arith
counter_number_law sent = omega arith
counter_number_law drained = omega arith
counter_number_law (reason r) = omega (arith, reason_number_law r)

-- an event at one of the five ports
abbrev pub AtPort : Event → Type 0
AtPort e = e.port < 5

pub length_bumped : (p k : ℕ) (l : List ℕ) → length (bumped p k l) ≡ length l
length_bumped p k l = length-set l (counter_word p k) _

pub bump_stands : (l : List ℕ) (c : Counts) → fixed_words ≤ length l → (e : Event) → AtPort e → CountersStand l c
    → CountersStand (bumped e.port (counter_number e.counter) l) (bump e c)
unfolding bump bumps
bump_stands l c enough e at h p k hp hk =
    let number = counter_number e.counter in
    let small = counter_number_law e.counter in
    on (eqb p e.port)
    (λ same. on (eqb k number)
    (λ alike.
    let s : p ≡ e.port = eqb-true p e.port same in
    let t : k ≡ number = eqb-true k number alike in
    rw (same, alike)
    (rw (s, t)
    (counter_set l e.port number _ enough at (omega arith)
    ∙ ap (λ (x : ℕ). (x + 1) % 2 ^ 32) (h e.port number at small))))
    (λ other.
    let s : p ≡ e.port = eqb-true p e.port same in
    rw (same, other)
    (rw s (counter_of_port_kept l e.port number _ k (eqb-false k number other) ∙ h e.port k at hk))))
    (λ other. rw other
    (counter_elsewhere_kept l e.port number _ p k (eqb-false p e.port other) (omega arith) (omega arith) ∙ h p k hp hk))

pub length_counted : (es : List Event) (l : List ℕ) → length (counted es l) ≡ length l
unfolding counted
length_counted [] l = refl
length_counted (e ∷ es) l =
    length_counted es (bumped e.port (counter_number e.counter) l) ∙ length_bumped e.port (counter_number e.counter) l

pub counted_stands : (es : List Event) → Each AtPort es → (l : List ℕ) (c : Counts) → fixed_words ≤ length l → CountersStand l c
    → CountersStand (counted es l) (tally es c)
unfolding counted tally
counted_stands [] at l c enough h = h
counted_stands (e ∷ es) (also at more) l c enough h =
    counted_stands es more (bumped e.port (counter_number e.counter) l) (bump e c)
    (omega (arith, length_bumped e.port (counter_number e.counter) l, enough))
    (bump_stands l c enough e at h)

-- ---- all else is kept

bumped_cells : (p k : ℕ) (l : List ℕ) → p < 5 → k ≤ last_counter → CellsSame l (bumped p k l)
bumped_cells p k l hp hk = cells_kept_before l (counter_word p k) (_ ∷ []) (omega arith) (omega arith)

bumped_queues : (p k : ℕ) (l : List ℕ) → p < 5 → k ≤ last_counter → QueuesSame l (bumped p k l)
bumped_queues p k l hp hk = queues_store l (counter_word p k) _ (counter_elsewhere p k hp (omega arith))

-- what counting leaves alone
pub record Uncounted (l m : List ℕ) : Type 0 where
  pub words : SettingWords l m
  pub cells : CellsSame l m
  pub queues : QueuesSame l m

pub bumped_keeps : (p k : ℕ) (l : List ℕ) → p < 5 → k ≤ last_counter → Uncounted l (bumped p k l)
bumped_keeps p k l hp hk =
    record { words = counter_keeps_settings l p k _ (omega arith); cells = bumped_cells p k l hp hk; queues = bumped_queues p k l hp hk }

pub counted_keeps : (es : List Event) → Each AtPort es → (l : List ℕ) → Uncounted l (counted es l)
unfolding counted
counted_keeps [] at l =
    record { words = words_self l; cells = cells_self l; queues = queues_self l }
counted_keeps (e ∷ es) (also at more) l =
    let one = bumped_keeps e.port (counter_number e.counter) l at (counter_number_law e.counter) in
    let rest = counted_keeps es more (bumped e.port (counter_number e.counter) l) in
    record {
      words = words_then one.words rest.words;
      cells = cells_then one.cells rest.cells;
      queues = queues_then one.queues rest.queues;
    }
