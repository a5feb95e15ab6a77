-- Memory stands for the machine, over every history. Assumes nothing.
use Prim.Native.Nat.{ℕ}
use mathlib.Core.Path.{◌≡◌, refl, sym, ap, ap₂, ◌∙◌, subst}
use mathlib.Core.Bool.{Bool, true, false, ◌&&◌}
use mathlib.Core.List.{List, [], ◌∷◌}
use Rattle.std.specs.Prelude.{Option, None as none, Some as some}
use native.Mathlib.Omega.{arith}
use lib.Dec.{eqb, leb}
use lib.ListN.{length}
use Rattle.std.specs.Prelude.{if◌then◌else◌}
use Rattle.rules.specs.Choice.{also}
use Rattle.rules.specs.Lines.{first}
use Rattle.rules.specs.Refusals.{fresh_lines}
use Rattle.rules.specs.declared.refusals.Refusal.{Refusal}
use Rattle.rules.specs.declared.refusals.Refusal.TheVariants.{MemoryLength as memory_length}
use Rattle.rules.proofs.Choice.{on, and_left}
use Rattle.machine.specs.State.{State, Call, frame_in, take, age, counter, port, vlan, clear_vlan, static, remove, map, queue_switch, drain, bpdu}
use Rattle.machine.specs.Machine.{perform, next}
use Rattle.machine.specs.History.{fresh, after, start_unless_refused, start_answer, after₁, answer₁, life, current_after}
use Rattle.machine.specs.LifeTheorems as Machine
use Rattle.machine.proofs.Lives.{life_theorems}
use Rattle.layout.specs.declared.answers.Answer as Lent
use Rattle.fresh_call.specs.Calls.{cells_lent, lengths_fit, fresh_refusals, fresh_call}
use Rattle.gufhrandi.specs.Memories.{Memories, Done}
use Rattle.standing.specs.Stands.{Stands}
use Rattle.standing.specs.Follows.{Handed, CallFollows, numbers_of, handed_back}
use Rattle.standing.specs.RefusalTheorems.{unchanged}
use Rattle.standing.specs.Histories.{Made, begin, call, misfit, MayBeMade, AllHanded, Seen, fits, begun, ran, memories_after₁, memories_after, seen, cells_of, host_call, host_calls, buffer_of, shown, expected}
use Rattle.standing.specs.Theorems.{FreshTheorems, CallTheorems, HistoryTheorems}
use Rattle.standing.proofs.FreshStands as Fresh
use Rattle.standing.proofs.AddressCalls.{age_follows, static_follows, remove_follows}
use Rattle.standing.proofs.SettingCalls.{counter_follows, port_follows, map_follows, queue_switch_follows, bpdu_follows}
use Rattle.standing.proofs.Vlans.{vlan_follows, clear_vlan_follows}
use Rattle.standing.proofs.FrameIn.{frame_in_follows}
use Rattle.standing.proofs.Take.{take_follows}
use Rattle.standing.proofs.Drain.{drain_follows}
use Rattle.standing.proofs.Refusals.{never}
use Rattle.standing.proofs.Refused.{refused_exactly}
use Rattle.standing.proofs.Demands.{memory_holds}

-- ---- the fresh call

fresh_refused : (x : Memories) → fits x ≡ false → begun x ≡ unchanged memory_length x []
unfolding fresh_call fresh_refusals first
fresh_refused x e = rw e

pub fresh_theorems : (x : Memories) → FreshTheorems x
fresh_theorems x =
    record {
      fresh_answers = λ fit. (Fresh.stands_fresh x.cells x.links x.addresses fit).0;
      stands_fresh = λ fit. (Fresh.stands_fresh x.cells x.links x.addresses fit).1;
      fresh_refused = fresh_refused x;
    }

-- ---- one call

pub follows : (c : Call) → CallFollows c
follows (frame_in c) = frame_in_follows c
follows (take c) = take_follows c
follows age = age_follows
follows (counter c) = counter_follows c
follows (port c) = port_follows c
follows (vlan n) = vlan_follows n
follows (clear_vlan vid) = clear_vlan_follows vid
follows (static c) = static_follows c
follows (remove c) = remove_follows c
follows (map c) = map_follows c
follows (queue_switch c) = queue_switch_follows c
follows (drain p) = drain_follows p
follows (bpdu b) = bpdu_follows b

pub call_theorems : (m : Memories) (s : State) (S : Stands m s) (c : Call) (buffer : List ℕ) (h : Handed c buffer) → CallTheorems m s S c buffer h
call_theorems m s S c buffer h =
    let f = follows c m s S buffer h in
    record {
      same_answer = f.same_answer;
      same_bytes = f.same_bytes;
      stands_kept = f.stands_kept;
      never_one = λ e. never s c 1 refl (omega arith) (sym (ap (λ (a : Lent.Answer). a.refusal) f.same_answer) ∙ e);
      never_ten = λ e. never s c 10 refl (omega arith) (sym (ap (λ (a : Lent.Answer). a.refusal) f.same_answer) ∙ e);
    }

-- ---- a call of the fourteen

-- memories that fit are a number of cells that the machine's fresh call takes
count_fits : (x : Memories) → fits x ≡ true → first (fresh_lines (cells_lent x.cells)) ≡ none
unfolding lengths_fit fresh_lines first
count_fits x e =
    let n = cells_lent x.cells in
    let a = and_left _ (eqb (length x.addresses) 4112) e in
    let b = and_left _ (eqb (length x.links) _) a in
    let c = and_left (leb 64 n && leb n 2048) (eqb (length x.cells) _) b in
    rw c

-- what a call comes to on memory is what the machine makes of it
record Follows₁ (m : Memories) (s : State) (c : Made) : Type 0 where
  sees : ◌≡◌ {A = Seen} ((ran m c).answer, (ran m c).buffer) (shown (buffer_of c) (answer₁ s (host_call c)))
  stands : Stands (memories_after₁ m c) (after₁ s (host_call c))

pair : {a a' : Lent.Answer} {b b' : List ℕ} → a ≡ a' → b ≡ b' → ◌≡◌ {A = Seen} (a, b) (a', b')
pair p q = ap₂ (λ (x : Lent.Answer) (y : List ℕ). (x, y)) p q

module _ (x : Memories) where
  begins : fits x ≡ true → first (fresh_lines (cells_of x)) ≡ none
  begins e = ap (λ (b : Bool). first (fresh_lines (if b then cells_lent x.cells else 0))) e ∙ count_fits x e

  -- no memory is 0 cells
  begins_not : fits x ≡ false → first (fresh_lines (cells_of x)) ≡ some memory_length
  unfolding fresh_lines first
  begins_not e = ap (λ (b : Bool). first (fresh_lines (if b then cells_lent x.cells else 0))) e

  says : (s : State) (o : Option Refusal) → first (fresh_lines (cells_of x)) ≡ o → answer₁ s (host_call (begin x)) ≡ start_answer o
  unfolding host_call answer₁
  says s o e = ap start_answer e

  becomes : (s : State) (o : Option Refusal) → first (fresh_lines (cells_of x)) ≡ o → after₁ s (host_call (begin x)) ≡ start_unless_refused o (cells_of x) s
  unfolding host_call after₁
  becomes s o e = ap (λ (r : Option Refusal). start_unless_refused r (cells_of x) s) e

  module _ (m : Memories) (s : State) (S : Stands m s) where
    begun_follows : fits x ≡ true → Follows₁ m s (begin x)
    unfolding memories_after₁ start_unless_refused start_answer numbers_of handed_back
    begun_follows e =
        record {
          sees = pair ((fresh_theorems x).fresh_answers e) refl ∙ ap (shown []) (sym (says s none (begins e)));
          stands = subst (Stands _) (sym (becomes s none (begins e) ∙ ap (λ (b : Bool). fresh (if b then cells_lent x.cells else 0)) e))
              (subst (λ (b : Bool). Stands (if b then (begun x).memories else m) (fresh (cells_lent x.cells))) (sym e) ((fresh_theorems x).stands_fresh e));
        }

    refused_follows : fits x ≡ false → Follows₁ m s (begin x)
    unfolding memories_after₁ start_unless_refused start_answer numbers_of handed_back
    refused_follows e =
        record {
          sees = pair (ap (λ (d : Done). d.answer) (fresh_refused x e)) (ap (λ (d : Done). d.buffer) (fresh_refused x e)) ∙ ap (shown []) (sym (says s (some memory_length) (begins_not e)));
          stands = subst (Stands _) (sym (becomes s (some memory_length) (begins_not e)))
              (subst (λ (b : Bool). Stands (if b then (begun x).memories else m) s) (sym e) S);
        }

follows₁ : (m : Memories) (s : State) → Stands m s → (c : Made) → MayBeMade c → Follows₁ m s c
unfolding memories_after₁ host_call after₁ answer₁ numbers_of handed_back
follows₁ m s S (begin x) h = on (fits x) (begun_follows x m s S) (refused_follows x m s S)
follows₁ m s S (call c buffer) h = let f = follows c m s S buffer h in record { sees = pair f.same_answer f.same_bytes; stands = f.stands_kept }
follows₁ m s S (misfit c x buffer) h =
    let same = (refused_exactly x c buffer).misfit_is_one h in
    record { sees = pair (ap (λ (d : Done). d.answer) same) (ap (λ (d : Done). d.buffer) same); stands = S }

-- ---- one after another

seen_expected : (m : Memories) (s : State) → Stands m s → (made : List Made) → AllHanded made → seen m made ≡ expected s made
unfolding seen expected
seen_expected m s S [] h = refl
seen_expected m s S (c ∷ cs) (also h t) =
    let f = follows₁ m s S c h in ap₂ (◌∷◌) f.sees (seen_expected (memories_after₁ m c) (after₁ s (host_call c)) f.stands cs t)

stands_after : (m : Memories) (s : State) → Stands m s → (made : List Made) → AllHanded made → Stands (memories_after m made) (life s (host_calls made))
unfolding memories_after life
stands_after m s S [] h = S
stands_after m s S (c ∷ cs) (also h t) = stands_after (memories_after₁ m c) (after₁ s (host_call c)) (follows₁ m s S c h).stands cs t

-- no call changes the cell count
count_after : (s : State) (cs : List Call) → (after s cs).cell_count ≡ s.cell_count
unfolding after next
count_after s [] = refl
count_after s (c ∷ cs) = count_after (next s (perform s c)) cs

fresh_count : (n : ℕ) (cs : List Call) → (after (fresh n) cs).cell_count ≡ n
unfolding fresh
fresh_count n cs = count_after (fresh n) cs

pub history_theorems : (x : Memories) (fit : fits x ≡ true) (made : List Made) (h : AllHanded made) → HistoryTheorems x fit made h
history_theorems x fit made h =
    let n = cells_lent x.cells in
    let started = (fresh_theorems x).stands_fresh fit in
    let now = current_after (Machine.begun n) (host_calls made) in
    let after_all = stands_after (begun x).memories (fresh n) started made h in
    record {
      histories = seen_expected (begun x).memories (fresh n) started made h;
      stands = after_all;
      holds = memory_holds now.cells (memories_after (begun x).memories made) now.calls
          (subst (Stands (memories_after (begun x).memories made)) (life_theorems.state_is n (host_calls made)) after_all) (fresh_count now.cells now.calls);
    }
