-- What a session has written is what the machine tells of what was read. Assumes nothing.
use Rattle.std.proofs.Common.{◌≡◌, ℕ, ◌+◌, Bool, true, false, ◌&&◌, eqb, List, [], ◌++◌, length, take, drop, sym, refl, ap, ◌∙◌, subst, append_assoc, append-nil, arith, take-append-drop, take_all, eqb-true}
use lib.Seq.{take-nil}
use Rattle.rules.proofs.ByteLists.{append_bytes, take_bytes, drop_bytes}
use Rattle.rules.specs.Tags.{Bytes}
use Rattle.rules.specs.Cells.{largest_result}
use Rattle.rules.specs.declared.refusals.Refusal.TheVariants.{BadRecord as bad_record}
use Rattle.rules.proofs.Choice.{on, and_false}
use Rattle.machine.specs.State.{State}
use Rattle.machine.specs.History.{fresh}
use Rattle.layout.specs.declared.answers.Answer.{Answer}
use Rattle.layout.specs.Answers.{refused_by}
use Rattle.records.specs.Reading.{kind_of}
use Rattle.records.specs.Requests.{request_of}
use Rattle.records.specs.Lines.{line_of}
use Rattle.records.specs.Framing.{next_of}
use Rattle.records.specs.declared.framing.Next.TheVariants.{Finished, Cut, Whole}
use Rattle.records.proofs.Cutting.{end_known}
use Rattle.fresh_call.specs.Calls.{cells_lent}
use Rattle.gufhrandi.specs.Memories.{Memories}
use Rattle.standing.specs.Stands.{Stands}
use Rattle.standing.proofs.Theorems.{fresh_theorems}
use Rattle.bench.specs.Progressing.{number_after, record_in}
use Rattle.bench.specs.Told.{reply, Told, at_the_end, at_a_cut}
use Rattle.bench.specs.Sessions.{Session, beginning, Action, write, bring, no_more, unread, finish, cut, play, acted, MayRead, Allowed, Ran, starts, acts}
use Rattle.bench.specs.SessionTheorems.{bench_cells, Fresh, SessionTheorems}
use Rattle.bench.proofs.Carrying.{carried_follows}
use Rattle.bench.proofs.Inputs.{told_one, told_always, next_stays, record_told}

-- ---- what holds of a session throughout

-- what is yet to be told of the input: the lines of these bytes where the run goes on, else none
abbrev Onward : Bool → State → ℕ → List ℕ → List ℕ → Type 0
Onward true state n bytes tail = Told state n bytes tail
Onward false state n bytes tail = tail ≡ []

-- Nothing failed. Whatever comes after, what is written, what waits to be written and what is yet to be told are the
-- lines of all the input.
record Sound (s : Session) : Type 0 where
  state : State
  stands : Stands s.memories state
  bytes : Bytes s.waiting
  tells : (more tail : List ℕ) → (s.ended ≡ true → more ≡ []) → Onward s.on state s.number (s.waiting ++ more) tail
      → Told (fresh bench_cells) 0 (s.came ++ more) (s.handed ++ (s.lines ++ tail))

-- Something failed: nothing is written any more.
record Broken (s : Session) : Type 0 where
  stopped : s.on ≡ false
  none_waits : s.lines ≡ []
  told : (more : List ℕ) → (s.ended ≡ true → more ≡ []) → (rest : List ℕ) × Told (fresh bench_cells) 0 (s.came ++ more) (s.handed ++ rest)

data Holds (s : Session) : Type 0 where
  sound : s.failed ≡ false → Sound s → Holds s
  broken : s.failed ≡ true → Broken s → Holds s

onward_always : (on : Bool) (state : State) (n : ℕ) (bytes : List ℕ) → (tail : List ℕ) × Onward on state n bytes tail
onward_always true state n bytes = told_always state n bytes
onward_always false state n bytes = ([], refl)

-- what is told if the input ends behind what is still to come
told_then : (s : Session) → Sound s → (more : List ℕ) → (s.ended ≡ true → more ≡ [])
    → (tail : List ℕ) × Told (fresh bench_cells) 0 (s.came ++ more) (s.handed ++ (s.lines ++ tail))
told_then s h more none =
    let onward = onward_always s.on h.state s.number (s.waiting ++ more) in (onward.0, h.tells more onward.0 none onward.1)

-- an action of a run that goes on: nothing failed
going : (s : Session) {C : Type 0} → s.on ≡ true → Holds s → (s.failed ≡ false → Sound s → C) → C
going s goes (sound e h) then = then e h
going s goes (broken e h) then = absurd (let z : ◌≡◌ {A = ℕ} 0 1 = cc (goes, h.stopped) in omega arith)

-- ---- writing

and_true : (b : Bool) → (b && true) ≡ b
and_true true = refl
and_true false = refl

module _ (s : Session) (n : ℕ) where
  -- all the lines
  write_all : eqb n (length s.lines) ≡ true → s.failed ≡ false → Sound s → Holds (acted (write n) s)
  unfolding acted
  write_all e f h =
      rw (e, f, and_true s.on, take_all n s.lines (omega (arith, eqb-true n (length s.lines) e)))
      (sound refl
      (record {
        state = h.state;
        stands = h.stands;
        bytes = h.bytes;
        tells = λ more tail none onward. rw append_assoc (h.tells more tail none onward);
      }))

  -- not all: what is left of them is never written
  write_some : eqb n (length s.lines) ≡ false → s.failed ≡ false → Sound s → Holds (acted (write n) s)
  unfolding acted
  write_some e f h =
      rw (e, f)
      (broken refl
      (record {
        stopped = and_false s.on;
        none_waits = refl;
        told = λ more none.
            let then = told_then s h more none in (
              drop n s.lines ++ then.0,
              subst (λ (lines : List ℕ). Told (fresh bench_cells) 0 (s.came ++ more) lines) (split then.0) then.1,
            );
      }))
    where
      split : (tail : List ℕ) → s.handed ++ (s.lines ++ tail) ≡ (s.handed ++ take n s.lines) ++ (drop n s.lines ++ tail)
      split tail = ap (λ (lines : List ℕ). s.handed ++ (lines ++ tail)) (sym (take-append-drop n s.lines)) ∙ simp append_assoc

  write_none : s.failed ≡ true → Broken s → Holds (acted (write n) s)
  unfolding acted
  write_none f h =
      broken (rw f refl)
      (record {
        stopped = rw h.stopped refl;
        none_waits = refl;
        told = rw (h.none_waits, take-nil n, append-nil s.handed) h.told;
      })

  write_holds : Holds s → Holds (acted (write n) s)
  write_holds (sound f h) = on (eqb n (length s.lines)) (λ e. write_all e f h) (λ e. write_some e f h)
  write_holds (broken f h) = write_none f h

-- ---- reading

module _ (s : Session) (may : MayRead s) (f : s.failed ≡ false) (h : Sound s) where
  bring_holds : (bytes : List ℕ) → Bytes bytes → Holds (acted (bring bytes) s)
  unfolding acted
  bring_holds bytes all =
      sound f
      (record {
        state = h.state;
        stands = h.stands;
        bytes = append_bytes s.waiting bytes h.bytes all;
        tells = λ more tail none onward.
            rw append_assoc
            (h.tells (bytes ++ more) tail (λ over. absurd (end_known s.waiting (rw over at may.1))) (rw append_assoc at onward));
      })

  no_more_holds : Holds (acted no_more s)
  unfolding acted
  no_more_holds =
      sound f
      (record {
        state = h.state;
        stands = h.stands;
        bytes = h.bytes;
        tells = λ more tail none onward. h.tells more tail (λ over. none refl) onward;
      })

  unread_holds : Holds (acted unread s)
  unfolding acted
  unread_holds =
      broken refl
      (record {
        stopped = refl;
        none_waits = may.2;
        told = λ more none. let then = told_then s h more none in (s.lines ++ then.0, then.1);
      })

-- ---- what comes next

module _ (s : Session) (goes : s.on ≡ true) (f : s.failed ≡ false) (h : Sound s) where
  tells_on : (more tail : List ℕ) → (s.ended ≡ true → more ≡ []) → Told h.state s.number (s.waiting ++ more) tail
      → Told (fresh bench_cells) 0 (s.came ++ more) (s.handed ++ (s.lines ++ tail))
  tells_on more tail none told =
      h.tells more tail none (subst (λ (on : Bool). Onward on h.state s.number (s.waiting ++ more) tail) (sym goes) told)

  finish_holds : next_of s.waiting s.ended ≡ Finished → Holds (acted finish s)
  unfolding acted
  finish_holds e =
      sound f
      (record {
        state = h.state;
        stands = h.stands;
        bytes = h.bytes;
        tells = λ more tail none nothing.
            rw nothing (tells_on more [] none
            (at_the_end (next_stays s.waiting more s.ended none Finished (λ x. let z : ◌≡◌ {A = ℕ} 0 1 = cc in omega arith) e)));
      })

  cut_holds : next_of s.waiting s.ended ≡ Cut → Holds (acted cut s)
  unfolding acted
  cut_holds e =
      let line : List ℕ = line_of (number_after s.number) 0 (refused_by bad_record) in
      sound f
      (record {
        state = h.state;
        stands = h.stands;
        bytes = h.bytes;
        tells = λ more tail none nothing.
            rw (nothing, append-nil (s.lines ++ line)) (tells_on more line none
            (at_a_cut (next_stays s.waiting more s.ended none Cut (λ x. let z : ◌≡◌ {A = ℕ} 0 1 = cc in omega arith) e)));
      })

  play_holds : (long : ℕ) (out : List ℕ) → next_of s.waiting s.ended ≡ Whole long → length out ≡ largest_result
      → Holds (acted (play long out) s)
  unfolding acted
  play_holds long out e room =
      let bytes : List ℕ = record_in s.waiting long in
      let carried = carried_follows s.memories h.state h.stands out bytes room (take_bytes long _ (drop_bytes 2 s.waiting h.bytes)) (request_of bytes) in
      let line : Answer → List ℕ = line_of (number_after s.number) (kind_of bytes) in
      sound f
      (record {
        state = (reply h.state bytes).1;
        stands = carried.stands_kept;
        bytes = drop_bytes (2 + long) s.waiting h.bytes;
        tells = λ more tail none onward.
            let told = subst (λ (on : Bool). Onward on (reply h.state bytes).1 (number_after s.number) (drop (2 + long) s.waiting ++ more) tail) goes onward in
            rw (append_assoc s.lines, carried.same_answer)
            (tells_on more (line (reply h.state bytes).0 ++ tail) none
            (record_told s.waiting more s.ended none h.state s.number long tail e told));
      })

-- ---- throughout

acted_holds : (a : Action) (s : Session) → Allowed a s → Holds s → Holds (acted a s)
unfolding Allowed
acted_holds (write n) s may h = write_holds s n h
acted_holds (bring bytes) s may h = going s may.0.0 h (λ f k. bring_holds s may.0 f k bytes may.1)
acted_holds no_more s may h = going s may.0 h (no_more_holds s may)
acted_holds unread s may h = going s may.0 h (unread_holds s may)
acted_holds finish s may h = going s may.0 h (λ f k. finish_holds s may.0 f k may.1)
acted_holds cut s may h = going s may.0 h (λ f k. cut_holds s may.0 f k may.1)
acted_holds (play long out) s may h = going s may.0 h (λ f k. play_holds s may.0 f k long out may.1 may.2)

beginning_holds : (m : Memories) → Fresh m → Holds (beginning m)
beginning_holds m f =
    sound refl
    (record {
      state = fresh bench_cells;
      stands = subst (λ (n : ℕ). Stands m (fresh n)) f.count
          (subst (λ (x : Memories). Stands x (fresh (cells_lent f.lent.cells))) f.are ((fresh_theorems f.lent).stands_fresh f.fit));
      bytes = λ i. omega arith;
      tells = λ more tail none told. told;
    })

ran_holds : (m : Memories) → Fresh m → {k : ℕ} {s : Session} → Ran (beginning m) k s → Holds s
ran_holds m f starts = beginning_holds m f
ran_holds m f (acts {s} a ran may) = acted_holds a s may (ran_holds m f ran)

-- ---- the theorems

module _ (s : Session) (more : List ℕ) (none : s.ended ≡ true → more ≡ []) where
  holds_front : Holds s → (rest : List ℕ) × Told (fresh bench_cells) 0 (s.came ++ more) (s.handed ++ rest)
  holds_front (sound f h) = let then = told_then s h more none in (s.lines ++ then.0, then.1)
  holds_front (broken f h) = h.told more none

  holds_whole : Holds s → s.on ≡ false → s.failed ≡ false → s.lines ≡ [] → Told (fresh bench_cells) 0 (s.came ++ more) s.handed
  holds_whole (sound f h) over well no_line =
      let nothing : Onward s.on h.state s.number (s.waiting ++ more) [] = subst (λ (on : Bool). Onward on h.state s.number (s.waiting ++ more) []) (sym over) refl in
      simp (no_line, append-nil) at (h.tells more [] none nothing)
  holds_whole (broken f h) over well no_line = absurd (let z : ◌≡◌ {A = ℕ} 0 1 = cc in omega arith)

pub session_theorems : (m : Memories) (f : Fresh m) (k : ℕ) (s : Session) (ran : Ran (beginning m) k s) → SessionTheorems m f k s ran
session_theorems m f k s ran =
    let holds = ran_holds m f ran in
    let none : s.ended ≡ true → ◌≡◌ {A = List ℕ} [] [] = λ e. refl in
    record {
      front = rw (append-nil s.came) at (holds_front s [] none holds);
      whole = λ over well no_line. rw (append-nil s.came) at (holds_whole s [] none holds over well no_line);
      front_of_all = λ more none. holds_front s more none holds;
      whole_of_all = λ over well no_line more none. holds_whole s more none holds over well no_line;
      one = λ bytes lines others. told_one;
    }
