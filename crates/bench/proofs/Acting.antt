-- Each function of the run is an action of the session. Assumes nothing.
use Rattle.std.proofs.Common.{◌≡◌, ℕ, ◌+◌, ◌%◌, ◌^◌, ◌≤◌, Bool, true, false, not, ◌&&◌, eqb, List, [], ◌++◌, length, take, drop, sym, refl, ap, ◌∙◌, ap₂, length-append, length-take-le, Option, Result}
use Rattle.std.specs.Prelude.{is_ok, is_err, Ok, Err}
use Rattle.std.proofs.KnownBytes.{Consumes-nil, Appends-nil}
use Rattle.std.specs.declared.io.Error.{Error}
use native.Mathlib.Nat.{mod-add-mod}
use Rattle.rules.specs.Cells.{largest_result}
use Rattle.rules.specs.declared.refusals.Refusal.TheVariants.{BadRecord as bad_record}
use Rattle.layout.specs.declared.answers.Answer.{Answer}
use Rattle.layout.specs.Answers.{refused_by}
use Rattle.records.specs.Reading.{kind_of}
use Rattle.records.specs.Requests.{request_of}
use Rattle.records.specs.Lines.{line_of}
use Rattle.records.specs.declared.framing.Next.TheVariants.{More, Finished, Cut, Whole}
use Rattle.gufhrandi.specs.Memories.{Memories}
use Rattle.bench.specs.declared.input.Input.{Input}
use Rattle.bench.specs.declared.lines.Lines.{Lines}
use Rattle.bench.specs.declared.switch.Switch.{Switch}
use Rattle.bench.specs.declared.run.Run.{Run}
use Rattle.bench.specs.Carried.{carried_out}
use Rattle.bench.specs.Progressing.{number_after, waiting, next_at, record_in, Passed, Refilled, came, no_more, unread, Lined, Flushed}
use Rattle.bench.specs.Switches.{memories_of}
use Rattle.bench.specs.Outside.{Outside, outside}
use Rattle.bench.specs.Sessions.{Session, acted, Allowed, GoesOn}
use Rattle.bench.specs.Sessions as action
use Rattle.bench.specs.Played.{session_of, Counted, Leads}
use Rattle.bench.proofs.Outside.{still}

-- ---- a session by its parts

abbrev made : Memories → ℕ → List ℕ → List ℕ → Bool → Bool → Bool → List ℕ → List ℕ → Session
made m number waiting lines ended on failed came' handed =
    record {
      memories = m;
      number = number;
      waiting = waiting;
      lines = lines;
      ended = ended;
      on = on;
      failed = failed;
      came = came';
      handed = handed;
    }

-- ---- the state of the code by what a function changes

abbrev pub with_lines : Run → Lines → Run
with_lines r lines = record { switch = r.switch; input = r.input; lines = lines; over = r.over }

abbrev pub with_input : Run → Input → Run
with_input r input = record { switch = r.switch; input = input; lines = r.lines; over = r.over }

abbrev pub ended_with : Run → Lines → Run
ended_with r lines = record { switch = r.switch; input = r.input; lines = lines; over = true }

abbrev pub played_with : Run → Switch → Input → Lines → Run
played_with r switch input lines = record { switch = switch; input = input; lines = lines; over = r.over }

-- a write that does not take all fails, and ends the run
stopped : (over all failed : Bool) → failed ≡ not all → ((not over && true) && all) ≡ (not over && not failed)
stopped true all failed e = refl
stopped false true failed e = rw e refl
stopped false false failed e = rw e refl

failed_is : {T E : Type 0} (r : Result T E) (all : Bool) → is_ok r ≡ all → is_err r ≡ not all
failed_is (Ok x) all e = rw (← e) refl
failed_is (Err x) all e = rw (← e) refl

module _ (was : Run) (came' handed : List ℕ) (counted : Counted was handed) where
  abbrev now : Session
  now = session_of was false came' handed

  abbrev lines_now : List ℕ
  lines_now = was.lines.waiting.bytes

  abbrev m : Memories
  m = memories_of was.switch

  abbrev k : ℕ
  k = was.lines.number

  abbrev w : List ℕ
  w = waiting was.input

  abbrev ended : Bool
  ended = was.input.ended

  -- nothing is read
  pub flush_leads : (lines : Lines) (left held after : Option (List ℕ)) (result : Result (Unit {0}) Error) (failed : Bool) → 1 ≤ length lines_now → Flushed was.lines lines held after result
      → failed ≡ is_err result → Leads now (outside left held) (with_lines was lines) failed (outside left after)
  unfolding acted Allowed GoesOn
  flush_leads lines left held after result failed some f e =
      let n = f.written in
      let whole : Bool = eqb n (length lines_now) in
      let broken : failed ≡ not whole = e ∙ failed_is result whole f.whole in
      let told : List ℕ = handed ++ take n lines_now in
      record {
        action = action.write n;
        allowed = f.enough;
        goes_on = some;
        is = ap (λ (on : Bool). made m k w [] ended on (not whole) came' told) (stopped was.over whole failed broken)
            ∙ ap (λ (b : Bool). made m k w [] ended (not was.over && not failed) b came' told) (sym broken)
            ∙ ap₂ (λ (i : ℕ) (l : List ℕ). made m i w l ended (not was.over && not failed) failed came' told) (sym f.number) (sym f.waiting);
        counted = f.sent
            ∙ ap (λ (k : ℕ). (k + n) % 2 ^ 64) counted
            ∙ mod-add-mod (length handed) (2 ^ 64) n
            ∙ ap (λ (k : ℕ). k % 2 ^ 64) (sym (length-append handed (take n lines_now) ∙ ap (λ (k : ℕ). length handed + k) (length-take-le n lines_now f.enough)));
        moved = record { read = Consumes-nil left; wrote = f.appended };
        ends = λ e. absurd (let z : action.write n ≡ action.no_more = e in cc);
      }

  module _ (goes : was.over ≡ false) where
    on : now.on ≡ true
    on = rw goes refl

    -- nothing waits to be written
    pub refill_leads : (input : Input) (left rest held : Option (List ℕ)) (result : Result (Unit {0}) Error) (failed : Bool) → next_at was.input ≡ More → lines_now ≡ []
        → Refilled was.input input left rest result → failed ≡ is_err result
        → Leads now (outside left held) (with_input was input) failed (outside rest held)
    unfolding acted Allowed GoesOn
    refill_leads input left rest held result failed more none (came bytes h x g b c ok) e =
        record {
          action = action.bring bytes;
          allowed = ((on, more, none), b);
          goes_on = h;
          is = ap₂ (λ (l : List ℕ) (d : Bool). made m k l lines_now d now.on false (came' ++ bytes) handed) (sym x) (sym g)
              ∙ ap (λ (b : Bool). made m k (waiting input) lines_now input.ended (not was.over && not b) b (came' ++ bytes) handed) (sym (e ∙ failed_is result true ok));
          counted = counted;
          moved = record { read = c; wrote = Appends-nil held };
          ends = λ e. absurd (let z : action.bring bytes ≡ action.no_more = e in cc);
        }
    refill_leads input left rest held result failed more none (no_more x g c z ok) e =
        record {
          action = action.no_more;
          allowed = (on, more, none);
          goes_on = tt;
          is = ap₂ (λ (l : List ℕ) (d : Bool). made m k l lines_now d now.on false came' handed) (sym x) (sym g)
              ∙ ap (λ (b : Bool). made m k (waiting input) lines_now input.ended (not was.over && not b) b came' handed) (sym (e ∙ failed_is result true ok));
          counted = counted;
          moved = record { read = c; wrote = Appends-nil held };
          ends = λ e. z;
        }
    refill_leads input left rest held result failed more none (unread x g c bad) e =
        record {
          action = action.unread;
          allowed = (on, more, none);
          goes_on = tt;
          is = ap₂ (λ (l : List ℕ) (d : Bool). made m k l lines_now d false true came' handed) (sym x) (sym g)
              ∙ ap (λ (b : Bool). made m k (waiting input) lines_now input.ended (not b && false) true came' handed) (sym goes)
              ∙ ap (λ (b : Bool). made m k (waiting input) lines_now input.ended (not was.over && not b) b came' handed) (sym (e ∙ bad));
          counted = counted;
          moved = record { read = c; wrote = Appends-nil held };
          ends = λ e. absurd (let z : action.unread ≡ action.no_more = e in cc);
        }

    -- nothing is read and nothing written
    module _ (around : Outside) where
      pub finish_leads : next_at was.input ≡ Finished → Leads now around (ended_with was was.lines) false around
      unfolding acted Allowed GoesOn
      finish_leads e =
          record {
            action = action.finish;
            allowed = (on, e);
            goes_on = tt;
            is = refl;
            counted = counted;
            moved = still around;
            ends = λ e. absurd (let z : action.finish ≡ action.no_more = e in cc);
          }

      pub cut_leads : (lines : Lines) → next_at was.input ≡ Cut → Lined was.lines lines 0 (refused_by bad_record)
          → Leads now around (ended_with was lines) false around
      unfolding acted Allowed GoesOn
      cut_leads lines e f =
          record {
            action = action.cut;
            allowed = (on, e);
            goes_on = tt;
            is = ap₂ (λ (i : ℕ) (l : List ℕ). made m i w l ended false false came' handed) (sym f.number) (sym f.waiting);
            counted = f.sent ∙ counted;
            moved = still around;
            ends = λ e. absurd (let z : action.cut ≡ action.no_more = e in cc);
          }

      pub play_leads : (long : ℕ) (switch : Switch) (input : Input) (lines : Lines) (answer : Answer) → next_at was.input ≡ Whole long
          → length was.switch.out ≡ largest_result
          → (answer, memories_of switch) ≡ carried_out (memories_of was.switch) was.switch.out (record_in (waiting was.input) long) (request_of (record_in (waiting was.input) long))
          → Lined was.lines lines (kind_of (record_in (waiting was.input) long)) answer
          → Passed was.input input long → Leads now around (played_with was switch input lines) false around
      unfolding acted Allowed GoesOn
      play_leads long switch input lines answer e room done f g =
          let bytes : List ℕ = record_in w long in
          let rest : List ℕ = drop (2 + long) w in
          record {
            action = action.play long was.switch.out;
            allowed = (on, e, room);
            goes_on = tt;
            is = ap (λ (d : Answer × Memories). made d.1 (number_after k) rest (lines_now ++ line_of (number_after k) (kind_of bytes) d.0) ended now.on false came' handed) (sym done)
                ∙ ap₂ (λ (i : ℕ) (l : List ℕ). made (memories_of switch) i rest l ended now.on false came' handed) (sym f.number) (sym f.waiting)
                ∙ ap₂ (λ (l : List ℕ) (d : Bool). made (memories_of switch) lines.number l lines.waiting.bytes d now.on false came' handed) (sym g.waiting) (sym g.ended);
            counted = f.sent ∙ counted;
            moved = still around;
            ends = λ e. absurd (let z : action.play long was.switch.out ≡ action.no_more = e in cc);
          }
