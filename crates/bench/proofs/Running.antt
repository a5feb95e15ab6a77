-- The loop of the run: so many actions so far, and so many turns left. Assumes nothing.
use Rattle.std.proofs.Common.{◌≡◌, ℕ, suc, ◌+◌, ◌-◌, ◌^◌, ◌≤◌, Bool, true, false, not, ◌&&◌, ◌⊎◌, List, [], ◌++◌, sym, refl, ap, ◌∙◌, subst, inl, inr, add-one}
use Rattle.machine.specs.History.{fresh}
use Rattle.gufhrandi.specs.Memories.{Memories}
use Rattle.bench.specs.declared.run.Run.{Run}
use Rattle.bench.specs.Switches.{memories_of}
use Rattle.bench.specs.Sessions.{Session, acted, beginning, Ran, starts, acts, Went, begins, goes}
use Rattle.bench.specs.SessionTheorems.{bench_cells, Fresh}
use Rattle.bench.specs.Outside.{Outside, Moved}
use Rattle.bench.specs.Played.{session_of, Counted, Steps, IsNew, Played}
use Rattle.bench.specs.Told.{Told}
use Rattle.bench.proofs.Outside.{still, moved_on, IsAll, all_on, of_all}
use Rattle.bench.proofs.Telling.{session_theorems}

-- a run on memories that were `start`, with `was` outside, when it began; `failed`: reading or writing has
pub record Running (start : Memories) (was : Outside) (r : Run) (failed : Bool) (now : Outside) (count : ℕ) : Type 0 where
  pub came : List ℕ
  pub handed : List ℕ
  pub ran : Ran (beginning start) count (session_of r failed came handed)
  pub went : Went (beginning start) count (session_of r failed came handed)
  pub counted : Counted r handed
  pub moved : Moved was now came handed
  pub all : r.input.ended ≡ true → IsAll was.left came

pub running_first : (r : Run) (was : Outside) → IsNew r → Running (memories_of r.switch) was r false was 0
running_first r was new =
    record {
      came = [];
      handed = [];
      ran = subst (Ran (beginning (memories_of r.switch)) 0) same starts;
      went = subst (Went (beginning (memories_of r.switch)) 0) same begins;
      counted = new.sent;
      moved = still was;
      all = λ e. absurd (let z : ◌≡◌ {A = Bool} false true = sym new.ended ∙ e in cc);
    }
  where
    same : beginning (memories_of r.switch) ≡ session_of r false [] []
    same = rw (new.number, new.waiting, new.lines, new.ended, new.over)

module _ (start : Memories) (was : Outside) (r : Run) (around : Outside) (count : ℕ) (running : Running start was r false around count) where
  abbrev now : Session
  now = session_of r false running.came running.handed

  -- after an action
  pub running_on : (after : Run) (failed : Bool) (then : Outside) → Steps r around after failed then → Running start was after failed then (count + 1)
  running_on after failed then steps =
      let l = steps running.came running.handed running.counted in
      let moved = moved_on l.action now was around then running.moved l.moved in
      record {
        came = (acted l.action now).came;
        handed = (acted l.action now).handed;
        ran = rw add-one (subst (Ran (beginning start) (suc count)) l.is (acts l.action running.ran l.allowed));
        went = rw add-one (subst (Went (beginning start) (suc count)) l.is (goes l.action running.went l.allowed l.goes_on));
        counted = l.counted;
        moved = moved;
        all = λ e. all_on l.action now was then moved l.ends running.all (ap (λ (s : Session). s.ended) l.is ∙ e);
      }

-- a run that is over, or has failed, or has used up its turns, and of which no line waits
pub played : (start : Memories) (was : Outside) (r : Run) (failed : Bool) (now : Outside) (count : ℕ) → Running start was r failed now count → Fresh start
    → (failed ≡ false → r.lines.waiting.bytes ≡ []) → (r.over ≡ true) ⊎ (failed ≡ true) ⊎ (2 ^ 64 - 1 ≤ count) → Played start was r failed now
played start was r failed now count running fresh_start no_line over =
    let all = session_theorems start fresh_start count _ running.ran in
    record {
      came = running.came;
      handed = running.handed;
      count = count;
      ran = running.ran;
      went = running.went;
      counted = running.counted;
      moved = running.moved;
      over = over;
      front = all.front;
      whole = λ e g. all.whole (off e) g (no_line g);
      front_of_all = of_all was.left now.left running.came (r.input.ended ≡ true)
          (λ (bytes : List ℕ). (rest : List ℕ) × Told (fresh bench_cells) 0 bytes (running.handed ++ rest)) running.moved.read running.all all.front_of_all;
      whole_of_all = λ e g. of_all was.left now.left running.came (r.input.ended ≡ true)
          (λ (bytes : List ℕ). Told (fresh bench_cells) 0 bytes running.handed) running.moved.read running.all (all.whole_of_all (off e) g (no_line g));
    }
  where
    off : r.over ≡ true → (not r.over && not failed) ≡ false
    off e = rw e refl

pub failed_played : (start : Memories) (was : Outside) (r : Run) (failed : Bool) (now : Outside) (count : ℕ) → failed ≡ true → Running start was r true now count → Fresh start
    → Played start was r failed now
failed_played start was r failed now count e running fresh_start =
    subst (λ (b : Bool). Played start was r b now) (sym e)
    (played start was r true now count running fresh_start (λ z. absurd (let y : ◌≡◌ {A = Bool} true false = z in cc)) (inr (inl refl)))
