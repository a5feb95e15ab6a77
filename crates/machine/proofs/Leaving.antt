-- Which frame a take sends, with which bytes; and what it and a drain free. Assumes nothing.
use Prim.Native.Nat.{ℕ, ◌+◌, ◌≤◌}
use mathlib.Core.Path.{◌≡◌, refl, sym, ap, ◌∙◌, subst}
use mathlib.Core.Bool.{true, false}
use mathlib.Core.List.{List, [], ◌∷◌, ◌++◌}
use Rattle.std.specs.Prelude.{None as none, Some as some}
use native.Mathlib.Omega.{arith}
use lib.Dec.{eqb}
use lib.ListN.{length}
use Rattle.std.specs.Prelude.{if◌then◌else◌}
use Rattle.rules.specs.Choice.{sift, among, without, Each, nobody, also}
use Rattle.rules.specs.Numbers.{place_count}
use Rattle.rules.specs.Outcomes.{Frame}
use Rattle.rules.specs.Settings.{Settings}
use Rattle.rules.specs.Operations.{leaving_tags}
use Rattle.rules.specs.Lines.{first}
use Rattle.rules.specs.Refusals.{age_lines}
use Rattle.rules.proofs.Choice.{on, on_list, on_option, among_without_same}
use Rattle.rules.proofs.Leaving.{leaving_theorems}
use Rattle.rules.proofs.Operated.{leaves_with}
use Rattle.rules.proofs.Addresses.{address_theorems}
use Rattle.machine.specs.Waiting.{Waiting, size, cells_in_use, port_at, waits_at, stay, leave, send, drain}
use Rattle.rules.specs.Requests.{TakeRequest}
use Rattle.machine.specs.State.{State, take, drain as drain_call, Step, done}
use Rattle.machine.specs.TakeOut.{leaving_stack, leaving_bytes, served, taken, take_step, drain_step}
use Rattle.machine.specs.Machine.{age_step, lines_of, carry_out, unless_refused, perform}
use Rattle.machine.specs.CallTheorems.{Allowed, NothingWaits, Serves, LeavesAs, Sends, TakeTheorems, only_at, cells_only_at, CellTheorems, OtherCallTheorems}
use Rattle.machine.proofs.Steps.{allowed_is}
use Rattle.machine.proofs.Serving.{queue_number, served_serves, served_none, none_served, serves_served}

-- ---- the bytes

exempt_stack : (s : Settings) (p : ℕ) (f : Frame) → f.exempt ≡ true → leaving_stack s p f ≡ f.origin.tags
unfolding leaving_stack
exempt_stack s p f e = rw e

operated_stack : (s : Settings) (p : ℕ) (f : Frame) → f.exempt ≡ false → leaving_stack s p f ≡ leaving_tags f.origin f.vlan_operation (s.port p).operation
unfolding leaving_stack
operated_stack s p f e = rw e

pub leaves_as : (s : Settings) (p : ℕ) (f : Frame) → LeavesAs s p f (leaving_bytes s p f)
unfolding leaving_bytes
leaves_as s p f =
    record {
      stack = leaving_stack s p f;
      by_operations = λ e. rw (operated_stack s p f e) (leaves_with f.origin f.vlan_operation (s.port p).operation);
      exempt_keeps = exempt_stack s p f;
      bytes = λ long. leaving_theorems.keeps f.packet.bytes (leaving_stack s p f) long;
    }

some_bytes : (s : Settings) (p : ℕ) (f : Frame) → 60 ≤ length (leaving_bytes s p f)
unfolding leaving_bytes
some_bytes s p f = leaving_theorems.at_least_shortest f.packet.bytes (leaving_stack s p f)

-- ---- a take

module _ (s : State) (c : TakeRequest) (allowed : Allowed s (take c)) where
  pub takes : perform s (take c) ≡ taken s c.port (served s c.port)
  unfolding carry_out take_step
  takes = allowed_is s (take c) allowed

  takes_none : served s c.port ≡ none → (perform s (take c)).answer ≡ done 0 0 []
  unfolding taken
  takes_none e = ap (λ (d : Step). d.answer) takes ∙ rw e

  takes_some : (f : Frame) → served s c.port ≡ some f
      → (perform s (take c)).answer ≡ done (length (leaving_bytes s.core.settings c.port f)) f.queue (leaving_bytes s.core.settings c.port f)
  unfolding taken
  takes_some f e = ap (λ (d : Step). d.answer) takes ∙ rw e

  empty_only : (perform s (take c)).answer ≡ done 0 0 [] → NothingWaits c.port s.core.waiting
  empty_only a =
      on_option (served s c.port)
      (λ e. served_none s c.port e)
      (λ f e. absurd (
      let y : done (length (leaving_bytes s.core.settings c.port f)) f.queue (leaving_bytes s.core.settings c.port f) ≡ done 0 0 [] = sym (takes_some f e) ∙ a in
      let z : length (leaving_bytes s.core.settings c.port f) ≡ 0 = cc in
      omega (arith, some_bytes s.core.settings c.port f)))

  sends : (x y : ℕ) (out : List ℕ) → (perform s (take c)).answer ≡ done x y out → 1 ≤ x → Sends s c.port x y out
  sends x y out a some_x =
      on_option (served s c.port)
      (λ e. absurd (let b : done 0 0 [] ≡ done x y out = sym (takes_none e) ∙ a in let z : 0 ≡ x = cc in omega arith))
      (λ f e. says f (served_serves s c.port f e) (sym (takes_some f e) ∙ a))
    where
      says : (f : Frame) → Serves s.core.waiting c.port f.queue f
          → done (length (leaving_bytes s.core.settings c.port f)) f.queue (leaving_bytes s.core.settings c.port f) ≡ done x y out → Sends s c.port x y out
      says f v b =
          let o : leaving_bytes s.core.settings c.port f ≡ out = cc in
          let q : f.queue ≡ y = cc in
          let l : length (leaving_bytes s.core.settings c.port f) ≡ x = cc in
          record {
            frame = f;
            serves = subst (λ (z : ℕ). Serves s.core.waiting c.port z f) q v;
            leaves = subst (LeavesAs s.core.settings c.port f) o (leaves_as s.core.settings c.port f);
            length_is = sym l ∙ ap length o;
            queue_is = sym q;
          }

  table_stays : (perform s (take c)).core.table ≡ s.core.table
  unfolding taken
  table_stays = ap (λ (d : Step). d.core.table) takes ∙ on_option (served s c.port) (λ e. rw e) (λ f e. rw e)

  settings_stay : (perform s (take c)).core.settings ≡ s.core.settings
  unfolding taken
  settings_stay = ap (λ (d : Step). d.core.settings) takes ∙ on_option (served s c.port) (λ e. rw e) (λ f e. rw e)

  pub take_theorems : TakeTheorems s c allowed
  take_theorems =
      record {
        empty_exactly = (empty_only, λ h. takes_none (none_served s c.port h));
        sends = sends;
        table_stays = table_stays;
        settings_stay = settings_stay;
      }

-- ---- cells

-- a frame stays without p unless p was its last port
stay_cells : (p : ℕ) (f : Frame) (ports : List ℕ) (ws : List Waiting)
    → cells_in_use (stay f (without p ports) ws) + (if only_at p ports then size f else 0) ≡ size f + cells_in_use ws
unfolding only_at without sift stay cells_in_use
stay_cells p f [] ws = omega arith
stay_cells p f (r ∷ rs) ws =
    on (eqb p r)
    (λ e. rw e (stay_cells p f rs ws))
    (λ e. rw e (omega arith))

leave_cells : (p : ℕ) (w : Waiting) (ws : List Waiting) → cells_in_use (leave p w ws) + (if only_at p w.ports then size w.frame else 0) ≡ size w.frame + cells_in_use ws
unfolding leave
leave_cells p w ws = stay_cells p w.frame w.ports ws

send_cells : (p q : ℕ) (before behind : List Waiting) (w : Waiting) → Each (λ (v : Waiting). waits_at p q v ≡ false) before → waits_at p q w ≡ true
    → cells_in_use (send p q (before ++ (w ∷ behind))) + (if only_at p w.ports then size w.frame else 0) ≡ cells_in_use (before ++ (w ∷ behind))
unfolding send cells_in_use
send_cells p q [] behind w nobody h = rw h (leave_cells p w behind)
send_cells p q (v ∷ vs) behind w (also e es) h = rw e (omega (arith, send_cells p q vs behind w es h))

drain_cells : (p : ℕ) (ws : List Waiting) → cells_in_use (drain p ws) + cells_only_at p ws ≡ cells_in_use ws
unfolding drain cells_in_use cells_only_at
drain_cells p [] = refl
drain_cells p (w ∷ ws) = omega (arith, leave_cells p w (drain p ws), drain_cells p ws)

sent_by : (s : State) (c : TakeRequest) → Allowed s (take c) → (f : Frame) → served s c.port ≡ some f → (perform s (take c)).core.waiting ≡ send c.port f.queue s.core.waiting
unfolding taken
sent_by s c allowed f e = ap (λ (d : Step). d.core.waiting) (takes s c allowed) ∙ rw e

take_frees : (s : State) (c : TakeRequest) → Allowed s (take c) → (q : ℕ) (f : Frame) → Serves s.core.waiting c.port q f
    → (before behind : List Waiting) (w : Waiting) → s.core.waiting ≡ before ++ (w ∷ behind) → Each (λ (v : Waiting). waits_at c.port q v ≡ false) before
    → waits_at c.port q w ≡ true
    → cells_in_use (perform s (take c)).core.waiting + (if only_at c.port w.ports then size w.frame else 0) ≡ cells_in_use s.core.waiting
take_frees s c allowed q f v before behind w split none_before here =
    ap (λ (ws : List Waiting). cells_in_use ws + (if only_at c.port w.ports then size w.frame else 0)) sent
    ∙ rw split (send_cells c.port q before behind w none_before here)
  where
    frame_queue : f.queue ≡ q
    frame_queue = sym (queue_number c.port q s.core.waiting f v.behind v.oldest)

    sent : (perform s (take c)).core.waiting ≡ send c.port q s.core.waiting
    sent = sent_by s c allowed f (serves_served s c.port q f v) ∙ ap (λ (z : ℕ). send c.port z s.core.waiting) frame_queue

pub drains_by : (s : State) (p : ℕ) → Allowed s (drain_call p) → perform s (drain_call p) ≡ drain_step s p
unfolding carry_out
drains_by s p e = allowed_is s (drain_call p) e

drain_frees : (s : State) (p : ℕ) → Allowed s (drain_call p)
    → cells_in_use (perform s (drain_call p)).core.waiting + cells_only_at p s.core.waiting ≡ cells_in_use s.core.waiting
unfolding drain_step
drain_frees s p e =
    ap (λ (d : Step). cells_in_use d.core.waiting + cells_only_at p s.core.waiting) (drains_by s p e) ∙ drain_cells p s.core.waiting

pub cell_theorems : CellTheorems
cell_theorems = record { take_frees = take_frees; drain_frees = drain_frees }

-- ---- drain and age

stay_away : (p : ℕ) (f : Frame) (ports : List ℕ) (ws : List Waiting) → port_at p (stay f (without p ports) ws) ≡ port_at p ws
unfolding stay port_at
stay_away p f ports ws = on_list (without p ports) (λ e. rw e) (λ r rs e. rw (e, sym (ap (among p) e) ∙ among_without_same p ports))

none_at : (p : ℕ) → port_at p [] ≡ []
unfolding port_at
none_at p = refl

drained_away : (p : ℕ) (ws : List Waiting) → port_at p (drain p ws) ≡ []
unfolding drain leave
drained_away p [] = none_at p
drained_away p (w ∷ ws) = stay_away p w.frame w.ports (drain p ws) ∙ drained_away p ws

drain_answers : (s : State) (p : ℕ) → Allowed s (drain_call p) → (perform s (drain_call p)).answer ≡ done (length (port_at p s.core.waiting)) 0 []
unfolding drain_step
drain_answers s p e = ap (λ (d : Step). d.answer) (drains_by s p e)

drain_empties : (s : State) (p : ℕ) → Allowed s (drain_call p) → port_at p (perform s (drain_call p)).core.waiting ≡ []
unfolding drain_step
drain_empties s p e = ap (λ (d : Step). port_at p d.core.waiting) (drains_by s p e) ∙ drained_away p s.core.waiting

pub other_call_theorems : OtherCallTheorems
unfolding perform unless_refused lines_of carry_out age_step age_lines first
other_call_theorems =
    record {
      drain_answers = drain_answers;
      drain_empties = drain_empties;
      age_answers = λ s. (_, refl, address_theorems.aged_away s.core.table place_count);
    }
