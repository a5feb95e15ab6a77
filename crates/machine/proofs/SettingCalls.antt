-- Each setting call changes its own thing and nothing else; the fresh switch. Assumes nothing.
use Prim.Native.Nat.{ℕ}
use mathlib.Core.Path.{◌≡◌, refl, sym, ap, ◌∙◌}
use mathlib.Core.Bool.{Bool, true, false}
use mathlib.Core.List.{List, [], ◌∷◌}
use lib.Dec.{eqb}
use borrow.Author.Tests.{eqb-true, eq-eqb, ne_eqb, le-leb}
use Rattle.std.specs.Prelude.{if◌then◌else◌}
use Rattle.rules.specs.Choice.{sift, changed}
use Rattle.rules.specs.Settings.{Vlan, is_there, vlan_of}
use Rattle.rules.specs.Addresses.{key, set_static}
use Rattle.rules.specs.Addresses as Addresses
use Rattle.rules.specs.Arguments.{VlanNumbers, flag, port_of, vlan_entry}
use Rattle.rules.proofs.Choice.{on, eqb_self}
use Rattle.rules.specs.Requests.{PortRequest, MapRequest, SwitchRequest, StaticRequest, RemoveRequest}
use Rattle.machine.specs.State.{State, Core, Call, Step, port, vlan, clear_vlan, static, remove, map, queue_switch, bpdu, set_settings, set_table}
use Rattle.machine.specs.SettingCalls.{silently, settle, with_port, with_entry, without_entry, with_vlans, with_queue, with_switch, with_bpdu}
use Rattle.machine.specs.Machine.{lines_of, age_step, carry_out, unless_refused, perform}
use Rattle.machine.specs.History.{fresh_port, fresh_vlan, fresh_settings, fresh}
use Rattle.machine.specs.CallTheorems.{Allowed}
use Rattle.machine.specs.SettingTheorems.{Quiet, PortSets, VlanSets, VlanClears, MapSets, SwitchSets, BpduSets, StaticSets, Removes, Ages, FreshIs, SettingTheorems}
use Rattle.rules.specs.Lines.{first}
use Rattle.rules.specs.Refusals.{age_lines}
use Rattle.machine.proofs.Steps.{allowed_is}

-- ---- a function with another value at one number

pub changed_at : {A : Type 0} (i : ℕ) (a : A) (f : ℕ → A) → changed i a f i ≡ a
unfolding changed
changed_at i a f = rw (eqb_self i)

pub changed_off : {A : Type 0} (i j : ℕ) (a : A) (f : ℕ → A) → (j ≡ i → ⊥) → changed i a f j ≡ f j
unfolding changed
changed_off i j a f n = rw (ne_eqb i j (λ e. n (sym e)))

-- ---- the VLAN table

entry_there : (new : Vlan) (vs : List Vlan) → is_there (with_entry new vs) new.vid ≡ true
unfolding with_entry is_there
entry_there new [] = rw (eqb_self new.vid)
entry_there new (v ∷ vs) =
    on (eqb v.vid new.vid)
    (λ e. rw e (rw (eqb_self new.vid)))
    (λ e. rw e (rw e (entry_there new vs)))

entry_is_law : (new : Vlan) (vs : List Vlan) → vlan_of (with_entry new vs) new.vid ≡ new
unfolding with_entry vlan_of
entry_is_law new [] = rw (eqb_self new.vid)
entry_is_law new (v ∷ vs) =
    on (eqb v.vid new.vid)
    (λ e. rw e (rw (eqb_self new.vid)))
    (λ e. rw e (rw e (entry_is_law new vs)))

module _ (vid : ℕ) where
  other_there : (new : Vlan) (vs : List Vlan) → (vid ≡ new.vid → ⊥) → is_there (with_entry new vs) vid ≡ is_there vs vid
  unfolding with_entry is_there
  other_there new [] n = rw (ne_eqb new.vid vid (λ e. n (sym e)))
  other_there new (v ∷ vs) n =
      on (eqb v.vid new.vid)
      (λ e. rw (e, ne_eqb new.vid vid (λ d. n (sym d)), ne_eqb v.vid vid (λ d. n (sym d ∙ eqb-true v.vid new.vid e))))
      (λ e. rw e (ap (λ (b : Bool). if eqb v.vid vid then true else b) (other_there new vs n)))

  other_is : (new : Vlan) (vs : List Vlan) → (vid ≡ new.vid → ⊥) → vlan_of (with_entry new vs) vid ≡ vlan_of vs vid
  unfolding with_entry vlan_of
  other_is new [] n = rw (ne_eqb new.vid vid (λ e. n (sym e)))
  other_is new (v ∷ vs) n =
      on (eqb v.vid new.vid)
      (λ e. rw (e, ne_eqb new.vid vid (λ d. n (sym d)), ne_eqb v.vid vid (λ d. n (sym d ∙ eqb-true v.vid new.vid e))))
      (λ e. rw e (ap (λ (x : Vlan). if eqb v.vid vid then v else x) (other_is new vs n)))

  cleared_there : (vs : List Vlan) → is_there (without_entry vid vs) vid ≡ false
  unfolding without_entry sift is_there
  cleared_there [] = refl
  cleared_there (v ∷ vs) = on (eqb v.vid vid) (λ e. rw e (cleared_there vs)) (λ e. rw (e, e) (cleared_there vs))

  kept_there : (other : ℕ) (vs : List Vlan) → (other ≡ vid → ⊥) → is_there (without_entry vid vs) other ≡ is_there vs other
  unfolding without_entry sift is_there
  kept_there other [] n = refl
  kept_there other (v ∷ vs) n =
      on (eqb v.vid vid)
      (λ e. rw (e, ne_eqb v.vid other (λ d. n (sym d ∙ eqb-true v.vid vid e))) (kept_there other vs n))
      (λ e. rw e (ap (λ (b : Bool). if eqb v.vid other then true else b) (kept_there other vs n)))

  kept_is : (other : ℕ) (vs : List Vlan) → (other ≡ vid → ⊥) → vlan_of (without_entry vid vs) other ≡ vlan_of vs other
  unfolding without_entry sift vlan_of
  kept_is other [] n = refl
  kept_is other (v ∷ vs) n =
      on (eqb v.vid vid)
      (λ e. rw (e, ne_eqb v.vid other (λ d. n (sym d ∙ eqb-true v.vid vid e))) (kept_is other vs n))
      (λ e. rw e (ap (λ (x : Vlan). if eqb v.vid other then v else x) (kept_is other vs n)))

-- ---- the calls

-- a part of what an allowed call leaves
is : {A : Type 0} (s : State) (c : Call) → Allowed s c → (part : Step → A) → part (perform s c) ≡ part (carry_out s c)
is s c allowed part = ap part (allowed_is s c allowed)

quiet : (s : State) (c : Call) → Allowed s c → (core : Core) → carry_out s c ≡ silently core → core.waiting ≡ s.core.waiting → Quiet s (perform s c)
unfolding silently
quiet s c allowed core e w =
    record {
      answers = is s c allowed (λ d. d.answer) ∙ ap (λ (d : Step). d.answer) e;
      counts_nothing = is s c allowed (λ d. d.events) ∙ ap (λ (d : Step). d.events) e;
      waiting_stays = is s c allowed (λ d. d.core.waiting) ∙ ap (λ (d : Step). d.core.waiting) e ∙ w;
    }

port_sets : (s : State) (c : PortRequest) (allowed : Allowed s (port c)) → PortSets s c allowed
unfolding carry_out settle silently with_port
port_sets s c allowed =
    record {
      quiet = quiet s (port c) allowed (set_settings (with_port c.port (port_of c.new) s.core.settings) s.core) refl refl;
      this_port = is s (port c) allowed (λ d. d.core.settings.port c.port) ∙ changed_at c.port (port_of c.new) s.core.settings.port;
      other_ports = λ r n. is s (port c) allowed (λ d. d.core.settings.port r) ∙ changed_off c.port r (port_of c.new) s.core.settings.port n;
      vlans = is s (port c) allowed (λ d. d.core.settings.vlans);
      queue_map = λ pcp. is s (port c) allowed (λ d. d.core.settings.queue_of pcp);
      switches = λ r q. is s (port c) allowed (λ d. d.core.settings.queue_on r q);
      handling = is s (port c) allowed (λ d. d.core.settings.bpdu_handling);
      table = is s (port c) allowed (λ d. d.core.table);
    }

vlan_sets : (s : State) (n : VlanNumbers) (allowed : Allowed s (vlan n)) → VlanSets s n allowed
unfolding carry_out settle silently with_vlans vlan_entry
vlan_sets s n allowed =
    let new = vlan_entry n in
    let old = s.core.settings.vlans in
    record {
      quiet = quiet s (vlan n) allowed (set_settings (with_vlans (with_entry new old) s.core.settings) s.core) refl refl;
      this_vid = (
        is s (vlan n) allowed (λ d. is_there d.core.settings.vlans n.vid) ∙ entry_there new old,
        is s (vlan n) allowed (λ d. vlan_of d.core.settings.vlans n.vid) ∙ entry_is_law new old,
      );
      other_vids = λ v ne. (
        is s (vlan n) allowed (λ d. is_there d.core.settings.vlans v) ∙ other_there v new old ne,
        is s (vlan n) allowed (λ d. vlan_of d.core.settings.vlans v) ∙ other_is v new old ne,
      );
      ports = λ r. is s (vlan n) allowed (λ d. d.core.settings.port r);
      queue_map = λ pcp. is s (vlan n) allowed (λ d. d.core.settings.queue_of pcp);
      switches = λ r q. is s (vlan n) allowed (λ d. d.core.settings.queue_on r q);
      handling = is s (vlan n) allowed (λ d. d.core.settings.bpdu_handling);
      table = is s (vlan n) allowed (λ d. d.core.table);
    }

vlan_clears : (s : State) (vid : ℕ) (allowed : Allowed s (clear_vlan vid)) → VlanClears s vid allowed
unfolding carry_out settle silently with_vlans
vlan_clears s vid allowed =
    let old = s.core.settings.vlans in
    record {
      quiet = quiet s (clear_vlan vid) allowed (set_settings (with_vlans (without_entry vid old) s.core.settings) s.core) refl refl;
      this_vid = is s (clear_vlan vid) allowed (λ d. is_there d.core.settings.vlans vid) ∙ cleared_there vid old;
      other_vids = λ v ne. (
        is s (clear_vlan vid) allowed (λ d. is_there d.core.settings.vlans v) ∙ kept_there vid v old ne,
        is s (clear_vlan vid) allowed (λ d. vlan_of d.core.settings.vlans v) ∙ kept_is vid v old ne,
      );
      ports = λ r. is s (clear_vlan vid) allowed (λ d. d.core.settings.port r);
      queue_map = λ pcp. is s (clear_vlan vid) allowed (λ d. d.core.settings.queue_of pcp);
      switches = λ r q. is s (clear_vlan vid) allowed (λ d. d.core.settings.queue_on r q);
      handling = is s (clear_vlan vid) allowed (λ d. d.core.settings.bpdu_handling);
      table = is s (clear_vlan vid) allowed (λ d. d.core.table);
    }

map_sets : (s : State) (c : MapRequest) (allowed : Allowed s (map c)) → MapSets s c allowed
unfolding carry_out settle silently with_queue
map_sets s c allowed =
    record {
      quiet = quiet s (map c) allowed (set_settings (with_queue c.pcp c.queue s.core.settings) s.core) refl refl;
      this_pcp = is s (map c) allowed (λ d. d.core.settings.queue_of c.pcp) ∙ changed_at c.pcp c.queue s.core.settings.queue_of;
      other_pcps = λ pcp n. is s (map c) allowed (λ d. d.core.settings.queue_of pcp) ∙ changed_off c.pcp pcp c.queue s.core.settings.queue_of n;
      ports = λ r. is s (map c) allowed (λ d. d.core.settings.port r);
      vlans = is s (map c) allowed (λ d. d.core.settings.vlans);
      switches = λ r q. is s (map c) allowed (λ d. d.core.settings.queue_on r q);
      handling = is s (map c) allowed (λ d. d.core.settings.bpdu_handling);
      table = is s (map c) allowed (λ d. d.core.table);
    }

flag_on : (n : ℕ) → n ≡ 1 → flag n ≡ true
unfolding flag
flag_on n e = eq-eqb n 1 e

flag_off : (n : ℕ) → n ≡ 0 → flag n ≡ false
unfolding flag
flag_off n e = rw e

switch_sets : (s : State) (c : SwitchRequest) (allowed : Allowed s (queue_switch c)) → SwitchSets s c allowed
unfolding carry_out settle silently with_switch
switch_sets s c allowed =
    record {
      quiet = quiet s (queue_switch c) allowed (set_settings (with_switch c.port c.queue (flag c.on) s.core.settings) s.core) refl refl;
      turned_on = λ e. is s (queue_switch c) allowed (λ d. d.core.settings.queue_on c.port c.queue) ∙ ap (λ (f : ℕ → Bool). f c.queue) (changed_at c.port (changed c.queue (flag c.on) (s.core.settings.queue_on c.port)) s.core.settings.queue_on) ∙ changed_at c.queue (flag c.on) (s.core.settings.queue_on c.port) ∙ flag_on c.on e;
      turned_off = λ e. is s (queue_switch c) allowed (λ d. d.core.settings.queue_on c.port c.queue) ∙ ap (λ (f : ℕ → Bool). f c.queue) (changed_at c.port (changed c.queue (flag c.on) (s.core.settings.queue_on c.port)) s.core.settings.queue_on) ∙ changed_at c.queue (flag c.on) (s.core.settings.queue_on c.port) ∙ flag_off c.on e;
      other_ports = λ r q n. is s (queue_switch c) allowed (λ d. d.core.settings.queue_on r q) ∙ ap (λ (f : ℕ → Bool). f q) (changed_off c.port r (changed c.queue (flag c.on) (s.core.settings.queue_on c.port)) s.core.settings.queue_on n);
      other_queues = λ q n. is s (queue_switch c) allowed (λ d. d.core.settings.queue_on c.port q) ∙ ap (λ (f : ℕ → Bool). f q) (changed_at c.port (changed c.queue (flag c.on) (s.core.settings.queue_on c.port)) s.core.settings.queue_on) ∙ changed_off c.queue q (flag c.on) (s.core.settings.queue_on c.port) n;
      ports = λ r. is s (queue_switch c) allowed (λ d. d.core.settings.port r);
      vlans = is s (queue_switch c) allowed (λ d. d.core.settings.vlans);
      queue_map = λ pcp. is s (queue_switch c) allowed (λ d. d.core.settings.queue_of pcp);
      handling = is s (queue_switch c) allowed (λ d. d.core.settings.bpdu_handling);
      table = is s (queue_switch c) allowed (λ d. d.core.table);
    }

bpdu_sets : (s : State) (on_or_off : ℕ) (allowed : Allowed s (bpdu on_or_off)) → BpduSets s on_or_off allowed
unfolding carry_out settle silently with_bpdu
bpdu_sets s on_or_off allowed =
    record {
      quiet = quiet s (bpdu on_or_off) allowed (set_settings (with_bpdu (flag on_or_off) s.core.settings) s.core) refl refl;
      turned_on = λ e. is s (bpdu on_or_off) allowed (λ d. d.core.settings.bpdu_handling) ∙ flag_on on_or_off e;
      turned_off = λ e. is s (bpdu on_or_off) allowed (λ d. d.core.settings.bpdu_handling) ∙ flag_off on_or_off e;
      ports = λ r. is s (bpdu on_or_off) allowed (λ d. d.core.settings.port r);
      vlans = is s (bpdu on_or_off) allowed (λ d. d.core.settings.vlans);
      queue_map = λ pcp. is s (bpdu on_or_off) allowed (λ d. d.core.settings.queue_of pcp);
      switches = λ r q. is s (bpdu on_or_off) allowed (λ d. d.core.settings.queue_on r q);
      table = is s (bpdu on_or_off) allowed (λ d. d.core.table);
    }

static_sets : (s : State) (c : StaticRequest) (allowed : Allowed s (static c)) → StaticSets s c allowed
unfolding carry_out settle silently
static_sets s c allowed =
    record {
      quiet = quiet s (static c) allowed (set_table (set_static s.core.table (key c.gid c.address) c.port) s.core) refl refl;
      table = is s (static c) allowed (λ d. d.core.table);
      settings = is s (static c) allowed (λ d. d.core.settings);
    }

removes : (s : State) (c : RemoveRequest) (allowed : Allowed s (remove c)) → Removes s c allowed
unfolding carry_out settle silently
removes s c allowed =
    record {
      quiet = quiet s (remove c) allowed (set_table (Addresses.remove s.core.table (key c.gid c.address)) s.core) refl refl;
      table = is s (remove c) allowed (λ d. d.core.table);
      settings = is s (remove c) allowed (λ d. d.core.settings);
    }

ages : (s : State) → Ages s
unfolding perform unless_refused lines_of age_lines first carry_out age_step
ages s = record { counts_nothing = refl; waiting_stays = refl; table = refl; settings = refl }

fresh_is : (n : ℕ) → FreshIs n
unfolding fresh fresh_settings fresh_port fresh_vlan
fresh_is n =
    record {
      one_vlan = (fresh_vlan, refl, refl, refl, refl, λ p low. le-leb p 4 low);
      port_state = λ p. refl;
      port_assignment = λ p. refl;
      port_default = λ p. refl;
      port_bars_none = λ p t. refl;
      port_operation_law = λ p. refl;
      queue_map = record { pcp_0 = refl; pcp_1 = refl; pcp_2 = refl; pcp_3 = refl; pcp_4 = refl; pcp_5 = refl; pcp_6 = refl; pcp_7 = refl };
      queues_on = λ p q. refl;
      handling_on = refl;
      no_address = λ i. refl;
      nothing_waits = refl;
      counters_zero = λ p k. refl;
      cell_count_law = refl;
    }

pub setting_theorems : SettingTheorems
setting_theorems =
    record {
      port_sets = port_sets;
      vlan_sets = vlan_sets;
      vlan_clears = vlan_clears;
      map_sets = map_sets;
      switch_sets = switch_sets;
      bpdu_sets = bpdu_sets;
      static_sets = static_sets;
      removes = removes;
      ages = ages;
      fresh_is = fresh_is;
    }
