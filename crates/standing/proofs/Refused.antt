-- Every call over lent memories is refused exactly by its lines. Assumes nothing.
use Prim.Native.Nat.{ℕ}
use mathlib.Core.Path.{◌≡◌, refl, ap, ◌∙◌}
use mathlib.Core.Bool.{Bool, false, not}
use mathlib.Core.List.{List, [], ◌∷◌}
use Rattle.rules.specs.Choice.{nobody}
use Rattle.rules.specs.Lines.{FirstOf, line}
use Rattle.rules.specs.Refusals.{Lines}
use Rattle.rules.specs.declared.refusals.Refusal.{Refusal}
use Rattle.rules.specs.declared.refusals.Refusal.TheVariants.{MemoryLength as memory_length}
use Rattle.machine.specs.State.{Call, frame_in, take, age, counter, port, vlan, clear_vlan, static, remove, map, queue_switch, drain, bpdu}
use Rattle.layout.specs.declared.answers.Answer.{Answer}
use Rattle.layout.specs.Answers.{refused_by, length_line}
use Rattle.address_calls.specs.Calls.{age_refusals, static_refusals, remove_refusals}
use Rattle.setting_calls.specs.Calls.{counter_refusals, port_refusals, map_refusals, queue_switch_refusals, bpdu_refusals}
use Rattle.setting_calls.specs.Vlans.{vlan_refusals, clear_vlan_refusals}
use Rattle.take_out.specs.Take.{take_refusals}
use Rattle.take_out.specs.Drain.{drain_refusals}
use Rattle.standing.specs.Promises.{Refuses}
use Rattle.standing.proofs.PromiseCalls.{refusal_theorems}
use Rattle.gufhrandi.specs.Memories.{Memories, Done}
use Rattle.gufhrandi.specs.Runs.{run, on_all, on_buffer, on_links, on_addresses}
use Rattle.standing.specs.Lines.{lines_on, fits_for}
use Rattle.standing.specs.RefusalTheorems.{unchanged, RefusedExactly}

-- the length line is the first of every call
first_line : (fits : Bool) (rest : Lines) → fits ≡ false → FirstOf (length_line fits ∷ rest) memory_length
first_line fits rest e =
    record { before = []; after = rest; stands = ap (λ (b : Bool). line memory_length (not b) ∷ rest) e; none_before = nobody }

-- `done`: how a promise's answer and memory make what the call comes to
module _ {M : Type 0} (m : Memories) (c : Call) (buffer : List ℕ) (lines : Lines) (memory : M) (promised : Answer × M) (done : Answer × M → Done)
    (R : Refuses lines memory promised) (lines_are : lines_on m c buffer ≡ lines) (run_is : run m c buffer ≡ done promised)
    (answer_is : (x : Answer × M) → (done x).answer ≡ x.0) (keeps : (r : Refusal) → done (refused_by r, memory) ≡ unchanged r m buffer)
    (rest : Lines) (fits_first : lines ≡ length_line (fits_for m c) ∷ rest) where
  answered : (run m c buffer).answer ≡ promised.0
  answered = ap (λ (d : Done). d.answer) run_is ∙ answer_is promised

  else_nothing : (r : Refusal) → FirstOf lines r → run m c buffer ≡ unchanged r m buffer
  else_nothing r f = run_is ∙ ap done (R.nothing_else r f) ∙ keeps r

  by_promise : RefusedExactly m c buffer
  by_promise =
      record {
        in_order = rw lines_are R.in_order;
        refused_exactly = λ r. rw (lines_are, answered) (R.refused_exactly r);
        nothing_else = λ r. rw lines_are (else_nothing r);
        done_exactly = rw (lines_are, answered) R.done_exactly;
        misfit_is_one = λ e. else_nothing memory_length (rw fits_first (first_line (fits_for m c) rest e));
      }

pub refused_exactly : (m : Memories) (c : Call) (buffer : List ℕ) → RefusedExactly m c buffer
unfolding run lines_on fits_for take_refusals drain_refusals age_refusals static_refusals remove_refusals counter_refusals port_refusals map_refusals queue_switch_refusals bpdu_refusals vlan_refusals clear_vlan_refusals
refused_exactly m (frame_in c) buffer =
    by_promise m (frame_in c) buffer _ (m.cells, m.links, m.addresses) _ (on_all buffer) (refusal_theorems.frame_in_law m.cells m.links m.addresses c.port c.packet.bytes) refl refl (λ x. refl) (λ r. refl) _ refl
refused_exactly m (take c) buffer =
    by_promise m (take c) buffer _ (m.links, buffer) _ (on_buffer m) (refusal_theorems.take_into m.cells m.links c.port buffer) refl refl (λ x. refl) (λ r. refl) _ refl
refused_exactly m age buffer =
    by_promise m age buffer _ m.addresses _ (on_addresses m buffer) (refusal_theorems.age m.addresses) refl refl (λ x. refl) (λ r. refl) _ refl
refused_exactly m (counter c) buffer =
    by_promise m (counter c) buffer _ m.links _ (on_links m buffer) (refusal_theorems.counter m.links c.port c.number) refl refl (λ x. refl) (λ r. refl) _ refl
refused_exactly m (port c) buffer =
    by_promise m (port c) buffer _ m.links _ (on_links m buffer) (refusal_theorems.port m.links c.port c.new) refl refl (λ x. refl) (λ r. refl) _ refl
refused_exactly m (vlan n) buffer =
    by_promise m (vlan n) buffer _ m.links _ (on_links m buffer) (refusal_theorems.vlan m.links n) refl refl (λ x. refl) (λ r. refl) _ refl
refused_exactly m (clear_vlan vid) buffer =
    by_promise m (clear_vlan vid) buffer _ m.links _ (on_links m buffer) (refusal_theorems.clear_vlan_law m.links vid) refl refl (λ x. refl) (λ r. refl) _ refl
refused_exactly m (static c) buffer =
    by_promise m (static c) buffer _ m.addresses _ (on_addresses m buffer) (refusal_theorems.static m.addresses c.gid c.port c.address) refl refl (λ x. refl) (λ r. refl) _ refl
refused_exactly m (remove c) buffer =
    by_promise m (remove c) buffer _ m.addresses _ (on_addresses m buffer) (refusal_theorems.remove m.addresses c.gid c.address) refl refl (λ x. refl) (λ r. refl) _ refl
refused_exactly m (map c) buffer =
    by_promise m (map c) buffer _ m.links _ (on_links m buffer) (refusal_theorems.queue_map m.links c.pcp c.queue) refl refl (λ x. refl) (λ r. refl) _ refl
refused_exactly m (queue_switch c) buffer =
    by_promise m (queue_switch c) buffer _ m.links _ (on_links m buffer) (refusal_theorems.queue_switch_law m.links c.port c.queue c.on) refl refl (λ x. refl) (λ r. refl) _ refl
refused_exactly m (drain p) buffer =
    by_promise m (drain p) buffer _ m.links _ (on_links m buffer) (refusal_theorems.drain m.links p) refl refl (λ x. refl) (λ r. refl) _ refl
refused_exactly m (bpdu on) buffer =
    by_promise m (bpdu on) buffer _ m.links _ (on_links m buffer) (refusal_theorems.bpdu m.links on) refl refl (λ x. refl) (λ r. refl) _ refl
