-- Every call over lent memory is refused exactly by its lines, and its promise is a function. Assumes nothing.
use Prim.Native.Nat.{ℕ}
use mathlib.Core.Path.{◌≡◌, refl, ap}
use mathlib.Core.List.{List}
use native.Mathlib.Omega.{arith}
use Rattle.rules.specs.Refusals.{refusal_number, frame_in_lines, take_lines, age_lines, counter_lines, port_lines, vlan_lines, clear_vlan_lines, static_lines, remove_lines, map_lines, queue_switch_lines, drain_lines, bpdu_lines}
use Rattle.rules.specs.Outcomes.{Outcome, drops, queues, outcome_of}
use Rattle.layout.specs.Lengths.{cell_count}
use Rattle.layout.specs.declared.answers.Answer.{Answer}
use Rattle.fresh_call.specs.Calls.{fresh_refusals, fresh_call}
use Rattle.frame_in.specs.Call.{facts_in, answer_for, entered, frame_in_refusals, frame_in_call}
use Rattle.take_out.specs.Serving.{Served, nobody, damaged, served}
use Rattle.take_out.specs.Serving.{frame as next_frame}
use Rattle.take_out.specs.Take.{Memory, taken_frame, taken_from, take_refusals, take_by, take_call, handed_back}
use Rattle.take_out.specs.Drain.{drain_refusals, drain_call}
use Rattle.address_calls.specs.Calls.{age_refusals, age_call, static_refusals, static_call, remove_refusals, remove_call}
use Rattle.setting_calls.specs.Calls.{counter_refusals, counter_call, port_refusals, port_call, map_refusals, map_call, queue_switch_refusals, queue_switch_call, bpdu_refusals, bpdu_call}
use Rattle.setting_calls.specs.Vlans.{vlan_refusals, vlan_call, clear_vlan_refusals, clear_vlan_call}
use Rattle.standing.specs.Promises.{Refuses, HandsBack}
use Rattle.standing.specs.PromiseTheorems.{RefusalTheorems}
use Rattle.standing.proofs.PromisesRefused.{of_a_function, refuses}

-- what a call does is no refusal

outcome_done : (o : Outcome) → (answer_for o).refusal ≡ 0
unfolding answer_for
outcome_done (drops r) = refl
outcome_done (queues f ports) = refl

taken_done : (cells : List ℕ) (n : ℕ) (links : List ℕ) (port : ℕ) (out : List ℕ) (next : Served) → (taken_from cells n links port out next).0.refusal ≡ 0
unfolding taken_from taken_frame
taken_done cells n links port out (next_frame queue c) = refl
taken_done cells n links port out nobody = refl
taken_done cells n links port out damaged = refl

-- frame-in and the two takes

frame_in_refuses : (cells links addresses : List ℕ) (port : ℕ) (frame : List ℕ)
    → Refuses (frame_in_refusals cells links addresses port frame) (cells, links, addresses) (frame_in_call cells links addresses port frame)
unfolding frame_in_call frame_in_lines entered refusal_number
frame_in_refuses cells links addresses port frame =
    refuses (frame_in_refusals cells links addresses port frame) (cells, links, addresses) (entered port frame cells links addresses)
    (outcome_done (outcome_of (facts_in links addresses port frame)))
    (omega arith, (omega arith, tt))

module _ (cells links : List ℕ) (port : ℕ) (out : List ℕ) where
  abbrev next : Served
  next = served (cell_count links) port links

  take_refuses : Refuses (take_refusals cells links port out next) (links, out) (take_call cells links port out)
  unfolding take_call take_by take_refusals take_lines refusal_number
  take_refuses =
      refuses (take_refusals cells links port out next) (links, out) (taken_from cells (cell_count links) links port out next)
      (taken_done cells (cell_count links) links port out next)
      (omega arith, (omega arith, (omega arith, tt)))

  take_hands_back : HandsBack (take_refusals cells links port out next) links (handed_back (take_call cells links port out))
  take_hands_back =
      record {
        empty_if_refused = λ r f. ap (λ (o : Answer × Memory). handed_back o) (take_refuses.nothing_else r f);
        of_a_function = of_a_function (handed_back (take_call cells links port out));
      }

pub refusal_theorems : RefusalTheorems
unfolding refusal_number fresh_refusals fresh_call drain_refusals drain_call drain_lines age_refusals age_call age_lines static_refusals static_call static_lines remove_refusals remove_call remove_lines counter_refusals counter_call counter_lines port_refusals port_call port_lines map_refusals map_call map_lines queue_switch_refusals queue_switch_call queue_switch_lines bpdu_refusals bpdu_call bpdu_lines vlan_refusals vlan_call vlan_lines clear_vlan_refusals clear_vlan_call clear_vlan_lines
refusal_theorems =
    record {
      fresh = λ cells links addresses. refuses (fresh_refusals cells links addresses) (cells, links, addresses) _ refl tt;
      frame_in_law = frame_in_refuses;
      take_into = take_refuses;
      take = take_hands_back;
      age = λ addresses. refuses (age_refusals addresses) addresses _ refl (omega arith, tt);
      counter = λ links port number. refuses (counter_refusals links port number) links _ refl (omega arith, (omega arith, tt));
      port = λ links port new. refuses (port_refusals links port new) links _ refl (omega arith, (omega arith, (omega arith, tt)));
      vlan = λ links new. refuses (vlan_refusals links new) links _ refl (omega arith, (omega arith, (omega arith, tt)));
      clear_vlan_law = λ links vid. refuses (clear_vlan_refusals links vid) links _ refl (omega arith, (omega arith, (omega arith, tt)));
      static = λ addresses gid port address.
          refuses (static_refusals addresses gid port address) addresses _ refl (omega arith, (omega arith, (omega arith, (omega arith, (omega arith, tt)))));
      remove = λ addresses gid address. refuses (remove_refusals addresses gid address) addresses _ refl (omega arith, (omega arith, (omega arith, tt)));
      queue_map = λ links pcp queue. refuses (map_refusals links pcp queue) links _ refl (omega arith, (omega arith, tt));
      queue_switch_law = λ links port queue on. refuses (queue_switch_refusals links port queue on) links _ refl (omega arith, (omega arith, (omega arith, tt)));
      drain = λ links port. refuses (drain_refusals links port) links _ refl (omega arith, (omega arith, tt));
      bpdu = λ links on. refuses (bpdu_refusals links on) links _ refl (omega arith, (omega arith, tt));
    }
