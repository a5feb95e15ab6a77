-- The numbers that stand for reasons, counters, states, kinds, types and sources. `proofs/Numbers.antt` proves it.
-- Assumes nothing: these are definitions.
use Rattle.std.specs.Prelude.{◌≡◌, true, false, [], ◌∷◌, map}
use Rattle.rules.specs.Numbers.{place_count, first_spare}
use Rattle.rules.specs.Operations.{outermost, second, given, pop, push, swap, pop_all}
use Rattle.rules.specs.Operations as Operations
use Rattle.rules.specs.Settings.{disabled, blocking, listening, learning, forwarding}
use Rattle.rules.specs.Reasons.{short, long, group_source, tag_count, port_blocking, port_listening, vid4095, no_vlan}
use Rattle.rules.specs.Reasons.{no_member, port_learning, no_candidate, no_port_left, no_room, reason_number}
use Rattle.rules.specs.Counters.{offered, accepted, not_learned, queued, state_out, queue_out, sent, drained, reason}
use Rattle.rules.specs.Counters.{counter_number}
use Rattle.rules.specs.Arguments.{kind_of, type_of, source_of, state_of, bit, flag}

pub record NumberTheorems : Type 0 where
  pub reasons : map reason_number (short ∷ long ∷ group_source ∷ tag_count ∷ port_blocking ∷ port_listening ∷ vid4095 ∷
      no_vlan ∷ no_member ∷ port_learning ∷ no_candidate ∷ no_port_left ∷ no_room ∷ [])
      ≡ 1 ∷ 2 ∷ 3 ∷ 4 ∷ 5 ∷ 6 ∷ 7 ∷ 8 ∷ 9 ∷ 10 ∷ 11 ∷ 12 ∷ 13 ∷ []
  -- 0 offered, 14 accepted, 15 not learned; 16 queued, 17 state, 18 queue off, 19 sent, 20 drained; a reason has its
  -- own number
  pub counters : map counter_number (offered ∷ accepted ∷ not_learned ∷ queued ∷ state_out ∷ queue_out ∷ sent ∷ drained ∷
      [])
      ≡ 0 ∷ 14 ∷ 15 ∷ 16 ∷ 17 ∷ 18 ∷ 19 ∷ 20 ∷ []
  pub reason_counters : map (λ r. counter_number (reason r))
      (short ∷ long ∷ group_source ∷ tag_count ∷ port_blocking ∷ port_listening ∷ vid4095 ∷ no_vlan ∷ no_member ∷
      port_learning ∷ no_candidate ∷ no_port_left ∷ no_room ∷ [])
      ≡ 1 ∷ 2 ∷ 3 ∷ 4 ∷ 5 ∷ 6 ∷ 7 ∷ 8 ∷ 9 ∷ 10 ∷ 11 ∷ 12 ∷ 13 ∷ []
  -- "state (0 Disabled, 1 Blocking, 2 Listening, 3 Learning, 4 Forwarding)"
  pub states : map state_of (0 ∷ 1 ∷ 2 ∷ 3 ∷ 4 ∷ []) ≡ disabled ∷ blocking ∷ listening ∷ learning ∷ forwarding ∷ []
  -- none, pop, push, swap, pop-all; 0 for 0x8100, 1 for 0x88A8; 0 outermost, 1 second, 2 given
  pub kinds : map kind_of (0 ∷ 1 ∷ 2 ∷ 3 ∷ 4 ∷ []) ≡ Operations.none ∷ pop ∷ push ∷ swap ∷ pop_all ∷ []
  pub types : map type_of (0 ∷ 1 ∷ []) ≡ 0x8100 ∷ 0x88A8 ∷ []
  pub sources : map source_of (0 ∷ 1 ∷ 2 ∷ []) ≡ outermost ∷ second ∷ given ∷ []
  pub flags : map flag (0 ∷ 1 ∷ []) ≡ false ∷ true ∷ []
  -- mask 22 is ports 1, 2 and 4
  pub bits : map (bit 22) (0 ∷ 1 ∷ 2 ∷ 3 ∷ 4 ∷ []) ≡ false ∷ true ∷ true ∷ false ∷ true ∷ []
  pub places : place_count ≡ 4112
  pub spares_from : first_spare ≡ 4096
