-- What the words of link memory say of the ports, the queues and the five ports' tests. Assumes nothing.
use Prim.Native.Nat.{ℕ, ◌≤◌, ◌<◌}
use mathlib.Core.Path.{◌≡◌, refl, ap, ◌∙◌}
use mathlib.Core.Bool.{Bool}
use mathlib.Core.List.{List}
use native.Mathlib.Omega.{arith}
use borrow.Author.Tests.{lt-ltb}
use Rattle.rules.specs.Settings.{Port, Vlan, departs, state_for}
use Rattle.rules.specs.Arguments.{bit, state_of, port_of}
use Rattle.rules.specs.PortTests.{port_test, bpdu_test}
use Rattle.settings.specs.Ports.{port_in}
use Rattle.settings.specs.States.{state_in}
use Rattle.settings.specs.Switches.{switch_in}
use Rattle.settings.specs.Maps.{bpdu_in, queue_in}
use Rattle.settings.proofs.StateLaws.{open_in}
use Rattle.settings.specs.Records.{states_at, port_at}
use Rattle.settings.specs.SettingsOf.{ports_of, queues_of, switch_of, switches_of, map_at, switches_at, settings_of}
use Rattle.arrival.specs.Candidates.{every_port, management_mask, candidates_in, masks_of, MasksAre}
use Rattle.arrival.proofs.Masks.{masks_are, bpdu_masks_are}

module _ (l : List ℕ) where
  pub port_is_law : (r : ℕ) → r < 5 → (settings_of l).port r ≡ port_of (port_at l r)
  unfolding settings_of ports_of
  port_is_law r h = rw (lt-ltb r 5 h)

  pub queue_is : (pcp : ℕ) → pcp ≤ 7 → (settings_of l).queue_of pcp ≡ queue_in (map_at l) pcp
  unfolding settings_of queues_of
  queue_is pcp h = rw (lt-ltb pcp 8 (omega arith))

  pub handling_is : (settings_of l).bpdu_handling ≡ bpdu_in (map_at l)
  unfolding settings_of
  handling_is = refl

  switch_is : (r q : ℕ) → r < 5 → q < 4 → (settings_of l).queue_on r q ≡ switch_in (switches_at l) r q
  unfolding settings_of switches_of switch_of
  switch_is r q h k = rw (lt-ltb r 5 h, lt-ltb q 4 k)

  state_is : (r : ℕ) → (port_of (port_at l r)).state ≡ state_of (state_in (states_at l) r)
  unfolding port_of port_in
  state_is r = refl

  open_is : (v : Vlan) (r : ℕ) → r < 5 → departs (state_for (settings_of l) v r) ≡ bit (states_at l) r
  unfolding state_for
  open_is v r h = ap (λ (p : Port). departs p.state) (port_is_law r h) ∙ ap departs (state_is r) ∙ open_in (states_at l) r

  -- the masks of the words are those of the rules' tests
  pub masks_in_law : (v : Vlan) (chooses : ℕ → Bool) (port queue members chosen : ℕ) → members < 32 → queue ≤ 3
      → ((r : ℕ) → v.member r ≡ bit members r) → ((r : ℕ) → r < 5 → chooses r ≡ bit chosen r)
      → MasksAre (port_test (settings_of l) v chooses port queue) (masks_of (candidates_in members chosen port) (states_at l) (switches_at l) queue)
  masks_in_law v chooses port queue members chosen small q member choice =
      masks_are (settings_of l) v chooses port queue members chosen (states_at l) (switches_at l) small
      (record { member = λ r h. member r; choice = choice; opened = open_is v; switched = λ r h. switch_is r queue h (omega arith) })

  pub bpdu_masks_in : MasksAre (bpdu_test (settings_of l)) (masks_of management_mask every_port (switches_at l) 3)
  bpdu_masks_in = bpdu_masks_are (settings_of l) (switches_at l) (switch_is 4 3 (omega arith) (omega arith))
