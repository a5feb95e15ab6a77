-- Each port's test, said by what takes it out. Assumes nothing.
use Prim.Native.Nat.{ℕ, zero, suc, ◌≤◌}
use mathlib.Core.Path.{◌≡◌, refl, sym, ap, ◌∙◌}
use mathlib.Core.Bool.{Bool, true, false, not, false≢true, true≢false}
use mathlib.Core.List.{List, [], ◌∷◌}
use native.Mathlib.Omega.{arith}
use lib.Dec.{eqb}
use borrow.Author.Tests.{eqb-true, eqb-false, eq-eqb, ne_eqb, not-false, not-true}
use Rattle.std.specs.Prelude.{if◌then◌else◌}
use Rattle.rules.specs.Choice.{sift, among}
use Rattle.rules.specs.Numbers.{all_ports}
use Rattle.rules.specs.Settings.{PortState, disabled, blocking, listening, learning, forwarding, Settings, Vlan, departs, state_for}
use Rattle.rules.specs.Addresses.{Table}
use Rattle.rules.specs.PortTests.{Test, passes, not_member, arrival, elsewhere, state, queue_off, is_passed, ports_left, port_test, bpdu_test}
use Rattle.rules.specs.Facts.{Packet, facts_of}
use Rattle.rules.specs.ArrivalTheorems.{DisabledOrForwarding, is_disabled, is_forwarding, Barring, blocking_bars, listening_bars, learning_bars, Candidate, TestTheorems, BpduTestTheorems, ExactlyPassing}
use Rattle.rules.proofs.Choice.{on}

-- ---- which test it is

unfoldable pub is_state : Test → Bool
is_state passes = false
is_state not_member = false
is_state arrival = false
is_state elsewhere = false
is_state state = true
is_state queue_off = false

unfoldable pub is_queue_off : Test → Bool
is_queue_off passes = false
is_queue_off not_member = false
is_queue_off arrival = false
is_queue_off elsewhere = false
is_queue_off state = false
is_queue_off queue_off = true

pub is_passes : (t : Test) → is_passed t ≡ true → t ≡ passes
unfolding is_passed
is_passes passes e = refl
is_passes not_member e = absurd (false≢true e)
is_passes arrival e = absurd (false≢true e)
is_passes elsewhere e = absurd (false≢true e)
is_passes state e = absurd (false≢true e)
is_passes queue_off e = absurd (false≢true e)

passes_is : (t : Test) → t ≡ passes → is_passed t ≡ true
unfolding is_passed
passes_is t e = rw e

-- ---- states

pub departs_only : (x : PortState) → departs x ≡ true → DisabledOrForwarding x
unfolding departs
departs_only disabled e = is_disabled
departs_only blocking e = absurd (false≢true e)
departs_only listening e = absurd (false≢true e)
departs_only learning e = absurd (false≢true e)
departs_only forwarding e = is_forwarding

departs_then : (x : PortState) → DisabledOrForwarding x → departs x ≡ true
unfolding departs
departs_then disabled is_disabled = refl
departs_then blocking impossible = elim impossible [ ]
departs_then listening impossible = elim impossible [ ]
departs_then learning impossible = elim impossible [ ]
departs_then forwarding is_forwarding = refl

bars_only : (x : PortState) → departs x ≡ false → Barring x
unfolding departs
bars_only disabled e = absurd (true≢false e)
bars_only blocking e = blocking_bars
bars_only listening e = listening_bars
bars_only learning e = learning_bars
bars_only forwarding e = absurd (true≢false e)

bars_then : (x : PortState) → Barring x → departs x ≡ false
unfolding departs
bars_then disabled impossible = elim impossible [ ]
bars_then blocking blocking_bars = refl
bars_then listening listening_bars = refl
bars_then learning learning_bars = refl
bars_then forwarding impossible = elim impossible [ ]

-- ---- the chain of tests

-- a test that is not the one asked for must have let the port pass
past : (is : Test → Bool) (c : Bool) (a b : Test) → is a ≡ false → is (if c then a else b) ≡ true → (c ≡ false) × (is b ≡ true)
past is true a b h e = absurd (false≢true (sym h ∙ e))
past is false a b h e = (refl, e)

stopped : (is : Test → Bool) (c : Bool) (a b : Test) → is b ≡ false → is (if c then a else b) ≡ true → c ≡ true
stopped is true a b h e = refl
stopped is false a b h e = absurd (false≢true (sym h ∙ e))

module _ (s : Settings) (v : Vlan) (chosen : ℕ → Bool) (p q r : ℕ) where
  abbrev switch : Test
  switch = if not (s.queue_on r q) then queue_off else passes

  abbrev departure : Test
  departure = if not (departs (state_for s v r)) then state else switch

  abbrev choice : Test
  choice = if not (chosen r) then elsewhere else departure

  -- a test behind the first three comes only at a candidate
  at_candidate : (is : Test → Bool) → is not_member ≡ false → is arrival ≡ false → is elsewhere ≡ false → is (port_test s v chosen p q r) ≡ true
      → (v.member r ≡ true) × (r ≡ p → ⊥) × (chosen r ≡ true) × (is departure ≡ true)
  unfolding port_test
  at_candidate is m a e h =
      let x = past is (not (v.member r)) not_member (if eqb r p then arrival else choice) m h in
      let y = past is (eqb r p) arrival choice a x.1 in
      let z = past is (not (chosen r)) elsewhere departure e y.1 in
      (not-false (v.member r) x.0, eqb-false r p y.0, not-false (chosen r) z.0, z.1)

  candidate_test : v.member r ≡ true → (r ≡ p → ⊥) → chosen r ≡ true → port_test s v chosen p q r ≡ departure
  unfolding port_test
  candidate_test m a c = rw (m, ne_eqb r p a, c)

  departed : (is : Test → Bool) → is state ≡ false → is departure ≡ true → (departs (state_for s v r) ≡ true) × (is switch ≡ true)
  departed is h e =
      let x = past is (not (departs (state_for s v r))) state switch h e in (not-false (departs (state_for s v r)) x.0, x.1)

  switch_passes : is_passed switch ≡ true → s.queue_on r q ≡ true
  unfolding is_passed
  switch_passes e = on (s.queue_on r q) (λ x. x) (λ x. absurd (false≢true (rw x at e)))

  switch_off : is_queue_off switch ≡ true → s.queue_on r q ≡ false
  unfolding is_queue_off
  switch_off e = on (s.queue_on r q) (λ x. absurd (false≢true (rw x at e))) (λ x. x)

  switch_state : is_state switch ≡ false
  unfolding is_state
  switch_state = on (s.queue_on r q) (λ x. rw x) (λ x. rw x)

  state_barred : is_state departure ≡ true → departs (state_for s v r) ≡ false
  unfolding is_state
  state_barred e = not-true (departs (state_for s v r)) (stopped is_state (not (departs (state_for s v r))) state switch switch_state e)

-- ---- an ordinary frame

module _ (s : Settings) (t : Table) (free p : ℕ) (k : Packet) (ordinary : (facts_of s t free p k).bpdu ≡ false) (r : ℕ) where
  abbrev v : Vlan
  v = (facts_of s t free p k).vlan

  abbrev chosen : ℕ → Bool
  chosen = (facts_of s t free p k).chosen

  abbrev q : ℕ
  q = (facts_of s t free p k).queue

  test_is : (facts_of s t free p k).test r ≡ port_test s v chosen p q r
  unfolding facts_of
  test_is = rw ordinary

  candidate_of : (is : Test → Bool) → is not_member ≡ false → is arrival ≡ false → is elsewhere ≡ false → is ((facts_of s t free p k).test r) ≡ true
      → Candidate s t free p k r × (is (departure s v chosen p q r) ≡ true)
  candidate_of is m a e h =
      let x = at_candidate s v chosen p q r is m a e (sym (ap is test_is) ∙ h) in
      (record { member = x.0; not_arrival = x.1; chosen = x.2 }, x.3)

  test_at : Candidate s t free p k r → (facts_of s t free p k).test r ≡ departure s v chosen p q r
  test_at c = test_is ∙ candidate_test s v chosen p q r c.member c.not_arrival c.chosen

  passes_only : (facts_of s t free p k).test r ≡ passes → Candidate s t free p k r × DisabledOrForwarding (s.port r).state × (s.queue_on r q ≡ true)
  unfolding is_passed state_for
  passes_only h =
      let x = candidate_of is_passed refl refl refl (passes_is _ h) in
      let y = departed s v chosen p q r is_passed refl x.1 in
      (x.0, departs_only (s.port r).state y.0, switch_passes s v chosen p q r y.1)

  passes_then : Candidate s t free p k r × DisabledOrForwarding (s.port r).state × (s.queue_on r q ≡ true) → (facts_of s t free p k).test r ≡ passes
  unfolding state_for
  passes_then h = test_at h.0 ∙ rw (departs_then (s.port r).state h.1, h.2)

  state_only : (facts_of s t free p k).test r ≡ state → Candidate s t free p k r × Barring (s.port r).state
  unfolding is_state state_for
  state_only h =
      let x = candidate_of is_state refl refl refl (ap is_state h) in
      (x.0, bars_only (s.port r).state (state_barred s v chosen p q r x.1))

  state_then : Candidate s t free p k r × Barring (s.port r).state → (facts_of s t free p k).test r ≡ state
  unfolding state_for
  state_then h = test_at h.0 ∙ rw (bars_then (s.port r).state h.1)

  queue_off_only : (facts_of s t free p k).test r ≡ queue_off → Candidate s t free p k r × DisabledOrForwarding (s.port r).state × (s.queue_on r q ≡ false)
  unfolding is_queue_off state_for
  queue_off_only h =
      let x = candidate_of is_queue_off refl refl refl (ap is_queue_off h) in
      let y = departed s v chosen p q r is_queue_off refl x.1 in
      (x.0, departs_only (s.port r).state y.0, switch_off s v chosen p q r y.1)

  queue_off_then : Candidate s t free p k r × DisabledOrForwarding (s.port r).state × (s.queue_on r q ≡ false) → (facts_of s t free p k).test r ≡ queue_off
  unfolding state_for
  queue_off_then h = test_at h.0 ∙ rw (departs_then (s.port r).state h.1, h.2)

  pub test_theorems : TestTheorems s t free p k ordinary r
  test_theorems =
      record {
        passes_exactly = (passes_only, passes_then);
        state_exactly = (state_only, state_then);
        queue_off_exactly = (queue_off_only, queue_off_then);
      }

-- ---- a BPDU to port 4

not_passes : (t : Test) → is_passed t ≡ false → t ≡ passes → ⊥
unfolding is_passed
not_passes t h e = false≢true (sym h ∙ passes_is t e)

passed_off : is_passed queue_off ≡ false
unfolding is_passed
passed_off = refl

passed_elsewhere : is_passed elsewhere ≡ false
unfolding is_passed
passed_elsewhere = refl

not_off : (x : Test) → is_queue_off x ≡ false → x ≡ queue_off → ⊥
unfolding is_queue_off
not_off x h e = false≢true (sym h ∙ ap is_queue_off e)

not_state : (x : Test) → is_state x ≡ false → x ≡ state → ⊥
unfolding is_state
not_state x h e = false≢true (sym h ∙ ap is_state e)

module _ (s : Settings) (t : Table) (free p : ℕ) (k : Packet) (bpdu : (facts_of s t free p k).bpdu ≡ true) (r : ℕ) where
  bpdu_test_is : (facts_of s t free p k).test r ≡ bpdu_test s r
  unfolding facts_of
  bpdu_test_is = rw bpdu

  -- by cases: port 4 with its queue on, port 4 with its queue off, another port
  bpdu_cases {ℓ} : (P : Test → Type ℓ) → (r ≡ 4 → s.queue_on 4 3 ≡ true → P passes) → (r ≡ 4 → s.queue_on 4 3 ≡ false → P queue_off) → ((r ≡ 4 → ⊥) → P elsewhere) → P ((facts_of s t free p k).test r)
  unfolding bpdu_test
  bpdu_cases P a b c =
      rw bpdu_test_is (on (eqb r 4)
      (λ e. rw e (on (s.queue_on 4 3) (λ x. rw x (a (eqb-true r 4 e) x)) (λ x. rw x (b (eqb-true r 4 e) x))))
      (λ e. rw e (c (eqb-false r 4 e))))

  bpdu_at : (x : Test) → r ≡ 4 → (if s.queue_on 4 3 then passes else queue_off) ≡ x → (facts_of s t free p k).test r ≡ x
  unfolding bpdu_test
  bpdu_at x e h = bpdu_test_is ∙ rw (eq-eqb r 4 e) h

  pub bpdu_test_theorems : BpduTestTheorems s t free p k bpdu r
  unfolding is_queue_off is_state
  bpdu_test_theorems =
      record {
        passes_exactly = (
          bpdu_cases (λ (x : Test). x ≡ passes → (r ≡ 4) × (s.queue_on 4 3 ≡ true))
              (λ e on_it h. (e, on_it)) (λ e off h. absurd (not_passes queue_off passed_off h)) (λ n h. absurd (not_passes elsewhere passed_elsewhere h)),
          λ h. bpdu_at passes h.0 (rw h.1),
        );
        queue_off_exactly = (
          bpdu_cases (λ (x : Test). x ≡ queue_off → (r ≡ 4) × (s.queue_on 4 3 ≡ false))
              (λ e on_it h. absurd (not_off passes refl h)) (λ e off h. (e, off)) (λ n h. absurd (not_off elsewhere refl h)),
          λ h. bpdu_at queue_off h.0 (rw h.1),
        );
        state_never = bpdu_cases (λ (x : Test). x ≡ state → ⊥) (λ e on_it h. not_state passes refl h) (λ e off h. not_state queue_off refl h) (λ n h. not_state elsewhere refl h);
      }

-- ---- the ports left

pub among_sifted : (r : ℕ) (test : ℕ → Bool) (ps : List ℕ) → among r (sift test ps) ≡ true → (among r ps ≡ true) × (test r ≡ true)
unfolding sift among
among_sifted r test [] h = absurd (false≢true h)
among_sifted r test (p ∷ ps) h =
    on (eqb r p)
    (λ e. rw e (on (test p)
    (λ x. (refl, ap test (eqb-true r p e) ∙ x))
    (λ x. (refl, (among_sifted r test ps (rw x at h)).1))))
    (λ e. rw e (on (test p)
    (λ x. among_sifted r test ps (rw (x, e) at h))
    (λ x. among_sifted r test ps (rw x at h))))

pub sifted_among : (r : ℕ) (test : ℕ → Bool) (ps : List ℕ) → among r ps ≡ true → test r ≡ true → among r (sift test ps) ≡ true
unfolding sift among
sifted_among r test [] h x = absurd (false≢true h)
sifted_among r test (p ∷ ps) h x =
    on (eqb r p)
    (λ e. rw (ap test (sym (eqb-true r p e)) ∙ x, e))
    (λ e. on (test p)
    (λ y. rw (y, e) (sifted_among r test ps (rw e at h) x))
    (λ y. rw y (sifted_among r test ps (rw e at h) x)))

pub port_among : (r : ℕ) → r ≤ 4 → among r all_ports ≡ true
unfolding among
port_among zero h = refl
port_among (suc zero) h = refl
port_among (suc (suc zero)) h = refl
port_among (suc (suc (suc zero))) h = refl
port_among (suc (suc (suc (suc zero)))) h = refl
port_among (suc (suc (suc (suc (suc r))))) h = absurd (omega arith)

pub among_port : (r : ℕ) → among r all_ports ≡ true → r ≤ 4
unfolding among
among_port r h =
    on (eqb r 0) (λ e. omega (arith, eqb-true r 0 e)) (λ a.
    on (eqb r 1) (λ e. omega (arith, eqb-true r 1 e)) (λ b.
    on (eqb r 2) (λ e. omega (arith, eqb-true r 2 e)) (λ c.
    on (eqb r 3) (λ e. omega (arith, eqb-true r 3 e)) (λ d.
    on (eqb r 4) (λ e. omega (arith, eqb-true r 4 e)) (λ z. absurd (false≢true (rw (a, b, c, d, z) at h)))))))

pub left_passes : (test : ℕ → Test) (r : ℕ) → among r (ports_left test) ≡ true → (r ≤ 4) × (test r ≡ passes)
unfolding ports_left
left_passes test r h =
    let x = among_sifted r (λ (n : ℕ). is_passed (test n)) all_ports h in (among_port r x.0, is_passes (test r) x.1)

pub passes_left : (test : ℕ → Test) (r : ℕ) → (r ≤ 4) × (test r ≡ passes) → among r (ports_left test) ≡ true
unfolding ports_left
passes_left test r h = sifted_among r (λ (n : ℕ). is_passed (test n)) all_ports (port_among r h.0) (passes_is (test r) h.1)

pub ports_exactly : (s : Settings) (t : Table) (free p : ℕ) (k : Packet) → ExactlyPassing s t free p k (ports_left (facts_of s t free p k).test)
ports_exactly s t free p k r = (left_passes (facts_of s t free p k).test r, passes_left (facts_of s t free p k).test r)
