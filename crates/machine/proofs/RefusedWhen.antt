-- When each call gets each of its refusals. Assumes nothing.
use Prim.Native.Nat.{ℕ, ◌≤◌, ◌<◌}
use mathlib.Core.Path.{◌≡◌, refl, sym, ap, ap₂, ◌∙◌}
use mathlib.Core.Logic.{◌↔◌}
use mathlib.Core.Bool.{Bool, true, false, not, ◌&&◌, false≢true, true≢false}
use mathlib.Core.List.{[], ◌∷◌}
use Rattle.std.specs.Prelude.{None as none, Some as some}
use native.Mathlib.Omega.{arith}
use lib.Dec.{eqb, leb, ltb}
use lib.ListN.{length}
use borrow.Author.Tests.{leb-true, leb-false, le-leb, lt-leb, ltb-true, ltb-false, lt-ltb, le-ltb, eqb-false, not-true, not-false}
use Rattle.rules.specs.Lines.{line, first}
use Rattle.rules.specs.Tags.{is_group}
use Rattle.rules.specs.Settings.{is_there}
use Rattle.rules.specs.Tables.{is_found, nowhere}
use Rattle.rules.specs.Addresses.{Table, key, find, empty_for, no_place_for}
use Rattle.rules.specs.Arguments.{is_vid, is_address, VlanNumbers, port_in_range, vlan_in_range}
use Rattle.rules.specs.RangeTheorems.{VlanFits}
use Rattle.rules.specs.Refusals.{refusal_number, Lines, frame_in_lines, take_lines, age_lines, counter_lines, port_lines, vlan_lines, clear_vlan_lines, static_lines, remove_lines, map_lines, queue_switch_lines, drain_lines, bpdu_lines}
use Rattle.rules.specs.declared.refusals.Refusal.{Refusal}
use Rattle.rules.specs.declared.refusals.Refusal.TheVariants.{PortAboveFour as port_above_four, OutOfRange as out_of_range, GroupAddress as group_address, ShortBuffer as short_buffer, VlansInUse as vlans_in_use, VlanNotThere as vlan_not_there, PlacesInUse as places_in_use, AddressNotThere as address_not_there}
use Rattle.rules.proofs.Choice.{on, and_left, and_right}
use Rattle.rules.proofs.Tables.{on_found}
use Rattle.rules.proofs.Ranges.{vids, addresses, range_theorems}
use Rattle.rules.proofs.Addresses.{address_theorems}
use Rattle.rules.specs.Requests.{StaticRequest}
use Rattle.machine.specs.State.{State, Call, frame_in, take, age, counter, port, vlan, clear_vlan, static, remove, map, queue_switch, drain, bpdu}
use Rattle.machine.specs.SettingCalls.{no_entry_left}
use Rattle.machine.specs.Machine.{lines_of}
use Rattle.machine.specs.RefusedWhen.{ExactlyIf, KeyFits, RefusedWhen}
use Rattle.machine.proofs.Refusals.{refused_by_law, refuses}

-- ---- exactly if

chain : {A B C : Type 0} → A ↔ B → B ↔ C → A ↔ C
chain p q = (λ a. q.0 (p.0 a), λ c. p.1 (q.1 c))

both : {A B C D : Type 0} → A ↔ B → C ↔ D → (A × C) ↔ (B × D)
both p q = (λ x. (p.0 x.0, q.0 x.1), λ x. (p.1 x.0, q.1 x.1))

itself : {A : Type 0} → A ↔ A
itself = (λ a. a, λ a. a)

-- a test that fails says that what it asks is not so
fails : {A : Type 0} (b : Bool) → (b ≡ true) ↔ A → (b ≡ false) ↔ (A → ⊥)
fails b p = (λ e a. true≢false (sym (p.1 a) ∙ e), λ n. on b (λ e. absurd (n (p.0 e))) (λ e. e))

negated : (b : Bool) → (not b ≡ true) ↔ (b ≡ false)
negated b = (not-true b, λ e. ap not e)

kept : (b : Bool) → (not b ≡ false) ↔ (b ≡ true)
kept b = (not-false b, λ e. ap not e)

both_tests : {A B : Type 0} (a b : Bool) → (a ≡ true) ↔ A → (b ≡ true) ↔ B → ((a && b) ≡ true) ↔ (A × B)
both_tests a b p q = (λ h. (p.0 (and_left a b h), q.0 (and_right a b h)), λ x. ap₂ (λ (m n : Bool). m && n) (p.1 x.0) (q.1 x.1))

at_most : (m n : ℕ) → (leb m n ≡ true) ↔ (m ≤ n)
at_most m n = (leb-true m n, le-leb m n)

above : (m n : ℕ) → (leb m n ≡ false) ↔ (n < m)
above m n = (leb-false m n, lt-leb m n)

port_bad : (p : ℕ) → (ltb 4 p ≡ true) ↔ (4 < p)
port_bad p = (ltb-true 4 p, lt-ltb 4 p)

port_good : (p : ℕ) → (ltb 4 p ≡ false) ↔ (p ≤ 4)
port_good p = (ltb-false 4 p, le-ltb 4 p)

-- ---- the first line that holds

some_one : {a b : Refusal} → some a ≡ some b → a ≡ b
some_one e = cc

apart : (a b : Refusal) → eqb (refusal_number a) (refusal_number b) ≡ false → a ≡ b → ⊥
apart a b h e = eqb-false (refusal_number a) (refusal_number b) h (ap refusal_number e)

empty_says : (r : Refusal) → first [] ≡ some r → ⊥
unfolding first
empty_says r e = let z : ◌≡◌ {A = ℕ} 0 1 = cc in omega arith

module _ (r : Refusal) (holds : Bool) (rest : Lines) where
  -- a line's own refusal, if no later line has the same
  here : (first rest ≡ some r → ⊥) → (first (line r holds ∷ rest) ≡ some r) ↔ (holds ≡ true)
  unfolding first
  here n = (
    λ e. on holds (λ h. h) (λ h. absurd (n (rw h at e))),
    λ h. rw h,
  )

  -- a later line's refusal
  later : (q : Refusal) → eqb (refusal_number r) (refusal_number q) ≡ false → (first (line r holds ∷ rest) ≡ some q) ↔ ((holds ≡ false) × (first rest ≡ some q))
  unfolding first
  later q ne = (
    λ e. on holds (λ h. absurd (apart r q ne (some_one (rw h at e)))) (λ h. (h, rw h at e)),
    λ x. rw x.0 x.1,
  )

  -- a refusal that neither this line nor a later one has
  never : (q : Refusal) → eqb (refusal_number r) (refusal_number q) ≡ false → (first rest ≡ some q → ⊥) → first (line r holds ∷ rest) ≡ some q → ⊥
  never q ne n e = n ((later q ne).0 e).1

by_lines : (s : State) (c : Call) (r : Refusal) → ExactlyIf s c r (first (lines_of s c) ≡ some r)
by_lines s c r = (refused_by_law s c r, refuses s c r)

-- ---- keys

module _ (t : Table) (gid address : ℕ) where
  key_fits : ((leb gid 15 && is_address address) ≡ true) ↔ KeyFits gid address
  key_fits = both_tests (leb gid 15) (is_address address) (at_most gid 15) (addresses address)

  no_place : (no_place_for t (key gid address) ≡ true) ↔ ((find t (key gid address) ≡ nowhere) × (empty_for t (key gid address) ≡ none))
  no_place = (address_theorems.static t (key gid address) 0).full_exactly

  not_found : (not (is_found (find t (key gid address))) ≡ true) ↔ (find t (key gid address) ≡ nowhere)
  unfolding is_found
  not_found = (
    λ e. on_found (find t (key gid address)) (λ h. h) (λ i x h. absurd (false≢true (rw h at e))),
    λ h. rw h,
  )

-- ---- each call

module _ (s : State) where
  pub refused_when : RefusedWhen s
  unfolding lines_of frame_in_lines take_lines age_lines counter_lines port_lines vlan_lines clear_vlan_lines static_lines remove_lines map_lines queue_switch_lines drain_lines bpdu_lines refusal_number no_entry_left
  refused_when =
      record {
        frame_in_2 = λ c. chain (by_lines s (frame_in c) port_above_four) (chain (here port_above_four _ _ (empty_says port_above_four)) (port_bad c.port));
        take_2 = λ c. chain (by_lines s (take c) port_above_four) (chain (here port_above_four _ _ (never short_buffer _ _ port_above_four refl (empty_says port_above_four))) (port_bad c.port));
        counter_2 = λ c. chain (by_lines s (counter c) port_above_four) (chain (here port_above_four _ _ (never out_of_range _ _ port_above_four refl (empty_says port_above_four))) (port_bad c.port));
        port_2 = λ c. chain (by_lines s (port c) port_above_four) (chain (here port_above_four _ _ (never out_of_range _ _ port_above_four refl (empty_says port_above_four))) (port_bad c.port));
        static_2 = λ c.
            chain (by_lines s (static c) port_above_four) (chain (here port_above_four _ _
            (never out_of_range _ _ port_above_four refl (never group_address _ _ port_above_four refl (never places_in_use _ _ port_above_four refl (empty_says port_above_four))))) (port_bad c.port));
        switch_2 = λ c. chain (by_lines s (queue_switch c) port_above_four) (chain (here port_above_four _ _ (never out_of_range _ _ port_above_four refl (empty_says port_above_four))) (port_bad c.port));
        drain_2 = λ p. chain (by_lines s (drain p) port_above_four) (chain (here port_above_four _ _ (empty_says port_above_four)) (port_bad p));
        counter_3 = λ c.
            chain (by_lines s (counter c) out_of_range) (chain (later port_above_four _ _ out_of_range refl)
            (both (port_good c.port) (chain (here out_of_range _ _ (empty_says out_of_range)) (chain (negated (leb c.number 20)) (above c.number 20)))));
        port_3 = λ c.
            chain (by_lines s (port c) out_of_range) (chain (later port_above_four _ _ out_of_range refl)
            (both (port_good c.port) (chain (here out_of_range _ _ (empty_says out_of_range)) (chain (negated (port_in_range c.new)) (fails (port_in_range c.new) (range_theorems.ports c.new))))));
        vlan_3 = λ n.
            chain (by_lines s (vlan n) out_of_range) (chain (here out_of_range _ _ (never vlans_in_use _ _ out_of_range refl (empty_says out_of_range)))
            (chain (negated (vlan_in_range n)) (fails (vlan_in_range n) (range_theorems.vlans n))));
        clear_3 = λ vid.
            chain (by_lines s (clear_vlan vid) out_of_range) (chain (here out_of_range _ _ (never vlan_not_there _ _ out_of_range refl (empty_says out_of_range)))
            (chain (negated (is_vid vid)) (fails (is_vid vid) (vids vid))));
        static_3 = λ c.
            chain (by_lines s (static c) out_of_range) (chain (later port_above_four _ _ out_of_range refl)
            (both (port_good c.port) (chain (here out_of_range _ _ (never group_address _ _ out_of_range refl (never places_in_use _ _ out_of_range refl (empty_says out_of_range))))
            (chain (negated (leb c.gid 15 && is_address c.address)) (fails _ (key_fits s.core.table c.gid c.address))))));
        remove_3 = λ c.
            chain (by_lines s (remove c) out_of_range) (chain (here out_of_range _ _ (never address_not_there _ _ out_of_range refl (empty_says out_of_range)))
            (chain (negated (leb c.gid 15 && is_address c.address)) (fails _ (key_fits s.core.table c.gid c.address))));
        map_3 = λ c.
            chain (by_lines s (map c) out_of_range) (chain (here out_of_range _ _ (empty_says out_of_range))
            (chain (negated (leb c.pcp 7 && leb c.queue 3)) (fails _ (both_tests (leb c.pcp 7) (leb c.queue 3) (at_most c.pcp 7) (at_most c.queue 3)))));
        switch_3 = λ c.
            chain (by_lines s (queue_switch c) out_of_range) (chain (later port_above_four _ _ out_of_range refl)
            (both (port_good c.port) (chain (here out_of_range _ _ (empty_says out_of_range))
            (chain (negated (leb c.queue 3 && leb c.on 1)) (fails _ (both_tests (leb c.queue 3) (leb c.on 1) (at_most c.queue 3) (at_most c.on 1)))))));
        bpdu_3 = λ b. chain (by_lines s (bpdu b) out_of_range) (chain (here out_of_range _ _ (empty_says out_of_range)) (chain (negated (leb b 1)) (above b 1)));
        static_4 = static_four;
        static_8 = static_eight;
        take_5 = λ c.
            chain (by_lines s (take c) short_buffer) (chain (later port_above_four _ _ short_buffer refl)
            (both (port_good c.port) (chain (here short_buffer _ _ (empty_says short_buffer)) (ltb-true c.buffer 4091, lt-ltb c.buffer 4091))));
        vlan_6 = vlan_six;
        clear_7 = λ vid.
            chain (by_lines s (clear_vlan vid) vlan_not_there) (chain (later out_of_range _ _ vlan_not_there refl)
            (both (chain (kept (is_vid vid)) (vids vid)) (chain (here vlan_not_there _ _ (empty_says vlan_not_there)) (negated (is_there s.core.settings.vlans vid)))));
        remove_9 = λ c.
            chain (by_lines s (remove c) address_not_there) (chain (later out_of_range _ _ address_not_there refl)
            (both (chain (kept (leb c.gid 15 && is_address c.address)) (key_fits s.core.table c.gid c.address))
            (chain (here address_not_there _ _ (empty_says address_not_there)) (not_found s.core.table c.gid c.address))));
        age_never = λ r e. empty_says r (refused_by_law s age r e);
      }
    where
      static_four : (c : StaticRequest) → ExactlyIf s (static c) group_address ((c.port ≤ 4) × KeyFits c.gid c.address × (is_group c.address ≡ true))
      static_four c =
          chain (by_lines s (static c) group_address) (chain (later port_above_four _ _ group_address refl)
          (chain (both (port_good c.port) (chain (later out_of_range _ _ group_address refl)
          (both (chain (kept (leb c.gid 15 && is_address c.address)) (key_fits s.core.table c.gid c.address))
          (here group_address _ _ (never places_in_use _ _ group_address refl (empty_says group_address))))))
          (λ x. (x.0, x.1.0, x.1.1), λ x. (x.0, (x.1, x.2)))))

      static_eight : (c : StaticRequest) → ExactlyIf s (static c) places_in_use
          ((c.port ≤ 4) × KeyFits c.gid c.address × (is_group c.address ≡ false)
          × (find s.core.table (key c.gid c.address) ≡ nowhere) × (empty_for s.core.table (key c.gid c.address) ≡ none))
      static_eight c =
          chain (by_lines s (static c) places_in_use) (chain (later port_above_four _ _ places_in_use refl)
          (chain (both (port_good c.port) (chain (later out_of_range _ _ places_in_use refl)
          (both (chain (kept (leb c.gid 15 && is_address c.address)) (key_fits s.core.table c.gid c.address))
          (chain (later group_address _ _ places_in_use refl) (both itself (chain (here places_in_use _ _ (empty_says places_in_use)) (no_place s.core.table c.gid c.address)))))))
          (λ x. (x.0, x.1.0, x.1.1.0, x.1.1.1.0, x.1.1.1.1), λ x. (x.0, (x.1, (x.2, (x.3, x.4)))))))

      vlan_six : (n : VlanNumbers) → ExactlyIf s (vlan n) vlans_in_use
          (VlanFits n × (is_there s.core.settings.vlans n.vid ≡ false) × (16 ≤ length s.core.settings.vlans))
      vlan_six n =
          chain (by_lines s (vlan n) vlans_in_use) (chain (later out_of_range _ _ vlans_in_use refl)
          (chain (both (chain (kept (vlan_in_range n)) (range_theorems.vlans n)) (chain (here vlans_in_use _ _ (empty_says vlans_in_use))
          (both_tests (not (is_there s.core.settings.vlans n.vid)) (leb 16 (length s.core.settings.vlans)) (negated (is_there s.core.settings.vlans n.vid)) (at_most 16 (length s.core.settings.vlans)))))
          (λ x. (x.0, x.1.0, x.1.1), λ x. (x.0, (x.1, x.2)))))
