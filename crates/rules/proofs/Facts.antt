-- What the facts of a frame are, one by one. Assumes nothing.
use Prim.Native.Nat.{ℕ, zero, suc}
use mathlib.Core.Path.{◌≡◌, refl, sym, ap, subst, ◌∙◌}
use mathlib.Core.Logic.{◌↔◌}
use mathlib.Core.Bool.{Bool, true, false, ◌&&◌, not, false≢true, true≢false}
use mathlib.Core.List.{List, [], ◌∷◌, Memᴰ}
use lib.Dec.{eqb}
use lib.ListN.{length}
use borrow.Author.Tests.{eqb-true, eqb-false, eq-eqb, ne_eqb, ltb-true, lt-ltb, not-true}
use Rattle.std.specs.Prelude.{if◌then◌else◌}
use Rattle.rules.specs.Choice.{Each, nobody, also}
use Rattle.rules.specs.Cells.{cells}
use Rattle.rules.specs.Tags.{Header, Tag, tags_of, destination}
use Rattle.rules.specs.Operations.{header_at}
use Rattle.rules.specs.Settings.{Vlan, Settings, is_there, vlan_of, or_default, assigned_vid, queue_pcp, state_for}
use Rattle.rules.specs.Addresses.{Entry, Table, LookUp, group, found, key, find, answered, look_up}
use Rattle.rules.specs.PortTests.{is_chosen}
use Rattle.rules.specs.Facts.{Packet, is_bpdu, facts_of}
use Rattle.rules.specs.FactsTheorems.{facts, VidTheorems, VlanTheorems, QueueTheorems, LookUpTheorems, FactsTheorems}
use Rattle.rules.proofs.Choice.{on, and_left, and_right}

-- ---- VID 0 gives way to the default VID

or_default_zero : (default : Header) (vid : ℕ) → vid ≡ 0 → or_default default vid ≡ default.vid
unfolding or_default
or_default_zero default vid e = ap (λ (b : Bool). if b then default.vid else vid) (eq-eqb vid 0 e)

or_default_other : (default : Header) (vid : ℕ) → (vid ≡ 0 → ⊥) → or_default default vid ≡ vid
unfolding or_default
or_default_other default vid other = ap (λ (b : Bool). if b then default.vid else vid) (ne_eqb vid 0 other)

-- the default VID itself, 0 or not
or_default_own : (default : Header) → or_default default default.vid ≡ default.vid
unfolding or_default
or_default_own default = on (eqb default.vid 0) (λ e. rw e) (λ e. rw e)

or_default_never : (default : Header) (vid : ℕ) → (default.vid ≡ 0 → ⊥) → or_default default vid ≡ 0 → ⊥
or_default_never default vid h e =
    on (eqb vid 0)
    (λ z. h (sym (or_default_zero default vid (eqb-true vid 0 z)) ∙ e))
    (λ z. eqb-false vid 0 z (sym (or_default_other default vid (eqb-false vid 0 z)) ∙ e))

never_zero : (assignment : ℕ) (default : Header) (tags : List Tag) → (default.vid ≡ 0 → ⊥) → assigned_vid assignment default tags ≡ 0 → ⊥
unfolding assigned_vid
never_zero zero default tags h e = h e
never_zero (suc i) default tags h e = or_default_never default (header_at default tags i).vid h e

-- ---- the VLAN table

there_is : (vs : List Vlan) (vid : ℕ) → is_there vs vid ≡ true → Memᴰ (vlan_of vs vid) vs × ((vlan_of vs vid).vid ≡ vid)
unfolding is_there vlan_of
there_is [] vid h = absurd (false≢true h)
there_is (v ∷ vs) vid h =
    on (eqb v.vid vid)
    (λ e. rw e (Memᴰ.head refl, eqb-true v.vid vid e))
    (λ e. rw e (let r = there_is vs vid (rw e at h) in (Memᴰ.tail r.0, r.1)))

none_is : (vs : List Vlan) (vid : ℕ) → is_there vs vid ≡ false → Each (λ (v : Vlan). v.vid ≡ vid → ⊥) vs
unfolding is_there
none_is [] vid h = nobody
none_is (v ∷ vs) vid h =
    on (eqb v.vid vid)
    (λ e. absurd (true≢false (rw e at h)))
    (λ e. also (eqb-false v.vid vid e) (none_is vs vid (rw e at h)))

module _ (s : Settings) (t : Table) (free p : ℕ) (k : Packet) where
  vid_theorems : VidTheorems s t free p k
  unfolding facts_of assigned_vid header_at
  vid_theorems =
      record {
        by_default = λ a. rw a;
        by_outermost = λ a x rest e n. rw (a, e) (or_default_other (s.port p).default x.header.vid n);
        outermost_missing = λ a e. rw (a, e) (or_default_own (s.port p).default);
        outermost_priority = λ a x rest e z. rw (a, e) (or_default_zero (s.port p).default x.header.vid z);
        by_second = λ a x y rest e n. rw (a, e) (or_default_other (s.port p).default y.header.vid n);
        both_missing = λ a e. rw (a, e) (or_default_own (s.port p).default);
        second_missing = λ a x e. rw (a, e) (or_default_own (s.port p).default);
        second_priority = λ a x y rest e z. rw (a, e) (or_default_zero (s.port p).default y.header.vid z);
        never_zero = never_zero (s.port p).assignment (s.port p).default (tags_of k.bytes);
      }

  vlan_theorems : VlanTheorems s t free p k
  unfolding facts_of
  vlan_theorems =
      record {
        there_is = there_is s.vlans (assigned_vid (s.port p).assignment (s.port p).default (tags_of k.bytes));
        none_is = none_is s.vlans (assigned_vid (s.port p).assignment (s.port p).default (tags_of k.bytes));
        group_of_addresses = refl;
      }

  queue_theorems : QueueTheorems s t free p k
  unfolding facts_of queue_pcp header_at
  queue_theorems =
      record {
        pcp_of_outermost = λ x rest e. subst (λ ts. (header_at (s.port p).default ts 0).pcp ≡ x.header.pcp) (sym e) refl;
        pcp_of_default = λ e. subst (λ ts. (header_at (s.port p).default ts 0).pcp ≡ (s.port p).default.pcp) (sym e) refl;
        by_outermost = λ b x rest e. rw (b, e);
        by_default = λ b e. rw (b, e);
        bpdu_queue_law = λ b. rw b;
      }

  found_chooses : (i : ℕ) (e : Entry) → (facts s t free p k).look_up ≡ found i e → (r : ℕ) → ((facts s t free p k).chosen r ≡ true) ↔ (r ≡ e.port)
  unfolding facts_of is_chosen
  found_chooses i e h r = rw h (λ x. eqb-true r e.port x, λ x. eq-eqb r e.port x)

  -- the look-up of this frame's destination, of a group address or not
  abbrev looked_up : Bool → LookUp
  looked_up is_group = if is_group then group else answered (find t (key (facts s t free p k).vlan.gid (destination k.bytes)))

  look_up_theorems : LookUpTheorems s t free p k
  unfolding facts_of look_up answered is_chosen
  look_up_theorems =
      record {
        group_not_looked_up = λ g. rw g;
        not_found = λ g f. ap looked_up g ∙ ap answered f;
        is_found = λ g i e f. ap looked_up g ∙ ap answered f;
        group_chooses_all = λ h r. rw h;
        unknown_chooses_all = λ h r. rw h;
        found_chooses_its_port = found_chooses;
      }

  bpdu_only : (facts s t free p k).bpdu ≡ true → (s.bpdu_handling ≡ true) × (p ≡ 4 → ⊥) × (destination k.bytes ≡ 0x0180_C200_0000)
  unfolding facts_of is_bpdu
  bpdu_only h =
      let first_two = and_left (s.bpdu_handling && not (eqb p 4)) (eqb (destination k.bytes) 0x0180_C200_0000) h in (
        and_left s.bpdu_handling (not (eqb p 4)) first_two,
        λ e. true≢false (sym (eq-eqb p 4 e) ∙ not-true (eqb p 4) (and_right s.bpdu_handling (not (eqb p 4)) first_two)),
        eqb-true (destination k.bytes) 0x0180_C200_0000 (and_right (s.bpdu_handling && not (eqb p 4)) (eqb (destination k.bytes) 0x0180_C200_0000) h),
      )

  bpdu_then : (s.bpdu_handling ≡ true) × (p ≡ 4 → ⊥) × (destination k.bytes ≡ 0x0180_C200_0000) → (facts s t free p k).bpdu ≡ true
  unfolding facts_of is_bpdu
  bpdu_then h = rw (h.0, ne_eqb p 4 h.1, eq-eqb (destination k.bytes) 0x0180_C200_0000 h.2)

  pub facts_theorems : FactsTheorems s t free p k
  unfolding facts_of state_for key
  facts_theorems =
      record {
        vid = vid_theorems;
        vlan = vlan_theorems;
        queue = queue_theorems;
        look_up_law = look_up_theorems;
        packet_is = refl;
        port_is_law = refl;
        tags_are = refl;
        default_is = refl;
        state_is = refl;
        barred_without_tag = λ e. rw e;
        barred_with_one = λ a e. rw e;
        barred_with_two = λ a b e. rw e;
        bpdu_exactly = (bpdu_only, bpdu_then);
        source_key_law = refl;
        outnumbers_exactly = (λ h. ltb-true free (cells (length k.bytes)) h, λ h. lt-ltb free (cells (length k.bytes)) h);
      }
