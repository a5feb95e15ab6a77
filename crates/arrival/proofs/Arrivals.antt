-- The outcomes of rules 1 to 8 and what the arrival port gives. Assumes nothing.
use Prim.Native.Nat.{ℕ, zero, suc, ◌+◌, ◌/◌, ◌%◌, ◌^◌, ◌≤◌, ◌<◌, min}
use mathlib.Core.Path.{◌≡◌, refl, sym, ap, subst, subst⁻¹, ◌∙◌}
use mathlib.Core.Bool.{Bool, true, false, not, ◌&&◌}
use mathlib.Core.List.{List}
use native.Mathlib.Decide.{dec_lt}
use native.Mathlib.Omega.{arith}
use borrow.Author.Tests.{lt-ltb, le-ltb, eq-eqb, ne_eqb}
use lib.Dec.{eqb}
use lib.ListN.{length, get_or}
use Rattle.std.specs.Prelude.{Option, None as none, Some as some}
use Rattle.rules.specs.Choice.{sift}
use Rattle.rules.specs.Lines.{first}
use Rattle.rules.specs.Numbers.{management_port, bpdu_address}
use Rattle.rules.specs.Tags.{Bytes, Header, header_of, tags_of, is_group, source, address_at, destination}
use Rattle.rules.specs.Settings.{Port, is_blocking, is_listening, is_learning, or_default, assigned_vid, queue_pcp}
use Rattle.rules.specs.Arguments.{OperationNumbers, bit, port_of, state_of}
use Rattle.rules.specs.declared.reasons.Reason.{Reason}
use Rattle.rules.specs.declared.reasons.Reason.TheVariants.{Short as short, Long as long, GroupSource as group_source, TagCount as tag_count}
use Rattle.rules.specs.Facts.{Facts}
use Rattle.rules.specs.ReasonTable.{reading, part_number, reason_table, lines_in, rows_of}
use Rattle.rules.proofs.Choice.{on, and_false}
use Rattle.layout.specs.declared.ports.Queue.{Queue}
use Rattle.tags.specs.Numbers.{stack_is}
use Rattle.tags.proofs.Stacks.{stack_length, header_missing, header_outermost}
use Rattle.tags.specs.declared.stack.Stack.{Stack}
use Rattle.settings.specs.Ports.{port_in, vid_in, pcp_in, default_in, default_of}
use Rattle.settings.specs.States.{state_in, bar_of}
use Rattle.settings.specs.Maps.{bpdu_in, queue_in}
use Rattle.settings.proofs.PortLaws.{default_in_law}
use Rattle.settings.proofs.StateLaws.{learning_in}
use Rattle.arrival.specs.Arrivals.{port_rules, ToldIs, ArrivalIs}
use Rattle.arrival.specs.declared.entering.Arrival.{Arrival}
use Rattle.arrival.specs.declared.entering.Told.{Told}

-- ---- an address by its bytes

pub address_below : (bytes : List ℕ) (i : ℕ) → Bytes bytes → address_at bytes i < 2 ^ 48
unfolding address_at
address_below bytes i each = omega (arith, each i, each (i + 1), each (i + 2), each (i + 3), each (i + 4), each (i + 5))

module _ (bytes : List ℕ) (i : ℕ) (each : (j : ℕ) → get_or bytes j 0 < 256) where
  address_first : address_at bytes i / 2 ^ 40 ≡ get_or bytes i 0
  unfolding address_at
  address_first = omega (arith, each i, each (i + 1), each (i + 2), each (i + 3), each (i + 4), each (i + 5))

  pub group_first : eqb (get_or bytes i 0 % 2) 1 ≡ is_group (address_at bytes i)
  unfolding is_group
  group_first = ap (λ (x : ℕ). eqb (x % 2) 1) (sym address_first)

  pub bpdu_first : address_at bytes i ≡ bpdu_address → get_or bytes i 0 ≡ 1
  bpdu_first e = sym address_first ∙ ap (λ (x : ℕ). x / 2 ^ 40) e

module _ (frame : List ℕ) (f : Facts) (bytes_are : f.packet.bytes ≡ frame) where
  pub early_short : length frame < 60 → some short ≡ first (rows_of reading f)
  unfolding rows_of lines_in sift part_number reason_table first
  early_short h = rw (bytes_are, lt-ltb (length frame) 60 h)

  pub early_long : 60 ≤ length frame → 4083 < length frame → some long ≡ first (rows_of reading f)
  unfolding rows_of lines_in sift part_number reason_table first
  early_long a b = rw (bytes_are, le-ltb (length frame) 60 a, lt-ltb 4083 (length frame) b)

  module _ (a : 60 ≤ length frame) (b : length frame ≤ 4083) where
    pub early_group : is_group (address_at frame 6) ≡ true → some group_source ≡ first (rows_of reading f)
    unfolding rows_of lines_in sift part_number reason_table first source
    early_group e = rw (bytes_are, le-ltb (length frame) 60 a, le-ltb 4083 (length frame) b, e)

    pub early_none : is_group (address_at frame 6) ≡ false → none ≡ first (rows_of reading f)
    unfolding rows_of lines_in sift part_number reason_table first source
    early_none e = rw (bytes_are, le-ltb (length frame) 60 a, le-ltb 4083 (length frame) b, e)

-- ---- a BPDU

module _ (map port : ℕ) (frame : List ℕ) where
  pub bpdu_address_law : address_at frame 0 ≡ bpdu_address
      → (bpdu_in map && not (eqb port management_port)) ≡ (bpdu_in map && not (eqb port management_port) && eqb (destination frame) bpdu_address)
  unfolding destination
  bpdu_address_law e = rw (eq-eqb (address_at frame 0) bpdu_address e) (sym (whole (bpdu_in map && not (eqb port management_port))))
    where
      whole : (b : Bool) → (b && true) ≡ b
      whole true = refl
      whole false = refl

  pub another_address : (address_at frame 0 ≡ bpdu_address → ⊥)
      → false ≡ (bpdu_in map && not (eqb port management_port) && eqb (destination frame) bpdu_address)
  unfolding destination
  another_address e = rw (ne_eqb (address_at frame 0) bpdu_address e) (sym (and_false (bpdu_in map && not (eqb port management_port))))

-- ---- 4 to 6

pub some_not_none : {r : Reason} → some r ≡ none → ⊥
some_not_none e = cc

module _ (p : Port) (count : ℕ) where
  pub bar_tags : p.bars count ≡ true → some tag_count ≡ first (port_rules p count)
  unfolding port_rules first
  bar_tags e = rw e

  pub bar_state : p.bars count ≡ false → bar_of p.state ≡ first (port_rules p count)
  unfolding port_rules first bar_of
  bar_state e = on (is_blocking p.state) (λ b. rw (e, b)) (λ b. on (is_listening p.state) (λ l. rw (e, b, l)) (λ l. rw (e, b, l)))

  -- a port that does not bar
  pub bars_none : first (port_rules p count) ≡ none → bar_of p.state ≡ none
  bars_none h = on (p.bars count) (λ e. absurd (some_not_none (bar_tags e ∙ h))) (λ e. bar_state e ∙ h)

-- ---- what the port gives

-- the PCP of a tag has three bits
pcp_below : (t : Stack) (d : Header) → d.pcp ≤ 7 → queue_pcp d (stack_is t) ≤ 7
unfolding queue_pcp header_of
pcp_below t d h =
    elim (dec_lt 0 t.count) as (λ _. queue_pcp d (stack_is t) ≤ 7) [
      | yes p ↦ subst (λ (h : Header). h.pcp ≤ 7) (header_outermost t d p) (omega arith)
      | no p ↦ subst⁻¹ (λ (k : Header). k.pcp ≤ 7) (header_missing t d 0 (omega arith)) h
    ]

-- of the words of the port and of the states; the port's operation has no part in it
module _ (word states map port : ℕ) (operation : OperationNumbers) where
  abbrev own : Port
  own = port_of (port_in (state_in states port) operation word)

  own_pcp : own.default.pcp ≤ 7
  unfolding port_of port_in
  own_pcp = omega arith

  own_assignment : own.assignment ≡ min (word % 4) 2
  unfolding port_of port_in
  own_assignment = refl

  own_state : own.state ≡ state_of (state_in states port)
  unfolding port_of port_in
  own_state = refl

  pub own_bars : (count : ℕ) → own.bars count ≡ false → bar_of (state_of (state_in states port)) ≡ first (port_rules own count)
  own_bars count e = ap bar_of (sym own_state) ∙ bar_state own count e

  -- past 4 to 6, a port that is not open is Learning
  pub not_open : (count : ℕ) → first (port_rules own count) ≡ none → not (bit states port) ≡ is_learning own.state
  not_open count h = rw own_state (sym (learning_in states port (ap bar_of (sym own_state) ∙ bars_none own count h)))

  -- ---- the VID and the PCP

  or_own : (d : Header) → or_default d d.vid ≡ d.vid
  unfolding or_default
  or_own d = on (eqb d.vid 0) (λ e. rw e) (λ e. rw e)

  untagged_vid : (a : ℕ) (d : Header) (tags : Stack) → tags.count ≡ 0 → d.vid ≡ assigned_vid a d (stack_is tags)
  unfolding assigned_vid
  untagged_vid zero d tags e = refl
  untagged_vid (suc i) d tags e = sym (or_own d) ∙ ap (λ (h : Header). or_default d h.vid) (sym (header_missing tags d i (omega arith)))

  untagged_pcp : (d : Header) (tags : Stack) → tags.count ≡ 0 → d.pcp ≡ queue_pcp d (stack_is tags)
  unfolding queue_pcp
  untagged_pcp d tags e = ap (λ (h : Header). h.pcp) (sym (header_missing tags d 0 (omega arith)))

  pub untagged_told : (tags : Stack) (vid pcp : ℕ) → tags.count ≡ 0 → vid ≡ vid_in word → pcp ≡ pcp_in word
      → ToldIs own (stack_is tags) (record { vid = vid; pcp = pcp })
  unfolding port_of port_in
  untagged_told tags vid pcp e v p =
      record {
        vid = v ∙ untagged_vid own.assignment own.default tags e;
        pcp = p ∙ untagged_pcp own.default tags e;
      }

  pub tagged_told : (tags : Stack) (header vid pcp : ℕ) → header_of header ≡ own.default
      → vid ≡ assigned_vid (min (word % 4) 2) (header_of header) (stack_is tags) → pcp ≡ queue_pcp (header_of header) (stack_is tags)
      → ToldIs own (stack_is tags) (record { vid = vid; pcp = pcp })
  tagged_told tags header vid pcp h v p = record { vid = v ∙ rw (h, own_assignment); pcp = p ∙ rw h }

  pub told_small : (tags : Stack) (t : Told) → ToldIs own (stack_is tags) t → t.pcp < 8
  told_small tags t told = let small : queue_pcp own.default (stack_is tags) ≤ 7 = pcp_below tags own.default own_pcp in omega (arith, told.pcp)

  module _ (frame : List ℕ) (default : ℕ) (queue : Queue) (barred : Option Reason) (tags : Stack) (t : Told)
      (default_is : default ≡ default_in word) (tags_are : stack_is tags ≡ tags_of frame)
      (told : ToldIs own (stack_is tags) t) (queue_is : queue.number ≡ queue_in map t.pcp)
      (barred_is : barred ≡ first (port_rules own tags.count)) where
    abbrev made : Arrival
    made = record { default = default; queue = queue; vid = t.vid; barred = barred }

    pub arrival_is : ArrivalIs own map frame made
    arrival_is =
        record {
          default = ap default_of default_is ∙ default_in_law (state_in states port) operation word;
          pcp_small = rw (← tags_are) (pcp_below tags own.default own_pcp);
          queue = queue_is ∙ ap (queue_in map) (told.pcp ∙ rw tags_are);
          vid = told.vid ∙ rw tags_are;
          barred = barred_is ∙ ap (λ (n : ℕ). first (port_rules own n)) (sym (stack_length tags) ∙ ap length tags_are);
        }
