-- A copy that leaves a port: link memory with the frame departed and its queue popped stands for the traffic without that copy.
-- Assumes nothing.
use Prim.Native.Nat.{ℕ, ◌-◌, ◌/◌, ◌%◌, ◌^◌, ◌≤◌, ◌<◌}
use mathlib.Core.Path.{◌≡◌, refl, sym, ap, ◌∙◌, subst}
use mathlib.Core.Bool.{Bool, true, false, ◌&&◌}
use mathlib.Core.List.{List, [], ◌∷◌}
use native.Mathlib.Decide.{ℕ_discrete}
use native.Mathlib.Omega.{arith}
use lib.Dec.{eqb}
use lib.ListN.{length, get_or, set, length-set}
use lib.Seq.{get_or-set_same, get_or-set_other}
use borrow.Author.Tests.{eqb-false}
use Rattle.std.specs.Prelude.{if◌then◌else◌}
use Rattle.rules.specs.Choice.{sift, among, without, changed, Distinct, Each, nobody, also, is_empty}
use Rattle.rules.proofs.Choice.{on, on_list, and_left, eqb_self}
use Rattle.machine.specs.Waiting.{Waiting, size, waits_at, send}
use Rattle.machine.specs.FrameIn.{mask}
use Rattle.layout.specs.Places.{link_words, frame_word, next_word, free_count_word, first_free_word}
use Rattle.layout.specs.Same.{CellsSame, QueuesSame}
use Rattle.cells.specs.Chains.{follow}
use Rattle.cells.specs.Free.{free_count, first_free, word_of, size_of, ports_of, free_cells, frame_cells, given_back}
use Rattle.cells.specs.Sound.{Sound}
use Rattle.cells.proofs.Paths.{length_follow, follow_same}
use Rattle.cells.proofs.Words.{given_ports_other, length_given}
use Rattle.cells.proofs.Kept.{waiting_some, given_others, free_given, given_sound, ports_sound}
use Rattle.cells.proofs.Apart.{given_queues, ports_queues}
use Rattle.cells.proofs.Unchanged.{same_ports, same_free, same_frame, same_sound}
use Rattle.layout.proofs.Stores.{others_cells}
use Rattle.queues.specs.Lists.{list_of, popped, popped_at}
use Rattle.queues.specs.Queued.{AllQueued}
use Rattle.queues.proofs.Outcomes.{popped_at_law, length_popped_at}
use Rattle.queues.proofs.Apart.{popped_at_others}
use Rattle.queues.proofs.Lists.{list_same, all_same, all_popped, popped_lists}
use Rattle.queues.proofs.Answers.{head_oldest}
use Rattle.queues.proofs.WaitingWords.{waiting_popped_at, waiting_same}
use Rattle.standing.specs.Links.{Links, Stands, freed, link_out}
use Rattle.departure.specs.Leaving.{is_last, departed}
use Rattle.standing.specs.LinkTraffic.{links_in, WaitsAs, LinkTraffic}
use Rattle.standing.proofs.Linked.{stands_out, out_each}
use Rattle.standing.proofs.Reading.{Same, stands_same}
use Rattle.standing.proofs.Masks.{mask_without, mask_left, last_is, ascending_without, ascending_distinct}

waits_port : (p q : ℕ) (w : Waiting) → waits_at p q w ≡ true → among p w.ports ≡ true
unfolding waits_at
waits_port p q w e = and_left (among p w.ports) (eqb q w.frame.queue) e

size_some : (f : Rattle.rules.specs.Outcomes.Frame) → 1 ≤ size f
unfolding size
size_some f = omega arith

-- ---- a frame word that loses a port touches no chain

-- a port's bit is taken from the word
word_less : (w x : ℕ) → x ≤ w % 32 → ((w - x) / 32 ≡ w / 32) × ((w - x) % 32 ≡ w % 32 - x)
word_less w x h = omega arith

module _ (links : List ℕ) (c v : ℕ) where
  pub frame_word_law : (w : ℕ) → (w ≡ frame_word c → ⊥) → get_or (set links (frame_word c) v) w 0 ≡ get_or links w 0
  frame_word_law w ne = get_or-set_other links (frame_word c) w v 0 ne

  word_follow : (n k d : ℕ) → follow n (set links (frame_word c) v) k d ≡ follow n links k d
  word_follow n = follow_same n links (set links (frame_word c) v) (λ d. frame_word_law (next_word d) (λ e. omega arith))

  word_free : (n : ℕ) → free_cells n (set links (frame_word c) v) ≡ free_cells n links
  word_free n = rw (frame_word_law free_count_word (λ e. omega arith), frame_word_law first_free_word (λ e. omega arith)) (word_follow n (free_count links) (first_free links))

  module _ (there : frame_word c < length links) (same : v / 32 ≡ size_of links c) where
    pub word_size_same : (d : ℕ) → size_of (set links (frame_word c) v) d ≡ size_of links d
    word_size_same d =
        elim (ℕ_discrete d c) as (λ _. size_of (set links (frame_word c) v) d ≡ size_of links d) [
          | yes e ↦ rw e (ap (◌/ 32) (get_or-set_same links (frame_word c) v 0 there) ∙ same)
          | no e ↦ ap (◌/ 32) (frame_word_law (frame_word d) (λ f. e (omega arith)))
        ]

    word_frame : (n d : ℕ) → frame_cells n (set links (frame_word c) v) d ≡ frame_cells n links d
    word_frame n d = rw (word_size_same d) (word_follow n (size_of links d) d)

-- the head of a part of a list passes its test, and has what each member has
pub sift_head : {P : ℕ → Type 0} (t : ℕ → Bool) {xs : List ℕ} (x : ℕ) (tail : List ℕ) → Each P xs → sift t xs ≡ x ∷ tail → P x × (t x ≡ true)
unfolding sift
sift_head t x tail nobody e = absurd (let z : ◌≡◌ {A = ℕ} 0 1 = cc in omega arith)
sift_head {P} t x tail (also {a = y} {rest = ys} h hs) e =
    on (t y)
    (λ f. let d : y ∷ sift t ys ≡ x ∷ tail = rw f at e in let same : y ≡ x = cc in (subst P same h, ap t (sym same) ∙ f))
    (λ f. sift_head t x tail hs (rw f at e))

module _ (n : ℕ) (links : List ℕ) (ws : List Waiting) (T : LinkTraffic n links ws) (p q i : ℕ) (hp : p < 5) (hq : q < 4)
    (tail : List ℕ) (head : list_of n links p q ≡ i ∷ tail) where
  abbrev pub l : Links
  l = links_in n links T.held

  abbrev pub w : Waiting
  w = T.held i

  abbrev pub left : List ℕ
  left = without p w.ports

  pub head' : l.list p q ≡ i ∷ tail
  unfolding links_in
  head' = head

  pub heads : sift (λ j. waits_at p q (T.held j)) T.stands.ids ≡ i ∷ tail
  unfolding links_in
  heads = sym (T.stands.lists p q hp hq) ∙ head

  pub waits_i : WaitsAs n links i w
  waits_i = (sift_head (λ j. waits_at p q (T.held j)) i tail T.waits heads).0

  pub at_port : among p w.ports ≡ true
  at_port = waits_port p q w (sift_head (λ j. waits_at p q (T.held j)) i tail T.waits heads).1

  pub size_i : size_of links i ≡ size w.frame
  unfolding links_in
  size_i = sym (length_follow n links (size_of links i) i) ∙ (sift_head (λ j. waits_at p q (T.held j)) i tail T.stands.rows heads).0.sized

  pub waits_some : 1 ≤ ports_of links i
  waits_some = rw waits_i.said waits_i.somewhere

  pub distinct_i : Distinct w.ports
  distinct_i = ascending_distinct w.ports waits_i.ascending

  pub some_cells : 1 ≤ size_of links i
  some_cells = omega (arith, size_i, size_some w.frame)

  pub there : frame_word i < length links
  there = omega (arith, T.long, waits_i.below)

  -- ---- the frame departs

  abbrev pub D : List ℕ
  D = departed n p i links

  pub last_test : eqb (ports_of links i) (2 ^ p) ≡ is_empty left
  last_test = rw waits_i.said (last_is p w.ports distinct_i at_port)

  pub given : left ≡ [] → D ≡ given_back n i links
  unfolding departed is_last is_empty
  given e = rw (last_test, e)

  pub kept : (m : ℕ) (ms : List ℕ) → left ≡ m ∷ ms → D ≡ set links (frame_word i) (word_of links i - 2 ^ p)
  unfolding departed is_last is_empty
  kept m ms e = rw (last_test, e)

  pub fewer : ports_of links i - 2 ^ p ≡ mask left
  fewer = omega (arith, waits_i.said, mask_without p w.ports distinct_i at_port)

  pub lost : ((word_of links i - 2 ^ p) / 32 ≡ size_of links i) × ((word_of links i - 2 ^ p) % 32 ≡ mask left)
  lost =
      let both = word_less (word_of links i) (2 ^ p) (omega (arith, waits_i.said, mask_without p w.ports distinct_i at_port)) in
      (both.0, both.1 ∙ fewer)

  pub D-free : free_cells n D ≡ freed left (frame_cells n links i) (free_cells n links)
  unfolding freed
  D-free =
      on_list left
      (λ e. rw (given e, e) (free_given n i links T.long waits_i.below some_cells waits_some T.sound))
      (λ m ms e. rw (kept m ms e, e) (word_free links i (word_of links i - 2 ^ p) n))

  pub D-row-i : (m : ℕ) (ms : List ℕ) → left ≡ m ∷ ms → frame_cells n D i ≡ frame_cells n links i
  D-row-i m ms e = rw (kept m ms e) (word_frame links i (word_of links i - 2 ^ p) there lost.0 n i)

  pub D-row : (j : ℕ) → eqb i j ≡ false → WaitsAs n links j (T.held j) → frame_cells n D j ≡ frame_cells n links j
  D-row j ne h =
      let apart : j ≡ i → ⊥ = λ z. eqb-false i j ne (sym z) in
      let some : 1 ≤ ports_of links j = rw h.said h.somewhere in
      let some_given : 1 ≤ ports_of (given_back n i links) j = rw (given_ports_other n i links j apart) some in
      on_list left
      (λ e. rw (given e)
      (sym (waiting_some n (given_back n i links) j some_given)
      ∙ given_others n i links T.long waits_i.below some_cells waits_some T.sound j h.below apart
      ∙ waiting_some n links j some))
      (λ m ms e. rw (kept m ms e) (word_frame links i (word_of links i - 2 ^ p) there lost.0 n j))

  pub D-ports-i : (m : ℕ) (ms : List ℕ) → left ≡ m ∷ ms → ports_of D i ≡ mask left
  D-ports-i m ms e =
      rw (kept m ms e) (ap (◌% 32) (get_or-set_same links (frame_word i) (word_of links i - 2 ^ p) 0 there) ∙ lost.1)

  pub D-ports : (j : ℕ) → eqb i j ≡ false → ports_of D j ≡ ports_of links j
  D-ports j ne =
      let apart : j ≡ i → ⊥ = λ z. eqb-false i j ne (sym z) in
      on_list left
      (λ e. rw (given e) (given_ports_other n i links j apart))
      (λ m ms e. rw (kept m ms e) (ap (◌% 32) (frame_word_law links i (word_of links i - 2 ^ p) (frame_word j) (λ z. apart (omega arith)))))

  pub D-queues : QueuesSame links D
  D-queues =
      on_list left
      (λ e. rw (given e) (given_queues n i links))
      (λ m ms e. rw (kept m ms e) (ports_queues i links (word_of links i - 2 ^ p)))

  pub D-length : length D ≡ length links
  D-length =
      on_list left
      (λ e. rw (given e) (length_given n i links))
      (λ m ms e. rw (kept m ms e) (length-set links (frame_word i) (word_of links i - 2 ^ p)))

  pub D-sound : Sound n D
  D-sound =
      on_list left
      (λ e. rw (given e) (given_sound n i links T.long waits_i.below some_cells waits_some T.sound))
      (λ m ms e. rw (kept m ms e) (ports_sound n i (word_of links i - 2 ^ p) links T.long waits_some lost.0 (rw lost.1 (mask_left m ms left e)) T.sound))

  -- ---- it leaves its queue

  abbrev pub after : List ℕ
  after = popped_at p q i D

  pub cells_same : CellsSame D after
  cells_same = others_cells (popped_at_others n p q D hp hq i)

  pub D-long : link_words n ≤ length D
  D-long = rw D-length T.long

  pub D-head : list_of n D p q ≡ i ∷ tail
  D-head = list_same n D-queues p q hp hq ∙ head

  pub D-all : AllQueued n D
  D-all = all_same n D-queues T.queues

  -- it is the oldest
  pub after_is : after ≡ popped n p q D
  after_is = popped_at_law n p q D i (sym (head_oldest n D p (omega (arith, waits_i.below)) q i tail D-head))

  pub lists_are : (r s : ℕ) → r < 5 → s < 4 → list_of n after r s ≡ (if eqb p r && eqb q s then tail else list_of n links r s)
  lists_are r s hr hs =
      ap (λ (m : List ℕ). list_of n m r s) after_is ∙ popped_lists n p q D D-long hp hq D-all i tail D-head r s hr hs ∙ rw (list_same n D-queues r s hr hs)

  -- ---- link memory stands for the traffic without the copy

  unfoldable pub held' : ℕ → Waiting
  held' = changed i (record { frame = w.frame; ports = left }) T.held

  unfoldable pub left_stands : Stands n (link_out p q i tail l) (send p q ws)
  left_stands = stands_out n l ws T.stands p q i hp hq tail head'

  pub same_rows : Each (Same (links_in n after held') (link_out p q i tail l)) left_stands.ids
  unfolding links_in link_out held' left_stands changed
  same_rows =
      out_each n l ws T.stands p q i hp hq tail head' {P = Same (links_in n after held') (link_out p q i tail l)} {Q = λ (j : ℕ). WaitsAs n links j (T.held j)}
      T.waits
      (λ m ms e h. (same_frame cells_same n i ∙ D-row-i m ms e, refl))
      (λ j ne h. (same_frame cells_same n j ∙ D-row j ne h, refl))

  unfoldable pub stands_after : Stands n (links_in n after held') (send p q ws)
  unfolding links_in link_out
  stands_after =
      stands_same n (link_out p q i tail l) (links_in n after held') (send p q ws) left_stands (same_free cells_same n ∙ D-free) lists_are same_rows

  pub waits_after : Each (λ (c : ℕ). WaitsAs n after c (held' c)) stands_after.ids
  unfolding stands_after stands_same left_stands held' changed
  waits_after =
      out_each n l ws T.stands p q i hp hq tail head' {P = λ (c : ℕ). WaitsAs n after c (held' c)} {Q = λ (j : ℕ). WaitsAs n links j (T.held j)}
      T.waits
      (λ m ms e h. rw (eqb_self i) (stays m ms e))
      (λ j ne h. rw ne (goes_on j ne h))
    where
      stays : (m : ℕ) (ms : List ℕ) → left ≡ m ∷ ms → WaitsAs n after i (record { frame = w.frame; ports = left })
      stays m ms e =
          record {
            below = waits_i.below;
            somewhere = mask_left m ms left e;
            ascending = ascending_without p w.ports waits_i.ascending;
            said = same_ports cells_same i ∙ D-ports-i m ms e;
            few = waits_i.few;
            low = waits_i.low;
          }

      goes_on : (j : ℕ) → eqb i j ≡ false → WaitsAs n links j (T.held j) → WaitsAs n after j (T.held j)
      goes_on j ne h =
          record { below = h.below; somewhere = h.somewhere; ascending = h.ascending; said = same_ports cells_same j ∙ D-ports j ne ∙ h.said; few = h.few; low = h.low }

  unfoldable pub traffic_after : LinkTraffic n after (send p q ws)
  traffic_after =
      record {
        held = held';
        stands = stands_after;
        waits = waits_after;
        long = rw (length_popped_at n p q D i ∙ D-length) T.long;
        sound = same_sound cells_same D-sound;
        queues = rw after_is (all_popped n p q D D-long hp hq D-all i tail D-head);
        waiting_words = waiting_popped_at n p q D D-long hp hq (waiting_same D-queues T.waiting_words) i;
      }
