-- A frame that arrives: link memory with its cells taken n and its first cell pushed stands for the traffic with the frame at the end.
-- Assumes nothing.
use Prim.Native.Nat.{ℕ, suc, ◌+◌, ◌-◌, ◌≤◌, ◌<◌}
use mathlib.Core.Path.{◌≡◌, refl, sym, ap, ◌∙◌}
use mathlib.Core.Bool.{false, ◌&&◌}
use mathlib.Core.List.{List, [], ◌∷◌, ◌++◌}
use native.Mathlib.Omega.{arith}
use lib.Dec.{eqb}
use lib.ListN.{length}
use borrow.Author.Tests.{eqb-false}
use Rattle.std.specs.Prelude.{if◌then◌else◌}
use Rattle.rules.specs.Choice.{sift, among, changed, Distinct, Each, nobody, also}
use Rattle.rules.specs.Cells.{cells, longest}
use Rattle.rules.specs.Outcomes.{Frame}
use Rattle.rules.specs.Numbers.{all_ports}
use Rattle.rules.proofs.Choice.{each_append, each_map, each_zip, eqb_self}
use Rattle.machine.specs.Waiting.{Waiting, size, cells_in_use, waits_at, join}
use Rattle.machine.specs.FrameIn.{mask}
use Rattle.layout.specs.Places.{link_words}
use Rattle.layout.specs.Same.{CellsSame, QueuesSame}
use Rattle.cells.specs.Chains.{next, follow, walk}
use Rattle.cells.specs.Free.{free_count, first_free, size_of, ports_of, free_cells, frame_cells, taken}
use Rattle.cells.proofs.Moves.{Taking, taking}
use Rattle.cells.proofs.Room.{room_enough}
use Rattle.cells.proofs.Paths.{length_follow, follow_split}
use Rattle.cells.proofs.Words.{taken_follow, taken_size_other, taken_ports, taken_ports_other, length_taken}
use Rattle.cells.proofs.Kept.{taken_cells, free_taken, taken_sound}
use Rattle.cells.proofs.Apart.{taken_queues}
use Rattle.cells.proofs.Unchanged.{same_ports, same_free, same_frame, same_sound}
use Rattle.queues.specs.Lists.{list_of}
use Rattle.queues.specs.Queued.{AllQueued}
use Rattle.queues.proofs.Lists.{list_same, all_same}
use Rattle.queues.proofs.Broadcasts.{Absent, absent_frame, length_pushed_at, all_pushed_at, pushed_lists}
use Rattle.queues.proofs.WaitingWords.{waiting_pushed_at, waiting_same}
use Rattle.standing.specs.Links.{Links, Stands, link_in}
use Rattle.frame_in.specs.Call.{pushed_at}
use Rattle.standing.specs.LinkTraffic.{links_in, WaitsAs, LinkTraffic}
use Rattle.standing.proofs.Linked.{Not, stands_in, others}
use Rattle.standing.proofs.Reading.{Same, stands_same}
use Rattle.standing.proofs.Masks.{ascending_mask}
use Rattle.standing.proofs.Pushes.{below_five, pushed_cells_all}

module _ (n : ℕ) (links : List ℕ) (ws : List Waiting) (T : LinkTraffic n links ws) where
  abbrev l : Links
  l = links_in n links T.held

  pub free_room : free_count links + cells_in_use ws ≡ n
  unfolding links_in
  free_room = omega (arith, T.stands.room, length_follow n links (free_count links) (first_free links))

  -- ---- the frame

  module _ (f : Frame) (p₀ : ℕ) (ps : List ℕ) (enough : size f ≤ free_count links) (low : f.queue < 4)
      (inside : Each (λ (p : ℕ). p ≤ 4) (p₀ ∷ ps)) (distinct : Distinct (p₀ ∷ ps))
      (ascending : p₀ ∷ ps ≡ sift (λ p. among p (p₀ ∷ ps)) all_ports) (somewhere : 1 ≤ mask (p₀ ∷ ps)) (few : size f ≤ cells longest) where
    abbrev pub ports : List ℕ
    ports = p₀ ∷ ps

    abbrev pub i : ℕ
    i = first_free links

    abbrev pub more : List ℕ
    more = follow n links (size f - 1) (next n links i)

    abbrev pub rest : List ℕ
    rest = follow n links (free_count links - size f) (walk n links (size f) i)

    abbrev pub m₀ : List ℕ
    m₀ = taken n (size f) (mask ports) links

    abbrev pub after : List ℕ
    after = pushed_at n f.queue i ports m₀

    pub some : 1 ≤ size f
    unfolding size
    some = omega arith

    pub small : mask ports < 32
    small = omega (arith, ascending_mask ports ascending)

    pub row_is : follow n links (size f) i ≡ i ∷ more
    row_is = ap (λ (k : ℕ). follow n links k i) (let z : size f ≡ suc (size f - 1) = omega (arith, some) in z)

    pub taking_k : Taking n (size f) links
    taking_k = taking n (size f) links (room_enough n links T.sound (size f) enough)

    pub cut : l.free ≡ (i ∷ more) ++ rest
    unfolding links_in
    cut =
        ap (λ (k : ℕ). follow n links k i) (let z : free_count links ≡ size f + (free_count links - size f) = omega arith in z)
        ∙ follow_split n links (size f) (free_count links - size f) i
        ∙ ap (◌++ rest) row_is

    pub fit : suc (length more) ≡ size f
    fit = omega (arith, length_follow n links (size f - 1) (next n links i), some)

    unfoldable pub arrived : Stands n (link_in f ports rest i more l) (join f ports ws)
    arrived = stands_in n l ws T.stands f p₀ ps rest i more cut fit

    pub cells_same : CellsSame m₀ after
    cells_same = pushed_cells_all n f.queue i low inside m₀

    pub free_is : free_cells n after ≡ rest
    free_is = same_free cells_same n ∙ free_taken n (size f) (mask ports) links T.long some somewhere small taking_k T.sound

    pub apart : Not i T.stands.ids
    apart = others n l ws T.stands f p₀ ps rest i more cut fit

    abbrev pub inside' : Each (λ (p : ℕ). p < 5) ports
    inside' = below_five inside

    pub queues_same : QueuesSame links m₀
    queues_same = taken_queues n (size f) (mask ports) links

    pub queues₀ : AllQueued n m₀
    queues₀ = all_same n queues_same T.queues

    -- the new frame is in no queue
    pub absent : Each (Absent n i m₀) ports
    unfolding links_in
    absent =
        each_map (λ p hp. absent_frame n i m₀ p T.stands.ids (λ s j. waits_at p s (T.held j)) hp apart
        (λ s hs. list_same n queues_same p s hp hs ∙ T.stands.lists p s hp hs)) inside'

    pub long₀ : link_words n ≤ length m₀
    long₀ = rw (length_taken n (size f) (mask ports) links) T.long

    pub lists_are : (p q : ℕ) → p < 5 → q < 4
        → list_of n after p q ≡ (if among p ports && eqb q f.queue then list_of n links p q ++ (i ∷ []) else list_of n links p q)
    lists_are p q hp hq =
        pushed_lists n f.queue i low T.sound.first ports m₀ long₀ distinct queues₀ absent p q hp hq ∙ rw (list_same n queues_same p q hp hq)

    -- the new frame's row, and the others'
    pub row_new : frame_cells n after i ≡ i ∷ more
    row_new = same_frame cells_same n i ∙ taken_cells n (size f) (mask ports) links T.long some somewhere small taking_k T.sound ∙ row_is

    pub row_other : (j : ℕ) → eqb i j ≡ false → frame_cells n after j ≡ frame_cells n links j
    row_other j ne =
        same_frame cells_same n j
        ∙ taken_follow n (size f) (mask ports) links (size_of m₀ j) j
        ∙ ap (λ (k : ℕ). follow n links k j) (taken_size_other n (size f) (mask ports) links j (λ e. eqb-false i j ne (sym e)))

    unfoldable pub held' : ℕ → Waiting
    held' = changed i (record { frame = f; ports = ports }) T.held

    pub same_rows : Each (Same (links_in n after held') (link_in f ports rest i more l)) arrived.ids
    unfolding arrived stands_in links_in link_in held' changed
    same_rows =
        each_append
        (each_map (λ j h. (rw h (row_other j h), refl)) apart)
        (also (rw (eqb_self i) row_new, refl) nobody)

    unfoldable pub stands_after : Stands n (links_in n after held') (join f ports ws)
    unfolding links_in link_in
    stands_after =
        stands_same n (link_in f ports rest i more l) (links_in n after held') (join f ports ws) arrived free_is lists_are same_rows

    pub ports_new : ports_of after i ≡ mask ports
    ports_new = same_ports cells_same i ∙ taken_ports n (size f) (mask ports) links T.long T.sound.first small

    pub ports_other : (j : ℕ) → eqb i j ≡ false → ports_of after j ≡ ports_of links j
    ports_other j ne = same_ports cells_same j ∙ taken_ports_other n (size f) (mask ports) links j (λ e. eqb-false i j ne (sym e))

    pub waits_after : Each (λ (c : ℕ). WaitsAs n after c (held' c)) stands_after.ids
    unfolding stands_after stands_same arrived stands_in held' changed
    waits_after =
        each_append
        (each_map (λ j h. rw h.0 (kept j h.0 h.1)) (each_zip apart T.waits))
        (also (rw (eqb_self i) (record { below = T.sound.first; somewhere = somewhere; ascending = ascending; said = ports_new; few = few; low = low })) nobody)
      where
        kept : (j : ℕ) → eqb i j ≡ false → WaitsAs n links j (T.held j) → WaitsAs n after j (T.held j)
        kept j ne h = record { below = h.below; somewhere = h.somewhere; ascending = h.ascending; said = ports_other j ne ∙ h.said; few = h.few; low = h.low }

    -- link memory after the arrival stands for the traffic with the frame at its end
    unfoldable pub traffic_after : LinkTraffic n after (join f ports ws)
    traffic_after =
        record {
          held = held';
          stands = stands_after;
          waits = waits_after;
          long = rw (length_pushed_at n f.queue i low ports m₀ ∙ length_taken n (size f) (mask ports) links) T.long;
          sound = same_sound cells_same (taken_sound n (size f) (mask ports) links T.long some somewhere small taking_k T.sound);
          queues = all_pushed_at n f.queue i low T.sound.first ports m₀ long₀ distinct queues₀ absent;
          waiting_words = waiting_pushed_at n f.queue i low inside' m₀ long₀ (waiting_same queues_same T.waiting_words);
        }
