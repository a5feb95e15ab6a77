-- Each waiting frame's header and bytes stay in its chain while others come and go, and a new frame's are stored in its own.
-- Assumes nothing.
use Prim.Native.Nat.{ℕ, ◌+◌, ◌*◌, ◌-◌, ◌^◌, ◌≤◌, ◌<◌}
use mathlib.Core.Path.{◌≡◌, refl, sym, ap, ap₂, ◌∙◌}
use mathlib.Core.Bool.{false}
use mathlib.Core.List.{List, ◌∷◌, ◌++◌}
use native.Mathlib.Decide.{ℕ_discrete}
use native.Mathlib.Omega.{arith}
use lib.Dec.{eqb}
use lib.ListN.{length, take, drop}
use lib.Seq.{take-take}
use borrow.Author.Tests.{eqb-false}
use Rattle.layout.specs.Counting.{times}
use Rattle.rules.specs.Choice.{sift, among, without, changed, Distinct, Each, nobody, also}
use Rattle.rules.specs.Cells.{longest}
use Rattle.rules.specs.Cells as Rules
use Rattle.rules.specs.Outcomes.{Frame}
use Rattle.rules.specs.Numbers.{all_ports}
use Rattle.rules.proofs.Choice.{on_list, each_append, each_map, each_zip, eqb_self}
use Rattle.machine.specs.Waiting.{Waiting, size, send, join}
use Rattle.machine.specs.FrameIn.{mask}
use Rattle.cells.specs.Chains.{follow}
use Rattle.cells.specs.Free.{free_count, first_free, word_of, size_of, ports_of, frame_cells, given_back}
use Rattle.cells.specs.Bytes.{store_cells, header_in, frame_in}
use Rattle.cells.specs.Stored.{stored_bytes, stored_of}
use Rattle.layout.proofs.Counting.{times_here}
use Rattle.cells.proofs.Steps.{follow_below}
use Rattle.cells.proofs.Paths.{length_follow}
use Rattle.cells.proofs.Words.{taken_size, taken_size_other, given_size, given_size_other}
use Rattle.cells.proofs.Kept.{waiting_some, taken_once, taken_apart}
use Rattle.cells.proofs.Loads.{length_store, cell_store, load_other, frame_stored, header_stored, header_first}
use Rattle.cells.proofs.Headers.{stored_length, stored_back}
use Rattle.cells.proofs.Unchanged.{same_size, same_frame}
use Rattle.queues.specs.Lists.{list_of}
use Rattle.arrival.specs.Stored.{stored_header}
use Rattle.take_out.specs.Frames.{frame_of, stored_at}
use Rattle.standing.specs.LinkTraffic.{WaitsAs, LinkTraffic}
use Rattle.standing.specs.Traffic.{Storable, HoldsFrame, Traffic}
use Rattle.standing.proofs.Linked.{stands_in, out_each}
use Rattle.standing.proofs.Reading.{stands_same}
use Rattle.standing.proofs.Departures as Departures
use Rattle.standing.proofs.Arrivals as Arrivals
use Rattle.standing.proofs.Storing.{frame_read, stored_in_range_law}

-- a chain that is the same over the same cells holds the same frame
holds_same : (n : ℕ) (cells mem links lin : List ℕ) (c : ℕ) (w v : Waiting) → v.frame ≡ w.frame → header_in mem c ≡ header_in cells c
    → frame_in mem (frame_cells n lin c) (stored_at cells c).length ≡ frame_in cells (frame_cells n links c) (stored_at cells c).length
    → size_of lin c ≡ size_of links c → HoldsFrame n cells links c w → HoldsFrame n mem lin c v
holds_same n cells mem links lin c w v same header bytes long h =
    let stored : stored_at mem c ≡ stored_at cells c = ap stored_of header in
    record {
      frame = rw same (rw stored (ap (λ (b : List ℕ). frame_of (stored_at cells c) b w.frame.queue) bytes ∙ h.frame));
      in_range = rw stored h.in_range;
      size = rw stored (long ∙ h.size);
    }

-- ---- a departure

module _ (n : ℕ) (cells links : List ℕ) (ws : List Waiting) (T : Traffic n cells links ws) (p q i : ℕ) (hp : p < 5) (hq : q < 4)
    (tail : List ℕ) (head : list_of n links p q ≡ i ∷ tail) where
  abbrev L : LinkTraffic n links ws
  L = T.links_stand

  abbrev pub left_behind : List ℕ
  left_behind = Departures.after n links ws L p q i hp hq tail head

  size_same : (j : ℕ) → size_of left_behind j ≡ size_of links j
  size_same j =
      let word = word_of links i - 2 ^ p in
      same_size (Departures.cells_same n links ws L p q i hp hq tail head) j
      ∙ on_list (without p (L.held i).ports)
      (λ e. rw (Departures.given n links ws L p q i hp hq tail head e) (given_any j))
      (λ m ms e. rw (Departures.kept n links ws L p q i hp hq tail head m ms e)
      (Departures.word_size_same links i word (Departures.there n links ws L p q i hp hq tail head) (Departures.lost n links ws L p q i hp hq tail head).0 j))
    where
      given_any : (j : ℕ) → size_of (given_back n i links) j ≡ size_of links j
      given_any j =
          elim (ℕ_discrete j i) as (λ _. size_of (given_back n i links) j ≡ size_of links j) [
            | yes e ↦ rw e (given_size n i links L.long (Departures.waits_i n links ws L p q i hp hq tail head).below)
            | no e ↦ given_size_other n i links j e
          ]

  frames_left : Each (λ (c : ℕ). HoldsFrame n cells left_behind c ((Departures.traffic_after n links ws L p q i hp hq tail head).held c)) (Departures.traffic_after n links ws L p q i hp hq tail head).stands.ids
  unfolding Departures.traffic_after Departures.stands_after stands_same Departures.left_stands Departures.held' changed
  frames_left =
      out_each n (Departures.l n links ws L p q i hp hq tail head) ws L.stands p q i hp hq tail (Departures.head' n links ws L p q i hp hq tail head)
      {P = λ (c : ℕ). HoldsFrame n cells left_behind c (Departures.held' n links ws L p q i hp hq tail head c)}
      {Q = λ (j : ℕ). WaitsAs n links j (L.held j) × HoldsFrame n cells links j (L.held j)}
      (each_zip L.waits T.frames)
      (λ m ms e h. rw (eqb_self i) (row i _ (same_frame (Departures.cells_same n links ws L p q i hp hq tail head) n i ∙ Departures.D-row-i n links ws L p q i hp hq tail head m ms e) refl h.1))
      (λ j ne h. rw ne (row j _ (same_frame (Departures.cells_same n links ws L p q i hp hq tail head) n j ∙ Departures.D-row n links ws L p q i hp hq tail head j ne h.0) refl h.1))
    where
      row : (j : ℕ) (v : Waiting) → frame_cells n left_behind j ≡ frame_cells n links j → v.frame ≡ (L.held j).frame → HoldsFrame n cells links j (L.held j) → HoldsFrame n cells left_behind j v
      row j v same f h = holds_same n cells cells links left_behind j (L.held j) v f refl (ap (λ (r : List ℕ). frame_in cells r (stored_at cells j).length) same) (size_same j) h

  -- both memories after a copy left stand for the traffic without it
  pub departure_keeps : Traffic n cells left_behind (send p q ws)
  departure_keeps =
      record { links_stand = Departures.traffic_after n links ws L p q i hp hq tail head; cells_long = T.cells_long; frames = frames_left }

-- ---- an arrival

module _ (n : ℕ) (cells links : List ℕ) (ws : List Waiting) (T : Traffic n cells links ws) (f : Frame) (p₀ : ℕ) (ps : List ℕ)
    (enough : size f ≤ free_count links) (low : f.queue < 4) (inside : Each (λ (p : ℕ). p ≤ 4) (p₀ ∷ ps)) (distinct : Distinct (p₀ ∷ ps))
    (ascending : p₀ ∷ ps ≡ sift (λ p. among p (p₀ ∷ ps)) all_ports) (somewhere : 1 ≤ mask (p₀ ∷ ps)) (few : size f ≤ Rules.cells longest) (operation : ℕ) (S : Storable operation f) where
  abbrev K : LinkTraffic n links ws
  K = T.links_stand

  abbrev chain : List ℕ
  chain = follow n links (size f) (first_free links)

  abbrev pub filled : List ℕ
  filled = store_cells cells chain (stored_bytes (stored_header operation f) ++ f.packet.bytes)

  abbrev pub joined : List ℕ
  joined = Arrivals.after n links ws K f p₀ ps enough low inside distinct ascending somewhere few

  one : 1 ≤ size f
  one = Arrivals.some n links ws K f p₀ ps enough low inside distinct ascending somewhere few

  taking : Rattle.cells.proofs.Moves.Taking n (size f) links
  taking = Arrivals.taking_k n links ws K f p₀ ps enough low inside distinct ascending somewhere few

  small : mask (p₀ ∷ ps) < 32
  small = Arrivals.small n links ws K f p₀ ps enough low inside distinct ascending somewhere few

  once : (c : ℕ) → times c chain ≤ 1
  once = taken_once n (size f) (mask (p₀ ∷ ps)) links K.long one somewhere small taking K.sound

  -- the chain of another frame shares no cell with the new one
  others_apart : (j : ℕ) → WaitsAs n links j (K.held j) → (c : ℕ) → times c chain + times c (frame_cells n links j) ≤ 1
  others_apart j h c =
      let some : 1 ≤ ports_of links j = rw h.said h.somewhere in
      rw (waiting_some n links j some) at (taken_apart n (size f) (mask (p₀ ∷ ps)) links K.long one somewhere small taking K.sound j h.below c)

  not_in_chain : (j : ℕ) → WaitsAs n links j (K.held j) → HoldsFrame n cells links j (K.held j) → times j chain ≡ 0
  not_in_chain j h g =
      let k : ℕ = size_of links j - 1 in
      let row : frame_cells n links j ≡ j ∷ follow n links k (Rattle.cells.specs.Chains.next n links j) =
      ap (λ (m : ℕ). follow n links m j) (let z : size_of links j ≡ Prim.Native.Nat.suc k = omega (arith, g.size) in z) in
      omega (arith, others_apart j h j, ap (times j) row, times_here j (follow n links k (Rattle.cells.specs.Chains.next n links j)))

  header_kept : (j : ℕ) → times j chain ≡ 0 → header_in filled j ≡ header_in cells j
  header_kept j none =
      sym (take-take 8 80 (drop (80 * j) filled) (omega arith))
      ∙ ap (take 8) (cell_store j cells chain (stored_bytes (stored_header operation f) ++ f.packet.bytes) none)
      ∙ take-take 8 80 (drop (80 * j) cells) (omega arith)

  bytes_kept : (j m : ℕ) → eqb (first_free links) j ≡ false → WaitsAs n links j (K.held j) → frame_in filled (frame_cells n joined j) m ≡ frame_in cells (frame_cells n links j) m
  unfolding frame_in
  bytes_kept j m ne h =
      rw (Arrivals.row_other n links ws K f p₀ ps enough low inside distinct ascending somewhere few j ne)
      (ap (λ (b : List ℕ). take m (drop 8 b)) (load_other cells chain (frame_cells n links j) (stored_bytes (stored_header operation f) ++ f.packet.bytes) (others_apart j h)))

  size_kept : (j : ℕ) → eqb (first_free links) j ≡ false → size_of joined j ≡ size_of links j
  size_kept j ne =
      same_size (Arrivals.cells_same n links ws K f p₀ ps enough low inside distinct ascending somewhere few) j
      ∙ taken_size_other n (size f) (mask (p₀ ∷ ps)) links j (λ e. eqb-false (first_free links) j ne (sym e))

  other_holds : (j : ℕ) → eqb (first_free links) j ≡ false → WaitsAs n links j (K.held j) → HoldsFrame n cells links j (K.held j) → HoldsFrame n filled joined j (K.held j)
  other_holds j ne h g =
      holds_same n cells filled links joined j (K.held j) (K.held j) refl (header_kept j (not_in_chain j h g)) (bytes_kept j (stored_at cells j).length ne h) (size_kept j ne) g

  -- ---- the new frame

  fits : 80 * n ≤ length cells
  fits = omega (arith, T.cells_long)

  room : 8 + length f.packet.bytes ≤ 80 * length chain
  unfolding size
  room = omega (arith, length_follow n links (size f) (first_free links))

  stored_new : stored_at filled (first_free links) ≡ stored_header operation f
  stored_new =
      ap stored_of
      (sym (header_first n links filled (size f) (first_free links) (omega (arith, one)) (omega (arith, fits, length_store cells chain (stored_bytes (stored_header operation f) ++ f.packet.bytes), K.sound.first)))
      ∙ header_stored n cells chain (stored_bytes (stored_header operation f)) f.packet.bytes fits (follow_below n links (size f) (first_free links) taking.first) once (stored_length (stored_header operation f)) room)
      ∙ stored_back (stored_header operation f)

  row_new : frame_cells n joined (first_free links) ≡ chain
  row_new =
      Arrivals.row_new n links ws K f p₀ ps enough low inside distinct ascending somewhere few
      ∙ sym (Arrivals.row_is n links ws K f p₀ ps enough low inside distinct ascending somewhere few)

  length_new : (stored_header operation f).length ≡ length f.packet.bytes
  unfolding stored_header
  length_new = refl

  bytes_new : frame_in filled (frame_cells n joined (first_free links)) (stored_header operation f).length ≡ f.packet.bytes
  bytes_new =
      ap₂ (frame_in filled) row_new length_new
      ∙ frame_stored n cells chain (stored_bytes (stored_header operation f)) f.packet.bytes fits (follow_below n links (size f) (first_free links) taking.first) once (stored_length (stored_header operation f)) room

  size_new : size_of joined (first_free links) ≡ Rules.cells (length f.packet.bytes)
  unfolding size
  size_new =
      same_size (Arrivals.cells_same n links ws K f p₀ ps enough low inside distinct ascending somewhere few) (first_free links)
      ∙ taken_size n (size f) (mask (p₀ ∷ ps)) links K.long K.sound.first small

  new_holds : HoldsFrame n filled joined (first_free links) (record { frame = f; ports = p₀ ∷ ps })
  new_holds =
      record {
        frame = rw stored_new (rw bytes_new (frame_read operation f S));
        in_range = rw stored_new (stored_in_range_law operation f S);
        size = rw stored_new (rw length_new size_new);
      }

  frames_joined : Each (λ (c : ℕ). HoldsFrame n filled joined c ((Arrivals.traffic_after n links ws K f p₀ ps enough low inside distinct ascending somewhere few).held c))
      (Arrivals.traffic_after n links ws K f p₀ ps enough low inside distinct ascending somewhere few).stands.ids
  unfolding Arrivals.traffic_after Arrivals.stands_after stands_same Arrivals.arrived stands_in Arrivals.held' changed
  frames_joined =
      each_append
      (each_map (λ j h. rw h.0 (other_holds j h.0 h.1.0 h.1.1))
      (each_zip (Arrivals.apart n links ws K f p₀ ps enough low inside distinct ascending somewhere few) (each_zip K.waits T.frames)))
      (also (rw (eqb_self (first_free links)) new_holds) nobody)

  -- both memories after an arrival stand for the traffic with the frame at its end
  pub arrival_keeps : Traffic n filled joined (join f (p₀ ∷ ps) ws)
  arrival_keeps =
      record {
        links_stand = Arrivals.traffic_after n links ws K f p₀ ps enough low inside distinct ascending somewhere few;
        cells_long = rw (length_store cells chain (stored_bytes (stored_header operation f) ++ f.packet.bytes)) T.cells_long;
        frames = frames_joined;
      }
