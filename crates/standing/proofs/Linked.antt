-- An arrival and a departure keep `Stands`. Assumes nothing.
use Prim.Native.Nat.{ℕ, suc, ◌+◌, ◌<◌}
use mathlib.Core.Path.{◌≡◌, refl, sym, ap, ap₂, ◌∙◌}
use mathlib.Core.Bool.{Bool, true, false, ◌&&◌}
use mathlib.Core.List.{List, [], ◌∷◌, ◌++◌, append-nil, append_assoc, map}
use native.Mathlib.Omega.{arith}
use lib.Dec.{eqb, ltb}
use lib.ListN.{length, length-append}
use borrow.Author.Tests.{eqb-true}
use Rattle.layout.specs.Counting.{one, times}
use Rattle.layout.proofs.Counting.{times_append}
use Rattle.std.specs.Prelude.{if◌then◌else◌}
use Rattle.rules.specs.Choice.{sift, among, without, changed, Each, nobody, also}
use Rattle.rules.specs.Outcomes.{Frame}
use Rattle.machine.specs.Waiting.{Waiting, size, cells_in_use, waits_at, stay, leave, send, join}
use Rattle.standing.specs.Links.{Links, rows_of, RowOk, Stands, link_in, freed, link_out}
use Rattle.rules.proofs.Choice.{on, each_append, each_front, each_back, each_first, each_map, each_zip, eqb_self, eqb_sym, among_without_same, among_without_other}
use Rattle.machine.proofs.Waits.{in_use_append, other_queue}

-- ---- lists

map_append : {A B : Type 0} (f : A → B) (xs ys : List A) → map f (xs ++ ys) ≡ map f xs ++ map f ys
map_append f [] ys = refl
map_append f (x ∷ xs) ys = ap (f x ∷◌) (map_append f xs ys)

sift_append : {A : Type 0} (t : A → Bool) (xs ys : List A) → sift t (xs ++ ys) ≡ sift t xs ++ sift t ys
unfolding sift changed
sift_append t [] ys = refl
sift_append t (x ∷ xs) ys = on (t x) (λ e. rw e (ap (x ∷◌) (sift_append t xs ys))) (λ e. rw e (sift_append t xs ys))

rows_append : (row : ℕ → List ℕ) (is js : List ℕ) → rows_of row (is ++ js) ≡ rows_of row is ++ rows_of row js
unfolding rows_of changed
rows_append row [] js = refl
rows_append row (i ∷ is) js = ap (row i ++◌) (rows_append row is js) ∙ sym (append_assoc (row i) (rows_of row is) (rows_of row js))

-- ---- a change at frame i is not seen by the others

abbrev pub Not : ℕ → List ℕ → Type 0
Not i ids = Each (λ (j : ℕ). eqb i j ≡ false) ids

map_other : {A : Type 0} (i : ℕ) (a : A) (f : ℕ → A) {ids : List ℕ} → Not i ids → map (changed i a f) ids ≡ map f ids
unfolding changed
map_other i a f nobody = refl
map_other i a f (also {a = j} h t) = rw h (ap (f j ∷◌) (map_other i a f t))

rows_other : (i : ℕ) (a : List ℕ) (f : ℕ → List ℕ) {ids : List ℕ} → Not i ids → rows_of (changed i a f) ids ≡ rows_of f ids
unfolding rows_of changed
rows_other i a f nobody = refl
rows_other i a f (also {a = j} h t) = rw h (ap (f j ++◌) (rows_other i a f t))

sift_other : {A : Type 0} (t : A → Bool) (i : ℕ) (a : A) (f : ℕ → A) {ids : List ℕ} → Not i ids → sift (λ j. t (changed i a f j)) ids ≡ sift (λ j. t (f j)) ids
unfolding sift changed
sift_other t i a f nobody = refl
sift_other t i a f (also {a = j} h r) = rw (h, sift_other t i a f r)

-- a frame's first cell stands in its row
pub row_times : (l : Links) (c i : ℕ) (ok : RowOk l i) → times c (l.row i) ≡ one (eqb i c) + times c ok.more
unfolding changed
row_times l c i ok = ap (times c) ok.starts

-- a cell that is in no row is no frame's first
pub not_first : (l : Links) (c : ℕ) {ids : List ℕ} → Each (RowOk l) ids → times c (rows_of l.row ids) ≡ 0 → Not c ids
unfolding rows_of changed
not_first l c nobody z = nobody
not_first l c (also {a = i} {rest = ids} ok t) z =
    let d : one (eqb i c) + times c ok.more + times c (rows_of l.row ids) ≡ 0
    = omega (arith, times_append c (l.row i) (rows_of l.row ids), row_times l c i ok, z) in
    also
    (on (eqb i c)
    (λ e. let b : 1 + times c ok.more + times c (rows_of l.row ids) ≡ 0 = rw e at d in absurd (omega arith))
    (λ e. eqb_sym c i ∙ e))
    (not_first l c t (omega arith))

pub rows_kept : (l m : Links) {ids : List ℕ} → Each (RowOk l) ids → Each (λ (j : ℕ). (m.row j ≡ l.row j) × ((m.held j).frame ≡ (l.held j).frame)) ids → Each (RowOk m) ids
rows_kept l m nobody nobody = nobody
rows_kept l m (also ok t) (also h r) =
    also (record { more = ok.more; starts = h.0 ∙ ok.starts; sized = ap length h.0 ∙ ok.sized ∙ ap size (sym h.1) }) (rows_kept l m t r)

-- ---- an arrival

module _ (n : ℕ) (l : Links) (ws : List Waiting) (S : Stands n l ws) (f : Frame) (p₀ : ℕ) (ps : List ℕ)
    (rest : List ℕ) (i : ℕ) (more : List ℕ) (cut : l.free ≡ (i ∷ more) ++ rest) (fit : suc (length more) ≡ size f) where
  abbrev pub w : Waiting
  w = record { frame = f; ports = p₀ ∷ ps }

  abbrev pub new : Links
  new = link_in f (p₀ ∷ ps) rest i more l

  -- the cells that come from the free ones
  pub free_times : (c : ℕ) → times c l.free ≡ one (eqb i c) + times c more + times c rest
  unfolding changed
  free_times c = ap (times c) cut ∙ times_append c (i ∷ more) rest

  pub others : Not i S.ids
  others =
      not_first l i S.rows (on (ltb i n)
      (λ e. let b : times i l.free + times i (rows_of l.row S.ids) ≡ 1 = rw e at (S.cells i) in
      let d : times i l.free ≡ 1 + times i more + times i rest = rw (eqb_self i) at (free_times i) in omega arith)
      (λ e. let b : times i l.free + times i (rows_of l.row S.ids) ≡ 0 = rw e at (S.cells i) in omega arith))

  pub in_holds : map new.held (S.ids ++ (i ∷ [])) ≡ join f (p₀ ∷ ps) ws
  unfolding link_in join stay changed
  in_holds =
      map_append (changed i w l.held) S.ids (i ∷ [])
      ∙ rw (map_other i w l.held others, S.holds, eqb_self i)

  pub in_rows : Each (RowOk new) (S.ids ++ (i ∷ []))
  unfolding link_in changed
  in_rows =
      each_append
      (rows_kept l new S.rows (each_map (λ j h. (rw h, rw h)) others))
      (also (record { more = more; starts = rw (eqb_self i); sized = rw (eqb_self i) fit }) nobody)

  pub in_lists : (p q : ℕ) → p < 5 → q < 4 → new.list p q ≡ sift (λ j. waits_at p q (new.held j)) (S.ids ++ (i ∷ []))
  unfolding link_in sift waits_at changed
  in_lists p q hp hq =
      rw (sift_append (λ j. waits_at p q (changed i w l.held j)) S.ids (i ∷ []), sift_other (waits_at p q) i w l.held others, eqb_self i, ← (S.lists p q hp hq))
      (on (among p (p₀ ∷ ps) && eqb q f.queue) (λ e. rw e) (λ e. rw e (sym (append-nil (l.list p q)))))

  pub in_cells : (c : ℕ) → times c new.free + times c (rows_of new.row (S.ids ++ (i ∷ []))) ≡ (if ltb c n then 1 else 0)
  unfolding link_in rows_of changed
  in_cells c =
      rw (rows_append (changed i (i ∷ more) l.row) S.ids (i ∷ []), rows_other i (i ∷ more) l.row others, eqb_self i)
      (omega (arith, times_append c (rows_of l.row S.ids) (i ∷ more ++ []), ap (times c) (append-nil (i ∷ more)), free_times c, S.cells c))

  pub in_room : length new.free + cells_in_use (join f (p₀ ∷ ps) ws) ≡ n
  unfolding link_in join stay cells_in_use changed
  in_room = omega (arith, in_use_append ws (w ∷ []), ap length cut, length-append (i ∷ more) rest, S.room, fit)

  unfoldable pub stands_in : Stands n new (join f (p₀ ∷ ps) ws)
  stands_in = record { ids = S.ids ++ (i ∷ []); holds = in_holds; rows = in_rows; lists = in_lists; cells = in_cells; room = in_room }

-- ---- a departure

-- the first member that passes a test, with what stands before and after it
record Split (t : ℕ → Bool) (xs : List ℕ) (x : ℕ) (tail : List ℕ) : Type 0 where
  before : List ℕ
  later : List ℕ
  whole : xs ≡ before ++ (x ∷ later)
  none : Each (λ (j : ℕ). t j ≡ false) before
  passed : t x ≡ true
  onward : sift t later ≡ tail

split : (t : ℕ → Bool) (xs : List ℕ) (x : ℕ) (tail : List ℕ) → sift t xs ≡ x ∷ tail → Split t xs x tail
unfolding sift changed
split t [] x tail h = absurd (let z : ◌≡◌ {A = ℕ} 0 1 = cc in omega arith)
split t (y ∷ ys) x tail h =
    on (t y)
    (λ e. let d : y ∷ sift t ys ≡ x ∷ tail = rw e at h in let b : y ≡ x = cc in
    record { before = []; later = ys; whole = ap (◌∷ ys) b; none = nobody; passed = rw (← b) e; onward = cc })
    (λ e. let r = split t ys x tail (rw e at h) in
    record { before = y ∷ r.before; later = r.later; whole = ap (y ∷◌) r.whole; none = also e r.none; passed = r.passed; onward = r.onward })

send_at : (p q : ℕ) (held : ℕ → Waiting) {before : List ℕ} (w : Waiting) (ws : List Waiting) → Each (λ (j : ℕ). waits_at p q (held j) ≡ false) before
    → waits_at p q w ≡ true → send p q (map held before ++ (w ∷ ws)) ≡ map held before ++ leave p w ws
unfolding send changed
send_at p q held w ws nobody h = rw h
send_at p q held w ws (also {a = j} e t) h = rw e (ap (held j ∷◌) (send_at p q held w ws t h))

sift_none : (t : ℕ → Bool) {xs : List ℕ} → Each (λ (j : ℕ). t j ≡ false) xs → sift t xs ≡ []
unfolding sift changed
sift_none t nobody = refl
sift_none t (also e r) = rw e (sift_none t r)

-- a frame stays in the list of first cells while a port is left to it
keep_id : List ℕ → ℕ → List ℕ → List ℕ
keep_id [] i later = later
keep_id (p ∷ ps) i later = i ∷ later

keep_holds : (ps : List ℕ) (i : ℕ) (f : Frame) (held : ℕ → Waiting) (later : List ℕ) → Not i later
    → map (changed i (record { frame = f; ports = ps }) held) (keep_id ps i later) ≡ stay f ps (map held later)
unfolding keep_id stay changed
keep_holds [] i f held later h = map_other i _ held h
keep_holds (p ∷ ps) i f held later h = rw (map_other i (record { frame = f; ports = p ∷ ps }) held h, eqb_self i)

keep_lists : (r s : ℕ) (ps : List ℕ) (i : ℕ) (f : Frame) (held : ℕ → Waiting) (later : List ℕ) → Not i later
    → sift (λ j. waits_at r s (changed i (record { frame = f; ports = ps }) held j)) (keep_id ps i later)
    ≡ (if among r ps && eqb s f.queue then i ∷ sift (λ j. waits_at r s (held j)) later else sift (λ j. waits_at r s (held j)) later)
unfolding keep_id sift among waits_at changed
keep_lists r s [] i f held later h = sift_other (waits_at r s) i _ held h
keep_lists r s (p ∷ ps) i f held later h = rw (sift_other (waits_at r s) i (record { frame = f; ports = p ∷ ps }) held h, eqb_self i)

keep_cells : (c : ℕ) (ps : List ℕ) (i : ℕ) (row : ℕ → List ℕ) (free later : List ℕ)
    → times c (freed ps (row i) free) + times c (rows_of row (keep_id ps i later)) ≡ times c free + (times c (row i) + times c (rows_of row later))
unfolding keep_id freed rows_of changed
keep_cells c [] i row free later = omega (arith, times_append c (row i) free)
keep_cells c (p ∷ ps) i row free later = omega (arith, times_append c (row i) (rows_of row later))

keep_room : (ps : List ℕ) (row free : List ℕ) (f : Frame) (ws : List Waiting) → length row ≡ size f
    → length (freed ps row free) + cells_in_use (stay f ps ws) ≡ length free + (size f + cells_in_use ws)
unfolding freed stay cells_in_use changed
keep_room [] row free f ws h = omega (arith, length-append row free)
keep_room (p ∷ ps) row free f ws h = omega arith

keep_each : {P : ℕ → Type 0} (ps : List ℕ) (i : ℕ) {later : List ℕ} → P i → Each P later → Each P (keep_id ps i later)
unfolding keep_id changed
keep_each [] i h t = t
keep_each (p ∷ ps) i h t = also h t

keep_some : {P : ℕ → Type 0} (ps : List ℕ) (i : ℕ) {later : List ℕ} → ((m : ℕ) (ms : List ℕ) → ps ≡ m ∷ ms → P i) → Each P later → Each P (keep_id ps i later)
unfolding keep_id
keep_some [] i h t = t
keep_some (p ∷ ps) i h t = also (h p ps refl) t

module _ (n : ℕ) (l : Links) (ws : List Waiting) (S : Stands n l ws) (p q i : ℕ) (hp : p < 5) (hq : q < 4) (tail : List ℕ) (head : l.list p q ≡ i ∷ tail) where
  sp : Split (λ j. waits_at p q (l.held j)) S.ids i tail
  sp = split (λ j. waits_at p q (l.held j)) S.ids i tail (sym (S.lists p q hp hq) ∙ head)

  abbrev B : List ℕ
  B = sp.before

  abbrev L : List ℕ
  L = sp.later

  abbrev left : List ℕ
  left = without p (l.held i).ports

  abbrev pub out : Links
  out = link_out p q i tail l

  rows₀ : Each (RowOk l) (B ++ (i ∷ L))
  rows₀ = rw sp.whole at S.rows

  cells₀ : (c : ℕ) → times c l.free + (times c (rows_of l.row B) + (times c (l.row i) + times c (rows_of l.row L))) ≡ (if ltb c n then 1 else 0)
  unfolding rows_of changed
  cells₀ c =
      sym (ap (times c l.free +◌) (ap (times c) (ap (rows_of l.row) sp.whole ∙ rows_append l.row B (i ∷ L))
      ∙ times_append c (rows_of l.row B) (l.row i ++ rows_of l.row L) ∙ ap (times c (rows_of l.row B) +◌) (times_append c (l.row i) (rows_of l.row L))))
      ∙ S.cells c

  row_i : RowOk l i
  row_i = each_first (each_back B (i ∷ L) rows₀)

  rows_b : Each (RowOk l) B
  rows_b = each_front B (i ∷ L) rows₀

  rows_l : Each (RowOk l) L
  rows_l = each_back (i ∷ []) L (each_back B (i ∷ L) rows₀)

  -- the first cell of frame i stands in no other row
  alone : times i (rows_of l.row B) + times i (rows_of l.row L) ≡ 0
  alone =
      let d : times i (l.row i) ≡ 1 + times i row_i.more = rw (eqb_self i) at (row_times l i i row_i) in
      on (ltb i n)
      (λ e. let b : times i l.free + (times i (rows_of l.row B) + (times i (l.row i) + times i (rows_of l.row L))) ≡ 1 = rw e at (cells₀ i) in omega arith)
      (λ e. let b : times i l.free + (times i (rows_of l.row B) + (times i (l.row i) + times i (rows_of l.row L))) ≡ 0 = rw e at (cells₀ i) in omega arith)

  not_b : Not i B
  not_b = not_first l i rows_b (omega (arith, alone))

  not_l : Not i L
  not_l = not_first l i rows_l (omega (arith, alone))

  abbrev w' : Waiting
  w' = record { frame = (l.held i).frame; ports = left }

  ws_is : ws ≡ map l.held B ++ (l.held i ∷ map l.held L)
  ws_is = sym S.holds ∙ ap (map l.held) sp.whole ∙ map_append l.held B (i ∷ L)

  sent_is : send p q ws ≡ map l.held B ++ stay (l.held i).frame left (map l.held L)
  unfolding leave changed
  sent_is = ap (send p q) ws_is ∙ send_at p q l.held (l.held i) (map l.held L) sp.none sp.passed

  out_holds : map out.held (B ++ keep_id left i L) ≡ send p q ws
  unfolding link_out changed
  out_holds =
      map_append (changed i w' l.held) B (keep_id left i L)
      ∙ rw (map_other i w' l.held not_b, keep_holds left i (l.held i).frame l.held L not_l) (sym sent_is)

  out_rows : Each (RowOk out) (B ++ keep_id left i L)
  unfolding link_out changed
  out_rows =
      each_append
      (rows_kept l out rows_b (each_map (λ j h. (refl, rw h)) not_b))
      (keep_each left i
      (record { more = row_i.more; starts = row_i.starts; sized = row_i.sized ∙ rw (eqb_self i) })
      (rows_kept l out rows_l (each_map (λ j h. (refl, rw h)) not_l)))

  out_cells : (c : ℕ) → times c out.free + times c (rows_of out.row (B ++ keep_id left i L)) ≡ (if ltb c n then 1 else 0)
  unfolding link_out changed
  out_cells c =
      rw (rows_append l.row B (keep_id left i L))
      (omega (arith, times_append c (rows_of l.row B) (rows_of l.row (keep_id left i L)), keep_cells c left i l.row l.free L, cells₀ c))

  out_room : length out.free + cells_in_use (send p q ws) ≡ n
  unfolding link_out cells_in_use changed
  out_room =
      rw sent_is
      (omega (
        arith,
        in_use_append (map l.held B) (stay (l.held i).frame left (map l.held L)),
        keep_room left (l.row i) l.free (l.held i).frame (map l.held L) row_i.sized,
        ap cells_in_use ws_is,
        in_use_append (map l.held B) (l.held i ∷ map l.held L),
        S.room,
      ))

  -- what queue (r, s) holds before and after
  list_was : (r s : ℕ) → r < 5 → s < 4 → l.list r s
      ≡ sift (λ j. waits_at r s (l.held j)) B ++ (if waits_at r s (l.held i) then i ∷ sift (λ j. waits_at r s (l.held j)) L else sift (λ j. waits_at r s (l.held j)) L)
  unfolding sift changed
  list_was r s hr hs = S.lists r s hr hs ∙ ap (sift (λ j. waits_at r s (l.held j))) sp.whole ∙ sift_append (λ j. waits_at r s (l.held j)) B (i ∷ L)

  list_is : (r s : ℕ) → sift (λ j. waits_at r s (changed i w' l.held j)) (B ++ keep_id left i L)
      ≡ sift (λ j. waits_at r s (l.held j)) B
      ++ (if among r left && eqb s (l.held i).frame.queue then i ∷ sift (λ j. waits_at r s (l.held j)) L else sift (λ j. waits_at r s (l.held j)) L)
  list_is r s =
      sift_append (λ j. waits_at r s (changed i w' l.held j)) B (keep_id left i L)
      ∙ ap₂ (◌++◌) (sift_other (waits_at r s) i w' l.held not_b) (keep_lists r s left i (l.held i).frame l.held L not_l)

  out_lists : (r s : ℕ) → r < 5 → s < 4 → out.list r s ≡ sift (λ j. waits_at r s (out.held j)) (B ++ keep_id left i L)
  unfolding link_out waits_at changed
  out_lists r s hr hs =
      on (eqb p r)
      (λ e. rw (sym (eqb-true p r e), eqb_self p) (on (eqb q s)
      (λ d. rw (sym (eqb-true q s d), eqb_self q)
      (sym (list_is p q ∙ rw (among_without_same p (l.held i).ports, sift_none (λ j. waits_at p q (l.held j)) sp.none) sp.onward)))
      (λ d. rw d (list_was p s hp hs ∙ rw (other_queue p q s (l.held i) d sp.passed) (sym (list_is p s ∙ rw (among_without_same p (l.held i).ports)))))))
      (λ e. rw e (list_was r s hr hs ∙ sym (list_is r s ∙ rw (among_without_other p r (l.held i).ports e))))

  pub stands_out : Stands n out (send p q ws)
  stands_out = record { ids = B ++ keep_id left i L; holds = out_holds; rows = out_rows; lists = out_lists; cells = out_cells; room = out_room }

  -- what holds of the frames that stay: of those that were there, and of i where a port is left to it
  pub out_each : {P Q : ℕ → Type 0} → Each Q S.ids → ((m : ℕ) (ms : List ℕ) → left ≡ m ∷ ms → Q i → P i) → ((d : ℕ) → eqb i d ≡ false → Q d → P d) → Each P stands_out.ids
  unfolding stands_out
  out_each {P} {Q} all one other =
      let every : Each Q (B ++ (i ∷ L)) = rw sp.whole at all in
      let at_i : Q i = each_first (each_back B (i ∷ L) every) in
      each_append
      (each_map (λ d h. other d h.0 h.1) (each_zip not_b (each_front B (i ∷ L) every)))
      (keep_some left i (λ m ms e. one m ms e at_i)
      (each_map (λ d h. other d h.0 h.1) (each_zip not_l (each_back (i ∷ []) L (each_back B (i ∷ L) every)))))
