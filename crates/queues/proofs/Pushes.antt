-- A frame joins a queue: it is the last of that queue, and the other 19 are as they were. Assumes nothing.
use Prim.Native.Nat.{ℕ, ◌+◌, ◌≤◌, ◌<◌}
use mathlib.Core.Path.{◌≡◌, refl, sym, ap, ap₂, ◌∙◌, subst}
use mathlib.Core.Bool.{true, false}
use mathlib.Core.List.{List, [], ◌∷◌, ◌++◌}
use native.Mathlib.Omega.{arith}
use lib.Dec.{eqb}
use lib.ListN.{length, get_or, set, length-set}
use lib.Seq.{get_or-set_same, get_or-set_other}
use borrow.Author.Tests.{eqb-true, eqb-false}
use Rattle.layout.specs.Counting.{times}
use Rattle.rules.specs.Choice.{nobody, also}
use Rattle.rules.proofs.Choice.{on, on_list, eqb_self, each_append}
use Rattle.layout.specs.Places.{link_words, waiting_word, oldest_word, youngest_word, behind_word}
use Rattle.layout.specs.Bits.{with_bit}
use Rattle.queues.specs.Lists.{waiting_of, oldest_of, youngest_of, behind_of, bit, pushed}
use Rattle.queues.specs.Queued.{has_frames, Behind, Queued, Queues, joined}
use Rattle.layout.proofs.BitLaws.{written_there, written_elsewhere}
use Rattle.layout.proofs.Cells.{clamped_below}
use Rattle.queues.proofs.Outcomes.{push_behind, push_first}
use Rattle.layout.proofs.Counting.{times_here, times_there, times_none, times_append}
use Rattle.queues.proofs.Counts.{times_rest, each_times}
use Rattle.queues.proofs.Chains.{last_in, not_last, ListSame}
use Rattle.queues.proofs.Changes.{queues_changed}

-- ---- the words after it

module _ (n p q x : ℕ) (l : List ℕ) (long : link_words n ≤ length l) (port : p < 5) (queue : q < 4) where
  abbrev Y : ℕ
  Y = youngest_of l p q

  -- the queue waited: the word behind its youngest, and the youngest
  module _ (waits : bit (waiting_of l p) q ≡ true) (inside : Y < n) where
    abbrev linked : List ℕ
    linked = set l (behind_word p Y) x

    is_behind : pushed n p q x l ≡ set linked (youngest_word p q) x
    is_behind = sym (push_behind n p q l x Y waits (sym (clamped_below n Y inside)))

    behind_word_law : (w : ℕ) → (w ≡ behind_word p Y → ⊥) → (w ≡ youngest_word p q → ⊥) → get_or (pushed n p q x l) w 0 ≡ get_or l w 0
    behind_word_law w a b = rw is_behind (get_or-set_other linked (youngest_word p q) w x 0 b ∙ get_or-set_other l (behind_word p Y) w x 0 a)

    behind_youngest : youngest_of (pushed n p q x l) p q ≡ x
    behind_youngest = rw is_behind (get_or-set_same linked (youngest_word p q) x 0 (simp length-set (omega arith)))

    behind_last : behind_of (pushed n p q x l) p Y ≡ x
    behind_last =
        rw is_behind (get_or-set_other linked (youngest_word p q) (behind_word p Y) x 0 (λ e. omega arith) ∙ get_or-set_same l (behind_word p Y) x 0 (omega arith))

  -- it did not wait: oldest, youngest and its bit
  module _ (empty : bit (waiting_of l p) q ≡ false) where
    abbrev first : List ℕ
    first = set l (oldest_word p q) x

    abbrev both : List ℕ
    both = set first (youngest_word p q) x

    is_first : pushed n p q x l ≡ set both (waiting_word p) (with_bit (waiting_of l p) q true)
    is_first = sym (push_first n p q l x (with_bit (waiting_of l p) q true) empty refl)

    first_word : (w : ℕ) → (w ≡ oldest_word p q → ⊥) → (w ≡ youngest_word p q → ⊥) → (w ≡ waiting_word p → ⊥) → get_or (pushed n p q x l) w 0 ≡ get_or l w 0
    first_word w a b c =
        rw is_first
        (get_or-set_other both (waiting_word p) w (with_bit (waiting_of l p) q true) 0 c ∙ get_or-set_other first (youngest_word p q) w x 0 b ∙ get_or-set_other l (oldest_word p q) w x 0 a)

    first_oldest : oldest_of (pushed n p q x l) p q ≡ x
    first_oldest =
        rw is_first
        (get_or-set_other both (waiting_word p) (oldest_word p q) (with_bit (waiting_of l p) q true) 0 (λ e. omega arith)
        ∙ get_or-set_other first (youngest_word p q) (oldest_word p q) x 0 (λ e. omega arith)
        ∙ get_or-set_same l (oldest_word p q) x 0 (omega arith))

    first_youngest : youngest_of (pushed n p q x l) p q ≡ x
    first_youngest =
        rw is_first
        (get_or-set_other both (waiting_word p) (youngest_word p q) (with_bit (waiting_of l p) q true) 0 (λ e. omega arith)
        ∙ get_or-set_same first (youngest_word p q) x 0 (simp length-set (omega arith)))

    first_waiting_law : waiting_of (pushed n p q x l) p ≡ with_bit (waiting_of l p) q true
    first_waiting_law = rw is_first (get_or-set_same both (waiting_word p) (with_bit (waiting_of l p) q true) 0 (simp length-set (omega arith)))

-- ---- the queue itself

behind_pushed : (l m : List ℕ) (p last x c : ℕ) (cs : List ℕ) → behind_of m p last ≡ x → ((d : ℕ) → (d ≡ last → ⊥) → behind_of m p d ≡ behind_of l p d)
    → ((d : ℕ) → times d (c ∷ cs) ≤ 1) → Behind l p last c cs → Behind m p x c (cs ++ (x ∷ []))
behind_pushed l m p last x c [] new old once e = (rw e new, refl)
behind_pushed l m p last x c (d ∷ ds) new old once b =
    (old c (not_last l p last c d ds b.1 once) ∙ b.0, behind_pushed l m p last x d ds new old (λ y. omega (arith, once y, times_rest y c (d ∷ ds))) b.1)

once_pushed : (x : ℕ) (cells : List ℕ) → times x cells ≡ 0 → ((c : ℕ) → times c cells ≤ 1) → (c : ℕ) → times c (cells ++ (x ∷ [])) ≤ 1
once_pushed x cells new once c =
    on (eqb c x)
    (λ e. let same : c ≡ x = eqb-true c x e in rw same (omega (arith, times_append x cells (x ∷ []), times_here x [], times_none x)))
    (λ e. omega (arith, times_append c cells (x ∷ []), times_there c x [] (eqb-false c x e), times_none c, once c))

module _ (n p q x : ℕ) (l : List ℕ) (long : link_words n ≤ length l) (port : p < 5) (queue : q < 4) (inside : x < n) where
  pub queued_pushed : (cells : List ℕ) → times x cells ≡ 0 → Queued n l p q cells → Queued n (pushed n p q x l) p q (cells ++ (x ∷ []))
  unfolding has_frames
  queued_pushed [] new Q =
      record {
        waits = ap (λ (w : ℕ). bit w q) (first_waiting_law n p q x l long port queue Q.waits) ∙ written_there (waiting_of l p) q true;
        below = also inside nobody;
        once = once_pushed x [] new Q.once;
        chained = (first_oldest n p q x l long port queue Q.waits, sym (first_youngest n p q x l long port queue Q.waits));
      }
  queued_pushed (c ∷ cs) new Q =
      let last : ℕ = youngest_of l p q in
      let low : last < n = each_times Q.below last (last_in l p last c cs Q.chained.1) in
      let word = behind_word_law n p q x l long port queue Q.waits low in
      record {
        waits = ap (λ (w : ℕ). bit w q) (word (waiting_word p) (λ e. omega arith) (λ e. omega arith)) ∙ Q.waits;
        below = each_append Q.below (also inside nobody);
        once = once_pushed x (c ∷ cs) new Q.once;
        chained = (
          word (oldest_word p q) (λ e. omega arith) (λ e. omega arith) ∙ Q.chained.0,
          rw (behind_youngest n p q x l long port queue Q.waits low)
              (behind_pushed l (pushed n p q x l) p last x c cs (behind_last n p q x l long port queue Q.waits low)
              (λ d ne. word (behind_word p d) (λ e. ne (omega arith)) (λ e. omega arith)) Q.once Q.chained.1),
        );
      }

  -- ---- the other 19

  module _ (lists : ℕ → ℕ → List ℕ) (S : Queues n l lists) where
    abbrev m : List ℕ
    m = pushed n p q x l

    mine : Queued n l p q (lists p q)
    mine = S.queued p q port queue

    module _ (r s : ℕ) (hr : r < 5) (hs : s < 4) (ne : r ≡ p → s ≡ q → ⊥) where
      same_first : bit (waiting_of l p) q ≡ false → ListSame r s (lists r s) l m
      same_first empty =
          let word = first_word n p q x l long port queue empty in
          record {
            waits = on (eqb r p)
                (λ e. let same : r ≡ p = eqb-true r p e in
                rw same (ap (λ (w : ℕ). bit w s) (first_waiting_law n p q x l long port queue empty) ∙ written_elsewhere (waiting_of l p) q true s (λ e. ne same (sym e))))
                (λ e. ap (λ (w : ℕ). bit w s) (word (waiting_word r) (λ z. let same : r ≡ p = omega arith in omega arith) (λ z. let same : r ≡ p = omega arith in omega arith) (λ z. eqb-false r p e (omega arith))));
            oldest = word (oldest_word r s) (λ z. let same : r ≡ p = omega arith in ne same (omega arith)) (λ z. omega arith) (λ z. let same : r ≡ p = omega arith in omega arith);
            youngest = word (youngest_word r s) (λ z. omega arith) (λ z. let same : r ≡ p = omega arith in ne same (omega arith)) (λ z. let same : r ≡ p = omega arith in omega arith);
            behind = λ c h. word (behind_word r c) (λ z. omega arith) (λ z. omega arith) (λ z. omega arith);
          }

      same_behind : (c : ℕ) (cs : List ℕ) → lists p q ≡ c ∷ cs → ListSame r s (lists r s) l m
      unfolding has_frames
      same_behind c cs is =
          let Q : Queued n l p q (c ∷ cs) = subst (Queued n l p q) is mine in
          let last : ℕ = youngest_of l p q in
          let there : 1 ≤ times last (c ∷ cs) = last_in l p last c cs Q.chained.1 in
          let low : last < n = each_times Q.below last there in
          let word = behind_word_law n p q x l long port queue Q.waits low in
          record {
            waits = ap (λ (w : ℕ). bit w s) (word (waiting_word r) (λ z. omega arith) (λ z. omega arith));
            oldest = word (oldest_word r s) (λ z. omega arith) (λ z. omega arith);
            youngest = word (youngest_word r s) (λ z. omega arith) (λ z. let same : r ≡ p = omega arith in ne same (omega arith));
            behind = λ d h. word (behind_word r d)
                (λ z. let same : r ≡ p = omega arith in let at : d ≡ last = omega arith in
                clash d last same at (rw is there) h)
                (λ z. omega arith);
          }
        where
          clash : (d last : ℕ) → r ≡ p → d ≡ last → 1 ≤ times last (lists p q) → 1 ≤ times d (lists r s) → ⊥
          clash d last same at a b =
              let here : times d (lists r s) ≡ times last (lists p s) = ap₂ (λ (y z : ℕ). times y (lists z s)) at same in
              omega (arith, S.apart p q s last port queue hs (λ e. ne same (sym e)))

      pub same_pushed : ListSame r s (lists r s) l m
      unfolding has_frames
      same_pushed =
          on_list (lists p q)
          (λ e. same_first (mine.waits ∙ ap has_frames e))
          (λ c cs e. same_behind c cs e)

    pub joined_here : joined p q x lists p q ≡ lists p q ++ (x ∷ [])
    unfolding joined
    joined_here = rw (eqb_self p, eqb_self q)

    pub joined_other : (r s : ℕ) → (r ≡ p → s ≡ q → ⊥) → joined p q x lists r s ≡ lists r s
    unfolding joined
    joined_other r s ne = grind arith

    -- a frame that is in no queue of the port joins
    pub queues_pushed : ((s : ℕ) → s < 4 → times x (lists p s) ≡ 0) → Queues n m (joined p q x lists)
    queues_pushed new =
        queues_changed n p q l m lists (joined p q x lists) port queue S
        (rw joined_here (queued_pushed (lists p q) (new q queue) mine))
        (λ r s hr hs ne. joined_other r s ne)
        (λ r s hr hs ne. same_pushed r s hr hs ne)
        (λ s c hs ne. single s c hs ne)
      where
        single : (s c : ℕ) → s < 4 → (q ≡ s → ⊥) → times c (joined p q x lists p q) + times c (lists p s) ≤ 1
        single s c hs ne =
            let more : times c (joined p q x lists p q) ≡ times c (lists p q) + times c (x ∷ []) = ap (times c) joined_here ∙ times_append c (lists p q) (x ∷ []) in
            on (eqb c x)
            (λ e. let same : c ≡ x = eqb-true c x e in
            let a : times c (lists p q) ≡ 0 = ap (λ (y : ℕ). times y (lists p q)) same ∙ new q queue in
            let b : times c (lists p s) ≡ 0 = ap (λ (y : ℕ). times y (lists p s)) same ∙ new s hs in
            let d : times c (x ∷ []) ≡ 1 = ap (λ (y : ℕ). times y (x ∷ [])) same ∙ times_here x [] ∙ ap (λ (y : ℕ). 1 + y) (times_none x) in
            omega arith)
            (λ e. omega (arith, times_there c x [] (eqb-false c x e), times_none c, S.apart p q s c port queue hs ne))
