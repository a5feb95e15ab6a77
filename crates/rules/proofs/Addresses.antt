-- What a search of the address table gives after each change, and that a key has at most one entry. Assumes nothing.
use Prim.Native.Nat.{ℕ, zero, suc, ◌+◌}
use mathlib.Core.Path.{◌≡◌, refl, sym, ap, ◌∙◌, subst}
use mathlib.Core.Bool.{true, false, false≢true}
use Rattle.std.specs.Prelude.{Option, None as none, Some as some}
use native.Mathlib.Omega.{arith}
use Rattle.rules.specs.Tables.{at, nowhere, find_in, place_by, place_in, put_at, set_in, remove_found, remove_in}
use Rattle.rules.specs.Addresses.{Entry, Table, address_keys, find, empty_for, with_mark, LookUp, group, unknown, found, answered, look_up, hit_marks, after_look_up, Learning, stays, no_place, takes, learning_by, learning_of, is_no_place, learned_entry, learn_by, learn, older, aged, goes, removed, static_entry, set_static, is_full, no_place_for, remove, Sound}
use Rattle.rules.specs.AddressTheorems.{AddressTheorems, one, entries, learned_as}
use Rattle.rules.proofs.Choice.{on, on_option}
use Rattle.rules.proofs.Tables.{no_some, on_found, put_at_law, search_hit, search_miss, set_sound, remove_sound, set_finds, set_leaves_others, remove_finds_none, remove_leaves_others}
use Rattle.rules.proofs.Tables as Laws

pub on_look_up {ℓ} : {C : Type ℓ} (l : LookUp) → (l ≡ group → C) → (l ≡ unknown → C) → ((i : ℕ) (e : Entry) → l ≡ found i e → C) → C
on_look_up group a b c = a refl
on_look_up unknown a b c = b refl
on_look_up (found i e) a b c = c i e refl

-- ---- where a key's entry goes

module _ (t : Table) (k : ℕ) where
  place_hit : (i : ℕ) (e : Entry) → find t k ≡ at i e → place_in address_keys t k ≡ some i
  unfolding find place_in place_by
  place_hit i e h = rw h

  place_new : (i : ℕ) → find t k ≡ nowhere → empty_for t k ≡ some i → place_in address_keys t k ≡ some i
  unfolding find empty_for place_in place_by
  place_new i h a = rw (h, a)

  place_none : find t k ≡ nowhere → empty_for t k ≡ none → place_in address_keys t k ≡ none
  unfolding find empty_for place_in place_by
  place_none h a = rw (h, a)

  place_none_only : place_in address_keys t k ≡ none → (find t k ≡ nowhere) × (empty_for t k ≡ none)
  unfolding find empty_for place_in place_by
  place_none_only h = on_found (find_in address_keys t k) (λ m. (m, rw m at h)) (λ i e m. no_some (rw m at h) refl)

  -- ---- learning sets the entry, but for a static match and a full table

  learning_hit : (i : ℕ) (e : Entry) → find t k ≡ at i e → e.static ≡ false → learning_of t k ≡ takes i
  unfolding learning_of learning_by
  learning_hit i e h s = rw (h, s)

  learning_static : (i : ℕ) (e : Entry) → find t k ≡ at i e → e.static ≡ true → learning_of t k ≡ stays
  unfolding learning_of learning_by
  learning_static i e h s = rw (h, s)

  learning_new : (i : ℕ) → find t k ≡ nowhere → empty_for t k ≡ some i → learning_of t k ≡ takes i
  unfolding learning_of learning_by
  learning_new i h a = rw (h, a)

  learning_none : find t k ≡ nowhere → empty_for t k ≡ none → learning_of t k ≡ no_place
  unfolding learning_of learning_by
  learning_none h a = rw (h, a)

  module _ (port : ℕ) where
    learn_sets : (i : ℕ) → learning_of t k ≡ takes i → place_in address_keys t k ≡ some i → learn t k port ≡ set_in address_keys t k (learned_entry k port)
    unfolding learn learn_by set_in put_at
    learn_sets i l p = rw (l, p)

    learn_same : (l : Learning) → learning_of t k ≡ l → ((i : ℕ) → l ≡ takes i → ⊥) → learn t k port ≡ t
    unfolding learn learn_by
    learn_same stays e n = rw e
    learn_same no_place e n = rw e
    learn_same (takes i) e n = absurd (n i refl)

    stays_not : (i : ℕ) → stays ≡ takes i → ⊥
    stays_not i e = let z : ◌≡◌ {A = ℕ} 0 1 = cc in omega arith

    none_not : (i : ℕ) → no_place ≡ takes i → ⊥
    none_not i e = let z : ◌≡◌ {A = ℕ} 0 1 = cc in omega arith

    learn_static : (i : ℕ) (e : Entry) → find t k ≡ at i e → e.static ≡ true → learn t k port ≡ t
    learn_static i e h s = learn_same stays (learning_static i e h s) stays_not

    learn_full : find t k ≡ nowhere → empty_for t k ≡ none → learn t k port ≡ t
    learn_full h a = learn_same no_place (learning_none h a) none_not

    -- by cases: the table stays, or the learned entry is set
    learn_by_law {ℓ} : (P : Table → Type ℓ) → P t → P (set_in address_keys t k (learned_entry k port)) → P (learn t k port)
    learn_by_law P same set =
        on_found (find t k)
        (λ h. on_option (empty_for t k)
        (λ a. rw (learn_full h a) same)
        (λ i a. rw (learn_sets i (learning_new i h a) (place_new i h a)) set))
        (λ i e h. on e.static
        (λ s. rw (learn_static i e h s) same)
        (λ s. rw (learn_sets i (learning_hit i e h s) (place_hit i e h)) set))

    key_learned : (learned_entry k port).key ≡ k
    unfolding learned_entry
    key_learned = refl

    learned_finds : (i : ℕ) → place_in address_keys t k ≡ some i → learning_of t k ≡ takes i → find (learn t k port) k ≡ at i (learned_as k port)
    unfolding find learned_entry
    learned_finds i p l = rw (learn_sets i l p) (set_finds address_keys t k i (learned_entry k port) key_learned p)

    learned_others : (other : ℕ) → (other ≡ k → ⊥) → find (learn t k port) other ≡ find t other
    unfolding find
    learned_others other n =
        learn_by_law (λ (u : Table). find_in address_keys u other ≡ find_in address_keys t other) refl
        (set_leaves_others address_keys t k other (learned_entry k port) key_learned n)

    pub learn_sound : Sound t → Sound (learn t k port)
    learn_sound S = learn_by_law Sound S (set_sound address_keys t k (learned_entry k port) S key_learned)

  pub no_place_only : is_no_place (learning_of t k) ≡ true → (find t k ≡ nowhere) × (empty_for t k ≡ none)
  unfolding is_no_place
  no_place_only e =
      on_found (find t k)
      (λ h. on_option (empty_for t k)
      (λ a. (h, a))
      (λ i a. absurd (false≢true (rw (learning_new i h a) at e))))
      (λ i d h. on d.static
      (λ s. absurd (false≢true (rw (learning_static i d h s) at e)))
      (λ s. absurd (false≢true (rw (learning_hit i d h s) at e))))

  pub no_place_then : (find t k ≡ nowhere) × (empty_for t k ≡ none) → is_no_place (learning_of t k) ≡ true
  unfolding is_no_place
  no_place_then h = rw (learning_none h.0 h.1)

  -- ---- marking

  look_up_hit : (i : ℕ) (e : Entry) → find t k ≡ at i e → look_up t false k ≡ found i e
  unfolding look_up answered
  look_up_hit i e h = rw h

  look_up_miss : find t k ≡ nowhere → look_up t false k ≡ unknown
  unfolding look_up answered
  look_up_miss h = rw h

  mark_sets : (i : ℕ) (e : Entry) → find t k ≡ at i e → after_look_up (look_up t false k) t ≡ set_in address_keys t k (with_mark true e)
  unfolding after_look_up hit_marks set_in put_at
  mark_sets i e h = rw (look_up_hit i e h, place_hit i e h)

  mark_misses : find t k ≡ nowhere → after_look_up (look_up t false k) t ≡ t
  unfolding after_look_up
  mark_misses h = rw (look_up_miss h)

  mark_key : (i : ℕ) (e : Entry) → find t k ≡ at i e → (with_mark true e).key ≡ k
  unfolding with_mark find find_in
  mark_key i e h = (search_hit address_keys t k (address_keys.order k) i e h).keyed

  mark_by {ℓ} : (P : Table → Type ℓ) → P t → ((i : ℕ) (e : Entry) → find t k ≡ at i e → P (set_in address_keys t k (with_mark true e))) → P (after_look_up (look_up t false k) t)
  mark_by P same set = on_found (find t k) (λ h. rw (mark_misses h) same) (λ i e h. rw (mark_sets i e h) (set i e h))

  marked_finds : (i : ℕ) (e : Entry) → find t k ≡ at i e
      → find (after_look_up (look_up t false k) t) k ≡ at i (record { key = e.key; port = e.port; marked = true; static = e.static })
  unfolding find with_mark
  marked_finds i e h = rw (mark_sets i e h) (set_finds address_keys t k i (with_mark true e) (mark_key i e h) (place_hit i e h))

  marked_others : (other : ℕ) → (other ≡ k → ⊥) → find (after_look_up (look_up t false k) t) other ≡ find t other
  unfolding find
  marked_others other n =
      mark_by (λ (u : Table). find_in address_keys u other ≡ find_in address_keys t other) refl
      (λ i e h. set_leaves_others address_keys t k other (with_mark true e) (mark_key i e h) n)

  pub mark_sound : Sound t → Sound (after_look_up (look_up t false k) t)
  mark_sound S = mark_by Sound S (λ i e h. set_sound address_keys t k (with_mark true e) S (mark_key i e h))

  group_same : after_look_up (look_up t true k) t ≡ t
  unfolding after_look_up look_up
  group_same = refl

  -- ---- static entries

  key_static : (port : ℕ) → (static_entry k port).key ≡ k
  unfolding static_entry
  key_static port = refl

  static_finds : (port i : ℕ) → place_in address_keys t k ≡ some i → find (set_static t k port) k ≡ at i (record { key = k; port = port; marked = true; static = true })
  unfolding find set_static static_entry
  static_finds port i p = set_finds address_keys t k i (static_entry k port) (key_static port) p

  static_others : (port other : ℕ) → (other ≡ k → ⊥) → find (set_static t k port) other ≡ find t other
  unfolding find set_static
  static_others port other n = set_leaves_others address_keys t k other (static_entry k port) (key_static port) n

  pub static_sound : (port : ℕ) → Sound t → Sound (set_static t k port)
  unfolding set_static
  static_sound port S = set_sound address_keys t k (static_entry k port) S (key_static port)

  full_only : no_place_for t k ≡ true → (find t k ≡ nowhere) × (empty_for t k ≡ none)
  unfolding no_place_for is_full
  full_only e = on_option (place_in address_keys t k) (λ p. place_none_only p) (λ i p. absurd (false≢true (rw p at e)))

  full_then : (find t k ≡ nowhere) × (empty_for t k ≡ none) → no_place_for t k ≡ true
  unfolding no_place_for is_full
  full_then h = rw (place_none h.0 h.1)

  -- ---- removal

  remove_gone : Sound t → find (remove t k) k ≡ nowhere
  unfolding find remove
  remove_gone S = remove_finds_none address_keys t k S

  remove_others : (other : ℕ) → (other ≡ k → ⊥) → find (remove t k) other ≡ find t other
  unfolding find remove
  remove_others other n = remove_leaves_others address_keys t k other n

  remove_empties : (i : ℕ) (e : Entry) → find t k ≡ at i e → remove t k i ≡ none
  unfolding find remove remove_in remove_found
  remove_empties i e h = rw h (put_at_law i none t)

  pub removal_sound : Sound t → Sound (remove t k)
  unfolding remove
  removal_sound S = remove_sound address_keys t k S

-- ---- ageing

-- an entry of the aged table has the key of the one that stood there
older_key : (o : Option Entry) (e : Entry) → older o ≡ some e → (d : Entry) × (o ≡ some d) × (d.key ≡ e.key)
unfolding older with_mark
older_key none e h = no_some refl h
older_key (some d) e h =
    on d.static
    (λ a. let c : some (record { key = d.key; port = d.port; marked = d.marked; static = true }) ≡ some e = rw a at h in
    let x : record { key = d.key; port = d.port; marked = d.marked; static = true } ≡ e = cc in (d, refl, ap (λ (v : Entry). v.key) x))
    (λ a. on d.marked
    (λ b. let c : some (record { key = d.key; port = d.port; marked = false; static = false }) ≡ some e = rw (a, b) at h in
    let x : record { key = d.key; port = d.port; marked = false; static = false } ≡ e = cc in (d, refl, ap (λ (v : Entry). v.key) x))
    (λ b. no_some refl (rw (a, b) at h)))

pub aged_sound : (t : Table) → Sound t → Sound (aged t)
unfolding aged
aged_sound t S =
    record {
      single = λ i j d e hd he k.
          let a = older_key (t i) d hd in let b = older_key (t j) e he in
          S.single i j a.0 b.0 a.1 b.1 (a.2 ∙ k ∙ sym b.2);
      placed = λ i e h. let a = older_key (t i) e h in rw (← a.2) (S.placed i a.0 a.1);
    }

module _ (t : Table) (k : ℕ) (S : Sound t) where
  stands : (i : ℕ) (e : Entry) → find t k ≡ at i e → Laws.Hit address_keys t k (address_keys.order k) i e
  unfolding find find_in
  stands i e h = search_hit address_keys t k (address_keys.order k) i e h

  -- an entry that the aged table has is found there under its key
  aged_finds : (i : ℕ) (e d : Entry) → find t k ≡ at i e → aged t i ≡ some d → d.key ≡ e.key → find (aged t) k ≡ at i d
  unfolding find
  aged_finds i e d h a x =
      subst (λ (y : ℕ). find_in address_keys (aged t) y ≡ at i d) (x ∙ (stands i e h).keyed) (Laws.found address_keys (aged t) i d (aged_sound t S) a)

  -- the aged table knows the key only if the table did, at the same place
  aged_nowhere : ((i : ℕ) (e : Entry) → t i ≡ some e → e.key ≡ k → aged t i ≡ none) → find (aged t) k ≡ nowhere
  unfolding find find_in aged
  aged_nowhere none_left =
      on_found (find (aged t) k)
      (λ h. h)
      (λ i d h.
      let r = search_hit address_keys (aged t) k (address_keys.order k) i d h in
      let o = older_key (t i) d r.there in
      no_some (none_left i o.0 o.1 (o.2 ∙ r.keyed)) r.there)

  static_ages : (i : ℕ) (e : Entry) → find t k ≡ at i e → e.static ≡ true → aged t i ≡ some e
  unfolding aged older
  static_ages i e h s = rw ((stands i e h).there, s)

  marked_ages : (i : ℕ) (e : Entry) → find t k ≡ at i e → e.static ≡ false → e.marked ≡ true → aged t i ≡ some (record { key = e.key; port = e.port; marked = false; static = false })
  unfolding aged older with_mark
  marked_ages i e h s m = rw ((stands i e h).there, s, m)

  unmarked_ages : (i : ℕ) (e : Entry) → find t k ≡ at i e → e.static ≡ false → e.marked ≡ false → find (aged t) k ≡ nowhere
  unfolding aged older
  unmarked_ages i e h s m =
      aged_nowhere (λ j d g x.
      let r = stands i e h in
      let same : i ≡ j = S.single i j e d r.there g (r.keyed ∙ sym x) in
      subst (λ (y : ℕ). older (t y) ≡ none) same (rw (r.there, s, m)))

  unknown_ages : find t k ≡ nowhere → find (aged t) k ≡ nowhere
  unfolding find find_in
  unknown_ages h =
      aged_nowhere (λ j d g x.
      absurd (search_miss address_keys t k (address_keys.order k) h j d g (rw x at (S.placed j d g)) x))

-- an entry goes or it stays
goes_or_stays : (o : Option Entry) → goes o + one (older o) ≡ one o
unfolding goes one older
goes_or_stays none = refl
goes_or_stays (some e) =
    on e.static (λ s. rw s) (λ s. rw s (on e.marked (λ m. rw m) (λ m. rw m)))

aged_away : (t : Table) (n : ℕ) → removed t n + entries (aged t) n ≡ entries t n
unfolding removed entries aged
aged_away t zero = refl
aged_away t (suc n) = omega (arith, goes_or_stays (t n), aged_away t n)

pub address_theorems : AddressTheorems
address_theorems =
    record {
      learning = λ t k port. record {
        static_stays = learn_static t k port;
        match_moves = λ i e h s. learned_finds t k port i (place_hit t k i e h) (learning_hit t k i e h s);
        new_enters = λ i h a. learned_finds t k port i (place_new t k i h a) (learning_new t k i h a);
        full_stays = learn_full t k port;
        not_learned_exactly = (no_place_only t k, no_place_then t k);
        others_keep = learned_others t k port;
        keeps_sound = learn_sound t k port;
      };
      marking = λ t k. record {
        hit_marks_law = marked_finds t k;
        miss_changes_nothing = mark_misses t k;
        group_changes_nothing = group_same t k;
        others_keep = marked_others t k;
        keeps_sound = mark_sound t k;
      };
      ageing = λ t k S. record {
        static_stays = λ i e h s. aged_finds t k S i e e h (static_ages t k S i e h s) refl;
        marked_loses_its_mark = λ i e h s m. aged_finds t k S i e _ h (marked_ages t k S i e h s m) refl;
        unmarked_goes = unmarked_ages t k S;
        unknown_stays_unknown = unknown_ages t k S;
        keeps_sound = aged_sound t S;
      };
      static = λ t k port. record {
        match_becomes_static = λ i e h. static_finds t k port i (place_hit t k i e h);
        new_enters = λ i h a. static_finds t k port i (place_new t k i h a);
        full_exactly = (full_only t k, full_then t k);
        others_keep = static_others t k port;
        keeps_sound = static_sound t k port;
      };
      removal = λ t k. record {
        gone = remove_gone t k;
        others_keep = remove_others t k;
        place_empty = remove_empties t k;
        keeps_sound = removal_sound t k;
      };
      aged_away = aged_away;
    }
