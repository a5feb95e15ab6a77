-- A key has at most one entry, and an entry stands where its key is looked for; what a search gives after a change. Assumes nothing.
use Prim.Native.Nat.{ℕ}
use mathlib.Core.Path.{◌≡◌, refl, sym, ap, ap₂, ◌∙◌, subst}
use mathlib.Core.Bool.{Bool, true, false, ◌||◌}
use mathlib.Core.List.{List, [], ◌∷◌}
use Rattle.std.specs.Prelude.{Option, None as none, Some as some}
use native.Mathlib.Omega.{arith}
use lib.Dec.{eqb}
use borrow.Author.Tests.{eqb-true, eqb-false, eq-eqb, ne_eqb}
use Rattle.std.specs.Prelude.{if◌then◌else◌}
use Rattle.rules.specs.Choice.{among, changed, Each, nobody, also}
use Rattle.rules.specs.Tables.{Keyed, TableOf, put, Found, at, nowhere, meets, search, find_in, vacant, first_empty, empty_in, place_by, place_in, put_at, set_in, remove_found, remove_in, Sound}
use Rattle.rules.specs.TableTheorems.{FirstPlace, TableTheorems}
use Rattle.rules.proofs.Choice.{on, on_option, eqb_self}

or_true : (b : Bool) → (b || true) ≡ true
or_true true = refl
or_true false = refl

pub no_some : {A : Type 0} {C : Type 0} {a : A} {o : Option A} → o ≡ none → o ≡ some a → C
no_some h k = absurd (let z : ◌≡◌ {A = ℕ} 0 1 = cc in omega arith)

pub on_found {ℓ} : {E : Type 0} {C : Type ℓ} (r : Found E) → (r ≡ nowhere → C) → ((i : ℕ) (e : E) → r ≡ at i e → C) → C
on_found nowhere miss hit = miss refl
on_found (at i e) miss hit = hit i e refl

pub not_both : {E : Type 0} {C : Type 0} {i : ℕ} {e : E} {r : Found E} → r ≡ nowhere → r ≡ at i e → C
not_both h k = absurd (let z : ◌≡◌ {A = ℕ} 0 1 = cc in omega arith)

-- ---- a changed place

pub put_at_law : {E : Type 0} (i : ℕ) (o : Option E) (t : TableOf E) → put i o t i ≡ o
unfolding put changed
put_at_law i o t = rw (eqb_self i)

pub put_off : {E : Type 0} (i j : ℕ) (o : Option E) (t : TableOf E) → eqb i j ≡ false → put i o t j ≡ t j
unfolding put changed
put_off i j o t n = rw n

-- an entry of the changed table is the new one or an old one elsewhere
put_cases {ℓ} : {E : Type 0} {C : Type ℓ} (i : ℕ) (o : Option E) (t : TableOf E) (j : ℕ) (e : E) → put i o t j ≡ some e
    → (i ≡ j → o ≡ some e → C) → ((i ≡ j → ⊥) → t j ≡ some e → C) → C
unfolding put changed
put_cases i o t j e h new old =
    on (eqb i j) (λ b. new (eqb-true i j b) (rw b at h)) (λ b. old (eqb-false i j b) (rw b at h))

module _ {E : Type 0} (kind : Keyed E) where
  -- ---- what a search says

  pub record Hit (t : TableOf E) (k : ℕ) (ps : List ℕ) (i : ℕ) (e : E) : Type 0 where
    pub there : t i ≡ some e
    pub keyed : kind.key_of e ≡ k
    pub inside : among i ps ≡ true

  later : (t : TableOf E) (k p : ℕ) (ps : List ℕ) (i : ℕ) (e : E) → Hit t k ps i e → Hit t k (p ∷ ps) i e
  unfolding among
  later t k p ps i e r = record { there = r.there; keyed = r.keyed; inside = rw r.inside (or_true (eqb i p)) }

  pub search_hit : (t : TableOf E) (k : ℕ) (ps : List ℕ) (i : ℕ) (e : E) → search kind t k ps ≡ at i e → Hit t k ps i e
  unfolding search meets among
  search_hit t k [] i e h = not_both refl h
  search_hit t k (p ∷ ps) i e h =
      on_option (t p)
      (λ a. later t k p ps i e (search_hit t k ps i e (rw a at h)))
      (λ d a. on (eqb (kind.key_of d) k)
      (λ b. let c : at p d ≡ at i e = rw (a, b) at h in
      let x : p ≡ i = cc in
      let y : d ≡ e = cc in
      record { there = rw (← x) (a ∙ ap some y); keyed = rw (← y) (eqb-true (kind.key_of d) k b); inside = rw (eq-eqb i p (sym x)) })
      (λ b. later t k p ps i e (search_hit t k ps i e (rw (a, b) at h))))

  missed : (t : TableOf E) (k p : ℕ) (ps : List ℕ) → search kind t k (p ∷ ps) ≡ nowhere → search kind t k ps ≡ nowhere
  unfolding search meets
  missed t k p ps m =
      on_option (t p) (λ a. rw a at m)
      (λ d a. on (eqb (kind.key_of d) k)
      (λ b. let c : at p d ≡ nowhere = rw (a, b) at m in not_both c refl)
      (λ b. rw (a, b) at m))

  pub search_miss : (t : TableOf E) (k : ℕ) (ps : List ℕ) → search kind t k ps ≡ nowhere → (i : ℕ) (e : E) → t i ≡ some e → among i ps ≡ true → kind.key_of e ≡ k → ⊥
  unfolding search meets among
  search_miss t k [] h i e te ai ke = let z : ◌≡◌ {A = ℕ} 0 1 = cc in omega arith
  search_miss t k (p ∷ ps) h i e te ai ke =
      on (eqb i p)
      (λ b. let tp : t p ≡ some e = subst (λ (x : ℕ). t x ≡ some e) (eqb-true i p b) te in
      let c : at p e ≡ nowhere = rw (tp, eq-eqb (kind.key_of e) k ke) at h in
      not_both c refl)
      (λ b. search_miss t k ps (missed t k p ps h) i e te (rw b at ai) ke)

  first_empty_law : (t : TableOf E) (ps : List ℕ) (i : ℕ) → first_empty t ps ≡ some i → (t i ≡ none) × (among i ps ≡ true)
  unfolding first_empty vacant among
  first_empty_law t [] i h = no_some refl h
  first_empty_law t (p ∷ ps) i h =
      on_option (t p)
      (λ a. let c : some p ≡ some i = rw a at h in let x : p ≡ i = cc in (rw (← x) a, rw (eq-eqb i p (sym x))))
      (λ d a. let r = first_empty_law t ps i (rw a at h) in (r.0, rw r.1 (or_true (eqb i p))))

  -- ---- the first place

  abbrev Matching : TableOf E → ℕ → ℕ → Type 0
  Matching t k j = (d : E) × (t j ≡ some d) × (kind.key_of d ≡ k)

  -- one place more in front, at which it does not hold
  one_more : {Here : ℕ → Type 0} {ps : List ℕ} {i : ℕ} (p : ℕ) → (Here p → ⊥) → FirstPlace Here ps i → FirstPlace Here (p ∷ ps) i
  one_more p n f =
      record { before = p ∷ f.before; after = f.after; stands = ap (λ (qs : List ℕ). p ∷ qs) f.stands; here = f.here; not_before = also n f.not_before }

  first_match_in : (t : TableOf E) (k : ℕ) (ps : List ℕ) (i : ℕ) (e : E) → search kind t k ps ≡ at i e → FirstPlace (Matching t k) ps i
  unfolding search meets
  first_match_in t k [] i e h = not_both refl h
  first_match_in t k (p ∷ ps) i e h =
      on_option (t p)
      (λ a. one_more p (λ m. no_some a m.1) (first_match_in t k ps i e (rw a at h)))
      (λ d a. on (eqb (kind.key_of d) k)
      (λ b. let c : at p d ≡ at i e = rw (a, b) at h in
      let x : p ≡ i = cc in
      subst (FirstPlace (Matching t k) (p ∷ ps)) x (record { before = []; after = ps; stands = refl; here = (d, a, eqb-true (kind.key_of d) k b); not_before = nobody }))
      (λ b. one_more p (λ m. let y : some d ≡ some m.0 = sym a ∙ m.1 in let z : d ≡ m.0 = cc in eqb-false (kind.key_of d) k b (ap kind.key_of z ∙ m.2))
      (first_match_in t k ps i e (rw (a, b) at h))))

  first_empty_in : (t : TableOf E) (ps : List ℕ) (i : ℕ) → first_empty t ps ≡ some i → FirstPlace (λ (j : ℕ). t j ≡ none) ps i
  unfolding first_empty vacant
  first_empty_in t [] i h = no_some refl h
  first_empty_in t (p ∷ ps) i h =
      on_option (t p)
      (λ a. let c : some p ≡ some i = rw a at h in let x : p ≡ i = cc in
      subst (FirstPlace (λ (j : ℕ). t j ≡ none) (p ∷ ps)) x (record { before = []; after = ps; stands = refl; here = a; not_before = nobody }))
      (λ d a. one_more p (λ n. no_some n a) (first_empty_in t ps i (rw a at h)))

  none_empty_in : (t : TableOf E) (ps : List ℕ) → first_empty t ps ≡ none → Each (λ (j : ℕ). t j ≡ none → ⊥) ps
  unfolding first_empty vacant
  none_empty_in t [] h = nobody
  none_empty_in t (p ∷ ps) h =
      on_option (t p)
      (λ a. let c : some p ≡ none = rw a at h in no_some c refl)
      (λ d a. also (λ n. no_some n a) (none_empty_in t ps (rw a at h)))

  -- the entry of a place if its key is k: all that a search for k sees
  unfoldable pub matching : Option E → ℕ → Option E
  matching none k = none
  matching (some e) k = if eqb (kind.key_of e) k then some e else none

  on_match : ℕ → Option E → Found E → Found E
  on_match i none rest = rest
  on_match i (some e) rest = at i e

  meets_match : (o : Option E) (i k : ℕ) (rest : Found E) → meets kind o i k rest ≡ on_match i (matching o k) rest
  unfolding meets matching on_match
  meets_match none i k rest = refl
  meets_match (some e) i k rest = on (eqb (kind.key_of e) k) (λ b. rw b) (λ b. rw b)

  pub search_same : (t u : TableOf E) (k : ℕ) → ((i : ℕ) → matching (t i) k ≡ matching (u i) k) → (ps : List ℕ) → search kind t k ps ≡ search kind u k ps
  unfolding search
  search_same t u k h [] = refl
  search_same t u k h (p ∷ ps) =
      meets_match (t p) p k (search kind t k ps)
      ∙ ap₂ (on_match p) (h p) (search_same t u k h ps)
      ∙ sym (meets_match (u p) p k (search kind u k ps))

  -- a change of one place that a search for k does not see
  pub put_unseen : (t : TableOf E) (i : ℕ) (o : Option E) (k : ℕ) → matching o k ≡ matching (t i) k → (ps : List ℕ) → search kind (put i o t) k ps ≡ search kind t k ps
  put_unseen t i o k h ps =
      search_same (put i o t) t k
      (λ j. on (eqb i j)
      (λ b. subst (λ (x : ℕ). matching (put i o t x) k ≡ matching (t x) k) (eqb-true i j b) (rw (put_at_law i o t) h))
      (λ b. rw (put_off i j o t b)))
      ps

  other_key : (e : E) (k : ℕ) → (k ≡ kind.key_of e → ⊥) → matching (some e) k ≡ none
  unfolding matching
  other_key e k n = rw (ne_eqb (kind.key_of e) k (λ x. n (sym x)))

  nothing_there : (k : ℕ) → matching none k ≡ none
  unfolding matching
  nothing_there k = refl

  -- ---- what stays sound

  -- an entry that no other has the key of, where its key is looked for
  put_sound : (t : TableOf E) (i : ℕ) (e : E) → Sound kind t → among i (kind.order (kind.key_of e)) ≡ true
      → ((j : ℕ) (d : E) → t j ≡ some d → kind.key_of d ≡ kind.key_of e → i ≡ j) → Sound kind (put i (some e) t)
  put_sound t i e S inside alone =
      record {
        single = λ a b d f ha hb k.
            put_cases i (some e) t a d ha
            (λ x y. put_cases i (some e) t b f hb
            (λ x' y'. sym x ∙ x')
            (λ n o. sym x ∙ alone b f o (let z : e ≡ d = cc in sym k ∙ ap kind.key_of (sym z))))
            (λ n o. put_cases i (some e) t b f hb
            (λ x y. sym (alone a d o (let z : e ≡ f = cc in k ∙ ap kind.key_of (sym z))) ∙ x)
            (λ n' o'. S.single a b d f o o' k));
        placed = λ j d h.
            put_cases i (some e) t j d h
            (λ x y. let z : e ≡ d = cc in subst (λ (v : E). among j (kind.order (kind.key_of v)) ≡ true) z (rw x at inside))
            (λ n o. S.placed j d o);
      }

  put_none_sound : (t : TableOf E) (i : ℕ) → Sound kind t → Sound kind (put i none t)
  put_none_sound t i S =
      record {
        single = λ a b d f ha hb k.
            put_cases i none t a d ha (λ x y. no_some refl y) (λ n o. put_cases i none t b f hb (λ x y. no_some refl y) (λ n' o'. S.single a b d f o o' k));
        placed = λ j d h. put_cases i none t j d h (λ x y. no_some refl y) (λ n o. S.placed j d o);
      }

  -- an entry with the same key in its place
  pub same_key_sound : (t : TableOf E) (i : ℕ) (d e : E) → Sound kind t → t i ≡ some d → kind.key_of e ≡ kind.key_of d → Sound kind (put i (some e) t)
  same_key_sound t i d e S h k =
      put_sound t i e S (rw k (S.placed i d h)) (λ j f g x. S.single i j d f h g (sym k ∙ sym x))

  -- a key that the search misses gets an entry in the first empty place
  pub new_sound : (t : TableOf E) (k i : ℕ) (e : E) → Sound kind t → find_in kind t k ≡ nowhere → empty_in kind t k ≡ some i → kind.key_of e ≡ k → Sound kind (put i (some e) t)
  unfolding find_in empty_in
  new_sound t k i e S h a x =
      put_sound t i e S (rw x (first_empty_law t (kind.order k) i a).1)
      (λ j d g y. absurd (search_miss t k (kind.order k) h j d g (subst (λ (v : ℕ). among j (kind.order v) ≡ true) (y ∙ x) (S.placed j d g)) (y ∙ x)))

  pub set_sound : (t : TableOf E) (k : ℕ) (e : E) → Sound kind t → kind.key_of e ≡ k → Sound kind (set_in kind t k e)
  unfolding set_in place_in place_by put_at find_in
  set_sound t k e S x =
      on_found (find_in kind t k)
      (λ h. rw h (on_option (empty_in kind t k) (λ a. rw a S) (λ i a. rw a (new_sound t k i e S h a x))))
      (λ i d h. let r = search_hit t k (kind.order k) i d h in rw h (same_key_sound t i d e S r.there (x ∙ sym r.keyed)))

  pub remove_sound : (t : TableOf E) (k : ℕ) → Sound kind t → Sound kind (remove_in kind t k)
  unfolding remove_in remove_found
  remove_sound t k S = on_found (find_in kind t k) (λ h. rw h S) (λ i e h. rw h (put_none_sound t i S))

  -- ---- an entry is found under its key

  pub found : (t : TableOf E) (i : ℕ) (e : E) → Sound kind t → t i ≡ some e → find_in kind t (kind.key_of e) ≡ at i e
  unfolding find_in
  found t i e S h =
      on_found (search kind t (kind.key_of e) (kind.order (kind.key_of e)))
      (λ m. absurd (search_miss t (kind.key_of e) (kind.order (kind.key_of e)) m i e h (S.placed i e h) refl))
      (λ j d m.
      let r = search_hit t (kind.key_of e) (kind.order (kind.key_of e)) j d m in
      let x : i ≡ j = S.single i j e d h r.there (sym r.keyed) in
      let y : some e ≡ some d = sym h ∙ ap t x ∙ r.there in
      let z : e ≡ d = cc in
      m ∙ ap₂ at (sym x) (sym z))

  -- ---- what a search gives after a set

  hit_again : (t : TableOf E) (k : ℕ) (ps : List ℕ) (i : ℕ) (d e : E) → kind.key_of e ≡ k → search kind t k ps ≡ at i d → search kind (put i (some e) t) k ps ≡ at i e
  unfolding search meets
  hit_again t k [] i d e x h = not_both refl h
  hit_again t k (p ∷ ps) i d e x h =
      on (eqb i p)
      (λ b. let q : i ≡ p = eqb-true i p b in
      rw (← q) (rw (put_at_law i (some e) t) (rw (eq-eqb (kind.key_of e) k x))))
      (λ b. rw (put_off i p (some e) t b) (on_option (t p)
      (λ a. rw a (hit_again t k ps i d e x (rw a at h)))
      (λ f a. on (eqb (kind.key_of f) k)
      (λ m. let c : at p f ≡ at i d = rw (a, m) at h in let y : i ≡ p = cc in absurd (eqb-false i p b y))
      (λ m. rw (a, m) (hit_again t k ps i d e x (rw (a, m) at h))))))

  new_hit : (t : TableOf E) (k : ℕ) (ps : List ℕ) (i : ℕ) (e : E) → kind.key_of e ≡ k → search kind t k ps ≡ nowhere → first_empty t ps ≡ some i → search kind (put i (some e) t) k ps ≡ at i e
  unfolding search meets first_empty vacant
  new_hit t k [] i e x h a = no_some refl a
  new_hit t k (p ∷ ps) i e x h a =
      on_option (t p)
      (λ n. let c : some p ≡ some i = rw n at a in let q : p ≡ i = cc in
      rw q (rw (put_at_law i (some e) t) (rw (eq-eqb (kind.key_of e) k x))))
      (λ f s. let later_empty : first_empty t ps ≡ some i = rw s at a in
      let off : eqb i p ≡ false = ne_eqb i p (λ q. no_some (first_empty_law t ps i later_empty).0 (subst (λ (y : ℕ). t y ≡ some f) (sym q) s)) in
      rw (put_off i p (some e) t off) (rw s (on (eqb (kind.key_of f) k)
      (λ m. let c : at p f ≡ nowhere = rw (s, m) at h in not_both c refl)
      (λ m. rw m (new_hit t k ps i e x (missed t k p ps h) later_empty)))))

  pub set_finds : (t : TableOf E) (k i : ℕ) (e : E) → kind.key_of e ≡ k → place_in kind t k ≡ some i → find_in kind (set_in kind t k e) k ≡ at i e
  unfolding set_in place_in place_by put_at find_in empty_in
  set_finds t k i e x h =
      on_found (search kind t k (kind.order k))
      (λ m. let a : first_empty t (kind.order k) ≡ some i = rw m at h in
      rw (m, a) (new_hit t k (kind.order k) i e x m a))
      (λ j d m. let c : some j ≡ some i = rw m at h in let q : j ≡ i = cc in
      rw (m, q) (hit_again t k (kind.order k) i d e x (m ∙ ap (λ (y : ℕ). at y d) q)))

  pub set_without_place : (t : TableOf E) (k : ℕ) (e : E) → place_in kind t k ≡ none → set_in kind t k e ≡ t
  unfolding set_in put_at
  set_without_place t k e h = rw h

  pub set_leaves_others : (t : TableOf E) (k other : ℕ) (e : E) → kind.key_of e ≡ k → (other ≡ k → ⊥) → find_in kind (set_in kind t k e) other ≡ find_in kind t other
  unfolding set_in place_in place_by put_at find_in empty_in
  set_leaves_others t k other e x n =
      on_found (search kind t k (kind.order k))
      (λ m. rw m (on_option (first_empty t (kind.order k))
      (λ a. rw a)
      (λ i a. rw a (put_unseen t i (some e) other (other_key e other (λ y. n (y ∙ x)) ∙ sym (ap (λ (o : Option E). matching o other) (first_empty_law t (kind.order k) i a).0 ∙ nothing_there other)) (kind.order other)))))
      (λ i d m. let r = search_hit t k (kind.order k) i d m in
      rw m (put_unseen t i (some e) other (other_key e other (λ y. n (y ∙ x)) ∙ sym (ap (λ (o : Option E). matching o other) r.there ∙ other_key d other (λ y. n (y ∙ r.keyed)))) (kind.order other)))

  -- ---- and after a removal

  pub remove_finds_none : (t : TableOf E) (k : ℕ) → Sound kind t → find_in kind (remove_in kind t k) k ≡ nowhere
  unfolding remove_in remove_found find_in
  remove_finds_none t k S =
      on_found (search kind t k (kind.order k))
      (λ m. rw m m)
      (λ i e m. let r = search_hit t k (kind.order k) i e m in
      rw m (on_found (search kind (put i none t) k (kind.order k))
      (λ z. z)
      (λ j d z. let q = search_hit (put i none t) k (kind.order k) j d z in
      put_cases i none t j d q.there
      (λ x y. no_some refl y)
      (λ off o. absurd (off (S.single i j e d r.there o (r.keyed ∙ sym q.keyed)))))))

  pub remove_leaves_others : (t : TableOf E) (k other : ℕ) → (other ≡ k → ⊥) → find_in kind (remove_in kind t k) other ≡ find_in kind t other
  unfolding remove_in remove_found find_in
  remove_leaves_others t k other n =
      on_found (search kind t k (kind.order k))
      (λ m. rw m)
      (λ i e m. let r = search_hit t k (kind.order k) i e m in
      rw m (put_unseen t i none other (nothing_there other ∙ sym (ap (λ (o : Option E). matching o other) r.there ∙ other_key e other (λ y. n (y ∙ r.keyed)))) (kind.order other)))

  pub empty_sound : Sound kind (λ i. none)
  empty_sound = record { single = λ i j d e h. no_some refl h; placed = λ i e h. no_some refl h }

  found_stands : (t : TableOf E) (k i : ℕ) (e : E) → find_in kind t k ≡ at i e → (t i ≡ some e) × (kind.key_of e ≡ k) × (among i (kind.order k) ≡ true)
  unfolding find_in
  found_stands t k i e h = let r = search_hit t k (kind.order k) i e h in (r.there, r.keyed, r.inside)

  pub table_theorems : TableTheorems kind
  unfolding find_in empty_in
  table_theorems =
      record {
        first_match = λ t k i e h. first_match_in t k (kind.order k) i e h;
        first_empty_law = λ t k i h. first_empty_in t (kind.order k) i h;
        all_in_use = λ t k h. none_empty_in t (kind.order k) h;
        found_stands = found_stands;
        stands_found = found;
        empty_sound = empty_sound;
        set_keeps = set_sound;
        remove_keeps = remove_sound;
        set_finds = set_finds;
        set_without_place = set_without_place;
        set_leaves_others = set_leaves_others;
        remove_finds_none = remove_finds_none;
        remove_leaves_others = remove_leaves_others;
      }
