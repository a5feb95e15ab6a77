-- What a table with a search order keeps, and what a search gives after a change: for every kind of table.
-- `proofs/Tables.antt` proves it.
-- Assumes nothing: these are definitions.
use Rattle.std.specs.Prelude.{ℕ, ◌≡◌, true, List, ◌∷◌, ◌++◌}
use Rattle.std.specs.Prelude.{None as none, Some as some}
use Rattle.rules.specs.Choice.{among, Each}
use Rattle.rules.specs.Tables.{Keyed, TableOf, at, nowhere, find_in, empty_in, place_in, set_in, remove_in, Sound}

-- the first place of a list at which something holds, and at none before it
pub record FirstPlace (Here : ℕ → Type 0) (ps : List ℕ) (i : ℕ) : Type 0 where
  pub before : List ℕ
  pub after : List ℕ
  pub stands : ps ≡ before ++ (i ∷ after)
  pub here : Here i
  pub not_before : Each (λ (j : ℕ). Here j → ⊥) before

pub record TableTheorems {E : Type 0} (kind : Keyed E) : Type 0 where
  -- "The first match ends it", and "the first empty place in that order".
  pub first_match : (t : TableOf E) (k i : ℕ) (e : E) → find_in kind t k ≡ at i e
      → FirstPlace (λ (j : ℕ). (d : E) × (t j ≡ some d) × (kind.key_of d ≡ k)) (kind.order k) i
  pub first_empty_law : (t : TableOf E) (k i : ℕ) → empty_in kind t k ≡ some i
      → FirstPlace (λ (j : ℕ). t j ≡ none) (kind.order k) i
  pub all_in_use : (t : TableOf E) (k : ℕ) → empty_in kind t k ≡ none → Each (λ (j : ℕ). t j ≡ none → ⊥) (kind.order k)
  -- What is found stands there, under that key, and in one of the key's places.
  pub found_stands : (t : TableOf E) (k i : ℕ) (e : E) → find_in kind t k ≡ at i e
      → (t i ≡ some e) × (kind.key_of e ≡ k) × (among i (kind.order k) ≡ true)
  -- An entry is found under its key.
  pub stands_found : (t : TableOf E) (i : ℕ) (e : E) → Sound kind t → t i ≡ some e
      → find_in kind t (kind.key_of e) ≡ at i e
  -- The empty table is sound, and setting and removing keep a key to at most one entry, where the search finds it.
  pub empty_sound : Sound kind (λ i. none)
  pub set_keeps : (t : TableOf E) (k : ℕ) (e : E) → Sound kind t → kind.key_of e ≡ k → Sound kind (set_in kind t k e)
  pub remove_keeps : (t : TableOf E) (k : ℕ) → Sound kind t → Sound kind (remove_in kind t k)
  -- After a set: this key's entry is the new one, in its place or the first empty one; without a place nothing changes.
  pub set_finds : (t : TableOf E) (k i : ℕ) (e : E) → kind.key_of e ≡ k → place_in kind t k ≡ some i
      → find_in kind (set_in kind t k e) k ≡ at i e
  pub set_without_place : (t : TableOf E) (k : ℕ) (e : E) → place_in kind t k ≡ none → set_in kind t k e ≡ t
  pub set_leaves_others : (t : TableOf E) (k other : ℕ) (e : E) → kind.key_of e ≡ k → (other ≡ k → ⊥)
      → find_in kind (set_in kind t k e) other ≡ find_in kind t other
  -- After a removal this key is not found, and every other as before.
  pub remove_finds_none : (t : TableOf E) (k : ℕ) → Sound kind t → find_in kind (remove_in kind t k) k ≡ nowhere
  pub remove_leaves_others : (t : TableOf E) (k other : ℕ) → (other ≡ k → ⊥)
      → find_in kind (remove_in kind t k) other ≡ find_in kind t other
