-- What each word of link memory is after taking and after giving back. Assumes nothing.
use mathlib.Core.Path.{◌≡◌, ap, ◌∙◌}
use mathlib.Core.List.{List}
use Prim.Native.Nat.{ℕ, ◌+◌, ◌-◌, ◌*◌, ◌/◌, ◌%◌, ◌≤◌, ◌<◌}
use native.Mathlib.Omega.{arith}
use lib.ListN.{length, get_or, set, length-set}
use lib.Seq.{get_or-set_same, get_or-set_other}
use Rattle.layout.specs.Places.{link_words, free_count_word, first_free_word, next_word, frame_word}
use Rattle.cells.specs.Chains.{next_in, follow, behind}
use Rattle.cells.specs.Free.{free_count, first_free, word_of, size_of, ports_of, last_cell, taken, given_back}
use Rattle.cells.proofs.Paths.{follow_same}

-- ---- a frame word

-- ports and size of the frame word that they make
pub size_said : (ports size : ℕ) → ports < 32 → (ports + 32 * size) / 32 ≡ size
size_said ports size h = omega arith

pub ports_said : (ports size : ℕ) → ports < 32 → (ports + 32 * size) % 32 ≡ ports
ports_said ports size h = omega arith

-- the same word says the same
pub word_size : (l m : List ℕ) (c : ℕ) → word_of m c ≡ word_of l c → size_of m c ≡ size_of l c
word_size l m c e = rw e

pub word_ports : (l m : List ℕ) (c : ℕ) → word_of m c ≡ word_of l c → ports_of m c ≡ ports_of l c
word_ports l m c e = rw e

-- ---- taking

module _ (n k ports : ℕ) (l : List ℕ) where
  less : List ℕ
  less = set l free_count_word (free_count l - k)

  moved : List ℕ
  moved = set less first_free_word (behind n l k (first_free l))

  pub taken_word : (w : ℕ) → (w ≡ free_count_word → ⊥) → (w ≡ first_free_word → ⊥) → (w ≡ frame_word (first_free l) → ⊥)
      → get_or (taken n k ports l) w 0 ≡ get_or l w 0
  unfolding taken less moved
  taken_word w a b c =
      get_or-set_other moved (frame_word (first_free l)) w (ports + 32 * k) 0 c
      ∙ get_or-set_other less first_free_word w (behind n l k (first_free l)) 0 b
      ∙ get_or-set_other l free_count_word w (free_count l - k) 0 a

  pub taken_next : (c : ℕ) → next_in (taken n k ports l) c ≡ next_in l c
  taken_next c = taken_word (next_word c) (λ e. omega arith) (λ e. omega arith) (λ e. omega arith)

  pub taken_follow : (j c : ℕ) → follow n (taken n k ports l) j c ≡ follow n l j c
  taken_follow = follow_same n l (taken n k ports l) taken_next

  pub length_taken : length (taken n k ports l) ≡ length l
  unfolding taken
  length_taken = simp length-set

  taken_other : (s : ℕ) → (s ≡ first_free l → ⊥) → word_of (taken n k ports l) s ≡ word_of l s
  taken_other s ne = taken_word (frame_word s) (λ e. omega arith) (λ e. omega arith) (λ e. ne (omega arith))

  pub taken_size_other : (s : ℕ) → (s ≡ first_free l → ⊥) → size_of (taken n k ports l) s ≡ size_of l s
  taken_size_other s ne = word_size l (taken n k ports l) s (taken_other s ne)

  pub taken_ports_other : (s : ℕ) → (s ≡ first_free l → ⊥) → ports_of (taken n k ports l) s ≡ ports_of l s
  taken_ports_other s ne = word_ports l (taken n k ports l) s (taken_other s ne)

  module _ (long : link_words n ≤ length l) where
    pub taken_count : free_count (taken n k ports l) ≡ free_count l - k
    unfolding taken less moved
    taken_count =
        get_or-set_other moved (frame_word (first_free l)) free_count_word (ports + 32 * k) 0 (λ e. omega arith)
        ∙ get_or-set_other less first_free_word free_count_word (behind n l k (first_free l)) 0 (λ e. omega arith)
        ∙ get_or-set_same l free_count_word (free_count l - k) 0 (omega arith)

    pub taken_first : first_free (taken n k ports l) ≡ behind n l k (first_free l)
    unfolding taken less moved
    taken_first =
        get_or-set_other moved (frame_word (first_free l)) first_free_word (ports + 32 * k) 0 (λ e. omega arith)
        ∙ get_or-set_same less first_free_word (behind n l k (first_free l)) 0 (simp length-set (omega arith))

    module _ (first : first_free l < n) where
      taken_here : word_of (taken n k ports l) (first_free l) ≡ ports + 32 * k
      unfolding taken less moved
      taken_here = get_or-set_same moved (frame_word (first_free l)) (ports + 32 * k) 0 (simp length-set (omega arith))

      pub taken_size : ports < 32 → size_of (taken n k ports l) (first_free l) ≡ k
      taken_size h = ap (◌/ 32) taken_here ∙ size_said ports k h

      pub taken_ports : ports < 32 → ports_of (taken n k ports l) (first_free l) ≡ ports
      taken_ports h = ap (◌% 32) taken_here ∙ ports_said ports k h

-- ---- giving back

module _ (n c : ℕ) (l : List ℕ) where
  joined : List ℕ
  joined = set l (next_word (last_cell n l c)) (first_free l)

  more : List ℕ
  more = set joined free_count_word (free_count l + size_of l c)

  led : List ℕ
  led = set more first_free_word c

  pub given_word : (w : ℕ) → (w ≡ next_word (last_cell n l c) → ⊥) → (w ≡ free_count_word → ⊥) → (w ≡ first_free_word → ⊥) → (w ≡ frame_word c → ⊥)
      → get_or (given_back n c l) w 0 ≡ get_or l w 0
  unfolding given_back joined more led
  given_word w a b d e =
      get_or-set_other led (frame_word c) w (32 * size_of l c) 0 e
      ∙ get_or-set_other more first_free_word w c 0 d
      ∙ get_or-set_other joined free_count_word w (free_count l + size_of l c) 0 b
      ∙ get_or-set_other l (next_word (last_cell n l c)) w (first_free l) 0 a

  pub length_given : length (given_back n c l) ≡ length l
  unfolding given_back
  length_given = simp length-set

  pub given_next_other : (d : ℕ) → (d ≡ last_cell n l c → ⊥) → next_in (given_back n c l) d ≡ next_in l d
  given_next_other d ne = given_word (next_word d) (λ e. ne (omega arith)) (λ e. omega arith) (λ e. omega arith) (λ e. omega arith)

  given_other : (d : ℕ) → (d ≡ c → ⊥) → word_of (given_back n c l) d ≡ word_of l d
  given_other d ne = given_word (frame_word d) (λ e. omega arith) (λ e. omega arith) (λ e. omega arith) (λ e. ne (omega arith))

  pub given_size_other : (d : ℕ) → (d ≡ c → ⊥) → size_of (given_back n c l) d ≡ size_of l d
  given_size_other d ne = word_size l (given_back n c l) d (given_other d ne)

  pub given_ports_other : (d : ℕ) → (d ≡ c → ⊥) → ports_of (given_back n c l) d ≡ ports_of l d
  given_ports_other d ne = word_ports l (given_back n c l) d (given_other d ne)

  module _ (long : link_words n ≤ length l) where
    pub given_next : last_cell n l c < n → next_in (given_back n c l) (last_cell n l c) ≡ first_free l
    unfolding given_back joined more led
    given_next h =
        let q : ℕ = last_cell n l c in
        get_or-set_other led (frame_word c) (next_word q) (32 * size_of l c) 0 (λ e. omega arith)
        ∙ get_or-set_other more first_free_word (next_word q) c 0 (λ e. omega arith)
        ∙ get_or-set_other joined free_count_word (next_word q) (free_count l + size_of l c) 0 (λ e. omega arith)
        ∙ get_or-set_same l (next_word q) (first_free l) 0 (omega arith)

    pub given_count : free_count (given_back n c l) ≡ free_count l + size_of l c
    unfolding given_back joined more led
    given_count =
        get_or-set_other led (frame_word c) free_count_word (32 * size_of l c) 0 (λ e. omega arith)
        ∙ get_or-set_other more first_free_word free_count_word c 0 (λ e. omega arith)
        ∙ get_or-set_same joined free_count_word (free_count l + size_of l c) 0 (simp length-set (omega arith))

    pub given_first : first_free (given_back n c l) ≡ c
    unfolding given_back joined more led
    given_first =
        get_or-set_other led (frame_word c) first_free_word (32 * size_of l c) 0 (λ e. omega arith)
        ∙ get_or-set_same more first_free_word c 0 (simp length-set (omega arith))

    module _ (h : c < n) where
      given_here : word_of (given_back n c l) c ≡ 32 * size_of l c
      unfolding given_back joined more led
      given_here = get_or-set_same led (frame_word c) (32 * size_of l c) 0 (simp length-set (omega arith))

      pub given_size : size_of (given_back n c l) c ≡ size_of l c
      given_size = ap (◌/ 32) given_here ∙ (let z : 32 * size_of l c / 32 ≡ size_of l c = omega arith in z)

      pub given_ports : ports_of (given_back n c l) c ≡ 0
      given_ports = ap (◌% 32) given_here ∙ (let z : 32 * size_of l c % 32 ≡ 0 = omega arith in z)
