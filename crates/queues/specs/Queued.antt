-- What it means that link memory holds a list of frames as a queue, and that it holds all 20. A frame is known by its
-- first cell. Assumes nothing: these are definitions.
use Rattle.std.specs.Prelude.{ℕ, ◌+◌, ◌≤◌, ◌<◌, ◌≡◌, Bool, true, false, ◌&&◌, List, [], ◌∷◌, ◌++◌, eqb, if◌then◌else◌}
use Rattle.std.specs.Prelude.{Option, None as none, Some as some}
use Rattle.layout.specs.Counting.{times}
use Rattle.rules.specs.Choice.{Each}
use Rattle.queues.specs.Lists.{waiting_of, oldest_of, youngest_of, behind_of, bit, list_of}

-- does a frame wait?
unfoldable pub has_frames : List ℕ → Bool
has_frames [] = false
has_frames (c ∷ cs) = true

-- the frames cs stand behind c, each in the word of the one before it, and `last` is the last of them
abbrev pub Behind : List ℕ → ℕ → ℕ → ℕ → List ℕ → Type 0
Behind links p last c [] = c ≡ last
Behind links p last c (d ∷ ds) = (behind_of links p c ≡ d) × Behind links p last d ds

abbrev pub Chained : List ℕ → ℕ → ℕ → ℕ → List ℕ → Type 0
Chained links p first last [] = Unit {0}
Chained links p first last (c ∷ cs) = (first ≡ c) × Behind links p last c cs

-- queue q of port p holds just these frames
pub record Queued (n : ℕ) (links : List ℕ) (p q : ℕ) (cells : List ℕ) : Type 0 where
  pub waits : bit (waiting_of links p) q ≡ has_frames cells
  pub below : Each (λ (c : ℕ). c < n) cells
  pub once : (c : ℕ) → times c cells ≤ 1
  pub chained : Chained links p (oldest_of links p q) (youngest_of links p q) cells

-- all 20 queues: a frame stands at most once in the queues of a port
pub record Queues (n : ℕ) (links : List ℕ) (lists : ℕ → ℕ → List ℕ) : Type 0 where
  pub queued : (p q : ℕ) → p < 5 → q < 4 → Queued n links p q (lists p q)
  pub apart : (p q s c : ℕ) → p < 5 → q < 4 → s < 4 → (q ≡ s → ⊥) → times c (lists p q) + times c (lists p s) ≤ 1

-- as they are read from memory
abbrev pub AllQueued : ℕ → List ℕ → Type 0
AllQueued n links = Queues n links (list_of n links)

-- no port's word of waiting queues has a bit beside the four
abbrev pub WaitingInRange : List ℕ → Type 0
WaitingInRange links = (p : ℕ) → p < 5 → waiting_of links p < 16

-- ---- the lists after a frame joined one, and after the oldest left one

unfoldable pub joined : ℕ → ℕ → ℕ → (ℕ → ℕ → List ℕ) → ℕ → ℕ → List ℕ
joined p q x lists r s = if eqb r p && eqb s q then lists r s ++ (x ∷ []) else lists r s

unfoldable pub left : ℕ → ℕ → List ℕ → (ℕ → ℕ → List ℕ) → ℕ → ℕ → List ℕ
left p q tail lists r s = if eqb p r && eqb q s then tail else lists r s

-- ---- the highest queue that is not empty, of a port's four

unfoldable pub highest_list : (ℕ → List ℕ) → Option ℕ
highest_list lists =
    if has_frames (lists 3)
    then some 3
    else
    (if has_frames (lists 2)
    then some 2
    else
    (if has_frames (lists 1)
    then some 1
    else (if has_frames (lists 0) then some 0 else none)))

pub record HighestIs (lists : ℕ → List ℕ) (q : ℕ) : Type 0 where
  pub below : q < 4
  pub waits : has_frames (lists q) ≡ true
  pub none_above : (s : ℕ) → q < s → s < 4 → lists s ≡ []
