-- The layout paper, "A queue": linked lists in link memory. What is read, what each operation writes, and the
-- frames of a queue. Assumes nothing: these are definitions.
use Rattle.std.specs.Prelude.{ℕ, zero, suc, ◌+◌, Bool, ◌&&◌, true, false, List, [], ◌∷◌, get_or, set, eqb, ltb, if◌then◌else◌}
use Rattle.layout.specs.Bits.{with_bit}
use Rattle.layout.specs.Places.{waiting_word, oldest_word, youngest_word, behind_word}
use Rattle.std.specs.Prelude.{Option, Some as some, None as none}
unfoldable pub use Rattle.rules.specs.Arguments.{bit}
unfoldable pub use Rattle.layout.specs.Cells.{clamped}

-- ---- fields

abbrev pub waiting_of : List ℕ → ℕ → ℕ
waiting_of links p = get_or links (waiting_word p) 0

abbrev pub oldest_of : List ℕ → ℕ → ℕ → ℕ
oldest_of links p q = get_or links (oldest_word p q) 0

abbrev pub youngest_of : List ℕ → ℕ → ℕ → ℕ
youngest_of links p q = get_or links (youngest_word p q) 0

abbrev pub behind_of : List ℕ → ℕ → ℕ → ℕ
behind_of links p c = get_or links (behind_word p c) 0

abbrev pub oldest_cell : ℕ → List ℕ → ℕ → ℕ → ℕ
oldest_cell n links p q = clamped n (oldest_of links p q)

abbrev pub behind_cell : ℕ → List ℕ → ℕ → ℕ → ℕ
behind_cell n links p c = clamped n (behind_of links p c)

unfoldable pub is_youngest : List ℕ → ℕ → ℕ → ℕ → Bool
is_youngest links p q c = eqb c (youngest_of links p q)

-- ---- the word of the queues that wait

-- bits 0 to 3, others 0
unfoldable pub waiting_in_range : List ℕ → ℕ → Bool
waiting_in_range links p = ltb (waiting_of links p) 16

unfoldable pub all_waiting_in_range : List ℕ → Bool
all_waiting_in_range links =
    waiting_in_range links 0
    && waiting_in_range links 1
    && waiting_in_range links 2
    && waiting_in_range links 3
    && waiting_in_range links 4

unfoldable pub highest_of : ℕ → Option ℕ
highest_of w =
    if bit w 3
    then some 3
    else
    (if bit w 2
    then some 2
    else
    (if bit w 1
    then some 1
    else (if bit w 0 then some 0 else none)))

-- ---- the frames of a queue, the oldest first

-- at most k frames from c on, until the youngest
unfoldable pub list_from : ℕ → List ℕ → ℕ → ℕ → ℕ → ℕ → List ℕ
list_from n links p last zero c = []
list_from n links p last (suc k) c =
    c ∷ (if eqb c last then [] else list_from n links p last k (clamped n (behind_of links p c)))

unfoldable pub list_of : ℕ → List ℕ → ℕ → ℕ → List ℕ
list_of n links p q =
    if bit (waiting_of links p) q then list_from n links p (youngest_of links p q) n (oldest_cell n links p q) else []

-- ---- a frame joins, and the oldest leaves

unfoldable pub pushed : ℕ → ℕ → ℕ → ℕ → List ℕ → List ℕ
pushed n p q x links =
    if bit (waiting_of links p) q
    then set (set links (behind_word p (clamped n (youngest_of links p q))) x) (youngest_word p q) x
    else
    set (set (set links (oldest_word p q) x) (youngest_word p q) x) (waiting_word p)
    (with_bit (waiting_of links p) q true)

-- the frame `first` leaves, which is the oldest
unfoldable pub popped_at : ℕ → ℕ → ℕ → List ℕ → List ℕ
popped_at p q first links =
    if eqb (youngest_of links p q) first
    then set links (waiting_word p) (with_bit (waiting_of links p) q false)
    else set links (oldest_word p q) (behind_of links p first)

unfoldable pub popped : ℕ → ℕ → ℕ → List ℕ → List ℕ
popped n p q links = popped_at p q (oldest_cell n links p q) links

-- one frame joins the same queue of several ports
unfoldable pub pushed_at : ℕ → ℕ → ℕ → List ℕ → List ℕ → List ℕ
pushed_at n queue x [] links = links
pushed_at n queue x (p ∷ ps) links = pushed_at n queue x ps (pushed n p queue x links)

-- ---- a drain: turns while the queue waits, at most k

unfoldable pub turns : (List ℕ → List ℕ) → ℕ → ℕ → ℕ → List ℕ → List ℕ
turns turn p q zero links = links
turns turn p q (suc k) links = if bit (waiting_of links p) q then turns turn p q k (turn links) else links

-- how many
unfoldable pub turn_count : (List ℕ → List ℕ) → ℕ → ℕ → ℕ → List ℕ → ℕ
turn_count turn p q zero links = 0
turn_count turn p q (suc k) links = if bit (waiting_of links p) q then (turn_count turn p q k (turn links) + 1) else 0
