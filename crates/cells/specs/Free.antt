-- The layout paper, "a record of 20 words for each cell": the free cells, the cells of a frame, taking and giving back.
-- Assumes nothing.
use Rattle.std.specs.Prelude.{ℕ, ◌+◌, ◌-◌, ◌*◌, ◌/◌, ◌%◌, Bool, true, false, ◌&&◌, List, get_or, set, leb, ltb, if◌then◌else◌}
use Rattle.std.specs.Prelude.{Result, Ok as ok, Err as err}
use Rattle.rules.specs.Cells.{cells, longest}
use Rattle.layout.specs.Places.{free_count_word, first_free_word, frame_word, size_unit, next_word}
use Rattle.layout.specs.declared.damage.Damaged.{Damaged}
use Rattle.cells.specs.Chains.{follow, walk, behind}

-- ---- fields

abbrev pub free_count : List ℕ → ℕ
free_count links = get_or links free_count_word 0

abbrev pub first_free : List ℕ → ℕ
first_free links = get_or links first_free_word 0

-- the frame word of the frame whose first cell is c
abbrev pub word_of : List ℕ → ℕ → ℕ
word_of links c = get_or links (frame_word c) 0

-- of it: how many cells the frame has, and the mask of the ports where it still waits
abbrev pub size_of : List ℕ → ℕ → ℕ
size_of links c = word_of links c / size_unit

abbrev pub ports_of : List ℕ → ℕ → ℕ
ports_of links c = word_of links c % size_unit

-- "the first free cell and the next ones, free cells in all"
abbrev pub free_cells : ℕ → List ℕ → List ℕ
free_cells n links = follow n links (free_count links) (first_free links)

-- "that cell and the next ones, size in all"
abbrev pub frame_cells : ℕ → List ℕ → ℕ → List ℕ
frame_cells n links c = follow n links (size_of links c) c

abbrev pub last_cell : ℕ → List ℕ → ℕ → ℕ
last_cell n links c = walk n links (size_of links c - 1) c

-- ---- taking

abbrev damaged : Result Bool Damaged
damaged = err (record {})

-- is there room for a frame of k cells?
unfoldable pub room_for : ℕ → ℕ → List ℕ → Result Bool Damaged
room_for n k links =
    if leb (free_count links) n
    then (if leb k (free_count links) then (if ltb (first_free links) n then ok true else damaged) else ok false)
    else damaged

-- "the first free cell becomes the next word of the k-th"
unfoldable pub taken : ℕ → ℕ → ℕ → List ℕ → List ℕ
taken n k ports links =
    set
    (set (set links free_count_word (free_count links - k)) first_free_word (behind n links k (first_free links)))
    (frame_word (first_free links))
    (ports + size_unit * k)

-- ---- giving back

-- the frame word of the frame whose first cell is c is in range
unfoldable pub is_frame : ℕ → List ℕ → Bool
is_frame c links = leb 1 (size_of links c) && leb (size_of links c) (cells longest)

-- "free cells, which with the frame's may not exceed n, and the first free cell"
unfoldable pub can_give_back : ℕ → ℕ → List ℕ → Bool
can_give_back n c links = leb (free_count links + size_of links c) n && ltb (first_free links) n

-- "size stays, and no port is left"
unfoldable pub given_back : ℕ → ℕ → List ℕ → List ℕ
given_back n c links =
    set
    (set
    (set (set links (next_word (last_cell n links c)) (first_free links)) free_count_word (free_count links + size_of links c))
    first_free_word
    c)
    (frame_word c)
    (size_unit * size_of links c)
