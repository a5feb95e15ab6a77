-- The layout paper, "Address memory": how a number of the memory reads as an entry, and how an entry is written.
-- Assumes nothing: these are definitions.
use Rattle.std.specs.Prelude.{ℕ, ◌+◌, ◌*◌, ◌/◌, ◌%◌, Bool, true, false, ◌||◌, ◌&&◌, List, eqb, ltb, get_or, if◌then◌else◌}
use Rattle.std.specs.Prelude.{Option, None as none, Some as some}
use Rattle.std.specs.List.{list_all}
use Rattle.rules.specs.Addresses.{Entry, Table}

-- ---- the parts of a number: bit 0 mark, bit 1 static, bits 2 to 4 port, bits 5 to 10 zero, bit 11 in use, bits 12 to
-- 63 key

abbrev pub marked_in : ℕ → Bool
marked_in n = eqb (n % 2) 1

abbrev pub static_in : ℕ → Bool
static_in n = eqb (n / 2 % 2) 1

abbrev pub port_in : ℕ → ℕ
port_in n = n / 4 % 8

abbrev pub used_in : ℕ → Bool
used_in n = eqb (n / 2048 % 2) 1

abbrev pub key_in : ℕ → ℕ
key_in n = n / 4096

-- "port 0 to 4, and bits 5 to 10 zero": mark, static and port are below 20
abbrev pub parts_in_range : ℕ → Bool
parts_in_range n = ltb (n % 2048) 20

-- "a place is in range if it is 0, or has bit 11 set and below it a number less than 20"
unfoldable pub in_range : ℕ → Bool
in_range n = eqb n 0 || (used_in n && parts_in_range n)

-- the number is an entry's, with this key
unfoldable pub has : ℕ → ℕ → Bool
has n k = used_in n && eqb (key_in n) k

-- ---- reading

unfoldable pub entry_in : ℕ → Entry
entry_in n = record { key = key_in n; port = port_in n; marked = marked_in n; static = static_in n }

-- "a place is empty where bit 11 is 0"
unfoldable pub entry_of : ℕ → Option Entry
entry_of n = if used_in n then some (entry_in n) else none

unfoldable pub table_of : List ℕ → Table
table_of memory place = entry_of (get_or memory place 0)

unfoldable pub all_in_range : List ℕ → Bool
all_in_range memory = list_all in_range memory

-- ---- writing

unfoldable pub bit : Bool → ℕ
bit true = 1
bit false = 0

unfoldable pub number_of : Entry → ℕ
number_of e = e.key * 4096 + 2048 + e.port * 4 + bit e.static * 2 + bit e.marked
