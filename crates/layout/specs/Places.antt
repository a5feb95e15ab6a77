-- The layout paper, "Link memory": the word that each field stands in. Assumes nothing: these are definitions.
use Rattle.std.specs.Prelude.{ℕ, ◌+◌, ◌*◌}

-- ---- lengths, for n cells

-- the part before the cells' records
abbrev pub fixed_words : ℕ
fixed_words = 1024

-- a cell's record
abbrev pub cell_words : ℕ
cell_words = 20

abbrev pub link_words : ℕ → ℕ
link_words n = fixed_words + cell_words * n

abbrev pub cell_bytes : ℕ → ℕ
cell_bytes n = 80 * n

-- ---- the fixed part: words of the whole switch

abbrev pub cell_count_word : ℕ
cell_count_word = 0

-- the queue map and BPDU handling
abbrev pub map_word : ℕ
map_word = 1

-- the queue switches
abbrev pub switches_word : ℕ
switches_word = 2

abbrev pub free_count_word : ℕ
free_count_word = 3

abbrev pub first_free_word : ℕ
first_free_word = 4

abbrev pub vlan_count_word : ℕ
vlan_count_word = 5

-- the five states
abbrev pub states_word : ℕ
states_word = 8

-- ---- a VLAN entry: its own word and its operation's

abbrev pub vlan_word : ℕ → ℕ
vlan_word v = 32 + 2 * v

abbrev pub vlan_operation_word : ℕ → ℕ
vlan_operation_word v = 33 + 2 * v

-- ---- a port's record: its counters, its own word and its operation's, its queues

abbrev pub port_record : ℕ → ℕ
port_record port = 384 + 128 * port

-- the counters' 32 words, the port's and its operation's
abbrev pub record_words : ℕ
record_words = 34

abbrev pub counter_word : ℕ → ℕ → ℕ
counter_word port k = port_record port + k

abbrev pub port_word : ℕ → ℕ
port_word port = 416 + 128 * port

abbrev pub port_operation_word : ℕ → ℕ
port_operation_word port = 417 + 128 * port

-- bit q: queue q of the port waits
abbrev pub waiting_word : ℕ → ℕ
waiting_word port = 418 + 128 * port

-- the first cells of a queue's oldest and youngest frame
abbrev pub oldest_word : ℕ → ℕ → ℕ
oldest_word port queue = 424 + 128 * port + 2 * queue

abbrev pub youngest_word : ℕ → ℕ → ℕ
youngest_word port queue = 425 + 128 * port + 2 * queue

-- ---- a cell's record

abbrev pub next_word : ℕ → ℕ
next_word c = 1024 + cell_words * c

abbrev pub frame_word : ℕ → ℕ
frame_word c = 1025 + cell_words * c

-- a frame word: the ports where the frame still waits, and its size in cells by this
abbrev pub size_unit : ℕ
size_unit = 32

-- the first cell of the frame behind it at a port
abbrev pub behind_word : ℕ → ℕ → ℕ
behind_word port c = 1026 + port + cell_words * c
