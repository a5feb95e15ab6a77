-- The numbers of the exact rules, each in one place: ports, queues, VIDs, tags, addresses and counters. (Lengths and
-- cells: `Cells`.) Assumes nothing: these are definitions.
use Rattle.std.specs.Prelude.{ℕ, ◌+◌, ◌*◌, ◌^◌, List, [], ◌∷◌}

-- ---- ports and queues

-- five ports, 0 to 4; port 4 is the management port
abbrev pub last_port : ℕ
last_port = 4

abbrev pub management_port : ℕ
management_port = 4

abbrev pub all_ports : List ℕ
all_ports = 0 ∷ 1 ∷ 2 ∷ 3 ∷ 4 ∷ []

-- four queues a port
abbrev pub most_queue : ℕ
most_queue = 3

-- the queue of a BPDU
abbrev pub bpdu_queue : ℕ
bpdu_queue = 3

-- a mask has a bit for each port
abbrev pub most_mask : ℕ
most_mask = 31

-- ---- tags and VLANs

abbrev pub customer_tag : ℕ
customer_tag = 0x8100

abbrev pub service_tag : ℕ
service_tag = 0x88A8

abbrev pub most_pcp : ℕ
most_pcp = 7

-- VIDs are 1 to 4094, and 4095 is none
abbrev pub last_vid : ℕ
last_vid = 4094

abbrev pub barred_vid : ℕ
barred_vid = 4095

abbrev pub most_vlans : ℕ
most_vlans = 16

abbrev pub most_gid : ℕ
most_gid = 15

-- ---- addresses

abbrev pub address_count : ℕ
address_count = 2 ^ 48

-- 01:80:C2:00:00:00
abbrev pub bpdu_address : ℕ
bpdu_address = 0x0180_C200_0000

-- 1,024 buckets of 4 places, then 16 spare places
abbrev pub bucket_count : ℕ
bucket_count = 1024

abbrev pub bucket_size : ℕ
bucket_size = 4

abbrev pub spare_count : ℕ
spare_count = 16

abbrev pub first_spare : ℕ
first_spare = bucket_count * bucket_size

abbrev pub place_count : ℕ
place_count = first_spare + spare_count

-- ---- counters

-- counters 0 to 20 of each port
abbrev pub last_counter : ℕ
last_counter = 20

-- "counters are 32 bits"
abbrev pub counter_limit : ℕ
counter_limit = 2 ^ 32
