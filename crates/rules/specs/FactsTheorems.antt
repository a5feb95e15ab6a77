-- What the facts of a frame are, said one by one: the VID under each assignment, the VLAN, the queue, the look-up and
-- the ports that it chooses, a BPDU. `proofs/Facts.antt` proves it. Assumes nothing: these are definitions.
use Rattle.std.specs.Prelude.{ℕ, ◌+◌, ◌*◌, ◌^◌, ◌<◌, ◌≡◌, ◌↔◌, true, false, length}
use mathlib.Core.List.{List, [], ◌∷◌, Memᴰ}
use Rattle.rules.specs.Choice.{Each}
use Rattle.rules.specs.Cells.{cells}
use Rattle.rules.specs.Tags.{Tag, tags_of, destination, source, is_group}
use Rattle.rules.specs.Settings.{Vlan, Settings}
use Rattle.rules.specs.Tables.{at, nowhere}
use Rattle.rules.specs.Addresses.{Entry, Table, group, unknown, found, key, find}
use Rattle.rules.specs.Facts.{Packet, Facts, facts_of}

module _ (s : Settings) (t : Table) (free p : ℕ) (k : Packet) where
  abbrev pub facts : Facts
  facts = facts_of s t free p k

  -- "0: the default VID. 1: the outermost tag's. 2: the second tag's. A missing tag or VID 0 gives the default VID."
  pub record VidTheorems : Type 0 where
    pub by_default : (s.port p).assignment ≡ 0 → facts.vid ≡ (s.port p).default.vid
    pub by_outermost : (s.port p).assignment ≡ 1 → (a : Tag) (rest : List Tag) → tags_of k.bytes ≡ a ∷ rest
        → (a.header.vid ≡ 0 → ⊥) → facts.vid ≡ a.header.vid
    pub outermost_missing : (s.port p).assignment ≡ 1 → tags_of k.bytes ≡ [] → facts.vid ≡ (s.port p).default.vid
    pub outermost_priority : (s.port p).assignment ≡ 1 → (a : Tag) (rest : List Tag) → tags_of k.bytes ≡ a ∷ rest
        → a.header.vid ≡ 0 → facts.vid ≡ (s.port p).default.vid
    pub by_second : (s.port p).assignment ≡ 2 → (a b : Tag) (rest : List Tag) → tags_of k.bytes ≡ a ∷ b ∷ rest
        → (b.header.vid ≡ 0 → ⊥) → facts.vid ≡ b.header.vid
    pub both_missing : (s.port p).assignment ≡ 2 → tags_of k.bytes ≡ [] → facts.vid ≡ (s.port p).default.vid
    pub second_missing : (s.port p).assignment ≡ 2 → (a : Tag) → tags_of k.bytes ≡ a ∷ []
        → facts.vid ≡ (s.port p).default.vid
    pub second_priority : (s.port p).assignment ≡ 2 → (a b : Tag) (rest : List Tag) → tags_of k.bytes ≡ a ∷ b ∷ rest
        → b.header.vid ≡ 0 → facts.vid ≡ (s.port p).default.vid
    -- No assignment gives VID 0, since a default VID is 1 to 4094.
    pub never_zero : ((s.port p).default.vid ≡ 0 → ⊥) → facts.vid ≡ 0 → ⊥

  -- the VLAN of a VID that the table has is the entry with that VID; the table has none of another
  pub record VlanTheorems : Type 0 where
    pub there_is : facts.there ≡ true → Memᴰ facts.vlan s.vlans × (facts.vlan.vid ≡ facts.vid)
    pub none_is : facts.there ≡ false → Each (λ (v : Vlan). v.vid ≡ facts.vid → ⊥) s.vlans
    pub group_of_addresses : facts.gid ≡ facts.vlan.gid

  -- "PCP of the outermost tag, else the port's default PCP, through one map of 8"; a BPDU to port 4 has queue 3
  pub record QueueTheorems : Type 0 where
    pub pcp_of_outermost : (a : Tag) (rest : List Tag) → tags_of k.bytes ≡ a ∷ rest → facts.pcp ≡ a.header.pcp
    pub pcp_of_default : tags_of k.bytes ≡ [] → facts.pcp ≡ (s.port p).default.pcp
    pub by_outermost : facts.bpdu ≡ false → (a : Tag) (rest : List Tag) → tags_of k.bytes ≡ a ∷ rest
        → facts.queue ≡ s.queue_of a.header.pcp
    pub by_default : facts.bpdu ≡ false → tags_of k.bytes ≡ [] → facts.queue ≡ s.queue_of (s.port p).default.pcp
    pub bpdu_queue_law : facts.bpdu ≡ true → facts.queue ≡ 3

  -- "a group address, or one not found, has all members as candidates; one found has its port"
  pub record LookUpTheorems : Type 0 where
    pub group_not_looked_up : is_group (destination k.bytes) ≡ true → facts.look_up ≡ group
    pub not_found : is_group (destination k.bytes) ≡ false
        → find t (key facts.vlan.gid (destination k.bytes)) ≡ nowhere → facts.look_up ≡ unknown
    pub is_found : is_group (destination k.bytes) ≡ false → (i : ℕ) (e : Entry)
        → find t (key facts.vlan.gid (destination k.bytes)) ≡ at i e → facts.look_up ≡ found i e
    pub group_chooses_all : facts.look_up ≡ group → (r : ℕ) → facts.chosen r ≡ true
    pub unknown_chooses_all : facts.look_up ≡ unknown → (r : ℕ) → facts.chosen r ≡ true
    pub found_chooses_its_port : (i : ℕ) (e : Entry) → facts.look_up ≡ found i e → (r : ℕ)
        → (facts.chosen r ≡ true) ↔ (r ≡ e.port)

  pub record FactsTheorems : Type 0 where
    pub vid : VidTheorems
    pub vlan : VlanTheorems
    pub queue : QueueTheorems
    pub look_up_law : LookUpTheorems
    -- what came, and what its port is set to
    pub packet_is : facts.packet ≡ k
    pub port_is_law : facts.port ≡ p
    pub tags_are : facts.tags ≡ tags_of k.bytes
    pub default_is : facts.default ≡ (s.port p).default
    pub state_is : facts.state ≡ (s.port p).state
    -- "flags to drop frames with 0, 1 or 2 tags"
    pub barred_without_tag : tags_of k.bytes ≡ [] → facts.barred ≡ (s.port p).bars 0
    pub barred_with_one : (a : Tag) → tags_of k.bytes ≡ a ∷ [] → facts.barred ≡ (s.port p).bars 1
    pub barred_with_two : (a b : Tag) → tags_of k.bytes ≡ a ∷ b ∷ [] → facts.barred ≡ (s.port p).bars 2
    -- "destination 01:80:C2:00:00:00 arriving on a port other than 4, with BPDU handling on"
    pub bpdu_exactly : (facts.bpdu ≡ true)
        ↔ ((s.bpdu_handling ≡ true) × (p ≡ 4 → ⊥) × (destination k.bytes ≡ 0x0180_C200_0000))
    -- learned "under (GID, address)"
    pub source_key_law : facts.source_key ≡ facts.vlan.gid * 2 ^ 48 + source k.bytes
    -- its cells outnumber the free ones
    pub outnumbers_exactly : (facts.outnumbers ≡ true) ↔ (free < cells (length k.bytes))
