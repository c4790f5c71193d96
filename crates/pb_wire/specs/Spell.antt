-- How records are spelled (encoding guide, "Message Structure").
use Rattle.std.specs.Prelude.{◌≡◌, ℕ, ◌+◌, ◌*◌, ◌^◌, ◌<◌, List, [], ◌∷◌, ◌++◌, length}
use Rattle.std.specs.Int.{w32, w64, to_le_bytes}
use Rattle.pb_wire.specs.Varint.{IsVarint, shortest}
use Rattle.pb_wire.specs.Record.{Payload, varint, fixed64, len, group, fixed32, Group, no_more, more, Record, group_of, wire_type}

-- b is a varint of the number's and the wire type's tag, and then bytes of which Body holds
pub record Tagged (k w : ℕ) (Body : List ℕ → Type 0) (b : List ℕ) : Type 0 where
  pub number : (0 < k) × (k < 2 ^ 29)
  pub tag : List ℕ
  pub tagged : IsVarint (8 * k + w) tag
  pub body : List ℕ
  pub follows : Body body
  pub joined : b ≡ tag ++ body

abbrev mutual
  -- b is what follows the tag of a record with this number and payload
  pub Body : ℕ → Payload → List ℕ → Type 0
  Body k (varint n) b = (n < 2 ^ 64) × IsVarint n b
  Body k (fixed64 n) b = (n < 2 ^ 64) × (b ≡ to_le_bytes w64 n)
  Body k (len s) b = (length s < 2 ^ 31) × (size : List ℕ) × IsVarint (length s) size × (b ≡ size ++ s)
  Body k (group g) b = (inside : List ℕ) × (end : List ℕ) × SpellsGroup g inside × IsVarint (8 * k + 4) end × (b ≡ inside ++ end)
  Body k (fixed32 n) b = (n < 2 ^ 32) × (b ≡ to_le_bytes w32 n)

  -- b is the joining of spellings of the records, in order
  pub SpellsGroup : Group → List ℕ → Type 0
  SpellsGroup no_more b = b ≡ []
  SpellsGroup (more k p g) b =
      (first : List ℕ) × (others : List ℕ) × Tagged k (wire_type p) (Body k p) first × SpellsGroup g others × (b ≡ first ++ others)

-- b is an encoding of the record
abbrev pub Spells : Record → List ℕ → Type 0
Spells r b = Tagged r.number (wire_type r.payload) (Body r.number r.payload) b

-- b is the joining, in order, of spellings of the records
abbrev pub AreRecords : List Record → List ℕ → Type 0
AreRecords [] b = b ≡ []
AreRecords (r ∷ rs) b = (first : List ℕ) × (others : List ℕ) × Spells r first × AreRecords rs others × (b ≡ first ++ others)

-- the shortest encoding
abbrev mutual
  pub shortest_record : ℕ → Payload → List ℕ
  shortest_record k (varint n) = shortest (8 * k + 0) ++ shortest n
  shortest_record k (fixed64 n) = shortest (8 * k + 1) ++ to_le_bytes w64 n
  shortest_record k (len s) = shortest (8 * k + 2) ++ shortest (length s) ++ s
  shortest_record k (group g) = shortest (8 * k + 3) ++ shortest_group g ++ shortest (8 * k + 4)
  shortest_record k (fixed32 n) = shortest (8 * k + 5) ++ to_le_bytes w32 n

  pub shortest_group : Group → List ℕ
  shortest_group no_more = []
  shortest_group (more k p g) = shortest_record k p ++ shortest_group g

abbrev pub shortest_records : List Record → List ℕ
shortest_records rs = shortest_group (group_of rs)
