-- The listing of records that no schema says anything of: a line each, and the records of a group between two lines.
use Rattle.std.specs.Prelude.{ℕ, suc, ◌*◌, List, [], ◌∷◌, ◌++◌, length, codes, decimal, replicate}
use Rattle.std.specs.Int.{to_be_bytes, w32, w64}
use Rattle.hex.specs.Hex.{encode_lower}
use Rattle.pb_wire.specs.Record.{Payload, varint, fixed64, len, group, fixed32, Group, no_more, more, Record, group_of}

-- two spaces a level
abbrev pub indent : ℕ → List ℕ
indent level = replicate (2 * level) 32

abbrev pub line_feed : List ℕ
line_feed = 10 ∷ []

abbrev pub line : ℕ → List ℕ → List ℕ
line level text = indent level ++ text ++ line_feed

-- a space and the bytes in hexadecimal, where there are any
abbrev pub shown_bytes : List ℕ → List ℕ
shown_bytes [] = []
shown_bytes (b ∷ bs) = codes " " ++ encode_lower (b ∷ bs)

abbrev mutual
  -- the lines of a record, with a mark before the first
  pub record_lines : List ℕ → ℕ → ℕ → Payload → List ℕ
  record_lines mark level k (varint n) = line level (mark ++ decimal k ++ codes " varint " ++ decimal n)
  record_lines mark level k (fixed64 n) = line level (mark ++ decimal k ++ codes " i64 " ++ encode_lower (to_be_bytes w64 n))
  record_lines mark level k (len s) = line level (mark ++ decimal k ++ codes " len " ++ decimal (length s) ++ shown_bytes s)
  record_lines mark level k (group g) = line level (mark ++ decimal k ++ codes " group {") ++ group_lines (suc level) g ++ line level (codes "}")
  record_lines mark level k (fixed32 n) = line level (mark ++ decimal k ++ codes " i32 " ++ encode_lower (to_be_bytes w32 n))

  -- the lines of the records in a group
  pub group_lines : ℕ → Group → List ℕ
  group_lines level no_more = []
  group_lines level (more k p g) = record_lines [] level k p ++ group_lines level g

abbrev pub raw_listing : List Record → List ℕ
raw_listing records = group_lines 0 (group_of records)
