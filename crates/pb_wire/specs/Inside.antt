-- The records inside a payload, as a function: of bytes that encode records it gives these, whatever the lengths in them.
use Rattle.std.specs.Prelude.{ℕ, zero, suc, ◌/◌, ◌%◌, ◌^◌, List, [], ◌∷◌, length, take, drop, nat_lt, nat_le, ◌==◌, if◌then◌else◌}
use Rattle.std.specs.Int.{w32, w64, from_le_bytes}
use Rattle.pb_wire.specs.Varint.{groups_value}
use Rattle.pb_wire.specs.Record.{Payload, varint, fixed64, len, group, fixed32, Group, no_more, more, Record, group_of, records_in}
use Rattle.pb_wire.specs.Ranges.{IsNumber}

-- the bytes of the first varint: up to the first byte below 128
unfoldable pub first_varint : List ℕ → List ℕ
first_varint [] = []
first_varint (b ∷ bs) = if nat_lt b 128 then b ∷ [] else b ∷ first_varint bs

unfoldable pub after_varint : List ℕ → List ℕ
after_varint [] = []
after_varint (b ∷ bs) = if nat_lt b 128 then bs else after_varint bs

-- the number that the groups of a varint mean
abbrev pub varint_value : List ℕ → ℕ
varint_value b = groups_value b % 2 ^ 64

-- how many bytes a length names: where fewer follow, the bits above the sixty-fourth are dropped, as in any varint
unfoldable pub named_length : List ℕ → List ℕ → ℕ
named_length size rest = if nat_le (groups_value size) (length rest) then groups_value size else groups_value size % 2 ^ 64

-- the records up to the end of the bytes, or to the end tag of the group that they are in, and the bytes after that
pub record Front : Type 0 where
  pub records : List Record
  pub rest : List ℕ

abbrev pub front : List Record → List ℕ → Front
front rs s = record { records = rs; rest = s }

-- a record, and then those of a prefix
abbrev pub before : ℕ → Payload → Front → Front
before k p f = front (record { number = k; payload = p } ∷ f.records) f.rest

-- the prefix of at most this many records, each of a group's counted too
unfoldable pub front_within : ℕ → List ℕ → Front
front_within zero s = front [] s
front_within (suc n) [] = front [] []
front_within (suc n) (b ∷ bs) =
    let tag = varint_value (first_varint (b ∷ bs)) in
    let k = tag / 8 in
    let s = after_varint (b ∷ bs) in
    let number = before k (varint (varint_value (first_varint s))) (front_within n (after_varint s)) in
    let eight = before k (fixed64 (from_le_bytes w64 (take 8 s))) (front_within n (drop 8 s)) in
    let size = named_length (first_varint s) (after_varint s) in
    let bytes = before k (len (take size (after_varint s))) (front_within n (drop size (after_varint s))) in
    let inner : Front = front_within n s in
    let records = before k (group (group_of inner.records)) (front_within n inner.rest) in
    let four = before k (fixed32 (from_le_bytes w32 (take 4 s))) (front_within n (drop 4 s)) in
    if tag % 8 == 0 then number else (if tag % 8 == 1 then eight else (if tag % 8 == 2 then bytes
    else (if tag % 8 == 3 then records else (if tag % 8 == 5 then four else front [] s))))

-- the records that these bytes encode
unfoldable pub records_spelled : List ℕ → List Record
records_spelled b = (front_within (suc (length b)) b).records

-- the records inside a payload: those that its bytes encode, or those of the group
abbrev pub records_inside : Payload → List Record
records_inside (len s) = records_spelled s
records_inside (group g) = records_in g
records_inside _ = []

-- the number of each record in a group is one of the wire, at every level
abbrev mutual
  pub IsNumbered : Payload → Type 0
  IsNumbered (varint n) = Unit {0}
  IsNumbered (fixed64 n) = Unit {0}
  IsNumbered (len s) = Unit {0}
  IsNumbered (group g) = IsNumberedGroup g
  IsNumbered (fixed32 n) = Unit {0}

  pub IsNumberedGroup : Group → Type 0
  IsNumberedGroup no_more = Unit {0}
  IsNumberedGroup (more k p g) = IsNumber k × IsNumbered p × IsNumberedGroup g

-- each number is one of the wire, at every level
abbrev pub AreNumbered : List Record → Type 0
AreNumbered [] = Unit {0}
AreNumbered (r ∷ rs) = IsNumber r.number × IsNumbered r.payload × AreNumbered rs
