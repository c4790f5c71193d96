-- The listing of records where a payload that is a list of records itself is listed as a message.
use Rattle.std.specs.Prelude.{◌≡◌, ℕ, suc, ◌<◌, List, [], ◌∷◌, ◌++◌, length, codes, decimal}
use Rattle.pb_wire.specs.Record.{Payload, varint, fixed64, len, group, fixed32, Group, no_more, more, Record, group_of}
use Rattle.pb_wire.specs.Grammar.{IsText}
use Rattle.pb_wire.specs.Schema.{blank}
use Rattle.pb_listing.specs.Borrowed.{limits_inside}
use Rattle.pb_listing.specs.RawListing.{line, record_lines}

-- the payload of a record at a level is a list of records, at least one, within the levels that are left below it
abbrev pub IsMessage : ℕ → List ℕ → Type 0
IsMessage level s = (level < 100) × ((r : Record) × (rs : List Record) × IsText blank tt (limits_inside (suc level)) s (r ∷ rs))

mutual
  -- the bytes are the lines of a record at a level
  pub data AreRecordLines : ℕ → ℕ → Payload → List ℕ → Type 0 where
    a_message :
        {level k : ℕ} {s inside lines : List ℕ} {r : Record} {rs : List Record} → level < 100 → IsText blank tt (limits_inside (suc level)) s (r ∷ rs)
        → AreNestedLines (suc level) (group_of (r ∷ rs)) inside
        → lines ≡ line level (decimal k ++ codes " len " ++ decimal (length s) ++ codes " {") ++ inside ++ line level (codes "}")
        → AreRecordLines level k (len s) lines
    other_bytes : {level k : ℕ} {s lines : List ℕ} → ¬ IsMessage level s → lines ≡ record_lines [] level k (len s) → AreRecordLines level k (len s) lines
    a_group :
        {level k : ℕ} {g : Group} {inside lines : List ℕ} → AreNestedLines (suc level) g inside
        → lines ≡ line level (decimal k ++ codes " group {") ++ inside ++ line level (codes "}") → AreRecordLines level k (group g) lines
    a_varint : {level k n : ℕ} {lines : List ℕ} → lines ≡ record_lines [] level k (varint n) → AreRecordLines level k (varint n) lines
    eight_bytes : {level k n : ℕ} {lines : List ℕ} → lines ≡ record_lines [] level k (fixed64 n) → AreRecordLines level k (fixed64 n) lines
    four_bytes : {level k n : ℕ} {lines : List ℕ} → lines ≡ record_lines [] level k (fixed32 n) → AreRecordLines level k (fixed32 n) lines

  -- of records one after another
  pub data AreNestedLines : ℕ → Group → List ℕ → Type 0 where
    no_lines : {level : ℕ} {lines : List ℕ} → lines ≡ [] → AreNestedLines level no_more lines
    more_lines :
        {level k : ℕ} {p : Payload} {g : Group} {first rest lines : List ℕ} → AreRecordLines level k p first → AreNestedLines level g rest
        → lines ≡ first ++ rest → AreNestedLines level (more k p g) lines

abbrev pub IsNestedListing : List Record → List ℕ → Type 0
IsNestedListing records lines = AreNestedLines 0 (group_of records) lines
