-- Records that no field of the schema has, as libprotobuf prints them: under the number of their field, and bytes that are the encoding of a
-- message as that message, to a depth of ten levels.
use Rattle.std.specs.Prelude.{◌≡◌, ℕ, suc, ◌-◌, ◌<◌, List, [], ◌∷◌, ◌++◌, codes, decimal}
use Rattle.std.specs.Int.{to_be_bytes, w32, w64}
use Rattle.hex.specs.Hex.{encode_lower}
use Rattle.pb_wire.specs.Grammar.{IsText}
use Rattle.pb_wire.specs.Limits.{Bounds}
use Rattle.pb_wire.specs.Record.{Payload, varint, fixed64, len, group, fixed32, Group, no_more, more, Record, group_of}
use Rattle.pb_wire.specs.Schema.{blank}
use Rattle.pb_listing.specs.Borrowed.{limits_inside}
use Rattle.pb_text.specs.declared.form.Layout.{Layout}
use Rattle.pb_text.specs.declared.form.TextForm.{TextForm}
use Rattle.pb_text.specs.declared.form.UnknownRecords.{UnknownRecords}
use Rattle.pb_text.specs.declared.form.UnknownRecords.TheVariants.{ByNumber, Omitted}
use Rattle.pb_text.specs.Lines.{item}
use Rattle.pb_text.specs.Strings.{escaped}

-- the limits that leave this number of levels of groups, at most 100
abbrev pub limits_with : ℕ → Bounds
limits_with levels = limits_inside (100 - levels)

-- the bytes encode records, at least one, whose groups nest no deeper than messages are looked for
abbrev pub IsEmbedded : ℕ → List ℕ → Type 0
IsEmbedded levels s = (0 < levels) × ((r : Record) × (rs : List Record) × IsText blank tt (limits_with levels) s (r ∷ rs))

module _ (layout : Layout) where
  -- a field under a number, at a level
  abbrev pub numbered : ℕ → ℕ → List ℕ → List ℕ
  numbered level k value = item layout level (decimal k ++ value)

  mutual
    -- the bytes are the lines of a record at a level; messages are looked for in its bytes on this number of levels
    pub data AreRecordLines : ℕ → ℕ → ℕ → Payload → List ℕ → Type 0 where
      a_varint :
          {levels level k n : ℕ} {lines : List ℕ} → lines ≡ item layout level (decimal k ++ codes ": " ++ decimal n)
          → AreRecordLines levels level k (varint n) lines
      eight_bytes :
          {levels level k n : ℕ} {lines : List ℕ} → lines ≡ item layout level (decimal k ++ codes ": 0x" ++ encode_lower (to_be_bytes w64 n))
          → AreRecordLines levels level k (fixed64 n) lines
      four_bytes :
          {levels level k n : ℕ} {lines : List ℕ} → lines ≡ item layout level (decimal k ++ codes ": 0x" ++ encode_lower (to_be_bytes w32 n))
          → AreRecordLines levels level k (fixed32 n) lines
      a_group :
          {levels level k : ℕ} {g : Group} {inside lines : List ℕ} → AreRecordsLines (levels - 1) (suc level) g inside
          → lines ≡ item layout level (decimal k ++ codes " {") ++ inside ++ item layout level (codes "}")
          → AreRecordLines levels level k (group g) lines
      a_message :
          {levels level k : ℕ} {s inside lines : List ℕ} {r : Record} {rs : List Record} → 0 < levels → IsText blank tt (limits_with levels) s (r ∷ rs)
          → AreRecordsLines (levels - 1) (suc level) (group_of (r ∷ rs)) inside
          → lines ≡ item layout level (decimal k ++ codes " {") ++ inside ++ item layout level (codes "}")
          → AreRecordLines levels level k (len s) lines
      a_string :
          {levels level k : ℕ} {s lines : List ℕ} → ¬ IsEmbedded levels s → lines ≡ item layout level (decimal k ++ codes ": " ++ escaped s)
          → AreRecordLines levels level k (len s) lines

    -- of records one after another
    pub data AreRecordsLines : ℕ → ℕ → Group → List ℕ → Type 0 where
      no_lines : {levels level : ℕ} {lines : List ℕ} → lines ≡ [] → AreRecordsLines levels level no_more lines
      more_lines :
          {levels level k : ℕ} {p : Payload} {g : Group} {first rest lines : List ℕ} → AreRecordLines levels level k p first
          → AreRecordsLines levels level g rest → lines ≡ first ++ rest → AreRecordsLines levels level (more k p g) lines

abbrev pub unknown_lines_as : UnknownRecords → Layout → ℕ → List Record → List ℕ → Type 0
unknown_lines_as ByNumber layout level records s = AreRecordsLines layout 10 level (group_of records) s
unknown_lines_as Omitted layout level records s = s ≡ []

-- the lines of the unknown records of a message
abbrev pub AreUnknownLines : TextForm → ℕ → List Record → List ℕ → Type 0
AreUnknownLines form level records s = unknown_lines_as form.unknown form.layout level records s
