-- The plain trees of messages and of what they hold.
use Rattle.std.specs.Prelude.{ℕ, List, [], ◌∷◌, string_bytes}
use Rattle.std.specs.Prelude as prelude
use Rattle.pb_wire.specs.Unknown.{records_of}
use Rattle.pb_schema.specs.Scalar.{Scalar, int32, int64, uint32, uint64, boolean, float, double, enum, text, bytes}
use Rattle.pb_value.specs.Data.{Datum, scalar, message, Datums, no_datums, datum, Entries, no_entries, entry}
use Rattle.pb_value.specs.Data.{Holding, one, list, map, Fields, no_fields, field, Message, body}
use Rattle.pb_value.specs.declared.body.MapKey.{MapKey}
use Rattle.pb_value.specs.declared.body.MapKey.TheVariants as map_key
use Rattle.pb_value.specs.declared.body.Value.{Value, fold-Value}
use Rattle.pb_value.specs.declared.body.Content.{Content, fold-Content}
use Rattle.pb_value.specs.declared.body.Body.{Body, fold-Body}
use Rattle.pb_value.specs.declared.body.Content.TheOpen.{Value-F, Content-F, Body-F}

abbrev pub key_view : MapKey → Scalar
key_view (map_key.I32 z) = int32 z
key_view (map_key.I64 z) = int64 z
key_view (map_key.U32 n) = uint32 n
key_view (map_key.U64 n) = uint64 n
key_view (map_key.Bool b) = boolean b
key_view (map_key.Text s) = text (string_bytes s)

abbrev pub datums_from : List Datum → Datums
datums_from [] = no_datums
datums_from (d ∷ ds) = datum d (datums_from ds)

abbrev pub entries_from : List (MapKey × Datum) → Entries
entries_from [] = no_entries
entries_from (e ∷ es) = entry (key_view e.0) e.1 (entries_from es)

abbrev pub fields_from : List (ℕ × Holding) → Fields
fields_from [] = no_fields
fields_from (f ∷ fs) = field f.0 f.1 (fields_from fs)

-- one level, with each part inside already seen as its tree
abbrev pub content_step : Content-F Holding Datum Message → Holding
content_step (Content-F.One d) = one d
content_step (Content-F.List v) = list (datums_from v.items)
content_step (Content-F.Map m) = map (entries_from m.entries)

abbrev pub value_step : Value-F Holding Datum Message → Datum
value_step (Value-F.I32 z) = scalar (int32 z)
value_step (Value-F.I64 z) = scalar (int64 z)
value_step (Value-F.U32 n) = scalar (uint32 n)
value_step (Value-F.U64 n) = scalar (uint64 n)
value_step (Value-F.Bool b) = scalar (boolean b)
value_step (Value-F.F32 n) = scalar (float n)
value_step (Value-F.F64 n) = scalar (double n)
value_step (Value-F.Enum z) = scalar (enum z)
value_step (Value-F.Text s) = scalar (text (string_bytes s))
value_step (Value-F.Bytes v) = scalar (bytes v.items)
value_step (Value-F.Message m) = message m

abbrev pub body_step : Body-F Holding Datum Message → Message
body_step b = body (fields_from b.fields.entries) (records_of b.unknown.items)

abbrev pub value_view : Value → Datum
value_view = fold-Value Holding Datum Message content_step value_step body_step

abbrev pub content_view : Content → Holding
content_view = fold-Content Holding Datum Message content_step value_step body_step

-- the message of a body
abbrev pub body_view : Body → Message
body_view = fold-Body Holding Datum Message content_step value_step body_step

abbrev pub values_view : List Value → Datums
values_view vs = datums_from (prelude.map value_view vs)

abbrev pub entries_view : List (MapKey × Value) → Entries
entries_view es = entries_from (prelude.map (λ e. (e.0, value_view e.1)) es)

abbrev pub fields_view : List (ℕ × Content) → Fields
fields_view fs = fields_from (prelude.map (λ f. (f.0, content_view f.1)) fs)
