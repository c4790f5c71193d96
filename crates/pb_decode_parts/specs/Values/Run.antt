-- What a run of elements makes of the part that their list is in.
use Rattle.std.specs.Prelude.{ℕ, List, [], ◌∷◌, ◌++◌, map}
use Rattle.pb_wire.specs.Record.{Record}
use Rattle.pb_wire.specs.Unknown.{records_of}
use Rattle.pb_value.specs.Data.{Datum, Message, body, fields_of, unknown_of}
use Rattle.pb_value.specs.View.{value_view}
use Rattle.pb_value.specs.Change.{push_at, push_each, with_fields}
use Rattle.pb_decode_parts.specs.declared.values.run.Run.{Run}
use Rattle.pb_decode_parts.specs.Open.Parents.{Part, message_part, entry_part, group_part}

-- a value at the end of the list of number n of a part
abbrev pub put_listed : ℕ → Datum → Part → Part
put_listed n d (message_part m v) = message_part m (with_fields v (push_at n d (fields_of v)))
put_listed n d (entry_part key k x e) = entry_part key k x e
put_listed n d (group_part us) = group_part us

-- each of some values in turn
abbrev pub put_each : ℕ → List Datum → Part → Part
put_each n [] p = p
put_each n (d ∷ ds) p = put_each n ds (put_listed n d p)

-- and the same of a message
abbrev pub with_each : ℕ → List Datum → Message → Message
with_each n ds v = with_fields v (push_each n ds (fields_of v))

-- unknown records into the part they belong to; those of an entry are dropped
abbrev pub put_records : List Record → Part → Part
put_records rs (message_part m v) = message_part m (body (fields_of v) (unknown_of v ++ rs))
put_records rs (entry_part key k x e) = entry_part key k x e
put_records rs (group_part us) = group_part (us ++ rs)

-- the elements of a run: fields and unknown records change apart
abbrev pub put_run : ℕ → Run → Part → Part
put_run n run p = put_each n (map value_view run.values.items) (put_records (records_of run.undeclared.items) p)
