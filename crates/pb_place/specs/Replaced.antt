-- A message with the message at a place in it replaced by another.
use Rattle.std.specs.Prelude.{ℕ, zero, suc, List, [], ◌∷◌, if◌then◌else◌}
use Rattle.std.specs.Ordering.{nat_cmp, match_ordering}
use Rattle.pb_schema.specs.Scalar.{Scalar}
use Rattle.pb_value.specs.Data.{Datum, scalar, message, Datums, no_datums, datum, Entries, no_entries, entry, is_same_key}
use Rattle.pb_value.specs.Data.{Holding, one, list, map, Fields, no_fields, field, Message, fields_of}
use Rattle.pb_value.specs.Change.{with_fields}
pub use Rattle.pb_value.specs.Change.{in_nth, in_field, in_list, in_map}
use Rattle.pb_value.specs.View.{key_view}
use Rattle.pb_place.specs.declared.step.PlaceStep.{PlaceStep}
use Rattle.pb_place.specs.declared.step.PlaceStep.TheVariants.{Field, Index, Key}

-- a map with the value under a key changed
abbrev pub in_entry : (Datum → Datum) → Scalar → Entries → Entries
in_entry change x no_entries = no_entries
in_entry change x (entry y d es) = if is_same_key x y then entry y (change d) es else entry y d (in_entry change x es)

-- the value of a content that is one, or else this
abbrev pub value_or : Datum → Holding → Datum
value_or d (one e) = e
value_or d (list ds) = d
value_or d (map es) = d

-- a value changed as what a field holds would be
abbrev pub in_datum : (Holding → Holding) → Datum → Datum
in_datum change d = value_or d (change (one d))

-- what a field holds, changed where it is a message, a list or a map
abbrev pub in_message : (Message → Message) → Holding → Holding
in_message change (one (message v)) = one (message (change v))
in_message change (one (scalar x)) = one (scalar x)
in_message change (list ds) = list ds
in_message change (map es) = map es

-- what a field holds, with the message at a place in it replaced by another
abbrev pub replaced : List PlaceStep → Message → Holding → Holding
replaced [] new h = in_message (λ v. new) h
replaced (Field n ∷ p) new h = in_message (λ v. with_fields v (in_field (replaced p new) n (fields_of v))) h
replaced (Index i ∷ p) new h = in_list (in_nth (in_datum (replaced p new)) i) h
replaced (Key k ∷ p) new h = in_map (in_entry (in_datum (replaced p new)) (key_view k)) h

-- the message of a content that is one, or else this
abbrev pub message_or : Message → Holding → Message
message_or v (one (message b)) = b
message_or v (one (scalar x)) = v
message_or v (list ds) = v
message_or v (map es) = v

-- a message with the message at a place in it replaced by another
abbrev pub with_at : List PlaceStep → Message → Message → Message
with_at p new v = message_or v (replaced p new (one (message v)))
