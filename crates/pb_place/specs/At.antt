-- What a message has at a place. A place is a list of steps: a field by its number, an index of a list, a key of a map.
use Rattle.std.specs.Prelude.{ℕ, List, [], ◌∷◌, Option, Some, None, option_map, option_and_then}
use Rattle.pb_schema.specs.Types.{Types}
use Rattle.pb_value.specs.Data.{Datum, Datums, Entries, Holding, one, list, map, fields_of, get_field, get_entry}
use Rattle.pb_value.specs.Dynamic.{Dynamic}
use Rattle.pb_value.specs.Inner.{nth_datum, type_named, as_message}
use Rattle.pb_value.specs.View.{key_view}
use Rattle.pb_place.specs.declared.step.PlaceStep.{PlaceStep}
use Rattle.pb_place.specs.declared.step.PlaceStep.TheVariants.{Field, Index, Key}

-- A part of a message: the message itself or one inside it, a value that is no message, a list or a map. The messages of a list or map are of the type.
pub data Part : Type 0 where
  message_part : Dynamic → Part
  scalar_part : Datum → Part
  list_part : Types → Option ℕ → Datums → Part
  map_part : Types → Option ℕ → Entries → Part

-- a value that is this message, or none
abbrev pub as_part : Option Dynamic → Datum → Part
as_part (Some v) d = message_part v
as_part None d = scalar_part d

abbrev pub value_part : Types → Option ℕ → Datum → Part
value_part pool t d = as_part (as_message pool t d) d

abbrev pub content_part : Types → Option ℕ → Holding → Part
content_part pool t (one d) = value_part pool t d
content_part pool t (list ds) = list_part pool t ds
content_part pool t (map es) = map_part pool t es

-- a step leads from a message to what a field holds, from a list to an element, and from a map to the value under a key
abbrev pub step : PlaceStep → Part → Option Part
step (Field n) (message_part v) = option_map (content_part v.pool (type_named v.pool v.kind n)) (get_field n (fields_of v.body))
step (Field n) (scalar_part d) = None
step (Field n) (list_part pool t ds) = None
step (Field n) (map_part pool t es) = None
step (Index i) (message_part v) = None
step (Index i) (scalar_part d) = None
step (Index i) (list_part pool t ds) = option_map (value_part pool t) (nth_datum ds i)
step (Index i) (map_part pool t es) = None
step (Key k) (message_part v) = None
step (Key k) (scalar_part d) = None
step (Key k) (list_part pool t ds) = None
step (Key k) (map_part pool t es) = option_map (value_part pool t) (get_entry (key_view k) es)

-- the part that all steps of a place lead to
abbrev pub part_at : List PlaceStep → Part → Option Part
part_at [] x = Some x
part_at (s ∷ p) x = option_and_then (part_at p) (step s x)

-- what a caller sees of a part
pub data Seen : Type 0 where
  whole : Dynamic → Seen
  single : Datum → Seen
  elements : Datums → Seen
  pairs : Entries → Seen

abbrev pub seen : Part → Seen
seen (message_part v) = whole v
seen (scalar_part d) = single d
seen (list_part pool t ds) = elements ds
seen (map_part pool t es) = pairs es

-- what a message has at a place
abbrev pub at : List PlaceStep → Dynamic → Option Seen
at p v = option_map seen (part_at p (message_part v))
