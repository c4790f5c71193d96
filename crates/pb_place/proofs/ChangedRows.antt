-- Small cases of changes at places, worked out by the definitions.
use Rattle.std.proofs.Common.{◌≡◌, [], ◌∷◌, Some, None, refl}
use Rattle.pb_schema.specs.Scalar.{uint32}
use Rattle.pb_value.specs.Data.{Datum, Holding, scalar, message, no_datums, datum, no_entries, entry, one, list, map, no_fields, field, Message, body}
use Rattle.pb_value.specs.Dynamic.{Dynamic}
use Rattle.pb_value.specs.declared.body.MapKey.TheVariants as map_key
use Rattle.pb_place.specs.declared.error.ChangeError.TheVariants.{Absent}
use Rattle.pb_place.specs.declared.step.PlaceStep.TheVariants.{Field, Index, Key}
use Rattle.pb_place.specs.Changed.{clear, drop_unknown, field_place, most_at, refusal, refusal_at}
use Rattle.pb_value.specs.Change.{remove_at}
use Rattle.pb_place.specs.Replaced.{with_at}

-- the message itself, one in a field, in a list, in a map, and in a message in a list
in_place : (new v : Message) → with_at [] new v ≡ new
in_place new v = refl

in_a_field : (new v : Message) → with_at (Field 3 ∷ []) new (body (field 1 (one (scalar (uint32 5))) (field 3 (one (message v)) no_fields)) [])
    ≡ body (field 1 (one (scalar (uint32 5))) (field 3 (one (message new)) no_fields)) []
in_a_field new v = refl

in_a_list : (new v w : Message) → with_at (Field 3 ∷ Index 1 ∷ []) new (body (field 3 (list (datum (message v) (datum (message w) no_datums))) no_fields) [])
    ≡ body (field 3 (list (datum (message v) (datum (message new) no_datums))) no_fields) []
in_a_list new v w = refl

in_a_map : (new v w : Message) → with_at (Field 3 ∷ Key (map_key.U32 9) ∷ []) new
    (body (field 3 (map (entry (uint32 8) (message v) (entry (uint32 9) (message w) no_entries))) no_fields) [])
    ≡ body (field 3 (map (entry (uint32 8) (message v) (entry (uint32 9) (message new) no_entries))) no_fields) []
in_a_map new v w = refl

further_in : (new v w : Message) → with_at (Field 3 ∷ Index 0 ∷ Field 2 ∷ []) new
    (body (field 3 (list (datum (message (body (field 2 (one (message v)) no_fields) [])) (datum (message w) no_datums))) no_fields) [])
    ≡ body (field 3 (list (datum (message (body (field 2 (one (message new)) no_fields) [])) (datum (message w) no_datums))) no_fields) []
further_in new v w = refl

-- where no message is at the place, the message itself
no_such_element : (new v : Message) → with_at (Field 3 ∷ Index 1 ∷ []) new (body (field 3 (list (datum (message v) no_datums)) no_fields) [])
    ≡ body (field 3 (list (datum (message v) no_datums)) no_fields) []
no_such_element new v = refl

-- one level for each field on the way
levels_left : most_at [] ≡ 100
levels_left = refl

fewer_levels_left : most_at (Field 3 ∷ Index 0 ∷ Field 2 ∷ []) ≡ 98
fewer_levels_left = refl

-- the message and the field that a place ends at
ends : field_place (Field 3 ∷ Index 0 ∷ Field 2 ∷ []) ≡ Some (Field 3 ∷ Index 0 ∷ [], 2)
ends = refl

ends_at_no_field : field_place (Field 3 ∷ Index 0 ∷ []) ≡ None
ends_at_no_field = refl

-- nothing is at a place that ends at no field, and no message at one that is not there
absent_by_its_end : (v : Dynamic) → refusal_at (Field 3 ∷ Index 0 ∷ []) clear v ≡ Some Absent
absent_by_its_end v = refl

absent_on_the_way : (v : Dynamic) → refusal_at (Index 0 ∷ Field 3 ∷ []) clear v ≡ Some Absent
absent_on_the_way v = refl

-- clearing, and dropping unknown records, is refused for no other cause
cleared_at_will : (v : Dynamic) → refusal_at (Field 3 ∷ []) clear v ≡ None
cleared_at_will v = refl

dropped_at_will : (v : Dynamic) → refusal 0 drop_unknown (Some v) ≡ None
dropped_at_will v = refl

-- an entry removed; the last one, with which the field goes; and a key that is not there
removed : (d e : Datum) → remove_at 9 (uint32 8) (field 9 (map (entry (uint32 8) d (entry (uint32 9) e no_entries))) no_fields)
    ≡ field 9 (map (entry (uint32 9) e no_entries)) no_fields
removed d e = refl

last_removed : (h : Holding) (d : Datum) → remove_at 9 (uint32 8) (field 1 h (field 9 (map (entry (uint32 8) d no_entries)) no_fields)) ≡ field 1 h no_fields
last_removed h d = refl

no_such_key : (d : Datum) → remove_at 9 (uint32 7) (field 9 (map (entry (uint32 8) d no_entries)) no_fields) ≡ field 9 (map (entry (uint32 8) d no_entries)) no_fields
no_such_key d = refl
