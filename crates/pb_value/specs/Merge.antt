-- One message over another, field by field (encoding guide, "Last One Wins", "Oneofs", "Maps").
use Rattle.std.specs.Prelude.{ℕ, zero, suc, List, [], ◌∷◌, ◌++◌, Bool, false, Option, Some, None, is_some, if◌then◌else◌}
use Rattle.std.specs.List.{list_any}
use Rattle.pb_schema.specs.declared.types.Kind.{Kind}
use Rattle.pb_schema.specs.declared.types.Shape.{Shape}
use Rattle.pb_schema.specs.declared.types.Shape.TheVariants as shape
use Rattle.pb_schema.specs.Types.{FieldView, Types, message_fields}
use Rattle.pb_schema.specs.Oneofs.{members}
use Rattle.pb_value.specs.Data.{message, joined_datums, put_entries, Holding, one, list, map, Fields, no_fields}
use Rattle.pb_value.specs.Data.{get_field, put_field, put_some, Message, body, fields_of, unknown_of, empty}
use Rattle.pb_value.specs.Canon.{message_type}
use Rattle.pb_value.specs.Change.{gives_way, drop_some}

-- a member of the oneof is set
abbrev pub sets_oneof : List FieldView → Fields → Shape → Bool
sets_oneof all gs (shape.OneofMember o) = list_any (λ f. is_some (get_field f.number gs)) (members o all)
sets_oneof all gs shape.Implicit = false
sets_oneof all gs shape.Explicit = false
sets_oneof all gs (shape.List _) = false
sets_oneof all gs (shape.Map _) = false

module _ (merged : ℕ → Message → Message → Message) where
  -- messages are merged, lists joined, the second's entries put over the first's, and else the second counts
  abbrev pub both : Kind → Holding → Holding → Holding
  both k (one (message a)) (one (message b)) = one (message (merged (message_type k) a b))
  both k (list ds) (list es) = list (joined_datums ds es)
  both k (map ds) (map es) = map (put_entries es ds)
  both k g h = h

  -- What a field holds after the merge. A member of a oneof gives way to another that the second sets.
  abbrev pub merged_at : List FieldView → FieldView → Fields → Option Holding → Option Holding → Option Holding
  merged_at all f gs None h = h
  merged_at all f gs (Some g) (Some h) = Some (both f.kind g h)
  merged_at all f gs (Some g) None = if sets_oneof all gs f.shape then None else Some g

  abbrev pub merged_fields : List FieldView → List FieldView → Fields → Fields → Fields
  merged_fields all [] fs gs = no_fields
  merged_fields all (f ∷ rest) fs gs = put_some f.number (merged_at all f gs (get_field f.number fs) (get_field f.number gs)) (merged_fields all rest fs gs)

-- w merged over v, as messages of at most this many levels
unfoldable pub merged_within : Types → ℕ → ℕ → Message → Message → Message
merged_within pool zero m v w = empty
merged_within pool (suc levels) m v w =
    body (merged_fields (merged_within pool levels) (message_fields pool m) (message_fields pool m) (fields_of v) (fields_of w)) (unknown_of v ++ unknown_of w)

-- w over v; the levels are 0 to 100
unfoldable pub merged : Types → ℕ → Message → Message → Message
merged pool m v w = merged_within pool 101 m v w

-- ONE FIELD

module _ (merge : ℕ → Message → Message → Message) where
  -- what a field holds with the second's content over what it held
  abbrev pub merged_over : Kind → Option Holding → Holding → Holding
  merged_over k None h = h
  merged_over k (Some g) h = both merge k g h

  -- the fields with the second's content over that of number n
  abbrev pub put_merged : Kind → ℕ → Holding → Fields → Fields
  put_merged k n h fs = put_field n (merged_over k (get_field n fs) h) fs

  -- the fields with the second's content over that of the field f, whose oneof's other member gives way
  abbrev pub merged_in : List FieldView → FieldView → Holding → Fields → Fields
  merged_in all f h fs = put_over (drop_some (gives_way all f.shape f.number fs) fs)
    where
      put_over : Fields → Fields
      put_over gs = put_field f.number (merged_over f.kind (get_field f.number gs) h) gs
