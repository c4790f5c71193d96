-- Which fields of the old type are members of one oneof of the new type, and whether an old message may set two of them (language guide,
-- "Oneof").
use Rattle.std.specs.Prelude.{ℕ, ◌≡◌, ◌<◌, ◌^◌, Some, slice_get, IfSome, List, [], ◌∷◌, Bool, true, false, not, option_map, length}
use Rattle.std.specs.List.{list_all, filter_map}
use Rattle.pb_schema.specs.declared.types.Shape.{Shape}
use Rattle.pb_schema.specs.declared.types.Shape.TheVariants as shape
use Rattle.pb_schema.specs.Types.{FieldView, Types, message_fields, field_numbered}
use Rattle.pb_schema.specs.Oneofs.{is_member, member_numbers}

-- two fields of a type are members of one oneof
abbrev pub share_oneof : Shape → Shape → Bool
share_oneof (shape.OneofMember o) s = is_member o s
share_oneof shape.Implicit s = false
share_oneof shape.Explicit s = false
share_oneof (shape.List _) s = false
share_oneof (shape.Map _) s = false

-- a message sets at most one of the fields of these shapes: there is only one, or they are all members of one oneof
abbrev pub at_most_one : List Shape → Bool
at_most_one [] = true
at_most_one (s ∷ ss) = list_all (share_oneof s) ss

-- the shapes that the fields of some numbers have
abbrev pub shapes_of : List FieldView → List ℕ → List Shape
shapes_of fs numbers = filter_map (λ n. option_map (λ f. f.shape) (field_numbered n fs)) numbers

-- of the members of a oneof of the new type, an old message may set two
abbrev pub is_crowded : List FieldView → List FieldView → ℕ → Bool
is_crowded fs gs o = not (at_most_one (shapes_of fs (member_numbers o gs)))

-- the oneofs of the new type, each with whether it is crowded; no field is a member of one with a larger index than 32 bits hold
pub record HasCrowds (old : Types) (m : ℕ) (new : Types) (n : ℕ) (table : List Bool) : Type 0 where
  pub size : IfSome (slice_get new.messages n) (λ t. length table ≡ length t.oneofs)
  pub exact : (o : ℕ) → o < length table → o < 2 ^ 32 → slice_get table o ≡ Some (is_crowded (message_fields old m) (message_fields new n) o)
