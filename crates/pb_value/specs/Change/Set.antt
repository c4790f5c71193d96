-- What setting a field makes of a message's fields, and when it is refused. A change judges what is new alone: the field first, then what its
-- messages hold, and the depth last.
use Rattle.std.specs.Prelude.{◌≡◌, ◌≤◌, ℕ, List, true, ◌==◌, nat_le, Option, Some, None, IsSomeAnd, if◌then◌else◌}
use Rattle.pb_schema.specs.declared.types.Shape.{Shape}
use Rattle.pb_schema.specs.declared.types.Shape.TheVariants as shape
use Rattle.pb_schema.specs.Types.{FieldView, Types, message_fields, field_numbered}
use Rattle.pb_value.specs.Data.{Holding, Fields, Message, body, fields_of, unknown_of, put_field, drop_field, holding_depth}
use Rattle.pb_value.specs.Judge.{is_absence, has_shape}
use Rattle.pb_value.specs.WellFormed.{IsHeld, holds_declared}
use Rattle.pb_value.specs.Oneof.{member_set}
use Rattle.pb_value.specs.Cause.{or_else, unless, at_field, content_cause, held_cause}
use Rattle.pb_value.specs.declared.error.ValueError.{ValueError}
use Rattle.pb_value.specs.declared.error.ValueError.TheVariants.{TooDeep}

abbrev pub other_than : ℕ → Option ℕ → Option ℕ
other_than n None = None
other_than n (Some k) = if k == n then None else Some k

-- the member that gives way to the field of number n: the one of its oneof that is set
abbrev pub gives_way : List FieldView → Shape → ℕ → Fields → Option ℕ
gives_way all (shape.OneofMember o) n fs = other_than n (member_set all o fs)
gives_way all shape.Implicit n fs = None
gives_way all shape.Explicit n fs = None
gives_way all (shape.List _) n fs = None
gives_way all (shape.Map _) n fs = None

abbrev pub drop_some : Option ℕ → Fields → Fields
drop_some None fs = fs
drop_some (Some k) fs = drop_field k fs

-- the fields with h at n, which is left out where an absent field is the same
abbrev pub stored_at : List FieldView → Shape → ℕ → Holding → Fields → Fields
stored_at all s n h fs = if is_absence s h then drop_field n fs else put_field n h (drop_some (gives_way all s n fs) fs)

-- the same, where there is a field of number n
abbrev pub set_at : List FieldView → ℕ → Holding → Fields → Fields
set_at all n h fs = at (field_numbered n all)
  where
    at : Option FieldView → Fields
    at None = fs
    at (Some f) = stored_at all f.shape n h fs

abbrev pub with_fields : Message → Fields → Message
with_fields v fs = body fs (unknown_of v)

-- the fields are changed so, and nothing else
abbrev pub ChangesFields : (Fields → Fields) → Message → Message → Type 0
ChangesFields change old new = new ≡ with_fields old (change (fields_of old))

-- why a content cannot be set
abbrev pub set_cause : Types → ℕ → ℕ → Holding → Option ValueError
set_cause pool m n h =
    at_field (field_numbered n (message_fields pool m))
    (λ f. or_else (content_cause f.shape f.kind h) (or_else (held_cause pool f.shape f.kind h) (unless (nat_le (holding_depth h) 100) TooDeep)))

-- the field of number n, which has this shape, can hold the content
abbrev pub Allowed : Types → ℕ → ℕ → Shape → Holding → Type 0
Allowed pool m n s h =
    IsSomeAnd (field_numbered n (message_fields pool m)) (λ f. (f.shape ≡ s) × (has_shape f.shape h ≡ true) × IsHeld pool f.shape f.kind h
    × (holding_depth h ≤ 100) × (holds_declared pool f.kind h ≡ true))

-- a field of the shape holds one value
abbrev pub IsSingle : Shape → Type 0
IsSingle shape.Implicit = Unit {0}
IsSingle shape.Explicit = Unit {0}
IsSingle (shape.OneofMember _) = Unit {0}
IsSingle (shape.List p) = ⊥
IsSingle (shape.Map k) = ⊥
