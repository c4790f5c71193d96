-- What one more entry makes of a message's fields, and when it is refused.
use Rattle.std.specs.Prelude.{◌≡◌, ◌≤◌, ℕ, suc, Bool, true, false, ◌&&◌, nat_le, Option, Some, IsSomeAnd}
use Rattle.pb_schema.specs.declared.types.Kind.{Kind}
use Rattle.pb_schema.specs.declared.types.Shape.{Shape}
use Rattle.pb_schema.specs.declared.types.Shape.TheVariants as shape
use Rattle.pb_schema.specs.Types.{Types, message_fields, field_numbered}
use Rattle.pb_schema.specs.Scalar.{Scalar}
use Rattle.pb_schema.specs.Kinds.{IsOfKind}
use Rattle.pb_value.specs.Data.{Datum, Entries, no_entries, entry, Holding, map, Fields, get_field, put_field, get_entry, put_entry, levels_in_entry}
use Rattle.pb_value.specs.Judge.{is_value_of, is_key_of, IsKeyWithin}
use Rattle.pb_value.specs.WellFormed.{IsDatum}
use Rattle.pb_value.specs.Cause.{or_else, unless, at_field, datum_cause}
use Rattle.pb_value.specs.declared.error.ValueError.{ValueError}
use Rattle.pb_value.specs.declared.error.ValueError.TheVariants.{WrongKind, WrongShape, TooDeep}

-- the map that a field holds; where there is none it is empty
abbrev pub entries_of : Option Holding → Entries
entries_of (Some (map es)) = es
entries_of _ = no_entries

-- what a field then holds: its map with d under the key x, in place of the earlier value
abbrev pub inserted : Scalar → Datum → Option Holding → Holding
inserted x d h = map (put_entry x d (entries_of h))

-- the fields with d under the key x of the map of number n
abbrev pub insert_at : ℕ → Scalar → Datum → Fields → Fields
insert_at n x d fs = put_field n (inserted x d (get_field n fs)) fs

-- the value under the key x of the map of number n
abbrev pub entry_at : ℕ → Scalar → Fields → Option Datum
entry_at n x fs = get_entry x (entries_of (get_field n fs))

abbrev pub is_map : Shape → Bool
is_map (shape.Map _) = true
is_map shape.Implicit = false
is_map shape.Explicit = false
is_map (shape.OneofMember _) = false
is_map (shape.List _) = false

-- why a value cannot be put under a key
abbrev pub insert_cause : Types → ℕ → ℕ → Scalar → Datum → Option ValueError
insert_cause pool m n x d =
    at_field (field_numbered n (message_fields pool m))
    (λ f. or_else (unless (is_key_of f.shape x && is_value_of f.kind d) WrongKind) (or_else (unless (is_map f.shape) WrongShape)
    (or_else (datum_cause pool f.kind d) (unless (nat_le (suc (levels_in_entry d)) 100) TooDeep))))

-- the map of number n can hold the value under the key
abbrev pub IsEntry : Types → ℕ → ℕ → Scalar → Datum → Type 0
IsEntry pool m n x d =
    IsSomeAnd (field_numbered n (message_fields pool m))
    (λ f. (is_map f.shape ≡ true) × IsKeyWithin f.shape x × IsDatum pool f.kind d × (suc (levels_in_entry d) ≤ 100))

abbrev pub AreKeys : Kind → Entries → Type 0
AreKeys k no_entries = Unit {0}
AreKeys k (entry x d es) = IsOfKind k x × AreKeys k es

-- a key and those of some entries are of one kind
abbrev pub FitsKeys : Scalar → Entries → Type 0
FitsKeys x es = (k : Kind) × IsOfKind k x × AreKeys k es
