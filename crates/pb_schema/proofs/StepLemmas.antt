-- Which messages lie at the level of what holds them: those that are values of map entries, and none inside them.
use Rattle.std.proofs.Common.{◌≡◌, ◌≢◌, ℕ, Option, Some, None}
use Rattle.pb_wire.specs.Schema as wire
use Rattle.pb_wire.specs.Levels.{UsesLevels, NestsOnce}
use Rattle.pb_schema.specs.declared.types.Kind.{Kind}
use Rattle.pb_schema.specs.declared.types.Kind.TheVariants as kind
use Rattle.pb_schema.specs.declared.types.Shape.{Shape}
use Rattle.pb_schema.specs.declared.types.Shape.TheVariants as shape
use Rattle.pb_schema.specs.Types.{FieldView, Types, field_numbered}
use Rattle.pb_schema.specs.Context.{Context, a_message, an_entry, unknown_group, fields_in, message_in, read_singular, read_listed, read_shaped, read_field, schema_of}

-- in a message
of_message : (t m : ℕ) (d : Context) → message_in (a_message t) m ≢ wire.same_level d
of_message t m d h = cc

of_singular : (t : ℕ) (k : Kind) (d : Context) → read_singular (a_message t) k ≢ wire.same_level d
of_singular t (kind.Message m) d h = of_message t m.0 d h
of_singular t k d h = cc

of_listed : (t : ℕ) (k : Kind) (d : Context) → read_listed (a_message t) k ≢ wire.same_level d
of_listed t (kind.Message m) d h = of_message t m.0 d h
of_listed t k d h = cc

of_shaped : (t : ℕ) (s : Shape) (k : Kind) (d : Context) → read_shaped (a_message t) s k ≢ wire.same_level d
of_shaped t (shape.Map key) k d h = cc
of_shaped t (shape.List x) k d h = of_listed t k d h
of_shaped t shape.Explicit k d h = of_singular t k d h
of_shaped t shape.Implicit k d h = of_singular t k d h
of_shaped t (shape.OneofMember x) k d h = of_singular t k d h

of_field : (t : ℕ) (o : Option FieldView) (d : Context) → read_field (a_message t) o ≢ wire.same_level d
of_field t None d h = cc
of_field t (Some f) d h = of_shaped t f.shape f.kind d h

pub message_uses_levels : (pool : Types) (t : ℕ) → UsesLevels (schema_of pool).reading (a_message t)
message_uses_levels pool t k d h = of_field t (field_numbered k (fields_in pool (a_message t))) d h

-- in anything
by_message : (c : Context) (m : ℕ) (d : Context) → message_in c m ≡ wire.same_level d → d ≡ a_message m
by_message (a_message t) m d h = absurd (of_message t m d h)
by_message (an_entry key value) m d h = cc
by_message unknown_group m d h = cc

by_singular : (c : Context) (k : Kind) (d : Context) → read_singular c k ≡ wire.same_level d → (m : ℕ) × (d ≡ a_message m)
by_singular c (kind.Message m) d h = (m.0, by_message c m.0 d h)
by_singular c k d h = cc

by_listed : (c : Context) (k : Kind) (d : Context) → read_listed c k ≡ wire.same_level d → (m : ℕ) × (d ≡ a_message m)
by_listed c (kind.Message m) d h = (m.0, by_message c m.0 d h)
by_listed c k d h = cc

by_shaped : (c : Context) (s : Shape) (k : Kind) (d : Context) → read_shaped c s k ≡ wire.same_level d → (m : ℕ) × (d ≡ a_message m)
by_shaped c (shape.Map key) k d h = cc
by_shaped c (shape.List x) k d h = by_listed c k d h
by_shaped c shape.Explicit k d h = by_singular c k d h
by_shaped c shape.Implicit k d h = by_singular c k d h
by_shaped c (shape.OneofMember x) k d h = by_singular c k d h

by_field : (c : Context) (o : Option FieldView) (d : Context) → read_field c o ≡ wire.same_level d → (m : ℕ) × (d ≡ a_message m)
by_field c None d h = cc
by_field c (Some f) d h = by_shaped c f.shape f.kind d h

pub nests_once : (pool : Types) → NestsOnce (schema_of pool).reading
nests_once pool c d k h =
    let found = by_field c (field_numbered k (fields_in pool c)) d h in
    λ j e inner. message_uses_levels pool found.0 j e (rw (found.1) at inner)
