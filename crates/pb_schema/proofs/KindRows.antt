-- Each kind's row of the table of kinds, worked out by the definitions: its wire type, whether it may be packed, whether it may be a map's key, and
-- whether it is in files of proto2 alone; and the types that kinds name.
use Rattle.std.proofs.Common.{◌≡◌, ℕ, true, false, Some, None, refl}
use Rattle.std.specs.Prelude.{Bool, Option}
use Rattle.pb_schema.specs.declared.types.Kind.{Kind}
use Rattle.pb_schema.specs.declared.types.Kind.TheVariants as kind
use Rattle.pb_schema.specs.Kinds.{wire_type_of, is_packable, is_key_kind, is_of_proto2, message_of_kind, enum_of_kind}

abbrev HasRow : Kind → ℕ → Bool → Bool → Bool → Type 0
HasRow k w packed key proto2 = (wire_type_of k ≡ w) × (is_packable k ≡ packed) × (is_key_kind k ≡ key) × (is_of_proto2 k ≡ proto2)

double-row : HasRow kind.Double 1 true false false
double-row = (refl, refl, refl, refl)

float-row : HasRow kind.Float 5 true false false
float-row = (refl, refl, refl, refl)

int64-row : HasRow kind.Int64 0 true true false
int64-row = (refl, refl, refl, refl)

uint64-row : HasRow kind.Uint64 0 true true false
uint64-row = (refl, refl, refl, refl)

int32-row : HasRow kind.Int32 0 true true false
int32-row = (refl, refl, refl, refl)

fixed64-row : HasRow kind.Fixed64 1 true true false
fixed64-row = (refl, refl, refl, refl)

fixed32-row : HasRow kind.Fixed32 5 true true false
fixed32-row = (refl, refl, refl, refl)

bool-row : HasRow kind.Bool 0 true true false
bool-row = (refl, refl, refl, refl)

text-row : HasRow kind.Text 2 false true false
text-row = (refl, refl, refl, refl)

bytes-row : HasRow kind.Bytes 2 false false false
bytes-row = (refl, refl, refl, refl)

uint32-row : HasRow kind.Uint32 0 true true false
uint32-row = (refl, refl, refl, refl)

sfixed32-row : HasRow kind.Sfixed32 5 true true false
sfixed32-row = (refl, refl, refl, refl)

sfixed64-row : HasRow kind.Sfixed64 1 true true false
sfixed64-row = (refl, refl, refl, refl)

sint32-row : HasRow kind.Sint32 0 true true false
sint32-row = (refl, refl, refl, refl)

sint64-row : HasRow kind.Sint64 0 true true false
sint64-row = (refl, refl, refl, refl)

enum-row : HasRow (kind.Enum (record { 0 = 0 })) 0 true false false
enum-row = (refl, refl, refl, refl)

message-row : HasRow (kind.Message (record { 0 = 0 })) 2 false false false
message-row = (refl, refl, refl, refl)

group-row : HasRow (kind.Group (record { 0 = 0 })) 3 false false true
group-row = (refl, refl, refl, refl)

closed_enum-row : HasRow (kind.ClosedEnum (record { 0 = 0 })) 0 true false true
closed_enum-row = (refl, refl, refl, refl)

-- the type that a kind names
abbrev NamesTypes : Kind → Option ℕ → Option ℕ → Type 0
NamesTypes k message enum = (message_of_kind k ≡ message) × (enum_of_kind k ≡ enum)

text-names : NamesTypes kind.Text None None
text-names = (refl, refl)

enum-names : NamesTypes (kind.Enum (record { 0 = 3 })) None (Some 3)
enum-names = (refl, refl)

closed_enum-names : NamesTypes (kind.ClosedEnum (record { 0 = 3 })) None (Some 3)
closed_enum-names = (refl, refl)

message-names : NamesTypes (kind.Message (record { 0 = 3 })) (Some 3) None
message-names = (refl, refl)

group-names : NamesTypes (kind.Group (record { 0 = 3 })) (Some 3) None
group-names = (refl, refl)
