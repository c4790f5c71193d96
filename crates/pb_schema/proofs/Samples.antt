-- Schemas to try definitions on:
-- message T { int32 a=1; string b=2; T c=3; double d=4; repeated int32 e=6; oneof o { uint32 x=7; T y=8; } map<string,int32> m=9;
-- optional bool p=10; sint32 s=11; map<uint32,T> n=12; repeated sint32 v=14 [packed=false]; repeated string u=13; }
use Rattle.std.proofs.Common.{ℕ, [], ◌∷◌, None, Some, true, false}
use Rattle.std.specs.Prelude.{codes, pos}
use Rattle.pb_schema.specs.declared.types.Kind.{Kind}
use Rattle.pb_schema.specs.declared.types.Kind.TheVariants as kind
use Rattle.pb_schema.specs.declared.types.Shape.{Shape}
use Rattle.pb_schema.specs.declared.types.Shape.TheVariants as shape
use Rattle.pb_schema.specs.Types.{FieldView, MessageView, Types}

abbrev pub the_message : Kind
the_message = kind.Message (record { 0 = 0 })

abbrev pub field : ℕ → Kind → Shape → FieldView
field n k s = record { name = []; number = n; kind = k; shape = s }

abbrev pub e_field : FieldView
e_field = field 6 kind.Int32 (shape.List true)

abbrev pub m_field : FieldView
m_field = field 9 kind.Int32 (shape.Map kind.Text)

abbrev pub v_field : FieldView
v_field = field 14 kind.Sint32 (shape.List false)

abbrev pub message_t : MessageView
message_t = record {
  name = codes "T";
  file = 0;
  parent = None;
  fields =
      field 1 kind.Int32 shape.Implicit ∷ field 2 kind.Text shape.Implicit ∷ field 3 the_message shape.Explicit
      ∷ field 4 kind.Double shape.Implicit ∷ e_field ∷ field 7 kind.Uint32 (shape.OneofMember 0)
      ∷ field 8 the_message (shape.OneofMember 0) ∷ m_field ∷ field 10 kind.Bool shape.Explicit
      ∷ field 11 kind.Sint32 shape.Implicit ∷ field 12 the_message (shape.Map kind.Uint32)
      ∷ field 13 kind.Text (shape.List false) ∷ v_field ∷ [];
  oneofs = codes "o" ∷ [];
}

abbrev pub pool_t : Types
pool_t = record { files = record { name = codes "t.proto"; package_name = []; imports = []; proto2 = false } ∷ []; messages = message_t ∷ []; enums = [] }

-- and of a proto2 file:
-- enum E { ONE = 1; TWO = 2; } message Q { optional int32 a=1; repeated int32 e=2; optional group G=3 { optional int32 x=1; repeated int32 y=2; }
-- optional E k=4; repeated E l=5 [packed=true]; repeated group H=6 { optional group G=3 { .. } } map<string,Q> m=7; }
abbrev pub closed : Kind
closed = kind.ClosedEnum (record { 0 = 0 })

abbrev pub group_at : ℕ → Kind
group_at m = kind.Group (record { 0 = m })

abbrev pub message_q : MessageView
message_q = record {
  name = codes "Q";
  file = 0;
  parent = None;
  fields =
      field 1 kind.Int32 shape.Explicit ∷ field 2 kind.Int32 (shape.List false) ∷ field 3 (group_at 1) shape.Explicit ∷ field 4 closed shape.Explicit
      ∷ field 5 closed (shape.List true) ∷ field 6 (group_at 2) (shape.List false) ∷ field 7 the_message (shape.Map kind.Text) ∷ [];
  oneofs = [];
}

abbrev pub message_g : MessageView
message_g = record {
  name = codes "G";
  file = 0;
  parent = Some 0;
  fields = field 1 kind.Int32 shape.Explicit ∷ field 2 kind.Int32 (shape.List false) ∷ [];
  oneofs = [];
}

abbrev pub message_h : MessageView
message_h = record { name = codes "H"; file = 0; parent = Some 0; fields = field 3 (group_at 1) shape.Explicit ∷ []; oneofs = [] }

abbrev pub pool_q : Types
pool_q = record {
  files = record { name = codes "q.proto"; package_name = []; imports = []; proto2 = true } ∷ [];
  messages = message_q ∷ message_g ∷ message_h ∷ [];
  enums = record { name = codes "E"; file = 0; parent = None; values = (codes "ONE", pos 1) ∷ (codes "TWO", pos 2) ∷ [] } ∷ [];
}
