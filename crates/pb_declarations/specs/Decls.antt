-- What files declare, as trees (descriptor.proto). Names are the bytes of their texts.
use Rattle.std.specs.Prelude.{ℕ, ℤ, List, [], ◌∷◌, Bool, Option}
use Rattle.pb_declarations.specs.declared.decl.TypeCode.{TypeCode}

pub record DeclaredField : Type 0 where
  pub name : List ℕ
  pub number : ℤ
  pub is_repeated : Bool
  pub type_code : Option TypeCode
  pub type_name : Option (List ℕ)
  pub packed : Option Bool
  -- the index of its oneof
  pub oneof : Option ℤ
  -- the mark `proto3_optional`
  pub is_optional : Bool

pub record DeclaredEnum : Type 0 where
  pub name : List ℕ
  pub values : List (List ℕ × ℤ)
  pub allows_alias : Bool
  -- starts and ends; an end is in its range
  pub reserved : List (ℤ × ℤ)
  pub reserved_names : List (List ℕ)

-- what a message declares itself, its nested messages aside
pub record MessageHead : Type 0 where
  pub name : List ℕ
  pub fields : List DeclaredField
  pub enums : List DeclaredEnum
  pub oneofs : List (List ℕ)
  -- starts and ends; an end is after its range
  pub reserved : List (ℤ × ℤ)
  pub reserved_names : List (List ℕ)
  -- the mark `map_entry`
  pub is_entry : Bool

mutual
  pub data DeclaredMessage : Type 0 where
    message : MessageHead → DeclaredMessages → DeclaredMessage

  pub data DeclaredMessages : Type 0 where
    no_messages : DeclaredMessages
    more_messages : DeclaredMessage → DeclaredMessages → DeclaredMessages

pub record DeclaredMethod : Type 0 where
  pub name : List ℕ
  pub input : List ℕ
  pub output : List ℕ
  pub client_streams : Bool
  pub server_streams : Bool

pub record DeclaredService : Type 0 where
  pub name : List ℕ
  pub methods : List DeclaredMethod

pub record DeclaredFile : Type 0 where
  pub name : List ℕ
  pub package_name : List ℕ
  -- names of files
  pub imports : List (List ℕ)
  -- indexes of imports
  pub public_indexes : List ℤ
  pub messages : DeclaredMessages
  pub enums : List DeclaredEnum
  pub services : List DeclaredService
  -- the syntax is `proto2`, else `proto3`
  pub is_proto2 : Bool

abbrev pub messages_of : List DeclaredMessage → DeclaredMessages
messages_of [] = no_messages
messages_of (m ∷ ms) = more_messages m (messages_of ms)

abbrev pub inner_of : DeclaredMessage → DeclaredMessages
inner_of (message head inner) = inner
