-- What is known of real declarations: their numbers fit 32 bits, and their strings are UTF-8.
use Rattle.std.specs.Prelude.{⊤, ℕ, ℤ, List, IfSome, IsUtf8, FitsSigned}
use Rattle.std.specs.List.{AllByRecursion}
use Rattle.std.specs.Int.{w32}
use Rattle.pb_declarations.specs.Decls.{DeclaredField, DeclaredEnum, MessageHead, DeclaredMessage, message, DeclaredMessages}
use Rattle.pb_declarations.specs.Decls.{no_messages, more_messages, DeclaredMethod, DeclaredService, DeclaredFile}

abbrev pub IsInt32 : ℤ → Type 0
IsInt32 z = FitsSigned w32 z

pub record IsFieldInRange (f : DeclaredField) : Type 0 where
  pub name : IsUtf8 f.name
  pub number : IsInt32 f.number
  pub type_name : IfSome f.type_name IsUtf8
  pub oneof : IfSome f.oneof IsInt32

abbrev pub IsRangeInRange : ℤ × ℤ → Type 0
IsRangeInRange r = IsInt32 r.0 × IsInt32 r.1

-- a value of an enum
abbrev pub IsValueInRange : List ℕ × ℤ → Type 0
IsValueInRange v = IsUtf8 v.0 × IsInt32 v.1

pub record IsEnumInRange (e : DeclaredEnum) : Type 0 where
  pub name : IsUtf8 e.name
  pub values : AllByRecursion IsValueInRange e.values
  pub reserved : AllByRecursion IsRangeInRange e.reserved
  pub reserved_names : AllByRecursion IsUtf8 e.reserved_names

pub record IsHeadInRange (h : MessageHead) : Type 0 where
  pub name : IsUtf8 h.name
  pub fields : AllByRecursion IsFieldInRange h.fields
  pub enums : AllByRecursion IsEnumInRange h.enums
  pub oneofs : AllByRecursion IsUtf8 h.oneofs
  pub reserved : AllByRecursion IsRangeInRange h.reserved
  pub reserved_names : AllByRecursion IsUtf8 h.reserved_names

abbrev mutual
  pub IsMessageInRange : DeclaredMessage → Type 0
  IsMessageInRange (message head inner) = IsHeadInRange head × AreMessagesInRange inner

  pub AreMessagesInRange : DeclaredMessages → Type 0
  AreMessagesInRange no_messages = ⊤
  AreMessagesInRange (more_messages m ms) = IsMessageInRange m × AreMessagesInRange ms

pub record IsMethodInRange (m : DeclaredMethod) : Type 0 where
  pub name : IsUtf8 m.name
  pub input : IsUtf8 m.input
  pub output : IsUtf8 m.output

pub record IsServiceInRange (s : DeclaredService) : Type 0 where
  pub name : IsUtf8 s.name
  pub methods : AllByRecursion IsMethodInRange s.methods

pub record IsFileInRange (f : DeclaredFile) : Type 0 where
  pub name : IsUtf8 f.name
  pub package_name : IsUtf8 f.package_name
  pub imports : AllByRecursion IsUtf8 f.imports
  pub public_indexes : AllByRecursion IsInt32 f.public_indexes
  pub messages : AreMessagesInRange f.messages
  pub enums : AllByRecursion IsEnumInRange f.enums
  pub services : AllByRecursion IsServiceInRange f.services
