-- Files of sources that are read leniently, as a set of them is read: resolved, and without the marks of maps of enums in files of proto2.
use Rattle.std.specs.Prelude.{◌≡◌, pos, List, map, Bool, false, not, ◌&&◌, ◌==◌, if◌then◌else◌, Option, Some, None}
use Rattle.std.specs.List.{list_any}
use Rattle.std.specs.Ordering.{int_eq}
use Rattle.pb_declarations.specs.declared.decl.TypeCode.{TypeCode}
use Rattle.pb_declarations.specs.TypeNumbers.{number_of_type}
use Rattle.pb_declarations.specs.Decls.{DeclaredField, MessageHead, DeclaredMessage, message, DeclaredMessages, no_messages, more_messages, DeclaredFile}
use Rattle.pb_link_rules.specs.Rules.{World}
use Rattle.pb_link_rules.specs.Link.{IsWorldOf}
use Rattle.pb_link.specs.Resolved.{resolved_files}

abbrev pub is_enum_code : Option TypeCode → Bool
is_enum_code None = false
is_enum_code (Some c) = number_of_type c == 14

-- the value of an entry, and of an enum
abbrev pub is_enum_value : DeclaredField → Bool
is_enum_value f = int_eq f.number (pos 2) && is_enum_code f.type_code

-- an entry whose values are of no enum
abbrev pub is_map : MessageHead → Bool
is_map head = head.is_entry && not (list_any is_enum_value head.fields)

-- any other entry is a message like others
abbrev pub head_without_map : MessageHead → MessageHead
head_without_map head = record head { is_entry = is_map head }

abbrev mutual
  pub message_without_maps : DeclaredMessage → DeclaredMessage
  message_without_maps (message head inner) = message (head_without_map head) (messages_without_maps inner)

  pub messages_without_maps : DeclaredMessages → DeclaredMessages
  messages_without_maps no_messages = no_messages
  messages_without_maps (more_messages m ms) = more_messages (message_without_maps m) (messages_without_maps ms)

-- a file of proto3 stays
abbrev pub file_without_maps : DeclaredFile → DeclaredFile
file_without_maps f = if f.is_proto2 then record f { messages = messages_without_maps f.messages } else f

-- Each type name that means a type is a full one, with the type's number; and a map in a file of proto2 whose values are of an enum is the
-- list of its entries. No rule of linking is asked.
pub record ListsEnumMaps (files answer : List DeclaredFile) : Type 0 where
  pub world : World
  pub is_world : IsWorldOf files world
  pub made : answer ≡ map file_without_maps (resolved_files world files)
