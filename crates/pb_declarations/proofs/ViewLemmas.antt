-- What a message stands for, part by part.
use Rattle.std.proofs.Common.{◌≡◌, rules, map, Vec, Global, String, ℤ, Bool}
use Rattle.std.specs.Prelude.{string_bytes}
use Rattle.pb_declarations.specs.Decls.{message, messages_of}
use Rattle.pb_declarations.specs.View.{field_view, enum_view, message_view}
use Rattle.pb_declarations.specs.declared.decl.FieldDecl.{FieldDecl}
use Rattle.pb_declarations.specs.declared.decl.EnumDecl.{EnumDecl}
use Rattle.pb_declarations.specs.declared.decl.MessageDecl.{MessageDecl, out-MessageDecl, roll-MessageDecl, the_lemmas as message_lemmas}

pub message_view-roll :
    (name : String Global) (fields : Vec FieldDecl Global) (messages : Vec MessageDecl Global) (enums : Vec EnumDecl Global) (oneofs : Vec (String Global) Global) (reserved : Vec (ℤ × ℤ) Global) (reserved_names : Vec (String Global) Global) (entry : Bool) →
    message_view (roll-MessageDecl record { name = name; fields = fields; messages = messages; enums = enums; oneofs = oneofs; reserved = reserved; reserved_names = reserved_names; map_entry = entry })
    ≡ message (record {
      name = string_bytes name;
      fields = map field_view fields.items;
      enums = map enum_view enums.items;
      oneofs = map string_bytes oneofs.items;
      reserved = reserved.items;
      reserved_names = map string_bytes reserved_names.items;
      is_entry = entry;
    }) (messages_of (map message_view messages.items))
message_view-roll name fields messages enums oneofs reserved reserved_names entry = search (rules, message_lemmas)

pub message_view-parts : (m : MessageDecl) → message_view m ≡ message (record {
  name = string_bytes (out-MessageDecl m).name;
  fields = map field_view (out-MessageDecl m).fields.items;
  enums = map enum_view (out-MessageDecl m).enums.items;
  oneofs = map string_bytes (out-MessageDecl m).oneofs.items;
  reserved = (out-MessageDecl m).reserved.items;
  reserved_names = map string_bytes (out-MessageDecl m).reserved_names.items;
  is_entry = (out-MessageDecl m).map_entry;
}) (messages_of (map message_view (out-MessageDecl m).messages.items))
message_view-parts m = search (rules, message_lemmas)
