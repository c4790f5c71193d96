-- The parts of what a message stands for.
use Rattle.std.proofs.Common.{◌≡◌, map, sym, ap}
use Rattle.std.specs.Prelude.{string_bytes}
use Rattle.pb_declarations.specs.Decls.{messages_of}
use Rattle.pb_declarations.specs.View.{field_view, enum_view, message_view}
use Rattle.pb_declarations.specs.declared.decl.MessageDecl.{MessageDecl, out-MessageDecl}
use Rattle.pb_declarations.proofs.ViewLemmas.{message_view-parts}
use Rattle.pb_link_names.specs.Declarations.{head_of}
use Rattle.pb_link_names.proofs.RowLemmas.{inner_of}

pub inner_of-view : (m : MessageDecl) → messages_of (map message_view (out-MessageDecl m).messages.items) ≡ inner_of (message_view m)
inner_of-view m = ap inner_of (sym (message_view-parts m))

pub name_of-view : (m : MessageDecl) → string_bytes (out-MessageDecl m).name ≡ (head_of (message_view m)).name
name_of-view m = ap (λ t. (head_of t).name) (sym (message_view-parts m))

pub enums_of-view : (m : MessageDecl) → map enum_view (out-MessageDecl m).enums.items ≡ (head_of (message_view m)).enums
enums_of-view m = ap (λ t. (head_of t).enums) (sym (message_view-parts m))

pub fields_of-view : (m : MessageDecl) → map field_view (out-MessageDecl m).fields.items ≡ (head_of (message_view m)).fields
fields_of-view m = ap (λ t. (head_of t).fields) (sym (message_view-parts m))

pub oneofs_of-view : (m : MessageDecl) → map string_bytes (out-MessageDecl m).oneofs.items ≡ (head_of (message_view m)).oneofs
oneofs_of-view m = ap (λ t. (head_of t).oneofs) (sym (message_view-parts m))

pub reserved_of-view : (m : MessageDecl) → (out-MessageDecl m).reserved.items ≡ (head_of (message_view m)).reserved
reserved_of-view m = ap (λ t. (head_of t).reserved) (sym (message_view-parts m))

pub reserved_names_of-view : (m : MessageDecl) → map string_bytes (out-MessageDecl m).reserved_names.items ≡ (head_of (message_view m)).reserved_names
reserved_names_of-view m = ap (λ t. (head_of t).reserved_names) (sym (message_view-parts m))
