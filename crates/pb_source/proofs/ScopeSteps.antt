-- The full names of entry messages, part by part.
use Rattle.std.proofs.Common.{◌≡◌, ◌<◌, ◌≤◌, ◌+◌, ℕ, zero, suc, List, [], ◌∷◌, ◌++◌, length, take, drop, get_or, set, map, refl, ap, ◌∙◌, arith, rules, string_bytes, Vec, Global}
use Rattle.pb_schema.specs.Names.{in_scope}
use Rattle.pb_declarations.specs.Decls.{DeclaredMessage, message, more_messages, messages_of}
use Rattle.pb_declarations.specs.View.{field_view, enum_view, message_view}
use Rattle.pb_declarations.specs.declared.decl.FieldDecl.{FieldDecl}
use Rattle.pb_declarations.specs.declared.decl.MessageDecl.{MessageDecl, out-MessageDecl, roll-MessageDecl, the_lemmas as message_lemmas}
use Rattle.pb_declarations.specs.declared.decl.MessageDecl.TheOpen.{MessageDecl-F}
use Rattle.pb_source.specs.Meaning.{scoped_field, scoped, all_scoped}

-- ---- one element after another

-- those below an index as they are, and the others by f
abbrev pub mapped_from : {X A : Type 0} → (X → A) → (A → A) → List X → ℕ → List A
mapped_from view f xs i = map view (take i xs) ++ map f (map view (drop i xs))

next_mapped : {X A : Type 0} (view : X → A) (f : A → A) (xs : List X) (i : ℕ) (x y : X) → i < length xs → x ≡ get_or xs i x → view y ≡ f (view x)
    → mapped_from view f (set xs i y) (suc i) ≡ mapped_from view f xs i
next_mapped view f [] i x y l e h = absurd (omega arith)
next_mapped view f (z ∷ zs) zero x y l e h = ap (λ v. v ∷ map f (map view zs)) (h ∙ ap (λ x. f (view x)) e)
next_mapped view f (z ∷ zs) (suc i) x y l e h = ap (λ vs. view z ∷ vs) (next_mapped view f zs i x y (omega arith) e h)

-- the element at the index, by f
pub mapped_more : {X A : Type 0} (view : X → A) (f : A → A) (xs : List X) (i : ℕ) (x y : X) → i < length xs → x ≡ get_or xs i x → view y ≡ f (view x)
    → mapped_from view f (set xs i y) (i + 1) ≡ mapped_from view f xs i
mapped_more view f xs i x y l e h = let one : i + 1 ≡ suc i = omega arith in ap (mapped_from view f (set xs i y)) one ∙ next_mapped view f xs i x y l e h

pub mapped_all : {X A : Type 0} (view : X → A) (f : A → A) (xs : List X) (i : ℕ) → length xs ≤ i → map view xs ≡ mapped_from view f xs i
mapped_all view f [] zero l = refl
mapped_all view f [] (suc i) l = refl
mapped_all view f (x ∷ xs) zero l = absurd (omega arith)
mapped_all view f (x ∷ xs) (suc i) l = ap (λ vs. view x ∷ vs) (mapped_all view f xs i (omega arith))

-- ---- messages

-- what the parts of a message stand for
abbrev pub parts_view : MessageDecl-F MessageDecl → DeclaredMessage
parts_view m = message (record {
  name = string_bytes m.name;
  fields = map field_view m.fields.items;
  enums = map enum_view m.enums.items;
  oneofs = map string_bytes m.oneofs.items;
  reserved = m.reserved.items;
  reserved_names = map string_bytes m.reserved_names.items;
  is_entry = m.map_entry;
}) (messages_of (map message_view m.messages.items))

-- a message whose fields are set, and then its messages
abbrev pub with_fields : MessageDecl → Vec FieldDecl Global → MessageDecl
with_fields m fields = roll-MessageDecl record (out-MessageDecl m) { fields = fields }

pub same_messages : (m : MessageDecl) (fields : Vec FieldDecl Global) → (out-MessageDecl (with_fields m fields)).messages ≡ (out-MessageDecl m).messages
same_messages m fields = search (rules, message_lemmas)

pub parts_set : (m : MessageDecl) (fields : Vec FieldDecl Global) (messages : Vec MessageDecl Global)
    → message_view (roll-MessageDecl record (out-MessageDecl (with_fields m fields)) { messages = messages }) ≡ parts_view (record (out-MessageDecl m) { fields = fields; messages = messages })
parts_set m fields messages = search (rules, message_lemmas)

all_scoped-list : (scope : List ℕ) (ms : List DeclaredMessage) → messages_of (map (scoped scope) ms) ≡ all_scoped scope (messages_of ms)
all_scoped-list scope [] = refl
all_scoped-list scope (m ∷ ms) = ap (more_messages (scoped scope m)) (all_scoped-list scope ms)

pub messages_scoped : (scope : List ℕ) (old new : List MessageDecl) → map message_view new ≡ map (scoped scope) (map message_view old)
    → messages_of (map message_view new) ≡ all_scoped scope (messages_of (map message_view old))
messages_scoped scope old new h = ap messages_of h ∙ all_scoped-list scope (map message_view old)

-- a message whose fields and messages are scoped
pub parts_scoped : (scope : List ℕ) (m : MessageDecl-F MessageDecl) (fields : Vec FieldDecl Global) (messages : Vec MessageDecl Global)
    → map field_view fields.items ≡ map (scoped_field (in_scope scope (string_bytes m.name))) (map field_view m.fields.items)
    → map message_view messages.items ≡ map (scoped (in_scope scope (string_bytes m.name))) (map message_view m.messages.items)
    → parts_view (record m { fields = fields; messages = messages }) ≡ scoped scope (parts_view m)
parts_scoped scope m fields messages h k = λ i. message (record {
  name = string_bytes m.name;
  fields = h i;
  enums = map enum_view m.enums.items;
  oneofs = map string_bytes m.oneofs.items;
  reserved = m.reserved.items;
  reserved_names = map string_bytes m.reserved_names.items;
  is_entry = m.map_entry;
}) (messages_scoped (in_scope scope (string_bytes m.name)) m.messages.items messages.items k i)
