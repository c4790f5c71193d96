-- The contents of the files and messages of a pool, while its messages are nested from the last one to the first.
use Rattle.std.specs.Prelude.{◌≡◌, None, ◌<◌, ℕ, List, [], ◌∷◌, ◌++◌, length, map, filter, drop, take}
use Rattle.std.specs.Prelude.{reverse, ◌==◌, ◌&&◌, if◌then◌else◌, Option, Some, option_map, slice_get}
use Rattle.pb_schema.specs.Types.{MessageView, EnumView, Types}
use Rattle.pb_declarations.specs.Decls.{DeclaredEnum, DeclaredMessage}
use Rattle.pb_declarations.specs.View.{enum_view, message_view}
use Rattle.pb_link.specs.declared.declaring.nesting.Inside.{Inside}
use Rattle.pb_link.specs.ToDecls.{is_parent, is_outermost, numbered, declared_enum, declared_message}

pub record Insides : Type 0 where
  pub messages : List DeclaredMessage
  pub enums : List DeclaredEnum

abbrev pub inside_view : Inside → Insides
inside_view i = record { messages = map message_view i.messages.items; enums = map enum_view i.enums.items }

abbrev pub with_message : DeclaredMessage → Insides → Insides
with_message m i = record { messages = i.messages ++ m ∷ []; enums = i.enums }

abbrev pub with_enum : DeclaredEnum → Insides → Insides
with_enum e i = record { messages = i.messages; enums = i.enums ++ e ∷ [] }

-- the contents at an index change, if the index is in range
pub record ChangesAt (index : ℕ) (change : Insides → Insides) (old new : List Inside) : Type 0 where
  pub size : length new ≡ length old
  pub exact : (i : ℕ) (x : Insides) → option_map inside_view (slice_get old i) ≡ Some x
      → option_map inside_view (slice_get new i) ≡ Some (if i == index then change x else x)

-- the contents of a file, or of a message, change, and all else stays
abbrev pub PlacesAt : ℕ → Option ℕ → (Insides → Insides) → List Inside → List Inside → List Inside → List Inside → Type 0
PlacesAt file None change old_files old_messages files messages = ChangesAt file change old_files files × (messages ≡ old_messages)
PlacesAt file (Some p) change old_files old_messages files messages = (files ≡ old_files) × ChangesAt p change old_messages messages

-- the declaration of a message, with the messages inside it to any depth
abbrev pub whole_message : Types → ℕ × MessageView → DeclaredMessage
whole_message ts m = declared_message (length ts.messages) ts m

-- those of these messages and enums that are directly in a message, the last message first, and likewise in a file
abbrev pub inside_message : Types → List (ℕ × MessageView) → List EnumView → ℕ → Insides
inside_message ts ms es p = record {
  messages = reverse (map (whole_message ts) (filter (λ m. is_parent p m.1.parent) ms));
  enums = map declared_enum (filter (λ e. is_parent p e.parent) es);
}

abbrev pub inside_file : Types → List (ℕ × MessageView) → List EnumView → ℕ → Insides
inside_file ts ms es i = record {
  messages = reverse (map (whole_message ts) (filter (λ m. (i == m.1.file) && is_outermost m.1.parent) ms));
  enums = map declared_enum (filter (λ e. (i == e.file) && is_outermost e.parent) es);
}

pub record AreInside (n : ℕ) (shown : ℕ → Insides) (held : List Inside) : Type 0 where
  pub size : length held ≡ n
  pub each : (i : ℕ) → i < n → option_map inside_view (slice_get held i) ≡ Some (shown i)

-- the contents of each file and of each of the first messages, from the messages from an index on and the first enums
pub record AreNested (ts : Types) (left taken : ℕ) (files messages : List Inside) : Type 0 where
  pub in_files : AreInside (length ts.files) (inside_file ts (drop left (numbered ts)) (take taken ts.enums)) files
  pub in_messages : AreInside left (inside_message ts (drop left (numbered ts)) (take taken ts.enums)) messages
