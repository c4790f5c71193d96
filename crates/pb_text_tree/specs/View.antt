-- The trees that the code's values represent.
use Rattle.std.specs.Prelude.{ℕ, List, [], ◌∷◌, map}
use Rattle.pb_text_tree.specs.Tree.{Scalar, quoted, plain, Name, word, number, extension, any, Placed, Value, scalar, message, scalars, messages, Fields, no_fields, field, Messages, no_messages, each}
use Rattle.pb_text_tree.specs.declared.value.PlacedScalar.{PlacedScalar}
use Rattle.pb_text_tree.specs.declared.value.TextName.{TextName}
use Rattle.pb_text_tree.specs.declared.value.TextName.TheVariants as name
use Rattle.pb_text_tree.specs.declared.value.TextScalar.{TextScalar}
use Rattle.pb_text_tree.specs.declared.value.TextScalar.TheVariants as form
use Rattle.pb_text_tree.specs.declared.value.TextField.{TextField, fold-TextField}
use Rattle.pb_text_tree.specs.declared.value.TextMessage.{TextMessage, fold-TextMessage}
use Rattle.pb_text_tree.specs.declared.value.TextValue.{TextValue, fold-TextValue}
use Rattle.pb_text_tree.specs.declared.value.TextValue.TheOpen.{TextField-F, TextMessage-F, TextValue-F}

abbrev pub scalar_view : TextScalar → Scalar
scalar_view (form.Quoted v) = quoted v.items
scalar_view (form.Plain negative kind text) = plain negative kind text.now

abbrev pub placed_view : PlacedScalar → Placed
placed_view p = (p.at, scalar_view p.scalar)

abbrev pub name_view : TextName → Name
name_view (name.Word w) = word w.now
name_view (name.Number w) = number w.now
name_view (name.Extension v) = extension v.items
name_view (name.Any d m) = any d.items m.items

-- a field: where its name begins, the name, and the value
abbrev pub Named : Type 0
Named = ℕ × Name × Value

abbrev pub Braced : Type 0
Braced = ℕ × Fields

abbrev pub fields_from : List Named → Fields
fields_from [] = no_fields
fields_from (f ∷ fs) = field f.0 f.1 f.2 (fields_from fs)

abbrev pub messages_from : List Braced → Messages
messages_from [] = no_messages
messages_from (m ∷ ms) = each m.0 m.1 (messages_from ms)

-- one level, with each part inside already seen as its value
abbrev pub field_step : TextField-F Value Named Braced → Named
field_step f = (f.at, name_view f.name, f.value)

abbrev pub message_step : TextMessage-F Value Named Braced → Braced
message_step m = (m.at, fields_from m.fields.items)

abbrev pub value_step : TextValue-F Value Named Braced → Value
value_step (TextValue-F.Scalar p) = scalar p.at (scalar_view p.scalar)
value_step (TextValue-F.Message m) = message m.0 m.1
value_step (TextValue-F.Scalars v) = scalars (map placed_view v.items)
value_step (TextValue-F.Messages v) = messages (messages_from v.items)

abbrev pub field_view : TextField → Named
field_view = fold-TextField Value Named Braced value_step field_step message_step

abbrev pub message_view : TextMessage → Braced
message_view = fold-TextMessage Value Named Braced value_step field_step message_step

abbrev pub value_view : TextValue → Value
value_view = fold-TextValue Value Named Braced value_step field_step message_step

abbrev pub fields_view : List TextField → Fields
fields_view fs = fields_from (map field_view fs)

abbrev pub messages_view : List TextMessage → Messages
messages_view ms = messages_from (map message_view ms)
