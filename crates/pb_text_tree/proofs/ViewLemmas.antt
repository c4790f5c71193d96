-- What the code's values represent, part by part, and with one more.
use Rattle.std.proofs.Common.{◌≡◌, ℕ, List, [], ◌∷◌, ◌++◌, map, rules, refl, ap, ◌∙◌, Vec, Global}
use Rattle.std.proofs.lemmas.List.{map_push}
use Rattle.pb_text_tree.specs.Grammar.{with_field, with_message}
use Rattle.pb_text_tree.specs.Tree.{scalar, message, scalars, messages}
use Rattle.pb_text_tree.specs.View.{Named, Braced, fields_from, messages_from, field_view, fields_view, message_view, messages_view, name_view, placed_view, scalar_view, value_view}
use Rattle.pb_text_tree.specs.declared.value.PlacedScalar.{PlacedScalar}
use Rattle.pb_text_tree.specs.declared.value.TextField.{TextField, the_lemmas as field_lemmas}
use Rattle.pb_text_tree.specs.declared.value.TextMessage.{TextMessage, roll-TextMessage, the_lemmas as message_lemmas}
use Rattle.pb_text_tree.specs.declared.value.TextValue.{the_lemmas as value_lemmas}
use Rattle.pb_text_tree.specs.declared.value.TextValue.TheVariants as value

pub field_view-parts : (f : TextField) → field_view f ≡ (f.at, name_view f.name, value_view f.value)
field_view-parts f = search (rules, field_lemmas)

pub message_view-roll : (at : ℕ) (v : Vec TextField Global) → message_view (roll-TextMessage record { at = at; fields = v }) ≡ (at, fields_view v.items)
message_view-roll at v = search (rules, message_lemmas)

pub value_view-Scalar : (p : PlacedScalar) → value_view (value.Scalar p) ≡ scalar p.at (scalar_view p.scalar)
value_view-Scalar p = search (rules, value_lemmas)

pub value_view-Message : (m : TextMessage) → value_view (value.Message m) ≡ message (message_view m).0 (message_view m).1
value_view-Message m = search (rules, value_lemmas)

pub value_view-Scalars : (v : Vec PlacedScalar Global) → value_view (value.Scalars v) ≡ scalars (map placed_view v.items)
value_view-Scalars v = search (rules, value_lemmas)

pub value_view-Messages : (v : Vec TextMessage Global) → value_view (value.Messages v) ≡ messages (messages_view v.items)
value_view-Messages v = search (rules, value_lemmas)

from_push : (fs : List Named) (f : Named) → fields_from (fs ++ f ∷ []) ≡ with_field (fields_from fs) f
from_push [] f = refl
from_push (g ∷ fs) f = ap (λ r. Rattle.pb_text_tree.specs.Tree.field g.0 g.1 g.2 r) (from_push fs f)

braced_push : (ms : List Braced) (m : Braced) → messages_from (ms ++ m ∷ []) ≡ with_message (messages_from ms) m
braced_push [] m = refl
braced_push (n ∷ ms) m = ap (λ r. Rattle.pb_text_tree.specs.Tree.each n.0 n.1 r) (braced_push ms m)

pub fields_push : (old new : List TextField) (f : TextField) → new ≡ old ++ f ∷ [] → fields_view new ≡ with_field (fields_view old) (field_view f)
fields_push old new f e = ap fields_view e ∙ ap fields_from (map_push field_view old f) ∙ from_push (map field_view old) (field_view f)

pub messages_push : (old new : List TextMessage) (m : TextMessage) → new ≡ old ++ m ∷ [] → messages_view new ≡ with_message (messages_view old) (message_view m)
messages_push old new m e = ap messages_view e ∙ ap messages_from (map_push message_view old m) ∙ braced_push (map message_view old) (message_view m)
