-- What declarations are written as fits the fixed types: nothing but its depth can refuse it.
use Rattle.std.proofs.Common.{◌≡◌, ℕ, ℤ, pos, List, [], ◌∷◌, Bool, true, false, ◌&&◌, Option, Some, None, refl, sym, ap, ◌∙◌, map, subst, inl, inr}
use Rattle.std.specs.Prelude.{codes, nat_le, ◌⊎◌}
use Rattle.std.specs.List.{AllByRecursion}
use Rattle.pb_schema.specs.declared.types.Kind.{Kind}
use Rattle.pb_schema.specs.declared.types.Kind.TheVariants as kind
use Rattle.pb_schema.specs.declared.types.Shape.TheVariants as shape
use Rattle.pb_schema.specs.Types.{FieldView, message_fields, field_numbered}
use Rattle.pb_schema.specs.Kinds.{closed_enum}
use Rattle.pb_schema.specs.Closed.{declares_in}
use Rattle.pb_value.specs.WellFormed.{datums_declared}
use Rattle.pb_value.specs.Data.{Datum, scalar, message as one_message, datums_of, Holding, list, message_depth}
use Rattle.pb_value.specs.Judge.{is_value_of, are_values_of}
use Rattle.pb_value.specs.Cause.{or_else, unless, shape_at, at_field, with_member, stored_cause, datum_cause, datums_cause, held_cause, fields_cause, body_cause, message_cause}
use Rattle.pb_value.specs.declared.error.ValueError.{ValueError}
use Rattle.pb_value.specs.declared.error.ValueError.TheVariants.{WrongKind, NoSuchValue, TooDeep}
use Rattle.pb_declarations.specs.Decls.{DeclaredField, DeclaredEnum, MessageHead, DeclaredMessage, message, DeclaredMessages, no_messages, more_messages, DeclaredMethod, DeclaredService, DeclaredFile}
use Rattle.pb_descr_message.specs.Pool.{descriptor_types, message as message_kind, many, the_set}
use Rattle.pb_declarations.specs.TypeNumbers.{number_of_type}
use Rattle.pb_descr_message.specs.Writing.{fields_with, with_field, a_text, a_number, a_mark, a_list, a_message, options_with, optional, packed_options, field_contents, field_body, range_contents, range_body, value_contents, value_body, text_datum, int_datum, enum_contents, enum_body, oneof_body, message_contents, message_body, message_bodies, method_contents, method_body, service_contents, service_body, package_text, syntax_text, file_contents, file_body, set_body}

-- no member of a oneof is set
abbrev unset : ℕ → Bool
unset o = false

abbrev content_cause_at : List FieldView → ℕ → Holding → Option ValueError
content_cause_at all n h = at_field (field_numbered n all) (λ f. or_else (stored_cause unset f.shape f.kind h) (held_cause descriptor_types f.shape f.kind h))

-- what stands at a number fits the field, if anything does
abbrev Fits : List FieldView → ℕ → Option Holding → Type 0
Fits all n None = Unit {0}
Fits all n (Some h) = (content_cause_at all n h ≡ None) × (with_member (shape_at (field_numbered n all)) unset ≡ unset)

with_fits : (all : List FieldView) (n : ℕ) (o : Option Holding) (es : List (ℕ × Option Holding)) → Fits all n o → fields_cause descriptor_types all unset (fields_with es) ≡ None → fields_cause descriptor_types all unset (with_field n o (fields_with es)) ≡ None
with_fits all n None es fits later = later
with_fits all n (Some h) es fits later = ap (λ c. or_else c (fields_cause descriptor_types all (with_member (shape_at (field_numbered n all)) unset) (fields_with es))) fits.0 ∙ ap (λ seen. fields_cause descriptor_types all seen (fields_with es)) fits.1 ∙ later

all_fit : (all : List FieldView) (es : List (ℕ × Option Holding)) → AllByRecursion (λ e. Fits all e.0 e.1) es → fields_cause descriptor_types all unset (fields_with es) ≡ None
all_fit all [] h = refl
all_fit all (e ∷ es) h = with_fits all e.0 e.1 es h.0 (all_fit all es h.1)

-- a message of a type, made of contents that fit its fields
made_of : (m : ℕ) (es : List (ℕ × Option Holding)) → AllByRecursion (λ e. Fits (message_fields descriptor_types m) e.0 e.1) es → datum_cause descriptor_types (message_kind m) (a_message es) ≡ None
made_of m es h = ap (λ c. or_else c None) (all_fit (message_fields descriptor_types m) es h)

optional_fits : {X : Type 0} (all : List FieldView) (n : ℕ) (f : X → Option Holding) → ((x : X) → Fits all n (f x)) → (o : Option X) → Fits all n (optional f o)
optional_fits all n f each None = tt
optional_fits all n f each (Some x) = each x

-- an element of a list of a kind
abbrev IsElement : Kind → Datum → Type 0
IsElement k d = (is_value_of k d ≡ true) × (datum_cause descriptor_types k d ≡ None)

elements_of_kind : (k : Kind) (ds : List Datum) → AllByRecursion (IsElement k) ds → are_values_of k (datums_of ds) ≡ true
elements_of_kind k [] h = refl
elements_of_kind k (d ∷ ds) h = ap (λ b. b && are_values_of k (datums_of ds)) h.0.0 ∙ elements_of_kind k ds h.1

elements_fit : (k : Kind) (ds : List Datum) → AllByRecursion (IsElement k) ds → datums_cause descriptor_types k (datums_of ds) ≡ None
elements_fit k [] h = refl
elements_fit k (d ∷ ds) h = ap (λ c. or_else c (datums_cause descriptor_types k (datums_of ds))) h.0.1 ∙ elements_fit k ds h.1

abbrev list_cause : Bool → Option ValueError → Option ValueError
list_cause b c = or_else (or_else (or_else (unless b WrongKind) None) None) c

-- of a kind that is no closed enum each number stands
pub all_declared : (k : Kind) → closed_enum k ≡ None → (ds : List Datum) → datums_declared descriptor_types k (datums_of ds) ≡ true
all_declared k never [] = refl
all_declared k never (scalar x ∷ ds) = ap (λ o. declares_in descriptor_types o x && datums_declared descriptor_types k (datums_of ds)) never ∙ all_declared k never ds
all_declared k never (one_message b ∷ ds) = all_declared k never ds

-- a list of a kind, as a field that holds lists
list_fits : (all : List FieldView) (n : ℕ) (f : FieldView) → field_numbered n all ≡ Some f → f.shape ≡ shape.List false → closed_enum f.kind ≡ None → (ds : List Datum) → AllByRecursion (IsElement f.kind) ds → Fits all n (a_list ds)
list_fits all n f there many never [] h = tt
list_fits all n f there many never (d ∷ ds) h = (
  ap (λ o. at_field o (λ f. or_else (stored_cause unset f.shape f.kind held) (held_cause descriptor_types f.shape f.kind held))) there
      ∙ ap (λ s. or_else (stored_cause unset s f.kind held) (held_cause descriptor_types s f.kind held)) many
      ∙ ap (λ b. list_cause b (or_else (unless (datums_declared descriptor_types f.kind (datums_of (d ∷ ds))) NoSuchValue) (datums_cause descriptor_types f.kind (datums_of (d ∷ ds))))) (elements_of_kind f.kind (d ∷ ds) h)
      ∙ ap (λ b. or_else (unless b NoSuchValue) (datums_cause descriptor_types f.kind (datums_of (d ∷ ds)))) (all_declared f.kind never (d ∷ ds))
      ∙ elements_fit f.kind (d ∷ ds) h,
  ap (λ o. with_member (shape_at o) unset) there ∙ ap (λ s. with_member s unset) many,
)
  where
    held : Holding
    held = list (datums_of (d ∷ ds))

each_fits : {X : Type 0} (k : Kind) (w : X → Datum) → ((x : X) → IsElement k (w x)) → (xs : List X) → AllByRecursion (IsElement k) (map w xs)
each_fits k w each [] = tt
each_fits k w each (x ∷ xs) = (each x, each_fits k w each xs)

range_element : (r : ℤ × ℤ) → IsElement (message_kind 3) (range_body r)
range_element r = (refl, made_of 3 (range_contents r) ((refl, refl), ((refl, refl), tt)))

enum_range_element : (r : ℤ × ℤ) → IsElement (message_kind 8) (range_body r)
enum_range_element r = (refl, made_of 8 (range_contents r) ((refl, refl), ((refl, refl), tt)))

text_element : (s : List ℕ) → IsElement kind.Text (text_datum s)
text_element s = (refl, refl)

int_element : (z : ℤ) → IsElement kind.Int32 (int_datum z)
int_element z = (refl, refl)

value_element : (v : List ℕ × ℤ) → IsElement (message_kind 9) (value_body v)
value_element v = (refl, made_of 9 (value_contents v) ((refl, refl), ((refl, refl), tt)))

oneof_element : (s : List ℕ) → IsElement (message_kind 6) (oneof_body s)
oneof_element s = (refl, made_of 6 ((1, a_text s) ∷ []) ((refl, refl), tt))

abbrev fields_of_type : ℕ → List FieldView
fields_of_type m = message_fields descriptor_types m

packed_fits : (b : Bool) → Fits (fields_of_type 5) 8 (packed_options b)
packed_fits b = (refl, refl)

marked : (b : Bool) → Fits (fields_of_type 5) 17 (a_mark b)
marked true = (refl, refl)
marked false = tt

field_element : (f : DeclaredField) → IsElement (message_kind 5) (field_body f)
field_element f = (
  refl,
  made_of 5 (field_contents f)
      ((refl, refl), ((refl, refl), ((refl, refl), (optional_fits (fields_of_type 5) 5 (λ c. a_number (pos (number_of_type c))) (λ c. (refl, refl)) f.type_code, (optional_fits (fields_of_type 5) 6 a_text (λ s. (refl, refl)) f.type_name, (optional_fits (fields_of_type 5) 8 packed_options packed_fits f.packed, (optional_fits (fields_of_type 5) 9 a_number (λ z. (refl, refl)) f.oneof, (marked f.is_optional, tt)))))))),
)

alias_fits : (b : Bool) → Fits (fields_of_type 7) 3 (options_with 2 b)
alias_fits true = (refl, refl)
alias_fits false = tt

entry_fits : (b : Bool) → Fits (fields_of_type 2) 7 (options_with 7 b)
entry_fits true = (refl, refl)
entry_fits false = tt

enum_element : (e : DeclaredEnum) → IsElement (message_kind 7) (enum_body e)
enum_element e = (
  refl,
  made_of 7 (enum_contents e)
      ((refl, refl), (list_fits (fields_of_type 7) 2 (many 2 (codes "value") (message_kind 9)) refl refl refl (map value_body e.values) (each_fits (message_kind 9) value_body value_element e.values), (alias_fits e.allows_alias, (list_fits (fields_of_type 7) 4 (many 4 (codes "reserved_range") (message_kind 8)) refl refl refl (map range_body e.reserved) (each_fits (message_kind 8) range_body enum_range_element e.reserved), (list_fits (fields_of_type 7) 5 (many 5 (codes "reserved_name") kind.Text) refl refl refl (map text_datum e.reserved_names) (each_fits kind.Text text_datum text_element e.reserved_names), tt))))),
)

message_with_fits : (head : MessageHead) (inner : List Datum) → AllByRecursion (IsElement (message_kind 2)) inner → datum_cause descriptor_types (message_kind 2) (a_message (message_contents head inner)) ≡ None
message_with_fits head inner fit =
    made_of 2 (message_contents head inner)
    ((refl, refl), (list_fits (fields_of_type 2) 2 (many 2 (codes "field") (message_kind 5)) refl refl refl (map field_body head.fields) (each_fits (message_kind 5) field_body field_element head.fields), (list_fits (fields_of_type 2) 3 (many 3 (codes "nested_type") (message_kind 2)) refl refl refl inner fit, (list_fits (fields_of_type 2) 4 (many 4 (codes "enum_type") (message_kind 7)) refl refl refl (map enum_body head.enums) (each_fits (message_kind 7) enum_body enum_element head.enums), (entry_fits head.is_entry, (list_fits (fields_of_type 2) 8 (many 8 (codes "oneof_decl") (message_kind 6)) refl refl refl (map oneof_body head.oneofs) (each_fits (message_kind 6) oneof_body oneof_element head.oneofs), (list_fits (fields_of_type 2) 9 (many 9 (codes "reserved_range") (message_kind 3)) refl refl refl (map range_body head.reserved) (each_fits (message_kind 3) range_body range_element head.reserved), (list_fits (fields_of_type 2) 10 (many 10 (codes "reserved_name") kind.Text) refl refl refl (map text_datum head.reserved_names) (each_fits kind.Text text_datum text_element head.reserved_names), tt))))))))

mutual
  message_fits : (m : DeclaredMessage) → IsElement (message_kind 2) (message_body m)
  message_fits (message head inner) = (refl, message_with_fits head (message_bodies inner) (messages_fit inner))

  messages_fit : (ms : DeclaredMessages) → AllByRecursion (IsElement (message_kind 2)) (message_bodies ms)
  messages_fit no_messages = tt
  messages_fit (more_messages m ms) = (message_fits m, messages_fit ms)

streams : (n : ℕ) (b : Bool) → (n ≡ 5) ⊎ (n ≡ 6) → Fits (fields_of_type 11) n (a_mark b)
streams n false which = tt
streams n true (inl five) = subst (λ m. Fits (fields_of_type 11) m (a_mark true)) (sym five) (refl, refl)
streams n true (inr six) = subst (λ m. Fits (fields_of_type 11) m (a_mark true)) (sym six) (refl, refl)

method_element : (m : DeclaredMethod) → IsElement (message_kind 11) (method_body m)
method_element m = (refl, made_of 11 (method_contents m) ((refl, refl), ((refl, refl), ((refl, refl), (streams 5 m.client_streams (inl refl), (streams 6 m.server_streams (inr refl), tt))))))

service_element : (s : DeclaredService) → IsElement (message_kind 10) (service_body s)
service_element s = (
  refl,
  made_of 10 (service_contents s)
      ((refl, refl), (list_fits (fields_of_type 10) 2 (many 2 (codes "method") (message_kind 11)) refl refl refl (map method_body s.methods) (each_fits (message_kind 11) method_body method_element s.methods), tt)),
)

package_fits : (s : List ℕ) → Fits (fields_of_type 1) 2 (package_text s)
package_fits [] = tt
package_fits (c ∷ cs) = (refl, refl)

syntax_fits : (two : Bool) → Fits (fields_of_type 1) 12 (syntax_text two)
syntax_fits true = tt
syntax_fits false = (refl, refl)

file_element : (f : DeclaredFile) → IsElement (message_kind 1) (file_body f)
file_element f = (
  refl,
  made_of 1 (file_contents f)
      ((refl, refl), (package_fits f.package_name, (list_fits (fields_of_type 1) 3 (many 3 (codes "dependency") kind.Text) refl refl refl (map text_datum f.imports) (each_fits kind.Text text_datum text_element f.imports), (list_fits (fields_of_type 1) 4 (many 4 (codes "message_type") (message_kind 2)) refl refl refl (message_bodies f.messages) (messages_fit f.messages), (list_fits (fields_of_type 1) 5 (many 5 (codes "enum_type") (message_kind 7)) refl refl refl (map enum_body f.enums) (each_fits (message_kind 7) enum_body enum_element f.enums), (list_fits (fields_of_type 1) 6 (many 6 (codes "service") (message_kind 10)) refl refl refl (map service_body f.services) (each_fits (message_kind 10) service_body service_element f.services), (list_fits (fields_of_type 1) 10 (many 10 (codes "public_dependency") kind.Int32) refl refl refl (map int_datum f.public_indexes) (each_fits kind.Int32 int_datum int_element f.public_indexes), (syntax_fits f.is_proto2, tt)))))))),
)

set_fits : (files : List DeclaredFile) → body_cause descriptor_types the_set (set_body files) ≡ None
set_fits files =
    ap (λ c. or_else c None)
    (all_fit (fields_of_type 0) ((1, a_list (map file_body files)) ∷ [])
    (list_fits (fields_of_type 0) 1 (many 1 (codes "file") (message_kind 1)) refl refl refl (map file_body files) (each_fits (message_kind 1) file_body file_element files), tt))

-- a set is refused for its depth alone
pub set_refused_by_depth : (files : List DeclaredFile) → message_cause descriptor_types the_set (set_body files) ≡ unless (nat_le (message_depth (set_body files)) 100) TooDeep
set_refused_by_depth files = ap (λ c. or_else c (unless (nat_le (message_depth (set_body files)) 100) TooDeep)) (set_fits files)
