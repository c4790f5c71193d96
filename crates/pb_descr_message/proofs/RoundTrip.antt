-- Reading what was written gives the declarations back.
use Rattle.std.proofs.Common.{◌≡◌, ℕ, ℤ, pos, List, [], ◌∷◌, Bool, true, false, ◌&&◌, ◌||◌, ◌==◌, length, Option, Some, None, refl, sym, ap, ◌∙◌, subst, arith, map, ◌<◌}
use Rattle.std.specs.Prelude.{if◌then◌else◌, nat_lt, option_and_then, unwrap_or, filter_map, codes}
use Rattle.std.specs.Str.{bytes_eq}
use Rattle.std.specs.List.{list_all}
use Rattle.std.specs.declared.cmp.Ordering.{Ordering}
use Rattle.std.specs.declared.cmp.Ordering.TheVariants.{Less, Equal, Greater}
use Rattle.std.specs.Ordering.{nat_cmp, int_eq, match_ordering}
use Rattle.std.proofs.lemmas.Bool.{false≢true}
use Rattle.std.proofs.lemmas.Bool.Decides.{nat_tests}
use Rattle.std.specs.Cmp.{nat_cmp_is, ranked}
use Rattle.std.specs.Option.{option_map_or}
use Rattle.pb_schema.specs.Scalar.{boolean}
use Rattle.pb_value.specs.Data.{Datum, scalar, datums_of, Holding, one, Fields, no_fields, field, get_field}
use Rattle.pb_declarations.specs.declared.decl.TypeCode.{TypeCode}
use Rattle.pb_declarations.specs.declared.decl.TypeCode.TheVariants as code
use Rattle.pb_declarations.specs.Decls.{DeclaredField, DeclaredEnum, MessageHead, DeclaredMessage, message, DeclaredMessages, no_messages, more_messages, DeclaredMethod, DeclaredService, DeclaredFile}
use Rattle.pb_descr_message.specs.Held.{one_held, list_held, int_in, bool_in, fields_in, bool_at, elements, text_in}
use Rattle.pb_declarations.specs.TypeNumbers.{type_of_number}
use Rattle.pb_descr_message.specs.Reading.{enum_in, service_in, head_in, message_in, messages_at, messages_in, messages_listed, file_in, files_in, field_in, value_in, range_in, method_in, oneof_in}
use Rattle.pb_descr_message.specs.Contents.{is_rising}
use Rattle.pb_declarations.specs.TypeNumbers.{number_of_type}
use Rattle.pb_descr_message.specs.Writing.{field_contents, enum_contents, message_contents, method_contents, service_contents, file_contents, options_with, text_datum, int_datum, enum_body, service_body, message_body, message_bodies, package_text, syntax_text, file_body, set_body, with_field, fields_with, field_body, value_body, range_body, method_body, oneof_body, a_list, a_mark, a_text, a_number, optional, packed_options}

-- what stands at a number of a list
abbrev pub option_at : ℕ → List (ℕ × Option Holding) → Option Holding
option_at n [] = None
option_at n (e ∷ es) = match_ordering (nat_cmp n e.0) (option_at n es) e.1 (option_at n es)

and_left : (a b : Bool) → (a && b) ≡ true → a ≡ true
and_left true b h = refl
and_left false b h = h

and_right : (a b : Bool) → (a && b) ≡ true → b ≡ true
and_right true b h = h
and_right false b h = absurd (false≢true h)

less_cmp : (n k : ℕ) → nat_lt n k ≡ true → nat_cmp n k ≡ Less
less_cmp n k h = sym (nat_cmp_is n k Less (below n k h))
  where
    below : (x y : ℕ) → nat_lt x y ≡ true → x < y
    below x y e = grind (arith, nat_tests)

equal_cmp : (n k : ℕ) → nat_cmp n k ≡ Equal → n ≡ k
equal_cmp n k h = ranked n k Equal (sym h)

absent : (n : ℕ) (es : List (ℕ × Option Holding)) → list_all (λ f. nat_lt n f.0) es ≡ true → option_at n es ≡ None
absent n [] h = refl
absent n (e ∷ es) h = ap (λ o. match_ordering o (option_at n es) e.1 (option_at n es)) (less_cmp n e.0 (and_left (nat_lt n e.0) (list_all (λ f. nat_lt n f.0) es) h)) ∙ absent n es (and_right (nat_lt n e.0) (list_all (λ f. nat_lt n f.0) es) h)

step : (n k : ℕ) (o : Option Holding) (fs : Fields) (rest : Option Holding) (c : Ordering) → nat_cmp n k ≡ c → get_field n fs ≡ rest → (n ≡ k → rest ≡ None) → get_field n (with_field k o fs) ≡ match_ordering c rest o rest
step n k None fs rest Less same held none = held
step n k None fs rest Equal same held none = held ∙ none (equal_cmp n k same)
step n k None fs rest Greater same held none = held
step n k (Some h) fs rest c same held none = ap (λ d. match_ordering d (get_field n fs) (Some h) (get_field n fs)) same ∙ ap (λ r. match_ordering c r (Some h) r) held

pub get_with : (n : ℕ) (es : List (ℕ × Option Holding)) → is_rising es ≡ true → get_field n (fields_with es) ≡ option_at n es
get_with n [] h = refl
get_with n (e ∷ es) h =
    step n e.0 e.1 (fields_with es) (option_at n es) (nat_cmp n e.0) refl (get_with n es (and_right (list_all (λ f. nat_lt e.0 f.0) es) (is_rising es) h))
    (λ same. absent n es (subst (λ k. list_all (λ f. nat_lt k f.0) es ≡ true) (sym same) (and_left (list_all (λ f. nat_lt e.0 f.0) es) (is_rising es) h)))

value_back : (v : List ℕ × ℤ) → value_in (value_body v) ≡ v
value_back v = refl

type_back : (o : Option TypeCode) → option_and_then type_of_number (option_and_then int_in (one_held (optional (λ c. a_number (pos (number_of_type c))) o))) ≡ o
type_back None = refl
type_back (Some code.Double) = refl
type_back (Some code.Float) = refl
type_back (Some code.Int64) = refl
type_back (Some code.Uint64) = refl
type_back (Some code.Int32) = refl
type_back (Some code.Fixed64) = refl
type_back (Some code.Fixed32) = refl
type_back (Some code.Bool) = refl
type_back (Some code.Text) = refl
type_back (Some code.Group) = refl
type_back (Some code.Message) = refl
type_back (Some code.Bytes) = refl
type_back (Some code.Uint32) = refl
type_back (Some code.Enum) = refl
type_back (Some code.Sfixed32) = refl
type_back (Some code.Sfixed64) = refl
type_back (Some code.Sint32) = refl
type_back (Some code.Sint64) = refl

text_back : (o : Option (List ℕ)) → option_and_then text_in (one_held (optional a_text o)) ≡ o
text_back None = refl
text_back (Some s) = refl

number_back : (o : Option ℤ) → option_and_then int_in (one_held (optional a_number o)) ≡ o
number_back None = refl
number_back (Some z) = refl

packed_back : (o : Option Bool) → bool_at 2 (option_map_or fields_in (one_held (optional packed_options o)) no_fields) ≡ o
packed_back None = refl
packed_back (Some b) = refl

mark_back : (b : Bool) → unwrap_or (option_and_then bool_in (one_held (a_mark b))) false ≡ b
mark_back true = refl
mark_back false = refl

label_back : (b : Bool) → int_eq (unwrap_or (option_and_then int_in (one_held (a_number (if b then pos 3 else pos 1)))) (pos 1)) (pos 3) ≡ b
label_back true = refl
label_back false = refl

-- a field that was written is read back
pub field_back : (f : DeclaredField) → field_in (field_body f) ≡ f
field_back f = λ i. record {
  name = (ap (λ o. unwrap_or (option_and_then text_in (one_held o)) []) (get_with 1 es refl)) i;
  number = (ap (λ o. unwrap_or (option_and_then int_in (one_held o)) (pos 0)) (get_with 3 es refl)) i;
  is_repeated = (ap (λ o. int_eq (unwrap_or (option_and_then int_in (one_held o)) (pos 1)) (pos 3)) (get_with 4 es refl) ∙ label_back f.is_repeated) i;
  type_code = (ap (λ o. option_and_then type_of_number (option_and_then int_in (one_held o))) (get_with 5 es refl) ∙ type_back f.type_code) i;
  type_name = (ap (λ o. option_and_then text_in (one_held o)) (get_with 6 es refl) ∙ text_back f.type_name) i;
  packed = (ap (λ o. bool_at 2 (option_map_or fields_in (one_held o) no_fields)) (get_with 8 es refl) ∙ packed_back f.packed) i;
  oneof = (ap (λ o. option_and_then int_in (one_held o)) (get_with 9 es refl) ∙ number_back f.oneof) i;
  is_optional = (ap (λ o. unwrap_or (option_and_then bool_in (one_held o)) false) (get_with 17 es refl) ∙ mark_back f.is_optional) i;
}
  where
    es : List (ℕ × Option Holding)
    es = field_contents f

list_back : (ds : List Datum) → elements (datums_of ds) ≡ ds
list_back [] = refl
list_back (d ∷ ds) = ap (λ l. d ∷ l) (list_back ds)

-- a list that was written is read back
pub held_back : (ds : List Datum) → list_held (a_list ds) ≡ ds
held_back [] = refl
held_back (d ∷ ds) = list_back (d ∷ ds)

pub map_back : {X : Type 0} (reader : Datum → X) (writer : X → Datum) → ((x : X) → reader (writer x) ≡ x) → (xs : List X) → map reader (map writer xs) ≡ xs
map_back reader writer back [] = refl
map_back reader writer back (x ∷ xs) = λ i. back x i ∷ map_back reader writer back xs i

texts_back : (xs : List (List ℕ)) → filter_map text_in (map text_datum xs) ≡ xs
texts_back [] = refl
texts_back (x ∷ xs) = ap (λ l. x ∷ l) (texts_back xs)

ints_back : (xs : List ℤ) → filter_map int_in (map int_datum xs) ≡ xs
ints_back [] = refl
ints_back (x ∷ xs) = ap (λ l. x ∷ l) (ints_back xs)

-- parts of a list field
parts_back : {X : Type 0} (reader : Datum → X) (writer : X → Datum) → ((x : X) → reader (writer x) ≡ x) → (xs : List X) → map reader (list_held (a_list (map writer xs))) ≡ xs
parts_back reader writer back xs = ap (map reader) (held_back (map writer xs)) ∙ map_back reader writer back xs

option_back : (n : ℕ) (b : Bool) → option_at n ((n, a_mark true) ∷ []) ≡ Some (one (scalar (boolean true))) → unwrap_or (bool_at n (option_map_or fields_in (one_held (options_with n b)) no_fields)) false ≡ b
option_back n true h = ap (λ o. unwrap_or (option_and_then bool_in (one_held o)) false) (get_with n ((n, a_mark true) ∷ []) refl ∙ h)
option_back n false h = refl

pub enum_back : (e : DeclaredEnum) → enum_in (enum_body e) ≡ e
enum_back e = λ i. record {
  name = (ap (λ o. unwrap_or (option_and_then text_in (one_held o)) []) (get_with 1 es refl)) i;
  values = (ap (λ o. map value_in (list_held o)) (get_with 2 es refl) ∙ parts_back value_in value_body value_back e.values) i;
  allows_alias = (ap (λ o. unwrap_or (bool_at 2 (option_map_or fields_in (one_held o) no_fields)) false) (get_with 3 es refl) ∙ option_back 2 e.allows_alias refl) i;
  reserved = (ap (λ o. map range_in (list_held o)) (get_with 4 es refl) ∙ parts_back range_in range_body (λ r. refl) e.reserved) i;
  reserved_names = (ap (λ o. filter_map text_in (list_held o)) (get_with 5 es refl) ∙ ap (filter_map text_in) (held_back (map text_datum e.reserved_names)) ∙ texts_back e.reserved_names) i;
}
  where
    es : List (ℕ × Option Holding)
    es = enum_contents e

method_back : (m : DeclaredMethod) → method_in (method_body m) ≡ m
method_back m = λ i. record {
  name = m.name;
  input = m.input;
  output = m.output;
  client_streams = (ap (λ o. unwrap_or (option_and_then bool_in (one_held o)) false) (get_with 5 es refl) ∙ mark_back m.client_streams) i;
  server_streams = (ap (λ o. unwrap_or (option_and_then bool_in (one_held o)) false) (get_with 6 es refl) ∙ mark_back m.server_streams) i;
}
  where
    es : List (ℕ × Option Holding)
    es = method_contents m

service_back : (s : DeclaredService) → service_in (service_body s) ≡ s
service_back s = λ i. record {
  name = s.name;
  methods = (ap (λ o. map method_in (list_held o)) (get_with 2 es refl) ∙ parts_back method_in method_body method_back s.methods) i;
}
  where
    es : List (ℕ × Option Holding)
    es = service_contents s

-- the messages that a field holds
abbrev messages_held : Option Holding → DeclaredMessages
messages_held None = no_messages
messages_held (Some h) = messages_in h

messages_at-get : (n : ℕ) (fs : Fields) → messages_at n fs ≡ messages_held (get_field n fs)
messages_at-get n no_fields = refl
messages_at-get n (field k h fs) = by_order (nat_cmp n k) (messages_at-get n fs)
  where
    by_order : (c : Ordering) → messages_at n fs ≡ messages_held (get_field n fs) → match_ordering c (messages_at n fs) (messages_in h) (messages_at n fs) ≡ messages_held (match_ordering c (get_field n fs) (Some h) (get_field n fs))
    by_order Less rest = rest
    by_order Equal rest = refl
    by_order Greater rest = rest

head_back : (head : MessageHead) (inner : List Datum) → head_in (fields_with (message_contents head inner)) ≡ head
head_back head inner = λ i. record {
  name = head.name;
  fields = (ap (λ o. map field_in (list_held o)) (get_with 2 es refl) ∙ parts_back field_in field_body field_back head.fields) i;
  enums = (ap (λ o. map enum_in (list_held o)) (get_with 4 es refl) ∙ parts_back enum_in enum_body enum_back head.enums) i;
  oneofs = (ap (λ o. map oneof_in (list_held o)) (get_with 8 es refl) ∙ parts_back oneof_in oneof_body (λ n. refl) head.oneofs) i;
  reserved = (ap (λ o. map range_in (list_held o)) (get_with 9 es refl) ∙ parts_back range_in range_body (λ r. refl) head.reserved) i;
  reserved_names = (ap (λ o. filter_map text_in (list_held o)) (get_with 10 es refl) ∙ ap (filter_map text_in) (held_back (map text_datum head.reserved_names)) ∙ texts_back head.reserved_names) i;
  is_entry = (ap (λ o. unwrap_or (bool_at 7 (option_map_or fields_in (one_held o) no_fields)) false) (get_with 7 es refl) ∙ option_back 7 head.is_entry refl) i;
}
  where
    es : List (ℕ × Option Holding)
    es = message_contents head inner

-- messages that are listed under a number
listed_back : (ds : List Datum) → messages_held (a_list ds) ≡ messages_listed (datums_of ds)
listed_back [] = refl
listed_back (d ∷ ds) = refl

mutual
  pub message_back : (m : DeclaredMessage) → message_in (message_body m) ≡ m
  message_back (message head inner) =
      let es = message_contents head (message_bodies inner) in
      λ i. message (head_back head (message_bodies inner) i) ((messages_at-get 3 (fields_with es) ∙ ap messages_held (get_with 3 es refl) ∙ listed_back (message_bodies inner) ∙ messages_back inner) i)

  messages_back : (ms : DeclaredMessages) → messages_listed (datums_of (message_bodies ms)) ≡ ms
  messages_back no_messages = refl
  messages_back (more_messages m ms) = λ i. more_messages (message_back m i) (messages_back ms i)

package_back : (s : List ℕ) → unwrap_or (option_and_then text_in (one_held (package_text s))) [] ≡ s
package_back [] = refl
package_back (c ∷ cs) = refl

abbrev is_two : List ℕ → Bool
is_two s = (length s == 0) || bytes_eq (codes "proto2") s

syntax_back : (two : Bool) → is_two (unwrap_or (option_and_then text_in (one_held (syntax_text two))) []) ≡ two
syntax_back true = refl
syntax_back false = refl

-- a file that was written is read back
pub file_back : (f : DeclaredFile) → file_in (file_body f) ≡ f
file_back f = λ i. record {
  name = f.name;
  package_name = (ap (λ o. unwrap_or (option_and_then text_in (one_held o)) []) (get_with 2 es refl) ∙ package_back f.package_name) i;
  imports = (ap (λ o. filter_map text_in (list_held o)) (get_with 3 es refl) ∙ ap (filter_map text_in) (held_back (map text_datum f.imports)) ∙ texts_back f.imports) i;
  public_indexes = (ap (λ o. filter_map int_in (list_held o)) (get_with 10 es refl) ∙ ap (filter_map int_in) (held_back (map int_datum f.public_indexes)) ∙ ints_back f.public_indexes) i;
  messages = (messages_at-get 4 (fields_with es) ∙ ap messages_held (get_with 4 es refl) ∙ listed_back (message_bodies f.messages) ∙ messages_back f.messages) i;
  enums = (ap (λ o. map enum_in (list_held o)) (get_with 5 es refl) ∙ parts_back enum_in enum_body enum_back f.enums) i;
  services = (ap (λ o. map service_in (list_held o)) (get_with 6 es refl) ∙ parts_back service_in service_body service_back f.services) i;
  is_proto2 = (ap (λ o. is_two (unwrap_or (option_and_then text_in (one_held o)) [])) (get_with 12 es refl) ∙ syntax_back f.is_proto2) i;
}
  where
    es : List (ℕ × Option Holding)
    es = file_contents f

-- THE LAW: reading the set that was written gives the files back
pub set_back : (files : List DeclaredFile) → files_in (set_body files) ≡ files
set_back files = ap (λ o. map file_in (list_held o)) (get_with 1 ((1, a_list (map file_body files)) ∷ []) refl) ∙ parts_back file_in file_body file_back files
