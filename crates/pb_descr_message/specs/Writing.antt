-- The message that declarations are written as.
use Rattle.std.specs.Prelude.{ℕ, ℤ, pos, List, [], ◌∷◌, codes, map, Bool, true, false, if◌then◌else◌, Option, Some, None}
use Rattle.pb_schema.specs.Scalar.{int32, boolean, text}
use Rattle.pb_value.specs.Data.{Datum, scalar, message as one_message, datums_of, Holding, one, list, Fields, no_fields, field, Message, body}
use Rattle.pb_declarations.specs.TypeNumbers.{number_of_type}
use Rattle.pb_declarations.specs.Decls.{DeclaredField, DeclaredEnum, MessageHead, DeclaredMessage, message, DeclaredMessages}
use Rattle.pb_declarations.specs.Decls.{no_messages, more_messages, DeclaredMethod, DeclaredService, DeclaredFile}

abbrev pub with_field : ℕ → Option Holding → Fields → Fields
with_field n None fs = fs
with_field n (Some h) fs = field n h fs

-- the fields that are there, of some by rising number
abbrev pub fields_with : List (ℕ × Option Holding) → Fields
fields_with [] = no_fields
fields_with (e ∷ es) = with_field e.0 e.1 (fields_with es)

abbrev pub a_text : List ℕ → Option Holding
a_text s = Some (one (scalar (text s)))

abbrev pub a_number : ℤ → Option Holding
a_number z = Some (one (scalar (int32 z)))

-- where it is true
abbrev pub a_mark : Bool → Option Holding
a_mark true = Some (one (scalar (boolean true)))
a_mark false = None

abbrev pub a_list : List Datum → Option Holding
a_list [] = None
a_list (d ∷ ds) = Some (list (datums_of (d ∷ ds)))

abbrev pub a_message : List (ℕ × Option Holding) → Datum
a_message es = one_message (body (fields_with es) [])

-- the message of a mark alone, where it is true
abbrev pub options_with : ℕ → Bool → Option Holding
options_with n true = Some (one (a_message ((n, a_mark true) ∷ [])))
options_with n false = None

abbrev pub optional : {X : Type 0} → (X → Option Holding) → Option X → Option Holding
optional f None = None
optional f (Some x) = f x

abbrev pub packed_options : Bool → Option Holding
packed_options b = Some (one (a_message ((2, Some (one (scalar (boolean b)))) ∷ [])))

-- THE CONTENTS OF EACH MESSAGE, BY NUMBER

abbrev pub field_contents : DeclaredField → List (ℕ × Option Holding)
field_contents f =
    (1, a_text f.name) ∷ (3, a_number f.number) ∷ (4, a_number (if f.is_repeated then pos 3 else pos 1))
    ∷ (5, optional (λ c. a_number (pos (number_of_type c))) f.type_code)
    ∷ (6, optional a_text f.type_name) ∷ (8, optional packed_options f.packed) ∷ (9, optional a_number f.oneof) ∷ (17, a_mark f.is_optional) ∷ []

abbrev pub field_body : DeclaredField → Datum
field_body f = a_message (field_contents f)

abbrev pub range_contents : ℤ × ℤ → List (ℕ × Option Holding)
range_contents r = (1, a_number r.0) ∷ (2, a_number r.1) ∷ []

abbrev pub range_body : ℤ × ℤ → Datum
range_body r = a_message (range_contents r)

abbrev pub value_contents : List ℕ × ℤ → List (ℕ × Option Holding)
value_contents v = (1, a_text v.0) ∷ (2, a_number v.1) ∷ []

abbrev pub value_body : List ℕ × ℤ → Datum
value_body v = a_message (value_contents v)

abbrev pub text_datum : List ℕ → Datum
text_datum s = scalar (text s)

abbrev pub int_datum : ℤ → Datum
int_datum z = scalar (int32 z)

abbrev pub enum_contents : DeclaredEnum → List (ℕ × Option Holding)
enum_contents e =
    (1, a_text e.name) ∷ (2, a_list (map value_body e.values)) ∷ (3, options_with 2 e.allows_alias) ∷ (4, a_list (map range_body e.reserved))
    ∷ (5, a_list (map text_datum e.reserved_names)) ∷ []

abbrev pub enum_body : DeclaredEnum → Datum
enum_body e = a_message (enum_contents e)

abbrev pub oneof_body : List ℕ → Datum
oneof_body name = a_message ((1, a_text name) ∷ [])

-- beside the messages inside
abbrev pub message_contents : MessageHead → List Datum → List (ℕ × Option Holding)
message_contents head inner =
    (1, a_text head.name) ∷ (2, a_list (map field_body head.fields)) ∷ (3, a_list inner) ∷ (4, a_list (map enum_body head.enums))
    ∷ (7, options_with 7 head.is_entry)
    ∷ (8, a_list (map oneof_body head.oneofs)) ∷ (9, a_list (map range_body head.reserved)) ∷ (10, a_list (map text_datum head.reserved_names)) ∷ []

abbrev mutual
  pub message_body : DeclaredMessage → Datum
  message_body (message head inner) = a_message (message_contents head (message_bodies inner))

  pub message_bodies : DeclaredMessages → List Datum
  message_bodies no_messages = []
  message_bodies (more_messages m ms) = message_body m ∷ message_bodies ms

abbrev pub method_contents : DeclaredMethod → List (ℕ × Option Holding)
method_contents m = (1, a_text m.name) ∷ (2, a_text m.input) ∷ (3, a_text m.output) ∷ (5, a_mark m.client_streams) ∷ (6, a_mark m.server_streams) ∷ []

abbrev pub method_body : DeclaredMethod → Datum
method_body m = a_message (method_contents m)

abbrev pub service_contents : DeclaredService → List (ℕ × Option Holding)
service_contents s = (1, a_text s.name) ∷ (2, a_list (map method_body s.methods)) ∷ []

abbrev pub service_body : DeclaredService → Datum
service_body s = a_message (service_contents s)

-- a package that is not empty
abbrev pub package_text : List ℕ → Option Holding
package_text [] = None
package_text (c ∷ cs) = a_text (c ∷ cs)

-- none for `proto2`
abbrev pub syntax_text : Bool → Option Holding
syntax_text true = None
syntax_text false = a_text (codes "proto3")

abbrev pub file_contents : DeclaredFile → List (ℕ × Option Holding)
file_contents f =
    (1, a_text f.name) ∷ (2, package_text f.package_name) ∷ (3, a_list (map text_datum f.imports)) ∷ (4, a_list (message_bodies f.messages))
    ∷ (5, a_list (map enum_body f.enums))
    ∷ (6, a_list (map service_body f.services)) ∷ (10, a_list (map int_datum f.public_indexes)) ∷ (12, syntax_text f.is_proto2) ∷ []

abbrev pub file_body : DeclaredFile → Datum
file_body f = a_message (file_contents f)

-- the message that the files of a set are written as
abbrev pub set_body : List DeclaredFile → Message
set_body files = body (fields_with ((1, a_list (map file_body files)) ∷ [])) []
