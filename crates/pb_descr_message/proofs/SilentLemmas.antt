-- Files that are written as a set that shows no cause: every name is there, and each field has a type number, which is GROUP in files of proto2
-- alone.
use Rattle.std.proofs.Common.{◌≡◌, ◌≢◌, ℕ, ◌+◌, List, [], ◌∷◌, ◌++◌, map, flat_map, length, Bool, true, false, ◌&&◌, ◌||◌, ◌==◌, not, Option, Some, None, refl, ap, ◌∙◌, arith}
use Rattle.std.specs.Prelude.{⊤, ℤ, pos, codes, if◌then◌else◌, is_some, option_and_then, unwrap_or}
use Rattle.std.specs.List.{AllByRecursion}
use Rattle.std.specs.Option.{option_map_or}
use Rattle.std.specs.Ordering.{int_eq}
use Rattle.std.specs.Str.{bytes_eq}
use Rattle.std.proofs.lemmas.Bool.{false≢true}
use Rattle.std.proofs.lemmas.Bool.Decides.{Decides-eqb}
use Rattle.pb_value.specs.Data.{Datum, Holding, Fields}
use Rattle.pb_descr_message.specs.declared.cause.DeclCause.{DeclCause}
use Rattle.pb_descr_message.specs.declared.cause.DeclCause.TheVariants as cause
use Rattle.pb_declarations.specs.declared.decl.TypeCode.{TypeCode}
use Rattle.pb_declarations.specs.declared.decl.TypeCode.TheVariants as code
use Rattle.pb_declarations.specs.Decls.{DeclaredField, DeclaredEnum, MessageHead, DeclaredMessage, message, DeclaredMessages, no_messages, more_messages, DeclaredMethod, DeclaredService, DeclaredFile}
use Rattle.pb_descr_message.specs.Held.{fields_in, list_held, one_held, int_in, text_in, data_at, int_at, text_at}
use Rattle.pb_descr_message.specs.Reading.{label_at, is_proto2}
use Rattle.pb_descr_message.specs.Contents.{is_rising}
use Rattle.pb_descr_message.specs.Causes.{when, is_label, has_bad_type, is_group, name_causes, type_causes, proto2_causes, field_causes, named_causes, listed_causes, has_any, head_causes, message_causes, messages_at_causes, has_known_syntax, file_head_causes, file_causes, causes_from, set_causes}
use Rattle.pb_declarations.specs.TypeNumbers.{number_of_type}
use Rattle.pb_descr_message.specs.Writing.{field_contents, field_body, value_body, enum_contents, enum_body, oneof_body, message_contents, message_body, message_bodies, method_body, service_contents, service_body, syntax_text, file_contents, file_body, set_body, fields_with, a_list, a_number, optional}
use Rattle.pb_descr_message.proofs.HeldLemmas.{messages_at_causes-data, message_causes-fields}
use Rattle.pb_descr_message.proofs.RoundTrip.{option_at, get_with, held_back, file_back}

-- THE FILES

abbrev pub IsNamed : List ℕ → Type 0
IsNamed name = name ≢ []

-- a type number is given, which is GROUP in files of proto2 alone
abbrev pub has_type : Bool → Option TypeCode → Bool
has_type two None = false
has_type two (Some code.Group) = two
has_type two (Some code.Double) = true
has_type two (Some code.Float) = true
has_type two (Some code.Int64) = true
has_type two (Some code.Uint64) = true
has_type two (Some code.Int32) = true
has_type two (Some code.Fixed64) = true
has_type two (Some code.Fixed32) = true
has_type two (Some code.Bool) = true
has_type two (Some code.Text) = true
has_type two (Some code.Message) = true
has_type two (Some code.Bytes) = true
has_type two (Some code.Uint32) = true
has_type two (Some code.Enum) = true
has_type two (Some code.Sfixed32) = true
has_type two (Some code.Sfixed64) = true
has_type two (Some code.Sint32) = true
has_type two (Some code.Sint64) = true

abbrev pub IsSilentField : Bool → DeclaredField → Type 0
IsSilentField two f = IsNamed f.name × (has_type two f.type_code ≡ true)

abbrev pub IsSilentEnum : DeclaredEnum → Type 0
IsSilentEnum e = IsNamed e.name × AllByRecursion (λ v. IsNamed v.0) e.values

abbrev pub IsSilentService : DeclaredService → Type 0
IsSilentService s = IsNamed s.name × AllByRecursion (λ (m : DeclaredMethod). IsNamed m.name) s.methods

pub record IsSilentHead (two : Bool) (head : MessageHead) : Type 0 where
  pub named : IsNamed head.name
  pub fields : AllByRecursion (IsSilentField two) head.fields
  pub oneofs : AllByRecursion IsNamed head.oneofs
  pub enums : AllByRecursion IsSilentEnum head.enums

abbrev mutual
  pub IsSilentMessage : Bool → DeclaredMessage → Type 0
  IsSilentMessage two (message head inner) = IsSilentHead two head × AreSilentMessages two inner

  pub AreSilentMessages : Bool → DeclaredMessages → Type 0
  AreSilentMessages two no_messages = ⊤
  AreSilentMessages two (more_messages m ms) = IsSilentMessage two m × AreSilentMessages two ms

pub record IsSilentFile (f : DeclaredFile) : Type 0 where
  pub named : IsNamed f.name
  pub messages : AreSilentMessages f.is_proto2 f.messages
  pub enums : AllByRecursion IsSilentEnum f.enums
  pub services : AllByRecursion IsSilentService f.services

-- NO CAUSES

both_none : (xs ys : List DeclCause) → xs ≡ [] → ys ≡ [] → xs ++ ys ≡ []
both_none xs ys first second = ap (λ l. l ++ ys) first ∙ second

not_when : (b : Bool) (c : DeclCause) → b ≡ false → when b c ≡ []
not_when b c is = ap (λ t. when t c) is

named_none : (name : List ℕ) → IsNamed name → when (length name == 0) cause.MissingName ≡ []
named_none name some = not_when (length name == 0) cause.MissingName (by (length name == 0) (Decides-eqb (length name) 0).0)
  where
    is_empty : (s : List ℕ) → length s ≡ 0 → s ≡ []
    is_empty [] e = refl
    is_empty (c ∷ cs) e = absurd (omega (arith, e))

    by : (b : Bool) → (b ≡ true → length name ≡ 0) → b ≡ false
    by true is = absurd (some (is_empty name (is refl)))
    by false is = refl

each_none : {X : Type 0} (P : X → Type 0) (writer : X → Datum) (causes : Datum → List DeclCause) → ((x : X) → P x → causes (writer x) ≡ []) → (xs : List X) → AllByRecursion P xs → flat_map causes (map writer xs) ≡ []
each_none P writer causes none [] all = refl
each_none P writer causes none (x ∷ xs) all = both_none (causes (writer x)) (flat_map causes (map writer xs)) (none x all.0) (each_none P writer causes none xs all.1)

-- of the elements of a list that was written
list_none : (n : ℕ) (es : List (ℕ × Option Holding)) (ds : List Datum) (causes : Datum → List DeclCause) → is_rising es ≡ true → option_at n es ≡ a_list ds → flat_map causes ds ≡ [] → flat_map causes (data_at n (fields_with es)) ≡ []
list_none n es ds causes rising at none = ap (λ o. flat_map causes (list_held o)) (get_with n es rising ∙ at) ∙ ap (flat_map causes) (held_back ds) ∙ none

-- a list that was not written
no_list : (n : ℕ) (es : List (ℕ × Option Holding)) → is_rising es ≡ true → option_at n es ≡ None → has_any n (fields_with es) ≡ false
no_list n es rising at = ap (λ o. not (length (list_held o) == 0)) (get_with n es rising ∙ at)

-- FIELDS

label_right : (b : Bool) → not (is_label (if b then pos 3 else pos 1)) ≡ false
label_right true = refl
label_right false = refl

label_new : (b : Bool) → int_eq (if b then pos 3 else pos 1) (pos 2) ≡ false
label_new true = refl
label_new false = refl

abbrev number_held : Option TypeCode → Option ℤ
number_held o = option_and_then int_in (one_held (optional (λ c. a_number (pos (number_of_type c))) o))

no_group : (b : Bool) → (b && false) ≡ false
no_group true = refl
no_group false = refl

type_right : (two : Bool) (o : Option TypeCode) (name : Option (List ℕ)) → has_type two o ≡ true → (has_bad_type (number_held o) name ≡ false) × ((not two && is_group (number_held o)) ≡ false)
type_right two None name h = absurd (false≢true h)
type_right two (Some code.Group) name h = (refl, ap (λ b. not b && true) h)
type_right two (Some code.Double) name h = (refl, no_group (not two))
type_right two (Some code.Float) name h = (refl, no_group (not two))
type_right two (Some code.Int64) name h = (refl, no_group (not two))
type_right two (Some code.Uint64) name h = (refl, no_group (not two))
type_right two (Some code.Int32) name h = (refl, no_group (not two))
type_right two (Some code.Fixed64) name h = (refl, no_group (not two))
type_right two (Some code.Fixed32) name h = (refl, no_group (not two))
type_right two (Some code.Bool) name h = (refl, no_group (not two))
type_right two (Some code.Text) name h = (refl, no_group (not two))
type_right two (Some code.Message) name h = (refl, no_group (not two))
type_right two (Some code.Bytes) name h = (refl, no_group (not two))
type_right two (Some code.Uint32) name h = (refl, no_group (not two))
type_right two (Some code.Enum) name h = (refl, no_group (not two))
type_right two (Some code.Sfixed32) name h = (refl, no_group (not two))
type_right two (Some code.Sfixed64) name h = (refl, no_group (not two))
type_right two (Some code.Sint32) name h = (refl, no_group (not two))
type_right two (Some code.Sint64) name h = (refl, no_group (not two))

types_none : (fs : Fields) → not (is_label (label_at fs)) ≡ false → has_bad_type (int_at 5 fs) (text_at 6 fs) ≡ false → type_causes fs ≡ []
types_none fs label type =
    both_none (when (not (is_label (label_at fs))) cause.BadLabel) (when (has_bad_type (int_at 5 fs) (text_at 6 fs)) cause.BadTypeNumber)
    (not_when (not (is_label (label_at fs))) cause.BadLabel label) (not_when (has_bad_type (int_at 5 fs) (text_at 6 fs)) cause.BadTypeNumber type)

proto2_none : (two : Bool) (fs : Fields) → is_some (text_at 2 fs) ≡ false → int_eq (label_at fs) (pos 2) ≡ false → (not two && is_group (int_at 5 fs)) ≡ false → is_some (text_at 7 fs) ≡ false → proto2_causes two fs ≡ []
proto2_none two fs extended label group default =
    both_none (when (is_some (text_at 2 fs)) cause.Extension ++ when (int_eq (label_at fs) (pos 2)) cause.Required ++ when (not two && is_group (int_at 5 fs)) cause.Group) (when (is_some (text_at 7 fs)) cause.DefaultValue)
    (both_none (when (is_some (text_at 2 fs)) cause.Extension ++ when (int_eq (label_at fs) (pos 2)) cause.Required) (when (not two && is_group (int_at 5 fs)) cause.Group)
    (both_none (when (is_some (text_at 2 fs)) cause.Extension) (when (int_eq (label_at fs) (pos 2)) cause.Required) (not_when (is_some (text_at 2 fs)) cause.Extension extended) (not_when (int_eq (label_at fs) (pos 2)) cause.Required label))
    (not_when (not two && is_group (int_at 5 fs)) cause.Group group))
    (not_when (is_some (text_at 7 fs)) cause.DefaultValue default)

of_field : (two : Bool) (d : Datum) → name_causes (fields_in d) ≡ [] → type_causes (fields_in d) ≡ [] → proto2_causes two (fields_in d) ≡ [] → field_causes two d ≡ []
of_field two d name types proto2 = both_none (name_causes (fields_in d) ++ type_causes (fields_in d)) (proto2_causes two (fields_in d)) (both_none (name_causes (fields_in d)) (type_causes (fields_in d)) name types) proto2

field_none : (two : Bool) (f : DeclaredField) → IsSilentField two f → field_causes two (field_body f) ≡ []
field_none two f h =
    of_field two (field_body f) (named_none f.name h.0) (types_none (fields_in (field_body f)) (label_right f.is_repeated) (bad ∙ (type_right two f.type_code (text_at 6 (fields_in (field_body f))) h.1).0))
    (proto2_none two (fields_in (field_body f)) (no_text 2 refl) (label_new f.is_repeated) (ap (λ o. not two && is_group o) number ∙ (type_right two f.type_code None h.1).1) (no_text 7 refl))
  where
    number : int_at 5 (fields_in (field_body f)) ≡ number_held f.type_code
    number = ap (λ o. option_and_then int_in (one_held o)) (get_with 5 (field_contents f) refl)

    bad : has_bad_type (int_at 5 (fields_in (field_body f))) (text_at 6 (fields_in (field_body f))) ≡ has_bad_type (number_held f.type_code) (text_at 6 (fields_in (field_body f)))
    bad = ap (λ o. has_bad_type o (text_at 6 (fields_in (field_body f)))) number

    no_text : (n : ℕ) → option_at n (field_contents f) ≡ None → is_some (text_at n (fields_in (field_body f))) ≡ false
    no_text n at = ap (λ o. is_some (option_and_then text_in (one_held o))) (get_with n (field_contents f) refl ∙ at)

-- ENUMS AND SERVICES

of_listed : (d : Datum) → named_causes d ≡ [] → flat_map named_causes (data_at 2 (fields_in d)) ≡ [] → listed_causes d ≡ []
of_listed d name values = both_none (named_causes d) (flat_map named_causes (data_at 2 (fields_in d))) name values

enum_none : (e : DeclaredEnum) → IsSilentEnum e → listed_causes (enum_body e) ≡ []
enum_none e h =
    of_listed (enum_body e) (named_none e.name h.0)
    (list_none 2 (enum_contents e) (map value_body e.values) named_causes refl refl (each_none (λ v. IsNamed v.0) value_body named_causes (λ v. named_none v.0) e.values h.1))

service_none : (s : DeclaredService) → IsSilentService s → listed_causes (service_body s) ≡ []
service_none s h =
    of_listed (service_body s) (named_none s.name h.0)
    (list_none 2 (service_contents s) (map method_body s.methods) named_causes refl refl (each_none (λ (m : DeclaredMethod). IsNamed m.name) method_body named_causes (λ m. named_none m.name) s.methods h.1))

-- MESSAGES

of_head : (two : Bool) (fs : Fields) → name_causes fs ≡ [] → has_any 5 fs ≡ false → has_any 6 fs ≡ false → flat_map (field_causes two) (data_at 2 fs) ≡ [] → flat_map named_causes (data_at 8 fs) ≡ [] → head_causes two fs ≡ []
of_head two fs name five six fields oneofs =
    both_none (name_causes fs ++ when (has_any 5 fs || has_any 6 fs) cause.Extension ++ flat_map (field_causes two) (data_at 2 fs)) (flat_map named_causes (data_at 8 fs))
    (both_none (name_causes fs ++ when (has_any 5 fs || has_any 6 fs) cause.Extension) (flat_map (field_causes two) (data_at 2 fs))
    (both_none (name_causes fs) (when (has_any 5 fs || has_any 6 fs) cause.Extension) name (not_when (has_any 5 fs || has_any 6 fs) cause.Extension (ap (λ b. b || has_any 6 fs) five ∙ six))) fields)
    oneofs

head_none : (two : Bool) (head : MessageHead) (inner : List Datum) → IsSilentHead two head → head_causes two (fields_with (message_contents head inner)) ≡ []
head_none two head inner h =
    of_head two (fields_with (message_contents head inner)) (named_none head.name h.named) (no_list 5 (message_contents head inner) refl refl) (no_list 6 (message_contents head inner) refl refl)
    (list_none 2 (message_contents head inner) (map field_body head.fields) (field_causes two) refl refl (each_none (IsSilentField two) field_body (field_causes two) (field_none two) head.fields h.fields))
    (list_none 8 (message_contents head inner) (map oneof_body head.oneofs) named_causes refl refl (each_none IsNamed oneof_body named_causes named_none head.oneofs h.oneofs))

enums_none : (n : ℕ) (es : List (ℕ × Option Holding)) (enums : List DeclaredEnum) → is_rising es ≡ true → option_at n es ≡ a_list (map enum_body enums) → AllByRecursion IsSilentEnum enums → flat_map listed_causes (data_at n (fields_with es)) ≡ []
enums_none n es enums rising at all = list_none n es (map enum_body enums) listed_causes rising at (each_none IsSilentEnum enum_body listed_causes enum_none enums all)

of_message : (two : Bool) (d : Datum) → head_causes two (fields_in d) ≡ [] → flat_map (message_causes two) (data_at 3 (fields_in d)) ≡ [] → flat_map listed_causes (data_at 4 (fields_in d)) ≡ [] → message_causes two d ≡ []
of_message two d head nested enums =
    message_causes-fields two d
    ∙ both_none (head_causes two (fields_in d) ++ flat_map (message_causes two) (data_at 3 (fields_in d))) (flat_map listed_causes (data_at 4 (fields_in d)))
    (both_none (head_causes two (fields_in d)) (flat_map (message_causes two) (data_at 3 (fields_in d))) head nested) enums

mutual
  message_none : (two : Bool) (m : DeclaredMessage) → IsSilentMessage two m → message_causes two (message_body m) ≡ []
  message_none two (message head inner) h =
      of_message two (message_body (message head inner)) (head_none two head (message_bodies inner) h.0) (list_none 3 (message_contents head (message_bodies inner)) (message_bodies inner) (message_causes two) refl refl (messages_none two inner h.1))
      (enums_none 4 (message_contents head (message_bodies inner)) head.enums refl refl h.0.enums)

  messages_none : (two : Bool) (ms : DeclaredMessages) → AreSilentMessages two ms → flat_map (message_causes two) (message_bodies ms) ≡ []
  messages_none two no_messages all = refl
  messages_none two (more_messages m ms) all = both_none (message_causes two (message_body m)) (flat_map (message_causes two) (message_bodies ms)) (message_none two m all.0) (messages_none two ms all.1)

-- FILES

of_file_head : (fs : Fields) → name_causes fs ≡ [] → has_any 7 fs ≡ false → has_known_syntax fs ≡ true → file_head_causes fs ≡ []
of_file_head fs name seven known =
    both_none (name_causes fs ++ when (has_any 7 fs) cause.Extension) (when (not (has_known_syntax fs)) cause.NotProto3)
    (both_none (name_causes fs) (when (has_any 7 fs) cause.Extension) name (not_when (has_any 7 fs) cause.Extension seven)) (not_when (not (has_known_syntax fs)) cause.NotProto3 (ap not known))

of_file : (d : Datum) → file_head_causes (fields_in d) ≡ [] → flat_map (message_causes (is_proto2 (fields_in d))) (data_at 4 (fields_in d)) ≡ [] → flat_map listed_causes (data_at 5 (fields_in d)) ≡ [] → flat_map listed_causes (data_at 6 (fields_in d)) ≡ [] → file_causes d ≡ []
of_file d head messages enums services =
    both_none (file_head_causes (fields_in d) ++ messages_at_causes (is_proto2 (fields_in d)) 4 (fields_in d) ++ flat_map listed_causes (data_at 5 (fields_in d))) (flat_map listed_causes (data_at 6 (fields_in d)))
    (both_none (file_head_causes (fields_in d) ++ messages_at_causes (is_proto2 (fields_in d)) 4 (fields_in d)) (flat_map listed_causes (data_at 5 (fields_in d)))
    (both_none (file_head_causes (fields_in d)) (messages_at_causes (is_proto2 (fields_in d)) 4 (fields_in d)) head (messages_at_causes-data (is_proto2 (fields_in d)) 4 (fields_in d) ∙ messages)) enums)
    services

abbrev is_two : List ℕ → Bool
is_two s = (length s == 0) || bytes_eq (codes "proto2") s

abbrev is_known : Option Holding → Bool
is_known o = is_two (unwrap_or (option_and_then text_in (one_held o)) []) || option_map_or (bytes_eq (codes "proto3")) (option_and_then text_in (one_held o)) false

syntax_there : (f : DeclaredFile) → has_known_syntax (fields_in (file_body f)) ≡ true
syntax_there f = ap is_known (get_with 12 (file_contents f) refl) ∙ either f.is_proto2
  where
    either : (two : Bool) → is_known (syntax_text two) ≡ true
    either true = refl
    either false = refl

file_none : (f : DeclaredFile) → IsSilentFile f → file_causes (file_body f) ≡ []
file_none f h =
    of_file (file_body f) (of_file_head (fields_in (file_body f)) (named_none f.name h.named) (no_list 7 (file_contents f) refl refl) (syntax_there f))
    (ap (λ two. flat_map (message_causes two) (data_at 4 (fields_in (file_body f)))) (ap (λ (g : DeclaredFile). g.is_proto2) (file_back f))
    ∙ list_none 4 (file_contents f) (message_bodies f.messages) (message_causes f.is_proto2) refl refl (messages_none f.is_proto2 f.messages h.messages))
    (enums_none 5 (file_contents f) f.enums refl refl h.enums)
    (list_none 6 (file_contents f) (map service_body f.services) listed_causes refl refl (each_none IsSilentService service_body listed_causes service_none f.services h.services))

from_none : (i : ℕ) (files : List DeclaredFile) → AllByRecursion IsSilentFile files → causes_from i (map file_body files) ≡ []
from_none i [] all = refl
from_none i (f ∷ files) all = ap (λ cs. map (λ c. (i, c)) cs ++ causes_from (i + 1) (map file_body files)) (file_none f all.0) ∙ from_none (i + 1) files all.1

-- what such files are written as shows no cause
pub silent_set : (files : List DeclaredFile) → AllByRecursion IsSilentFile files → set_causes (set_body files) ≡ []
silent_set files all =
    ap (λ o. causes_from 0 (list_held o)) (get_with 1 ((1, a_list (map file_body files)) ∷ []) refl) ∙ ap (causes_from 0) (held_back (map file_body files)) ∙ from_none 0 files all
