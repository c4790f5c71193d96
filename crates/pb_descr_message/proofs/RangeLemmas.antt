-- What real declarations are written as is well formed: its numbers and strings are those of the declarations.
use Rattle.std.proofs.Common.{◌≡◌, ℕ, suc, ℤ, pos, ◌+◌, ◌≤◌, ◌<◌, max, List, [], ◌∷◌, Bool, true, false, ◌&&◌, Option, Some, None, refl, sym, ap, ◌∙◌, map, drop, length, get_or, subst, arith, lit<}
use Rattle.std.specs.Prelude.{⊤, String, string_bytes, option_map, codes, nat_le, if◌then◌else◌, IfSome, IsSomeAnd, IsUtf8, ◌^◌}
use Rattle.std.specs.Int.{w32}
use Rattle.std.specs.List.{AllByRecursion}
use Rattle.std.proofs.lemmas.Bool.{false≢true}
use Rattle.std.proofs.lemmas.Bool.Decides.{nat_tests}
use Rattle.std.proofs.lemmas.Int.{fits_signed_from_abs}
use Rattle.std.proofs.lemmas.List.{drop_more}
use Rattle.std.proofs.lemmas.Str.{IsUtf8-string_bytes, IsUtf8-from_ascii}
use Rattle.std.proofs.lemmas.Str.Ascii.{IsAscii-nil, IsAscii-cons}
use Rattle.std.specs.declared.alloc.Global.{Global}
use Rattle.pb_schema.specs.declared.types.Kind.{Kind}
use Rattle.pb_schema.specs.declared.types.Kind.TheVariants as kind
use Rattle.pb_schema.specs.declared.types.Shape.TheVariants as shape
use Rattle.pb_schema.specs.Types.{FieldView, message_fields, field_numbered}
use Rattle.pb_schema.specs.Kinds.{closed_enum}
use Rattle.pb_schema.specs.Scalar.{boolean}
use Rattle.pb_value.specs.WellFormed.{datums_declared, RisesFrom, oneof_at, oneof_of, HasOneMemberEach, HasNoMember, IsOfShape, IsHeld, holds_declared, IsDatum, AreDatums, AreFields, CanStand, IsBody, IsWellFormed}
use Rattle.pb_value.specs.Data.{Datum, scalar, datums_of, datums_depth, levels_of, Holding, one, list, Fields, no_fields, field, message_depth}
use Rattle.pb_declarations.specs.declared.decl.TypeCode.{TypeCode}
use Rattle.pb_declarations.specs.declared.decl.TypeCode.TheVariants as code
use Rattle.pb_declarations.specs.Decls.{DeclaredField, DeclaredEnum, MessageHead, DeclaredMessage, message, DeclaredMessages, no_messages, more_messages, messages_of, DeclaredMethod, DeclaredService, DeclaredFile}
use Rattle.pb_declarations.specs.Nests.{nests, all_nest}
use Rattle.pb_declarations.specs.View.{field_view, numbered_view, enum_view, message_view, method_view, service_view, file_view}
use Rattle.pb_declarations.specs.declared.decl.FieldDecl.{FieldDecl}
use Rattle.pb_declarations.specs.declared.decl.EnumDecl.{EnumDecl}
use Rattle.pb_declarations.specs.declared.decl.MessageDecl.{MessageDecl, out-MessageDecl}
use Rattle.pb_declarations.specs.declared.decl.MethodDecl.{MethodDecl}
use Rattle.pb_declarations.specs.declared.decl.ServiceDecl.{ServiceDecl}
use Rattle.pb_declarations.specs.declared.decl.FileDecl.{FileDecl}
use Rattle.pb_declarations.specs.TypeNumbers.{number_of_type}
use Rattle.pb_descr_message.specs.Pool.{descriptor_types, message as message_kind, many, the_set}
use Rattle.pb_descr_message.specs.Ranges.{IsInt32, IsFieldInRange, IsRangeInRange, IsValueInRange, IsEnumInRange, IsHeadInRange, IsMessageInRange, AreMessagesInRange, IsMethodInRange, IsServiceInRange, IsFileInRange}
use Rattle.pb_descr_message.specs.Writing.{fields_with, with_field, a_text, a_number, a_mark, a_list, a_message, options_with, optional, packed_options, field_contents, field_body, range_contents, range_body, value_contents, value_body, text_datum, int_datum, enum_contents, enum_body, oneof_body, message_contents, message_body, message_bodies, method_contents, method_body, service_contents, service_body, package_text, syntax_text, file_contents, file_body, set_body}
use Rattle.pb_declarations.proofs.ViewLemmas.{message_view-parts}
use Rattle.pb_descr_message.proofs.DepthLemmas.{inner_below, messages_below, files_below}
use Rattle.pb_descr_message.proofs.WrittenFits.{all_declared}

-- ---- a message of contents by number

-- what is written at a number can stand there, and is no member of a oneof
abbrev Stands : List FieldView → ℕ → Option Holding → Type 0
Stands all n None = ⊤
Stands all n (Some h) = CanStand descriptor_types all n h × (oneof_at all n ≡ None)

with_stands : (all : List FieldView) (n : ℕ) (o : Option Holding) (fs : Fields) → Stands all n o → AreFields descriptor_types all fs → AreFields descriptor_types all (with_field n o fs)
with_stands all n None fs here later = later
with_stands all n (Some h) fs here later = (here.0, later)

all_stand : (all : List FieldView) (es : List (ℕ × Option Holding)) → AllByRecursion (λ e. Stands all e.0 e.1) es → AreFields descriptor_types all (fields_with es)
all_stand all [] h = tt
all_stand all (e ∷ es) h = with_stands all e.0 e.1 (fields_with es) h.0 (all_stand all es h.1)

with_member : (all : List FieldView) (n : ℕ) (o : Option Holding) (fs : Fields) → Stands all n o → HasOneMemberEach all fs → HasOneMemberEach all (with_field n o fs)
with_member all n None fs here later = later
with_member all n (Some h) fs here later = (subst (λ o. IfSome o (λ m. HasNoMember all m fs)) (sym here.1) tt, later)

one_member : (all : List FieldView) (es : List (ℕ × Option Holding)) → AllByRecursion (λ e. Stands all e.0 e.1) es → HasOneMemberEach all (fields_with es)
one_member all [] h = tt
one_member all (e ∷ es) h = with_member all e.0 e.1 (fields_with es) h.0 (one_member all es h.1)

-- the numbers rise from one on
abbrev rises : ℕ → List (ℕ × Option Holding) → Bool
rises n [] = true
rises n (e ∷ es) = nat_le n e.0 && rises (e.0 + 1) es

earlier : (n k : ℕ) (fs : Fields) → n ≤ k → RisesFrom k fs → RisesFrom n fs
earlier n k no_fields less h = tt
earlier n k (field j g fs) less h = (omega (arith, less, h.0), h.1)

both : (a b : Bool) → (a && b) ≡ true → (a ≡ true) × (b ≡ true)
both true b h = (refl, h)
both false b h = absurd (false≢true h)

with_rises : (n k : ℕ) (o : Option Holding) (fs : Fields) → n ≤ k → RisesFrom (k + 1) fs → RisesFrom n (with_field k o fs)
with_rises n k None fs less later = earlier n (k + 1) fs (omega (arith, less)) later
with_rises n k (Some h) fs less later = (less, later)

all_rise : (n : ℕ) (es : List (ℕ × Option Holding)) → rises n es ≡ true → RisesFrom n (fields_with es)
all_rise n [] h = tt
all_rise n (e ∷ es) h =
    let p = both (nat_le n e.0) (rises (e.0 + 1) es) h in
    with_rises n e.0 e.1 (fields_with es) (tested n e.0 p.0) (all_rise (e.0 + 1) es p.1)
  where
    tested : (x y : ℕ) → nat_le x y ≡ true → x ≤ y
    tested x y is = grind (arith, nat_tests)

-- a message of a type, made of contents that can stand at its fields
made_of : (m : ℕ) (es : List (ℕ × Option Holding)) → rises 0 es ≡ true → AllByRecursion (λ e. Stands (message_fields descriptor_types m) e.0 e.1) es → IsDatum descriptor_types (message_kind m) (a_message es)
made_of m es rising h = (all_stand (message_fields descriptor_types m) es h, all_rise 0 es rising, one_member (message_fields descriptor_types m) es h, tt)

-- ---- lists

are_data : (k : Kind) (ds : List Datum) → AllByRecursion (IsDatum descriptor_types k) ds → AreDatums descriptor_types k (datums_of ds)
are_data k [] h = tt
are_data k (d ∷ ds) h = (h.0, are_data k ds h.1)

-- a list of a kind, at a field that holds lists
list_stands :
    (all : List FieldView) (n : ℕ) (f : FieldView) → field_numbered n all ≡ Some f → f.shape ≡ shape.List false → closed_enum f.kind ≡ None
    → (ds : List Datum) → AllByRecursion (IsDatum descriptor_types f.kind) ds → Stands all n (a_list ds)
list_stands all n f there many never [] h = tt
list_stands all n f there many never (d ∷ ds) h = (
  subst (λ o. IsSomeAnd o (λ f. IsOfShape f.shape held × IsHeld descriptor_types f.shape f.kind held × (holds_declared descriptor_types f.kind held ≡ true))) (sym there)
      (subst (λ s. IsOfShape s held) (sym many) tt, are_data f.kind (d ∷ ds) h, all_declared f.kind never (d ∷ ds)),
  ap (λ o. of_field o) there ∙ ap oneof_of many,
)
  where
    held : Holding
    held = list (datums_of (d ∷ ds))

    of_field : Option FieldView → Option ℕ
    of_field None = None
    of_field (Some f) = oneof_of f.shape

each : {X : Type 0} (P : X → Type 0) (k : Kind) (w : X → Datum) → ((x : X) → P x → IsDatum descriptor_types k (w x)) → (xs : List X) → AllByRecursion P xs → AllByRecursion (IsDatum descriptor_types k) (map w xs)
each P k w real [] h = tt
each P k w real (x ∷ xs) h = (real x h.0, each P k w real xs h.1)

-- ---- declarations

abbrev fields_of_type : ℕ → List FieldView
fields_of_type m = message_fields descriptor_types m

range_real : (r : ℤ × ℤ) → IsRangeInRange r → IsDatum descriptor_types (message_kind 3) (range_body r)
range_real r h = made_of 3 (range_contents r) refl (((tt, h.0, refl), refl), (((tt, h.1, refl), refl), tt))

enum_range_real : (r : ℤ × ℤ) → IsRangeInRange r → IsDatum descriptor_types (message_kind 8) (range_body r)
enum_range_real r h = made_of 8 (range_contents r) refl (((tt, h.0, refl), refl), (((tt, h.1, refl), refl), tt))

text_real : (s : List ℕ) → IsUtf8 s → IsDatum descriptor_types kind.Text (text_datum s)
text_real s h = h

int_real : (z : ℤ) → IsInt32 z → IsDatum descriptor_types kind.Int32 (int_datum z)
int_real z h = h

value_real : (v : List ℕ × ℤ) → IsValueInRange v → IsDatum descriptor_types (message_kind 9) (value_body v)
value_real v h = made_of 9 (value_contents v) refl (((tt, h.0, refl), refl), (((tt, h.1, refl), refl), tt))

oneof_real : (s : List ℕ) → IsUtf8 s → IsDatum descriptor_types (message_kind 6) (oneof_body s)
oneof_real s h = made_of 6 ((1, a_text s) ∷ []) refl (((tt, h, refl), refl), tt)

small : (n : ℕ) → n < 2 ^ 31 → IsInt32 (pos n)
small n less = fits_signed_from_abs w32 (pos n) (omega (arith, less))

label_real : (b : Bool) → IsInt32 (if b then pos 3 else pos 1)
label_real true = small 3 (omega arith)
label_real false = small 1 (omega arith)

type_real : (c : TypeCode) → IsInt32 (pos (number_of_type c))
type_real code.Double = small 1 (omega arith)
type_real code.Float = small 2 (omega arith)
type_real code.Int64 = small 3 (omega arith)
type_real code.Uint64 = small 4 (omega arith)
type_real code.Int32 = small 5 (omega arith)
type_real code.Fixed64 = small 6 (omega arith)
type_real code.Fixed32 = small 7 (omega arith)
type_real code.Bool = small 8 (omega arith)
type_real code.Text = small 9 (omega arith)
type_real code.Group = small 10 (omega arith)
type_real code.Message = small 11 (omega arith)
type_real code.Bytes = small 12 (omega arith)
type_real code.Uint32 = small 13 (omega arith)
type_real code.Enum = small 14 (omega arith)
type_real code.Sfixed32 = small 15 (omega arith)
type_real code.Sfixed64 = small 16 (omega arith)
type_real code.Sint32 = small 17 (omega arith)
type_real code.Sint64 = small 18 (omega arith)

code_stands : (o : Option TypeCode) → Stands (fields_of_type 5) 5 (optional (λ c. a_number (pos (number_of_type c))) o)
code_stands None = tt
code_stands (Some c) = ((tt, type_real c, refl), refl)

name_stands : (o : Option (List ℕ)) → IfSome o IsUtf8 → Stands (fields_of_type 5) 6 (optional a_text o)
name_stands None h = tt
name_stands (Some s) h = ((tt, h, refl), refl)

packed_stands : (o : Option Bool) → Stands (fields_of_type 5) 8 (optional packed_options o)
packed_stands None = tt
packed_stands (Some b) = ((tt, made_of 13 ((2, Some (one (scalar (boolean b)))) ∷ []) refl (((tt, tt, refl), refl), tt), refl), refl)

oneof_stands : (o : Option ℤ) → IfSome o IsInt32 → Stands (fields_of_type 5) 9 (optional a_number o)
oneof_stands None h = tt
oneof_stands (Some z) h = ((tt, h, refl), refl)

mark_stands : (b : Bool) → Stands (fields_of_type 5) 17 (a_mark b)
mark_stands true = ((tt, tt, refl), refl)
mark_stands false = tt

field_real : (f : DeclaredField) → IsFieldInRange f → IsDatum descriptor_types (message_kind 5) (field_body f)
field_real f h =
    made_of 5 (field_contents f) refl
    (((tt, h.name, refl), refl), (((tt, h.number, refl), refl), (((tt, label_real f.is_repeated, refl), refl), (code_stands f.type_code, (name_stands f.type_name h.type_name, (packed_stands f.packed, (oneof_stands f.oneof h.oneof, (mark_stands f.is_optional, tt))))))))

alias_stands : (b : Bool) → Stands (fields_of_type 7) 3 (options_with 2 b)
alias_stands true = ((tt, made_of 14 ((2, a_mark true) ∷ []) refl (((tt, tt, refl), refl), tt), refl), refl)
alias_stands false = tt

entry_stands : (b : Bool) → Stands (fields_of_type 2) 7 (options_with 7 b)
entry_stands true = ((tt, made_of 12 ((7, a_mark true) ∷ []) refl (((tt, tt, refl), refl), tt), refl), refl)
entry_stands false = tt

enum_real : (e : DeclaredEnum) → IsEnumInRange e → IsDatum descriptor_types (message_kind 7) (enum_body e)
enum_real e h =
    made_of 7 (enum_contents e) refl
    (((tt, h.name, refl), refl), (list_stands (fields_of_type 7) 2 (many 2 (codes "value") (message_kind 9)) refl refl refl (map value_body e.values) (each IsValueInRange (message_kind 9) value_body value_real e.values h.values), (alias_stands e.allows_alias, (list_stands (fields_of_type 7) 4 (many 4 (codes "reserved_range") (message_kind 8)) refl refl refl (map range_body e.reserved) (each IsRangeInRange (message_kind 8) range_body enum_range_real e.reserved h.reserved), (list_stands (fields_of_type 7) 5 (many 5 (codes "reserved_name") kind.Text) refl refl refl (map text_datum e.reserved_names) (each IsUtf8 kind.Text text_datum text_real e.reserved_names h.reserved_names), tt)))))

message_with_real : (head : MessageHead) (inner : List Datum) → IsHeadInRange head → AllByRecursion (IsDatum descriptor_types (message_kind 2)) inner → IsDatum descriptor_types (message_kind 2) (a_message (message_contents head inner))
message_with_real head inner h real =
    made_of 2 (message_contents head inner) refl
    (((tt, h.name, refl), refl), (list_stands (fields_of_type 2) 2 (many 2 (codes "field") (message_kind 5)) refl refl refl (map field_body head.fields) (each IsFieldInRange (message_kind 5) field_body field_real head.fields h.fields), (list_stands (fields_of_type 2) 3 (many 3 (codes "nested_type") (message_kind 2)) refl refl refl inner real, (list_stands (fields_of_type 2) 4 (many 4 (codes "enum_type") (message_kind 7)) refl refl refl (map enum_body head.enums) (each IsEnumInRange (message_kind 7) enum_body enum_real head.enums h.enums), (entry_stands head.is_entry, (list_stands (fields_of_type 2) 8 (many 8 (codes "oneof_decl") (message_kind 6)) refl refl refl (map oneof_body head.oneofs) (each IsUtf8 (message_kind 6) oneof_body oneof_real head.oneofs h.oneofs), (list_stands (fields_of_type 2) 9 (many 9 (codes "reserved_range") (message_kind 3)) refl refl refl (map range_body head.reserved) (each IsRangeInRange (message_kind 3) range_body range_real head.reserved h.reserved), (list_stands (fields_of_type 2) 10 (many 10 (codes "reserved_name") kind.Text) refl refl refl (map text_datum head.reserved_names) (each IsUtf8 kind.Text text_datum text_real head.reserved_names h.reserved_names), tt))))))))

mutual
  message_real : (m : DeclaredMessage) → IsMessageInRange m → IsDatum descriptor_types (message_kind 2) (message_body m)
  message_real (message head inner) h = message_with_real head (message_bodies inner) h.0 (messages_real inner h.1)

  messages_real : (ms : DeclaredMessages) → AreMessagesInRange ms → AllByRecursion (IsDatum descriptor_types (message_kind 2)) (message_bodies ms)
  messages_real no_messages h = tt
  messages_real (more_messages m ms) h = (message_real m h.0, messages_real ms h.1)

client_stands : (b : Bool) → Stands (fields_of_type 11) 5 (a_mark b)
client_stands true = ((tt, tt, refl), refl)
client_stands false = tt

server_stands : (b : Bool) → Stands (fields_of_type 11) 6 (a_mark b)
server_stands true = ((tt, tt, refl), refl)
server_stands false = tt

method_real : (m : DeclaredMethod) → IsMethodInRange m → IsDatum descriptor_types (message_kind 11) (method_body m)
method_real m h =
    made_of 11 (method_contents m) refl
    (((tt, h.name, refl), refl), (((tt, h.input, refl), refl), (((tt, h.output, refl), refl), (client_stands m.client_streams, (server_stands m.server_streams, tt)))))

service_real : (s : DeclaredService) → IsServiceInRange s → IsDatum descriptor_types (message_kind 10) (service_body s)
service_real s h =
    made_of 10 (service_contents s) refl
    (((tt, h.name, refl), refl), (list_stands (fields_of_type 10) 2 (many 2 (codes "method") (message_kind 11)) refl refl refl (map method_body s.methods) (each IsMethodInRange (message_kind 11) method_body method_real s.methods h.methods), tt))

package_stands : (s : List ℕ) → IsUtf8 s → Stands (fields_of_type 1) 2 (package_text s)
package_stands [] h = tt
package_stands (c ∷ cs) h = ((tt, h, refl), refl)

syntax_stands : (two : Bool) → Stands (fields_of_type 1) 12 (syntax_text two)
syntax_stands true = tt
syntax_stands false = ((tt, syntax_utf8, refl), refl)
  where
    syntax_utf8 : IsUtf8 (codes "proto3")
    syntax_utf8 =
        IsUtf8-from_ascii (codes "proto3")
        (IsAscii-cons 112 (codes "roto3") (lit< tt) (IsAscii-cons 114 (codes "oto3") (lit< tt) (IsAscii-cons 111 (codes "to3") (lit< tt) (IsAscii-cons 116 (codes "o3") (lit< tt) (IsAscii-cons 111 (codes "3") (lit< tt) (IsAscii-cons 51 [] (lit< tt) IsAscii-nil))))))

file_real : (f : DeclaredFile) → IsFileInRange f → IsDatum descriptor_types (message_kind 1) (file_body f)
file_real f h =
    made_of 1 (file_contents f) refl
    (((tt, h.name, refl), refl), (package_stands f.package_name h.package_name, (list_stands (fields_of_type 1) 3 (many 3 (codes "dependency") kind.Text) refl refl refl (map text_datum f.imports) (each IsUtf8 kind.Text text_datum text_real f.imports h.imports), (list_stands (fields_of_type 1) 4 (many 4 (codes "message_type") (message_kind 2)) refl refl refl (message_bodies f.messages) (messages_real f.messages h.messages), (list_stands (fields_of_type 1) 5 (many 5 (codes "enum_type") (message_kind 7)) refl refl refl (map enum_body f.enums) (each IsEnumInRange (message_kind 7) enum_body enum_real f.enums h.enums), (list_stands (fields_of_type 1) 6 (many 6 (codes "service") (message_kind 10)) refl refl refl (map service_body f.services) (each IsServiceInRange (message_kind 10) service_body service_real f.services h.services), (list_stands (fields_of_type 1) 10 (many 10 (codes "public_dependency") kind.Int32) refl refl refl (map int_datum f.public_indexes) (each IsInt32 kind.Int32 int_datum int_real f.public_indexes h.public_indexes), (syntax_stands f.is_proto2, tt))))))))

-- ---- how deep messages stand in each other

mutual
  nests_below : (m : DeclaredMessage) → nests m ≤ levels_of (message_body m)
  nests_below (message head inner) = let all = all_nest_below inner in let below : datums_depth (datums_of (message_bodies inner)) < levels_of (message_body (message head inner)) = inner_below (message head inner) in omega arith

  all_nest_below : (ms : DeclaredMessages) → all_nest ms ≤ datums_depth (datums_of (message_bodies ms))
  all_nest_below no_messages = omega arith
  all_nest_below (more_messages m ms) = let first = nests_below m in let rest = all_nest_below ms in omega arith

-- messages that are known to be in range where they stand in each other so deep, and that do
pub messages_within : (k : ℕ) (ms : List DeclaredMessage) → AllByRecursion (λ m. nests m ≤ k → IsMessageInRange m) ms → all_nest (messages_of ms) ≤ k → AreMessagesInRange (messages_of ms)
messages_within k [] all within = tt
messages_within k (m ∷ ms) all within = (all.0 (omega (arith, within)), messages_within k ms all.1 (omega (arith, within)))

-- the files of a set of at most 100 levels
files_real : (fs : List DeclaredFile) → AllByRecursion (λ f. all_nest f.messages ≤ 100 → IsFileInRange f) fs → datums_depth (datums_of (map file_body fs)) ≤ 100 → AllByRecursion (IsDatum descriptor_types (message_kind 1)) (map file_body fs)
files_real [] all within = tt
files_real (f ∷ fs) all within =
    let inner = all_nest_below f.messages in
    let below = messages_below f in
    (file_real f (all.0 (omega arith)), files_real fs all.1 (omega (arith, within)))

-- what such files are written as is well formed
pub set_real : (fs : List DeclaredFile) → AllByRecursion (λ f. all_nest f.messages ≤ 100 → IsFileInRange f) fs → message_depth (set_body fs) ≤ 100 → IsWellFormed descriptor_types the_set (set_body fs)
set_real fs all within =
    let below = files_below fs in
    record {
      parts = made_of 0 ((1, a_list (map file_body fs)) ∷ []) refl
          (list_stands (fields_of_type 0) 1 (many 1 (codes "file") (message_kind 1)) refl refl refl (map file_body fs) (files_real fs all (omega arith)), tt);
      depth = within;
    }

-- ---- what is read of real declarations

mapped : {X Y : Type 0} (P : Y → Type 0) (view : X → Y) (xs : List X) → AllByRecursion (λ x. P (view x)) xs → AllByRecursion P (map view xs)
mapped P view [] h = tt
mapped P view (x ∷ xs) h = (h.0, mapped P view xs h.1)

strings : (ss : List (String Global)) → AllByRecursion IsUtf8 (map string_bytes ss)
strings [] = tt
strings (s ∷ ss) = (IsUtf8-string_bytes s, strings ss)

optional_string : (o : Option (String Global)) → IfSome (option_map string_bytes o) IsUtf8
optional_string None = tt
optional_string (Some s) = IsUtf8-string_bytes s

pub value_read : (v : String Global × ℤ) → IsInt32 v.1 → IsValueInRange (numbered_view v)
value_read v number = (IsUtf8-string_bytes v.0, number)

pub field_read : (f : FieldDecl) → IsInt32 f.number → IfSome f.oneof IsInt32 → IsFieldInRange (field_view f)
field_read f number oneof = record { name = IsUtf8-string_bytes f.name; number = number; type_name = optional_string f.type_name; oneof = oneof }

pub enum_read : (e : EnumDecl) → AllByRecursion (λ v. IsValueInRange (numbered_view v)) e.values.items → AllByRecursion IsRangeInRange e.reserved.items → IsEnumInRange (enum_view e)
enum_read e values reserved = record {
  name = IsUtf8-string_bytes e.name;
  values = mapped IsValueInRange numbered_view e.values.items values;
  reserved = reserved;
  reserved_names = strings e.reserved_names.items;
}

abbrev pub ReadFields : List FieldDecl → Type 0
ReadFields fs = AllByRecursion (λ f. IsFieldInRange (field_view f)) fs

abbrev pub ReadEnums : List EnumDecl → Type 0
ReadEnums es = AllByRecursion (λ e. IsEnumInRange (enum_view e)) es

pub message_read :
    (m : MessageDecl) (k : ℕ) → ReadFields (out-MessageDecl m).fields.items → ReadEnums (out-MessageDecl m).enums.items → AllByRecursion IsRangeInRange (out-MessageDecl m).reserved.items
    → AllByRecursion (λ d. nests d ≤ k → IsMessageInRange d) (map message_view (out-MessageDecl m).messages.items) → nests (message_view m) ≤ suc k → IsMessageInRange (message_view m)
message_read m k fields enums reserved inner within =
    let own = out-MessageDecl m in
    let deep : all_nest (messages_of (map message_view own.messages.items)) < suc k = subst (λ d. nests d ≤ suc k) (message_view-parts m) within in
    subst IsMessageInRange (sym (message_view-parts m)) (
      record {
        name = IsUtf8-string_bytes own.name;
        fields = mapped IsFieldInRange field_view own.fields.items fields;
        enums = mapped IsEnumInRange enum_view own.enums.items enums;
        oneofs = strings own.oneofs.items;
        reserved = reserved;
        reserved_names = strings own.reserved_names.items;
      },
      messages_within k (map message_view own.messages.items) inner (omega (arith, deep)),
    )

methods : (ms : List MethodDecl) → AllByRecursion IsMethodInRange (map method_view ms)
methods [] = tt
methods (m ∷ ms) = (record { name = IsUtf8-string_bytes m.name; input = IsUtf8-string_bytes m.input; output = IsUtf8-string_bytes m.output }, methods ms)

services : (ss : List ServiceDecl) → AllByRecursion IsServiceInRange (map service_view ss)
services [] = tt
services (s ∷ ss) = (record { name = IsUtf8-string_bytes s.name; methods = methods s.methods.items }, services ss)

pub file_read :
    (f : FileDecl) → AllByRecursion IsInt32 f.public.items → ReadEnums f.enums.items
    → AllByRecursion (λ m. nests m ≤ 100 → IsMessageInRange m) (map message_view f.messages.items) → all_nest (file_view f).messages ≤ 100 → IsFileInRange (file_view f)
file_read f public enums inner within = record {
  name = IsUtf8-string_bytes f.name;
  package_name = IsUtf8-string_bytes f.«package»;
  imports = strings f.imports.items;
  public_indexes = public;
  messages = messages_within 100 (map message_view f.messages.items) inner within;
  enums = mapped IsEnumInRange enum_view f.enums.items enums;
  services = services f.services.items;
}

-- what holds of the elements from an index on holds of all, also one element later
pub go_on :
    {X Y : Type 0} (P : Y → Type 0) (view : X → Y) (xs : List X) (i : ℕ) (x : X) → i < length xs → x ≡ get_or xs i x
    → (AllByRecursion P (map view (drop i xs)) → AllByRecursion P (map view xs)) → P (view x) → AllByRecursion P (map view (drop (i + 1) xs)) → AllByRecursion P (map view xs)
go_on P view xs i x less is before here later = before (subst (λ ys. AllByRecursion P (map view ys)) (sym (drop_more xs i x less)) (subst (λ y. P (view y)) is here, later))
