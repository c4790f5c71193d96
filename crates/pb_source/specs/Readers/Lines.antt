-- The readers of the grammar's lines: of each line of `Grammar` one.
use Rattle.std.specs.Prelude.{ℕ, zero, suc, ℤ, List, [], ◌∷◌, codes, Bool, true, false, not, if◌then◌else◌, Option, Some, None, option_map}
use Rattle.std.specs.Str.{bytes_eq}
use Rattle.pb_declarations.specs.Decls.{DeclaredField, DeclaredEnum, DeclaredMessage, DeclaredMethod, DeclaredService}
use Rattle.pb_declarations.specs.declared.decl.TypeCode.{TypeCode}
use Rattle.pb_source_tokens.specs.Readers.Phrases.{is_dot, listed, name_reader, fullname_reader, typename_reader, counted_reader, signed_reader}
use Rattle.pb_source_tokens.specs.Readers.Phrases.{is_text, utf8_reader, option_reader, setting_reader, field_end_reader, group_end_reader, value_end_reader}
use Rattle.pb_source_tokens.specs.Readers.Phrases.{type_of, type_reader, key_reader, message_range_reader, enum_range_reader}
use Rattle.pb_source_tokens.specs.declared.rule.Rule.TheVariants.{SyntaxFirst as syntax_first, NestsBounded as nests_bounded}
use Rattle.pb_source_tokens.specs.declared.grammar.Grammar.{Grammar}
use Rattle.pb_source_tokens.specs.declared.grammar.Grammar.TheVariants.{Strict, Lenient}
use Rattle.pb_source_tokens.specs.declared.grammar.Syntax.{Syntax}
use Rattle.pb_source_tokens.specs.declared.grammar.Syntax.TheVariants.{Proto2, Proto3}
use Rattle.pb_source_tokens.specs.Symbols.{Symbol, word, number, text, sign}
use Rattle.pb_source_tokens.specs.Said.{TypeSaid, joined}
use Rattle.pb_source_tokens.specs.Readers.Forms.{Reader, answer, chain, mapped, both, preceded, before, choice, by_kind, guarded, symbol, plain}
use Rattle.pb_source_tokens.specs.Readers.Forms.{judged, is_keyword, is_mark, keyword_reader, mark_reader, until, to_end}
use Rattle.pb_source.specs.declared.reading.Reading.{Reading}
use Rattle.pb_source.specs.declared.reading.Reading.TheVariants as reading
use Rattle.pb_source.specs.Syntaxes.{is_lenient, is_proto2, optional_label}
use Rattle.pb_source.specs.declared.kind.Label.{Label}
use Rattle.pb_source.specs.declared.kind.Label.TheVariants.{Unlabelled, Repeated}
use Rattle.pb_source.specs.declared.kind.FileKind.{FileKind}
use Rattle.pb_source.specs.declared.kind.FileKind.TheVariants as in_file
use Rattle.pb_source.specs.declared.kind.MessageKind.{MessageKind}
use Rattle.pb_source.specs.declared.kind.MessageKind.TheVariants as in_message
use Rattle.pb_source.specs.declared.kind.ExtendKind.{ExtendKind}
use Rattle.pb_source.specs.declared.kind.ExtendKind.TheVariants as in_extend
use Rattle.pb_source.specs.declared.kind.EnumKind.{EnumKind}
use Rattle.pb_source.specs.declared.kind.EnumKind.TheVariants as in_enum
use Rattle.pb_source.specs.declared.kind.OneofKind.{OneofKind}
use Rattle.pb_source.specs.declared.kind.OneofKind.TheVariants as in_a_oneof
use Rattle.pb_source.specs.declared.kind.ServiceKind.{ServiceKind}
use Rattle.pb_source.specs.declared.kind.ServiceKind.TheVariants as in_service
use Rattle.pb_source.specs.declared.kind.MethodKind.{MethodKind}
use Rattle.pb_source.specs.declared.kind.MethodKind.TheVariants as in_method
use Rattle.pb_source.specs.Meaning.{MapDecl, Member, MessageStatement, EnumStatement, FileStatement, those_said, field_of, group_field, message_of, enum_of}
use Rattle.pb_source.specs.Grammar.{begins_capital}

abbrev pub is_closing : Symbol → Bool
is_closing = is_mark (codes "}")

-- "{" { item } "}"
abbrev pub braced : {I : Type 0} → ℕ → Reader I → Reader (List I)
braced n item = preceded (mark_reader (codes "{")) (until n is_closing item (mark_reader (codes "}")) [])

-- a line that is there where a test says so
abbrev pub taken : {A : Type 0} → Bool → Reader A → Option (Reader A)
taken true p = Some p
taken false p = None

-- ---- fields

-- word "=" integer [ opts ] ";"
unfoldable pub field_tail_reader : Grammar → ℕ → Reader (List ℕ × (ℕ × Option Bool))
field_tail_reader g n = both name_reader (preceded (mark_reader (codes "=")) (both counted_reader (field_end_reader g n)))

abbrev pub field_from : Label → TypeSaid × (List ℕ × (ℕ × Option Bool)) → DeclaredField
field_from l x = field_of l x.0 x.1.0 x.1.1.0 x.1.1.1

-- type word "=" integer [ opts ] ";"
unfoldable pub field_reader : Grammar → ℕ → Label → Reader DeclaredField
field_reader g n l = mapped (field_from l) (both (type_reader n) (field_tail_reader g n))

-- ---- groups

-- how the statements of a nested message are read, up to the closing brace
pub data Nested : Type 0 where
  -- no message may nest
  none : Nested
  -- one may where the rule on nests is left out
  beyond : Reader (List MessageStatement) → Nested
  inside : Reader (List MessageStatement) → Nested

abbrev pub is_group : Symbol → Bool
is_group = is_keyword (codes "group")

abbrev pub if_capital : Bool → List ℕ → Option (List ℕ)
if_capital true w = Some w
if_capital false w = None

abbrev pub group_name_in : Symbol → Option (List ℕ)
group_name_in (word w) = if_capital (begins_capital w) w
group_name_in (number w) = None
group_name_in (text b) = None
group_name_in (sign c) = None

-- a group's name: a word that begins with a capital letter
abbrev pub group_name_reader : Reader (List ℕ)
group_name_reader = symbol (plain group_name_in)

-- "group" groupname "=" integer [ opts ] "{"
unfoldable pub group_head_reader : Grammar → ℕ → Reader (List ℕ × (ℕ × Option Bool))
group_head_reader g n =
    preceded (keyword_reader (codes "group")) (both group_name_reader (preceded (mark_reader (codes "=")) (both counted_reader (group_end_reader g n))))

abbrev pub group_from : Label → (List ℕ × (ℕ × Option Bool)) × List MessageStatement → Member
group_from l x = (group_field l x.0.0 x.0.1.0 x.0.1.1, Some (message_of x.0.0 x.1))

-- a group, by the reader of its statements, up to the closing brace
abbrev pub group_reader : Grammar → ℕ → Label → Reader (List MessageStatement) → Reader Member
group_reader g n l body = mapped (group_from l) (both (group_head_reader g n) body)

abbrev pub alone : DeclaredField → Member
alone f = (f, None)

-- the statement of a field that is no group
abbrev pub a_single : DeclaredField → MessageStatement
a_single f = MessageStatement.a_field (alone f)

abbrev pub if_ungrouped : Symbol → Option (Unit {0})
if_ungrouped s = if is_group s then None else Some tt

-- a field that does not begin with the word `group`
unfoldable pub ungrouped_reader : Grammar → ℕ → Label → Reader Member
ungrouped_reader g n l = by_kind if_ungrouped (λ _. Some (mapped alone (field_reader g n l)))

-- a field or a group, by the messages that may nest
abbrev pub grouped_reader : Grammar → ℕ → Label → Nested → Reader Member
grouped_reader g n l Nested.none = ungrouped_reader g n l
grouped_reader g n l (Nested.beyond body) = guarded nests_bounded is_group (group_reader g n l body) (ungrouped_reader g n l)
grouped_reader g n l (Nested.inside body) = choice is_group (group_reader g n l body) (ungrouped_reader g n l)

-- a field, or in proto2 a group
abbrev pub member_by : Bool → Grammar → ℕ → Label → Nested → Reader Member
member_by true g n l nested = grouped_reader g n l nested
member_by false g n l nested = mapped alone (field_reader g n l)

abbrev pub member_reader : Grammar → ℕ → Label → Nested → Reader Member
member_reader g n l nested = member_by (is_proto2 g) g n l nested

-- ---- maps

abbrev pub map_from : TypeCode × (TypeSaid × (List ℕ × (ℕ × Option Bool))) → MapDecl
map_from x = record { key = x.0; value = x.1.0; name = x.1.1.0; number = x.1.1.1.0; packed = x.1.1.1.1 }

-- "<" keytype "," type ">" word "=" integer [ opts ] ";"
unfoldable pub map_tail_reader : Grammar → ℕ → Reader MapDecl
map_tail_reader g n =
    preceded (mark_reader (codes "<")) (mapped map_from
    (both key_reader (preceded (mark_reader (codes ",")) (both (type_reader n) (preceded (mark_reader (codes ">")) (field_tail_reader g n))))))

-- { "." word }
unfoldable pub dotted_reader : ℕ → Reader (List (List ℕ))
dotted_reader n = choice is_dot (preceded (mark_reader (codes ".")) (fullname_reader n)) (answer [])

-- a field of a type whose name begins with the word `map`, from after that word
unfoldable pub of_map_reader : Grammar → ℕ → Reader DeclaredField
of_map_reader g n = mapped (field_from Unlabelled) (both (mapped (λ ws. type_of (codes "map" ∷ ws)) (dotted_reader n)) (field_tail_reader g (suc n)))

-- what follows the word `map`, where a field may have no label, or where it may not
abbrev pub map_rest_reader : Bool → Grammar → ℕ → Reader MessageStatement
map_rest_reader true g n = mapped MessageStatement.a_map (map_tail_reader g (suc n))
map_rest_reader false g n =
    choice (is_mark (codes "<")) (mapped MessageStatement.a_map (map_tail_reader g (suc n))) (mapped a_single (of_map_reader g n))

-- a map field, or but in proto2 a field of a type whose name begins with the word `map`
unfoldable pub map_reader : Grammar → ℕ → Reader MessageStatement
map_reader g n = preceded (keyword_reader (codes "map")) (map_rest_reader (is_proto2 g) g n)

-- ---- kinds of statements

abbrev pub kind_in : {K : Type 0} → List (List ℕ × Option K) → Option K → List ℕ → Option K
kind_in [] other w = other
kind_in (e ∷ es) other w = if bytes_eq w e.0 then e.1 else kind_in es other w

-- by tables of words and of signs, and the kind of the other words
abbrev pub kind_of : {K : Type 0} → List (List ℕ × Option K) → Option K → List (List ℕ × Option K) → Symbol → Option K
kind_of words other signs (word w) = kind_in words other w
kind_of words other signs (sign c) = kind_in signs None c
kind_of words other signs (number w) = None
kind_of words other signs (text b) = None

-- ---- oneofs

abbrev pub oneof_kind : Symbol → Option OneofKind
oneof_kind =
    kind_of
    ((codes "option", Some in_a_oneof.Option) ∷ [])
    (Some in_a_oneof.Field)
    ((codes ";", Some in_a_oneof.Empty) ∷ (codes ".", Some in_a_oneof.Field) ∷ [])

abbrev pub oneof_line : Grammar → ℕ → Nested → OneofKind → Option (Reader (Option Member))
oneof_line g n nested in_a_oneof.Empty = Some (mapped (λ _. None) (mark_reader (codes ";")))
oneof_line g n nested in_a_oneof.Option = Some (mapped (λ _. None) (option_reader g n))
oneof_line g n nested in_a_oneof.Field = Some (mapped Some (member_reader g n Unlabelled nested))

unfoldable pub oneof_statement_reader : Grammar → ℕ → Nested → Reader (Option Member)
oneof_statement_reader g n nested = by_kind oneof_kind (oneof_line g n nested)

-- the name, and the fields
unfoldable pub oneof_reader : Grammar → ℕ → Nested → Reader (List ℕ × List Member)
oneof_reader g n nested = preceded (keyword_reader (codes "oneof")) (both name_reader (mapped those_said (braced n (oneof_statement_reader g n nested))))

-- ---- reserved

-- reserved  = "reserved" ( range { "," range } | text { "," text } ) ";"
unfoldable pub reserved_reader : {A : Type 0} → ℕ → Reader (ℤ × ℤ) → (List (ℤ × ℤ) → A) → (List (List ℕ) → A) → Reader A
reserved_reader n range of_ranges of_names =
    preceded (keyword_reader (codes "reserved"))
    (choice is_text
    (mapped of_names (before (listed n utf8_reader) (mark_reader (codes ";"))))
    (mapped of_ranges (before (listed n range) (mark_reader (codes ";")))))

-- ---- enums

abbrev pub said_of_alias : Option Bool → EnumStatement
said_of_alias None = EnumStatement.nothing_said
said_of_alias (Some b) = EnumStatement.allows_alias b

abbrev pub enum_kind : Symbol → Option EnumKind
enum_kind =
    kind_of ((codes "option", Some in_enum.Option) ∷ (codes "reserved", Some in_enum.Reserved) ∷ []) (Some in_enum.Value) ((codes ";", Some in_enum.Empty) ∷ [])

-- word "=" [ "-" ] integer [ opts ] ";"
unfoldable pub value_reader : Grammar → ℕ → Reader EnumStatement
value_reader g n =
    mapped (λ x. EnumStatement.a_value x.0 x.1) (both name_reader (preceded (mark_reader (codes "=")) (before signed_reader (value_end_reader g n))))

abbrev pub enum_statement_line : Grammar → ℕ → EnumKind → Option (Reader EnumStatement)
enum_statement_line g n in_enum.Empty = Some (mapped (λ _. EnumStatement.nothing_said) (mark_reader (codes ";")))
enum_statement_line g n in_enum.Option =
    Some (mapped said_of_alias (preceded (keyword_reader (codes "option")) (before (setting_reader g n (codes "allow_alias")) (mark_reader (codes ";")))))
enum_statement_line g n in_enum.Reserved = Some (reserved_reader n enum_range_reader EnumStatement.reserved_ranges EnumStatement.reserved_names)
enum_statement_line g n in_enum.Value = Some (value_reader g n)

unfoldable pub enum_statement_reader : Grammar → ℕ → Reader EnumStatement
enum_statement_reader g n = by_kind enum_kind (enum_statement_line g n)

unfoldable pub enum_reader : Grammar → ℕ → Reader DeclaredEnum
enum_reader g n = mapped (λ x. enum_of x.0 x.1) (preceded (keyword_reader (codes "enum")) (both name_reader (braced n (enum_statement_reader g n))))

-- ---- extensions

-- a line that the strict grammar has not, and of which nothing is kept
abbrev pub dropped : {A : Type 0} → Grammar → A → Reader (Unit {0}) → Option (Reader A)
dropped g v p = taken (is_lenient g) (mapped (λ _. v) p)

abbrev pub extend_kind : Symbol → Option ExtendKind
extend_kind =
    kind_of
    ((codes "repeated", Some in_extend.Repeated) ∷ (codes "optional", Some in_extend.Optional) ∷ (codes "required", Some in_extend.Required) ∷ [])
    (Some in_extend.Field)
    ((codes ";", Some in_extend.Empty) ∷ (codes ".", Some in_extend.Field) ∷ [])

-- a field or a group after the word of its label
abbrev pub labelled_reader : Grammar → ℕ → List ℕ → Label → Nested → Reader Member
labelled_reader g n w l nested = preceded (keyword_reader w) (member_reader g n l nested)

-- the message of a group
abbrev pub group_in : Member → Option DeclaredMessage
group_in x = x.1

abbrev pub extension_line : Grammar → ℕ → Nested → ExtendKind → Option (Reader (Option DeclaredMessage))
extension_line g n nested in_extend.Empty = Some (mapped (λ _. None) (mark_reader (codes ";")))
extension_line g n nested in_extend.Repeated = Some (mapped group_in (labelled_reader g n (codes "repeated") Repeated nested))
extension_line g n nested in_extend.Optional = Some (mapped group_in (labelled_reader g n (codes "optional") (optional_label g) nested))
extension_line g n nested in_extend.Required = taken (is_proto2 g) (mapped group_in (labelled_reader g n (codes "required") Unlabelled nested))
extension_line g n nested in_extend.Field = taken (not (is_proto2 g)) (mapped (λ _. None) (field_reader g n Unlabelled))

-- { field | ";" }, each
unfoldable pub extension_reader : Grammar → ℕ → Nested → Reader (Option DeclaredMessage)
extension_reader g n nested = by_kind extend_kind (extension_line g n nested)

-- extend    = "extend" typename "{" { field | ";" } "}"
unfoldable pub extend_reader : Grammar → ℕ → Nested → Reader (List DeclaredMessage)
extend_reader g n nested =
    preceded (keyword_reader (codes "extend"))
    (preceded (mapped (λ _. tt) (typename_reader n)) (mapped those_said (braced n (extension_reader g n nested))))

-- extensions = "extensions" range { "," range } [ opts ] ";"
unfoldable pub extensions_reader : Grammar → ℕ → Reader (Unit {0})
extensions_reader g n =
    preceded (keyword_reader (codes "extensions")) (preceded (mapped (λ _. tt) (listed n message_range_reader)) (value_end_reader g n))

-- ---- messages

abbrev pub message_kind : Symbol → Option MessageKind
message_kind =
    kind_of
    ((codes "message", Some in_message.Message) ∷ (codes "enum", Some in_message.Enum)
    ∷ (codes "option", Some in_message.Option) ∷ (codes "oneof", Some in_message.Oneof) ∷ (codes "reserved", Some in_message.Reserved)
    ∷ (codes "optional", Some in_message.Optional) ∷ (codes "repeated", Some in_message.Repeated)
    ∷ (codes "required", Some in_message.Required) ∷ (codes "extend", Some in_message.Extend) ∷ (codes "extensions", Some in_message.Extensions)
    ∷ (codes "map", Some in_message.Map) ∷ [])
    (Some in_message.Field)
    ((codes ";", Some in_message.Empty) ∷ (codes ".", Some in_message.Field) ∷ [])

-- "message" word "{" { statement } "}", by the reader of the statements, up to the closing brace
unfoldable pub message_line_reader : Reader (List MessageStatement) → Reader DeclaredMessage
message_line_reader body =
    mapped (λ x. message_of x.0 x.1) (preceded (keyword_reader (codes "message")) (both name_reader (preceded (mark_reader (codes "{")) body)))

abbrev pub nested_message_reader : Nested → Option (Reader MessageStatement)
nested_message_reader Nested.none = None
nested_message_reader (Nested.beyond body) = None
nested_message_reader (Nested.inside body) = Some (mapped MessageStatement.a_message (message_line_reader body))

abbrev pub message_statement_line : Grammar → ℕ → Nested → MessageKind → Option (Reader MessageStatement)
message_statement_line g n nested in_message.Empty = Some (mapped (λ _. MessageStatement.nothing_said) (mark_reader (codes ";")))
message_statement_line g n nested in_message.Option = Some (mapped (λ _. MessageStatement.nothing_said) (option_reader g n))
message_statement_line g n nested in_message.Message = nested_message_reader nested
message_statement_line g n nested in_message.Enum = Some (mapped MessageStatement.an_enum (enum_reader g n))
message_statement_line g n nested in_message.Oneof = Some (mapped (λ x. MessageStatement.a_oneof x.0 x.1) (oneof_reader g n nested))
message_statement_line g n nested in_message.Reserved =
    Some (reserved_reader n message_range_reader MessageStatement.reserved_ranges MessageStatement.reserved_names)
message_statement_line g n nested in_message.Repeated = Some (mapped MessageStatement.a_field (labelled_reader g n (codes "repeated") Repeated nested))
message_statement_line g n nested in_message.Optional =
    Some (mapped MessageStatement.a_field (labelled_reader g n (codes "optional") (optional_label g) nested))
message_statement_line g n nested in_message.Required =
    taken (is_proto2 g) (mapped MessageStatement.a_field (labelled_reader g n (codes "required") Unlabelled nested))
message_statement_line g n nested in_message.Map = Some (map_reader g n)
message_statement_line g n nested in_message.Field =
    taken (not (is_proto2 g)) (mapped a_single (field_reader g n Unlabelled))
message_statement_line g n nested in_message.Extend = taken (is_lenient g) (mapped MessageStatement.an_extend (extend_reader g n nested))
message_statement_line g n nested in_message.Extensions = dropped g MessageStatement.nothing_said (extensions_reader g n)

-- a statement that the rule on nests does not forbid by its first word
unfoldable pub allowed_statement_reader : Grammar → ℕ → Nested → Reader MessageStatement
allowed_statement_reader g n nested = by_kind message_kind (message_statement_line g n nested)

-- Where a message may nest beyond the rule alone, the rule forbids the word that begins one.
abbrev pub message_statement_reader : Grammar → ℕ → Nested → Reader MessageStatement
message_statement_reader g n Nested.none = allowed_statement_reader g n Nested.none
message_statement_reader g n (Nested.beyond body) =
    guarded nests_bounded (is_keyword (codes "message")) (mapped MessageStatement.a_message (message_line_reader body))
    (allowed_statement_reader g n (Nested.beyond body))
message_statement_reader g n (Nested.inside body) = allowed_statement_reader g n (Nested.inside body)

-- { statement } "}"
abbrev pub body_reader : ℕ → Reader MessageStatement → Reader (List MessageStatement)
body_reader n statement = until n is_closing statement (mark_reader (codes "}")) []

-- what nests in a message, where this many levels are left: as many messages may nest in it, each in the one before
unfoldable pub nested_in : Grammar → ℕ → ℕ → Nested
nested_in g n zero = Nested.beyond (body_reader n (message_statement_reader g n Nested.none))
nested_in g n (suc depth_left) = Nested.inside (body_reader n (message_statement_reader g n (nested_in g n depth_left)))

-- a statement of a message with these levels left
abbrev pub room_statement_reader : Grammar → ℕ → ℕ → Reader MessageStatement
room_statement_reader g n depth_left = message_statement_reader g n (nested_in g n depth_left)

abbrev pub room_body_reader : Grammar → ℕ → ℕ → Reader (List MessageStatement)
room_body_reader g n depth_left = body_reader n (room_statement_reader g n depth_left)

-- a message with these levels left
abbrev pub message_reader : Grammar → ℕ → ℕ → Reader DeclaredMessage
message_reader g n depth_left = message_line_reader (room_body_reader g n depth_left)

-- ---- services

abbrev pub streams : Symbol → Bool
streams = is_keyword (codes "stream")

-- [ "stream" ] typename, and whether it is streamed
unfoldable pub streamed_reader : ℕ → Reader (Bool × List ℕ)
streamed_reader n =
    choice streams (mapped (λ t. (true, t)) (preceded (keyword_reader (codes "stream")) (typename_reader n))) (mapped (λ t. (false, t)) (typename_reader n))

abbrev pub method_kind : Symbol → Option MethodKind
method_kind = kind_of ((codes "option", Some in_method.Option) ∷ []) None ((codes ";", Some in_method.Empty) ∷ [])

abbrev pub method_line : Grammar → ℕ → MethodKind → Option (Reader (Unit {0}))
method_line g n in_method.Empty = Some (mark_reader (codes ";"))
method_line g n in_method.Option = Some (option_reader g n)

-- { option | ";" }, each
unfoldable pub method_statement_reader : Grammar → ℕ → Reader (Unit {0})
method_statement_reader g n = by_kind method_kind (method_line g n)

-- ( ";" | "{" { option | ";" } "}" )
unfoldable pub method_end_reader : Grammar → ℕ → Reader (Unit {0})
method_end_reader g n = choice (is_mark (codes "{")) (mapped (λ _. tt) (braced n (method_statement_reader g n))) (mark_reader (codes ";"))

abbrev pub method_from : List ℕ × ((Bool × List ℕ) × (Bool × List ℕ)) → DeclaredMethod
method_from x = record { name = x.0; input = x.1.0.1; output = x.1.1.1; client_streams = x.1.0.0; server_streams = x.1.1.0 }

-- "(" [ "stream" ] typename ")"
unfoldable pub parameter_reader : ℕ → Reader (Bool × List ℕ)
parameter_reader n = preceded (mark_reader (codes "(")) (before (streamed_reader n) (mark_reader (codes ")")))

unfoldable pub method_reader : Grammar → ℕ → Reader DeclaredMethod
method_reader g n =
    mapped method_from (preceded (keyword_reader (codes "rpc"))
    (both name_reader (both (parameter_reader n) (preceded (keyword_reader (codes "returns")) (before (parameter_reader n) (method_end_reader g n))))))

abbrev pub service_kind : Symbol → Option ServiceKind
service_kind = kind_of ((codes "option", Some in_service.Option) ∷ (codes "rpc", Some in_service.Method) ∷ []) None ((codes ";", Some in_service.Empty) ∷ [])

abbrev pub service_line : Grammar → ℕ → ServiceKind → Option (Reader (Option DeclaredMethod))
service_line g n in_service.Empty = Some (mapped (λ _. None) (mark_reader (codes ";")))
service_line g n in_service.Option = Some (mapped (λ _. None) (option_reader g n))
service_line g n in_service.Method = Some (mapped Some (method_reader g n))

unfoldable pub service_statement_reader : Grammar → ℕ → Reader (Option DeclaredMethod)
service_statement_reader g n = by_kind service_kind (service_line g n)

abbrev pub service_from : List ℕ × List (Option DeclaredMethod) → DeclaredService
service_from x = record { name = x.0; methods = those_said x.1 }

unfoldable pub service_reader : Grammar → ℕ → Reader DeclaredService
service_reader g n = mapped service_from (preceded (keyword_reader (codes "service")) (both name_reader (braced n (service_statement_reader g n))))

-- ---- files

-- [ "weak" | "public" ], and whether it is public
unfoldable pub access_reader : Reader Bool
access_reader =
    choice (is_keyword (codes "public")) (mapped (λ _. true) (keyword_reader (codes "public")))
    (choice (is_keyword (codes "weak")) (mapped (λ _. false) (keyword_reader (codes "weak"))) (answer false))

-- import    = "import" [ "weak" | "public" ] text ";"
unfoldable pub import_reader : Reader (Bool × List ℕ)
import_reader = preceded (keyword_reader (codes "import")) (both access_reader (before utf8_reader (mark_reader (codes ";"))))

-- package   = "package" fullname ";"
unfoldable pub package_reader : ℕ → Reader (List ℕ)
package_reader n = mapped joined (preceded (keyword_reader (codes "package")) (before (fullname_reader n) (mark_reader (codes ";"))))

abbrev pub file_kind : Symbol → Option FileKind
file_kind =
    kind_of
    ((codes "import", Some in_file.Import) ∷ (codes "package", Some in_file.Package) ∷ (codes "option", Some in_file.Option)
    ∷ (codes "message", Some in_file.Message) ∷ (codes "enum", Some in_file.Enum) ∷ (codes "service", Some in_file.Service)
    ∷ (codes "extend", Some in_file.Extend) ∷ [])
    None
    ((codes ";", Some in_file.Empty) ∷ [])

-- no package, where one has been said
abbrev pub file_line : Grammar → ℕ → Bool → FileKind → Option (Reader FileStatement)
file_line g n said in_file.Empty = Some (mapped (λ _. FileStatement.nothing_said) (mark_reader (codes ";")))
file_line g n said in_file.Option = Some (mapped (λ _. FileStatement.nothing_said) (option_reader g n))
file_line g n said in_file.Import = Some (mapped (λ x. FileStatement.an_import x.0 x.1) import_reader)
file_line g n true in_file.Package = None
file_line g n false in_file.Package = Some (mapped FileStatement.a_package (package_reader n))
file_line g n said in_file.Message = Some (mapped FileStatement.a_message (message_reader g n 63))
file_line g n said in_file.Enum = Some (mapped FileStatement.an_enum (enum_reader g n))
file_line g n said in_file.Service = Some (mapped FileStatement.a_service (service_reader g n))
file_line g n said in_file.Extend = taken (is_lenient g) (mapped FileStatement.an_extend (extend_reader g n (nested_in g n 64)))

unfoldable pub file_statement_reader : Grammar → ℕ → Bool → Reader FileStatement
file_statement_reader g n said = by_kind file_kind (file_line g n said)

abbrev pub syntax_word_in : Symbol → Option (Unit {0} × Bool)
syntax_word_in s = Some (tt, is_keyword (codes "syntax") s)

abbrev pub syntax_text_in : Symbol → Option (Unit {0} × Bool)
syntax_text_in (text b) = Some (tt, bytes_eq b (codes "proto3"))
syntax_text_in (word w) = None
syntax_text_in (number w) = None
syntax_text_in (sign c) = None

-- syntax    = "syntax" "=" text ";", read strictly
unfoldable pub strict_syntax_reader : Reader (Unit {0})
strict_syntax_reader =
    preceded (symbol (judged syntax_first syntax_word_in)) (preceded (mark_reader (codes "="))
    (preceded (symbol (judged syntax_first syntax_text_in)) (mark_reader (codes ";"))))

-- the syntax that a text names, and whether it is one
abbrev pub named_syntax : List ℕ → Syntax × Bool
named_syntax b = if bytes_eq b (codes "proto2") then (Proto2, true) else (Proto3, bytes_eq b (codes "proto3"))

abbrev pub named_syntax_in : Symbol → Option (Syntax × Bool)
named_syntax_in (text b) = Some (named_syntax b)
named_syntax_in (word w) = None
named_syntax_in (number w) = None
named_syntax_in (sign c) = None

-- syntax    = "syntax" "=" text ";", read leniently
unfoldable pub lenient_syntax_reader : Reader Syntax
lenient_syntax_reader =
    preceded (keyword_reader (codes "syntax")) (preceded (mark_reader (codes "=")) (before (symbol (judged syntax_first named_syntax_in)) (mark_reader (codes ";"))))

abbrev pub begins_syntax : Symbol → Bool
begins_syntax = is_keyword (codes "syntax")

-- the syntax, and the grammar of the other statements
unfoldable pub syntax_reader : Reading → Reader Grammar
syntax_reader reading.Strict = mapped (λ _. Strict) strict_syntax_reader
syntax_reader reading.Lenient = choice begins_syntax (mapped Lenient lenient_syntax_reader) (answer (Lenient Proto2))

abbrev pub is_package : FileStatement → Bool
is_package FileStatement.nothing_said = false
is_package (FileStatement.an_import is_public f) = false
is_package (FileStatement.a_package p) = true
is_package (FileStatement.a_message m) = false
is_package (FileStatement.an_extend ms) = false
is_package (FileStatement.an_enum e) = false
is_package (FileStatement.a_service s) = false

-- { statement }, with at most one package, and the grammar
abbrev pub statements_reader : ℕ → Grammar → Reader (Grammar × List FileStatement)
statements_reader n g = mapped (λ ss. (g, ss)) (to_end n is_package (file_statement_reader g n) false [])

-- file      = [ syntax ] { statement }, with at most one package
unfoldable pub file_reader : Reading → ℕ → Reader (Grammar × List FileStatement)
file_reader r n = chain (syntax_reader r) (statements_reader n)
