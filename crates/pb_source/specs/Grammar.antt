-- The grammars of sources, line by line as the language specifications have them, and what each line means (Protocol Buffers Language
-- Specification (Proto3), and (Proto2) for what proto2 alone has). Lines that statements are made of are in `Phrases` of `pb_source_tokens`.
use Prim.Native.String.{String}
use Rattle.std.specs.Prelude.{◌≡◌, ℕ, zero, suc, ◌≤◌, ℤ, List, [], ◌∷◌, length, codes}
use Rattle.std.specs.Prelude.{Bool, true, false, not, if◌then◌else◌, Option, Some, None, ◌⊎◌}
use Rattle.std.specs.Str.{bytes_eq}
use Rattle.std.specs.Char.{is_ascii_uppercase}
use Rattle.pb_declarations.specs.Decls.{DeclaredField, DeclaredEnum, DeclaredMessage, DeclaredMethod, DeclaredService, DeclaredFile}
use Rattle.pb_source_tokens.specs.Phrases.{keyword, mark, name, Until, Listed, BeginsNot, fullname, counted, signed, option, setting, field_end, group_end, value_end}
use Rattle.pb_source_tokens.specs.Phrases.{key_type, typename, typed, message_range, enum_range, utf8_text}
use Rattle.pb_source_tokens.specs.declared.rule.Rule.TheVariants.{SyntaxFirst as syntax_first, NestsBounded as nests_bounded}
use Rattle.pb_source_tokens.specs.declared.grammar.Grammar.{Grammar}
use Rattle.pb_source_tokens.specs.declared.grammar.Grammar.TheVariants.{Strict, Lenient}
use Rattle.pb_source_tokens.specs.declared.grammar.Syntax.{Syntax}
use Rattle.pb_source_tokens.specs.declared.grammar.Syntax.TheVariants.{Proto2, Proto3}
use Rattle.pb_source_tokens.specs.Symbols.{Symbol, word, text}
use Rattle.pb_source_tokens.specs.Language.{Language, ◌▸◌, ◌or◌, one, nothing, Rules, all_rules}
use Rattle.pb_source_tokens.specs.Said.{TypeSaid, joined}
use Rattle.pb_source.specs.declared.reading.Reading.{Reading}
use Rattle.pb_source.specs.declared.reading.Reading.TheVariants as reading
use Rattle.pb_source.specs.Syntaxes.{is_lenient, is_proto2, optional_label, grouping}
use Rattle.pb_source.specs.declared.kind.Label.{Label}
use Rattle.pb_source.specs.declared.kind.Label.TheVariants.{Unlabelled, Repeated}
use Rattle.pb_source.specs.Meaning.{MapDecl, Member, MessageStatement, EnumStatement, FileStatement}
use Rattle.pb_source.specs.Meaning.{those_said, field_of, group_field, message_of, enum_of, all_said, packages_said, file_of}

-- ---- what only some of the grammars have

-- a line that is there where a test says so
abbrev pub lined : Bool → Language → Language
lined true L = L
lined false L = λ ts. ⊥

-- a line that the strict grammar has not
abbrev pub beyond_strict : Grammar → Language → Language
beyond_strict g = lined (is_lenient g)

-- a line that proto2 alone has
abbrev pub in_proto2 : Grammar → Language → Language
in_proto2 g = lined (is_proto2 g)

-- a line that proto2 has not: there each field of a message or an extension has a label
abbrev pub but_proto2 : Grammar → Language → Language
but_proto2 g = lined (not (is_proto2 g))

-- ---- fields

-- type word "=" integer [ opts ] ";"
abbrev pub field : Grammar → Rules → Label → DeclaredField → Language
field g rules l f ts =
    (t : TypeSaid) × (w : List ℕ) × (n : ℕ) × (packed : Option Bool) × (f ≡ field_of l t w n packed)
    × (typed t ▸ name w ▸ mark "=" ▸ counted rules n ▸ field_end g rules packed) ts

-- ---- groups (Protocol Buffers Language Specification (Proto2), "Group field")

-- groupname = a word that begins with a capital letter
abbrev pub begins_capital : List ℕ → Bool
begins_capital [] = false
begins_capital (c ∷ cs) = is_ascii_uppercase c

abbrev pub group_name : List ℕ → Language
group_name w ts = (begins_capital w ≡ true) × name w ts

-- "group" groupname "=" integer [ opts ] "{"
abbrev pub group_head : Grammar → Rules → List ℕ → ℕ → Option Bool → Language
group_head g rules w n packed = keyword "group" ▸ group_name w ▸ mark "=" ▸ counted rules n ▸ group_end g rules packed

-- "group" groupname "=" integer [ opts ] "{" { statement } "}", where Body has the statements of a nested message, up to the closing brace
abbrev pub group : Grammar → Rules → (List MessageStatement → Language) → Label → Member → Language
group g rules Body l x ts =
    (w : List ℕ) × (n : ℕ) × (packed : Option Bool) × (ss : List MessageStatement) × (x ≡ (group_field l w n packed, Some (message_of w ss)))
    × (group_head g rules w n packed ▸ Body ss) ts

-- a field, or in proto2 a group
abbrev pub member : Grammar → Rules → (List MessageStatement → Language) → Label → Member → Language
member g rules Body l x ts =
    ((f : DeclaredField) × (x ≡ (f, None)) × BeginsNot (grouping g) ts × field g rules l f ts) ⊎ in_proto2 g (group g rules Body l x) ts

-- ---- maps and oneofs

-- map       = "map" "<" keytype "," type ">" word "=" integer [ opts ] ";"
abbrev pub map_line : Grammar → Rules → MapDecl → Language
map_line g rules m =
    keyword "map" ▸ mark "<" ▸ key_type m.key ▸ mark "," ▸ typed m.value ▸ mark ">" ▸ name m.name ▸ mark "=" ▸ counted rules m.number ▸ field_end g rules m.packed

-- { option | type word "=" integer [ opts ] ";" | ";" }, of which a field says something; in proto2 { option | field | group | ";" }
abbrev pub oneof_statement : Grammar → Rules → (List MessageStatement → Language) → Option Member → Language
oneof_statement g rules Body None = option g rules or mark ";"
oneof_statement g rules Body (Some x) = λ ts. BeginsNot ("option" ∷ []) ts × member g rules Body Unlabelled x ts

-- oneof     = "oneof" word "{" { option | type word "=" integer [ opts ] ";" | ";" } "}"
abbrev pub oneof : Grammar → Rules → (List MessageStatement → Language) → List ℕ → List Member → Language
oneof g rules Body n xs ts =
    (ss : List (Option Member)) × (xs ≡ those_said ss) × (keyword "oneof" ▸ name n ▸ mark "{" ▸ Until (oneof_statement g rules Body) (mark "}") ss) ts

-- ---- reserved

-- reserved  = "reserved" ( range { "," range } | text { "," text } ) ";"
abbrev pub ranges_line : ((ℤ × ℤ) → Language) → List (ℤ × ℤ) → Language
ranges_line Range rs = keyword "reserved" ▸ Listed Range rs ▸ mark ";"

abbrev pub names_line : Rules → List (List ℕ) → Language
names_line rules ns = keyword "reserved" ▸ Listed (utf8_text rules) ns ▸ mark ";"

-- ---- enums

-- { option | reserved | ";" | word "=" [ "-" ] integer [ opts ] ";" }
abbrev pub enum_statement : Grammar → Rules → EnumStatement → Language
enum_statement g rules EnumStatement.nothing_said = (keyword "option" ▸ setting g (codes "allow_alias") rules None ▸ mark ";") or mark ";"
enum_statement g rules (EnumStatement.allows_alias b) = keyword "option" ▸ setting g (codes "allow_alias") rules (Some b) ▸ mark ";"
enum_statement g rules (EnumStatement.a_value w z) = λ ts. BeginsNot ("option" ∷ "reserved" ∷ []) ts × (name w ▸ mark "=" ▸ signed rules z ▸ value_end g rules) ts
enum_statement g rules (EnumStatement.reserved_ranges rs) = ranges_line (enum_range rules) rs
enum_statement g rules (EnumStatement.reserved_names ns) = names_line rules ns

-- enum      = "enum" word "{" { option | reserved | ";" | word "=" [ "-" ] integer [ opts ] ";" } "}"
abbrev pub enum_line : Grammar → Rules → DeclaredEnum → Language
enum_line g rules e ts =
    (n : List ℕ) × (ss : List EnumStatement) × (e ≡ enum_of n ss) × (keyword "enum" ▸ name n ▸ mark "{" ▸ Until (enum_statement g rules) (mark "}") ss) ts

-- ---- extensions

-- [ label ] type word "=" integer [ opts ] ";", in proto2 with its label, or a group with its label
abbrev pub extended_field : Grammar → Rules → (List MessageStatement → Language) → Member → Language
extended_field g rules Body x =
    (keyword "repeated" ▸ member g rules Body Repeated x) or (keyword "optional" ▸ member g rules Body (optional_label g) x)
    or in_proto2 g (keyword "required" ▸ member g rules Body Unlabelled x)
    or but_proto2 g (λ ts. (f : DeclaredField) × (x ≡ (f, None)) × BeginsNot ("repeated" ∷ "optional" ∷ "required" ∷ []) ts × field g rules Unlabelled f ts)

-- { field | ";" }, in proto2 { field | group | ";" }, and the message of a group
abbrev pub extension : Grammar → Rules → (List MessageStatement → Language) → Option DeclaredMessage → Language
extension g rules Body o ts = ((o ≡ None) × mark ";" ts) ⊎ ((x : Member) × (o ≡ x.1) × extended_field g rules Body x ts)

-- extend    = "extend" typename "{" { field | ";" } "}"
abbrev pub extend : Grammar → Rules → (List MessageStatement → Language) → List DeclaredMessage → Language
extend g rules Body ms ts =
    (n : List ℕ) × (os : List (Option DeclaredMessage)) × (ms ≡ those_said os)
    × (keyword "extend" ▸ typename n ▸ mark "{" ▸ Until (extension g rules Body) (mark "}") os) ts

-- extensions = "extensions" range { "," range } [ opts ] ";"
abbrev pub extensions : Grammar → Rules → Language
extensions g rules ts = (rs : List (ℤ × ℤ)) × (keyword "extensions" ▸ Listed (message_range rules) rs ▸ value_end g rules) ts

-- ---- messages

-- A field begins with its label, or with its type, which none of these words begins. (`map` begins one where no `<` follows.)
abbrev pub unlabelled : Grammar → Rules → Member → Language
unlabelled g rules x ts =
    (f : DeclaredField) × (x ≡ (f, None))
    × BeginsNot ("message" ∷ "enum" ∷ "option" ∷ "oneof" ∷ "reserved" ∷ "optional" ∷ "repeated" ∷ "required" ∷ "extend" ∷ "extensions" ∷ []) ts
    × field g rules Unlabelled f ts

-- "message" word "{" { statement } "}", where Body has the statements, up to the closing brace
abbrev pub message_line : (List MessageStatement → Language) → DeclaredMessage → Language
message_line Body m ts =
    (n : List ℕ) × (ss : List MessageStatement) × (m ≡ message_of n ss) × (keyword "message" ▸ name n ▸ mark "{" ▸ Body ss) ts

-- { field | enum | message | option | oneof | map | reserved | ";" }, in the lenient grammars extend | extensions too, where Body has the statements of
-- the messages that may nest here, each up to its closing brace;
-- field     = [ "repeated" | "optional" ] type word "=" integer [ opts ] ";", in proto2 ( "repeated" | "optional" | "required" ) type ..,
-- group     = ( "repeated" | "optional" | "required" ) "group" groupname ..
abbrev pub message_statement : Grammar → Rules → (List MessageStatement → Language) → MessageStatement → Language
message_statement g rules Body MessageStatement.nothing_said = option g rules or mark ";" or beyond_strict g (extensions g rules)
message_statement g rules Body (MessageStatement.a_field x) =
    (keyword "repeated" ▸ member g rules Body Repeated x) or (keyword "optional" ▸ member g rules Body (optional_label g) x)
    or in_proto2 g (keyword "required" ▸ member g rules Body Unlabelled x) or but_proto2 g (unlabelled g rules x)
message_statement g rules Body (MessageStatement.a_map m) = map_line g rules m
message_statement g rules Body (MessageStatement.a_oneof n xs) = oneof g rules Body n xs
message_statement g rules Body (MessageStatement.a_message m) = message_line Body m
message_statement g rules Body (MessageStatement.an_extend ms) = beyond_strict g (extend g rules Body ms)
message_statement g rules Body (MessageStatement.an_enum e) = enum_line g rules e
message_statement g rules Body (MessageStatement.reserved_ranges rs) = ranges_line (message_range rules) rs
message_statement g rules Body (MessageStatement.reserved_names ns) = names_line rules ns

-- { statement } "}", of a message in a nest of at most this many
abbrev pub body : Grammar → Rules → ℕ → List MessageStatement → Language
body g rules zero ss ts = ⊥
body g rules (suc depth_left) ss ts = Until (message_statement g rules (body g rules depth_left)) (mark "}") ss ts

-- message   = "message" word "{" { statement } "}", in a nest of at most this many
abbrev pub message : Grammar → Rules → ℕ → DeclaredMessage → Language
message g rules depth_left = message_line (body g rules depth_left)

-- Where the rule on nests is left out, one more may be there: its fault is reported at its first word.
abbrev pub depth_left : Rules → ℕ
depth_left rules = if rules nests_bounded then 64 else 65

-- ---- services

-- [ "stream" ] typename
abbrev pub streamed : Bool → List ℕ → Language
streamed true n = keyword "stream" ▸ typename n
streamed false n = λ ts. BeginsNot ("stream" ∷ []) ts × typename n ts

-- { option | ";" }
abbrev pub method_statement : Grammar → Rules → Unit {0} → Language
method_statement g rules u = option g rules or mark ";"

-- ( ";" | "{" { option | ";" } "}" )
abbrev pub method_end : Grammar → Rules → Language
method_end g rules ts = mark ";" ts ⊎ ((us : List (Unit {0})) × (mark "{" ▸ Until (method_statement g rules) (mark "}") us) ts)

-- "(" [ "stream" ] typename ")"
abbrev pub parameter : Bool → List ℕ → Language
parameter is_streamed n = mark "(" ▸ streamed is_streamed n ▸ mark ")"

-- rpc       = "rpc" word "(" [ "stream" ] typename ")" "returns" "(" [ "stream" ] typename ")" ( ";" | "{" { option | ";" } "}" )
abbrev pub method : Grammar → Rules → DeclaredMethod → Language
method g rules m =
    keyword "rpc" ▸ name m.name ▸ parameter m.client_streams m.input ▸ keyword "returns" ▸ parameter m.server_streams m.output ▸ method_end g rules

-- { option | rpc | ";" }, of which a method says something
abbrev pub service_statement : Grammar → Rules → Option DeclaredMethod → Language
service_statement g rules None = option g rules or mark ";"
service_statement g rules (Some m) = method g rules m

-- service   = "service" word "{" { option | rpc | ";" } "}"
abbrev pub service : Grammar → Rules → DeclaredService → Language
service g rules s ts =
    (ss : List (Option DeclaredMethod)) × (s.methods ≡ those_said ss)
    × (keyword "service" ▸ name s.name ▸ mark "{" ▸ Until (service_statement g rules) (mark "}") ss) ts

-- ---- files

-- [ "weak" | "public" ], and whether it is public
abbrev pub access : Bool → Language
access true = keyword "public"
access false = keyword "weak" or nothing

-- { import | package | option | message | enum | service | ";" }, in the lenient grammars extend too;
-- import    = "import" [ "weak" | "public" ] text ";"
-- package   = "package" fullname ";"
abbrev pub file_statement : Grammar → Rules → FileStatement → Language
file_statement g rules FileStatement.nothing_said = option g rules or mark ";"
file_statement g rules (FileStatement.an_import is_public n) = keyword "import" ▸ access is_public ▸ utf8_text rules n ▸ mark ";"
file_statement g rules (FileStatement.a_package p) = λ ts. (ws : List (List ℕ)) × (p ≡ joined ws) × (keyword "package" ▸ fullname ws ▸ mark ";") ts
file_statement g rules (FileStatement.a_message m) = message g rules (depth_left rules) m
file_statement g rules (FileStatement.an_extend ms) = beyond_strict g (extend g rules (body g rules (depth_left rules)) ms)
file_statement g rules (FileStatement.an_enum e) = enum_line g rules e
file_statement g rules (FileStatement.a_service s) = service g rules s

-- syntax    = "syntax" "=" text ";", after this first symbol
abbrev pub syntax_said : Symbol → List ℕ → Language
syntax_said first b = one first ▸ mark "=" ▸ one (text b) ▸ mark ";"

-- The syntax of a file, and the grammar of its other statements. Read strictly it is `proto3`; where the rule on it is left out, any symbol may
-- come first, and then any string. Read leniently it is `proto2`, as where none is given, or `proto3`; where the rule is left out, any string.
abbrev pub syntax_line : Reading → Rules → Grammar → Language
syntax_line reading.Strict rules Strict ts =
    syntax_said (word (codes "syntax")) (codes "proto3") ts ⊎ ((rules syntax_first ≡ false) × (s : Symbol) × (b : List ℕ) × syntax_said s b ts)
syntax_line reading.Strict rules (Lenient s) ts = ⊥
syntax_line reading.Lenient rules Strict ts = ⊥
syntax_line reading.Lenient rules (Lenient Proto2) ts = syntax_said (word (codes "syntax")) (codes "proto2") ts ⊎ nothing ts
syntax_line reading.Lenient rules (Lenient Proto3) ts =
    syntax_said (word (codes "syntax")) (codes "proto3") ts
    ⊎ ((rules syntax_first ≡ false) × (b : List ℕ) × (bytes_eq b (codes "proto2") ≡ false) × syntax_said (word (codes "syntax")) b ts)

-- file      = [ syntax ] { statement }, with at most one package; the grammar, and the statements after the syntax
abbrev pub file : Reading → Rules → Grammar × List FileStatement → Language
file r rules x ts = (length (all_said packages_said x.1) ≤ 1) × (syntax_line r rules x.0 ▸ Until (file_statement x.0 rules) nothing x.1) ts

-- The symbols are those of a file, and mean this.
abbrev pub FileSyntaxIn : Reading → List ℕ → List Symbol → DeclaredFile → Type 0
FileSyntaxIn r n ts d = (x : Grammar × List FileStatement) × file r all_rules x ts × (d ≡ file_of x.0 n x.1)

-- the same, read strictly
abbrev pub FileSyntax : List ℕ → List Symbol → DeclaredFile → Type 0
FileSyntax = FileSyntaxIn reading.Strict
