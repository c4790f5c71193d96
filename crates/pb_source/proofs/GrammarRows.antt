-- Small files by their symbols: what they declare, or their fault, worked out by the rules.
use Prim.Native.String.{String}
use Rattle.std.proofs.Common.{◌≡◌, ℕ, zero, suc, ◌≤◌, List, [], ◌∷◌, ◌++◌, codes, refl, Option, Some, None, Ok, Err, lit≤, arith, false, true, pos, neg_ℤ}
use Rattle.pb_schema.specs.Names.{entry_name}
use Rattle.pb_declarations.specs.Decls.{DeclaredField, DeclaredEnum, DeclaredMethod, DeclaredFile, DeclaredMessages, message as message_decl, no_messages, more_messages}
use Rattle.pb_declarations.specs.declared.decl.TypeCode.TheVariants as code
use Rattle.pb_source_tokens.specs.declared.fault.SourceCause.TheVariants.{Unexpected, NumberTooLarge, CustomOption, NotProto3, NestedTooDeep}
use Rattle.pb_source_tokens.specs.declared.rule.Rule.{Rule}
use Rattle.pb_source_tokens.specs.declared.rule.Rule.TheVariants.{NumbersFit as numbers_fit, OptionsKnown as options_known, SyntaxFirst as syntax_first, NestsBounded as nests_bounded}
use Rattle.pb_source_tokens.specs.declared.grammar.Grammar.{Grammar}
use Rattle.pb_source_tokens.specs.declared.grammar.Grammar.TheVariants.{Strict}
use Rattle.pb_source_tokens.specs.Tokens.{Lexes}
use Rattle.pb_source_tokens.specs.Symbols.{Symbol, word, number, text, sign, AreSymbols}
use Rattle.pb_source_tokens.specs.Language.{all_rules}
use Rattle.pb_source_tokens.specs.Said.{a_scalar, a_name}
use Rattle.pb_source_tokens.specs.Readers.Forms.{Outcome}
use Rattle.pb_source_tokens.specs.Readers.Phrases.{name_reader, fullname_reader, typename_reader, limited_reader, signed_reader, plus_or_minus_reader, signed_value_reader, unquoted_reader, constant_reader, part_reader, optname_reader, assignment_reader, option_reader, setting_reader, field_option_reader, options_reader, ended_reader, value_end_reader, type_reader, key_reader, range_reader, utf8_reader}
use Rattle.pb_source_tokens.proofs.ToEnd.{always}
use Rattle.pb_source.specs.declared.kind.Label.TheVariants.{Unlabelled, Optional}
use Rattle.pb_source.specs.declared.reading.Reading.TheVariants as reading
use Rattle.pb_source.specs.Meaning.{FileStatement, MessageStatement, MapDecl, field_of, message_of}
use Rattle.pb_source.specs.Grammar.{file, FileSyntax}
use Rattle.pb_source.specs.SyntaxFault.{Fault, SyntaxFault}
use Rattle.pb_source.specs.Source.{place_in, HasFault, HasFaultIn}
use Rattle.pb_source.specs.Readers.Lines.{field_tail_reader, field_reader, map_tail_reader, dotted_reader, of_map_reader, map_reader, group_head_reader, ungrouped_reader, oneof_statement_reader, oneof_reader, reserved_reader, value_reader, enum_statement_reader, enum_reader, message_line_reader, allowed_statement_reader, nested_in, a_single, streamed_reader, method_statement_reader, method_end_reader, parameter_reader, method_reader, service_statement_reader, service_reader, access_reader, import_reader, package_reader, file_statement_reader, strict_syntax_reader, syntax_reader, file_reader}
use Rattle.pb_source.proofs.FaultLemmas.{refused_so, words_read, read_words}
use Rattle.pb_source.proofs.FileLaws.{reads_file}

-- ---- names

camel_case : entry_name (codes "my_map") ≡ codes "MyMapEntry"
camel_case = refl

-- ---- how files are read

abbrev w : String → Symbol
w s = word (codes s)

abbrev m : String → Symbol
m s = sign (codes s)

abbrev d : String → Symbol
d s = number (codes s)

abbrev proto3 : List Symbol
proto3 = w "syntax" ∷ m "=" ∷ text (codes "proto3") ∷ m ";" ∷ []

-- the reader of files, with those of its lines
opened : ℕ → List Symbol → Outcome (Grammar × List FileStatement)
unfolding
    name_reader fullname_reader typename_reader limited_reader signed_reader plus_or_minus_reader signed_value_reader unquoted_reader constant_reader part_reader optname_reader assignment_reader option_reader setting_reader
    field_option_reader options_reader ended_reader value_end_reader type_reader key_reader field_tail_reader field_reader map_tail_reader dotted_reader of_map_reader map_reader
    group_head_reader ungrouped_reader oneof_statement_reader oneof_reader range_reader utf8_reader reserved_reader value_reader enum_statement_reader enum_reader
    message_line_reader allowed_statement_reader nested_in streamed_reader method_statement_reader method_end_reader parameter_reader method_reader service_statement_reader service_reader
    access_reader import_reader package_reader file_statement_reader strict_syntax_reader syntax_reader file_reader
opened n ts = file_reader reading.Strict n all_rules ts

abbrev sucs : ℕ → ℕ → ℕ
sucs zero n = n
sucs (suc k) n = suc (sucs k n)

at_least : (P : ℕ → Type 0) (k : ℕ) → ((n : ℕ) → P (sucs k n)) → (n : ℕ) → k ≤ n → P n
at_least P zero f n l = f n
at_least P (suc k) f zero l = absurd (omega arith)
at_least P (suc k) f (suc n) l = at_least (λ n. P (suc n)) k f n (omega arith)

-- ---- files

-- int32 NAME = 1;
abbrev int_field : String → List Symbol
int_field name = w "int32" ∷ w name ∷ m "=" ∷ d "1" ∷ m ";" ∷ []

abbrev plain_field : String → DeclaredField
plain_field name = field_of Unlabelled (a_scalar code.Int32) (codes name) 1 None

-- message M { .. }, with these fields
abbrev of_fields : List DeclaredField → DeclaredMessages → DeclaredFile
of_fields fs inner = record {
  name = codes "m.proto";
  package_name = [];
  imports = [];
  public_indexes = [];
  messages = more_messages (message_decl (record { name = codes "M"; fields = fs; enums = []; oneofs = []; reserved = []; reserved_names = []; is_entry = false }) inner) no_messages;
  enums = [];
  services = [];
  is_proto2 = false;
}

abbrev in_message : List Symbol → List Symbol
in_message ts = proto3 ++ w "message" ∷ w "M" ∷ m "{" ∷ (ts ++ m "}" ∷ [])

-- syntax = "proto3"; message M { int32 a = 1; }
one_field : FileSyntax (codes "m.proto") (in_message (int_field "a")) (of_fields (plain_field "a" ∷ []) no_messages)
unfolding opened
one_field = (
  (Strict, FileStatement.a_message (message_of (codes "M") (a_single (plain_field "a") ∷ [])) ∷ []),
  read_words always (file reading.Strict) (file_reader reading.Strict) (reads_file reading.Strict) (in_message (int_field "a")) (Strict, FileStatement.a_message (message_of (codes "M") (a_single (plain_field "a") ∷ [])) ∷ []) 20 (lit≤ tt) refl,
  refl,
)

-- a field may be named by any word: int32 message = 1;
named_message : FileSyntax (codes "m.proto") (in_message (int_field "message")) (of_fields (plain_field "message" ∷ []) no_messages)
unfolding opened
named_message = (
  (Strict, FileStatement.a_message (message_of (codes "M") (a_single (plain_field "message") ∷ [])) ∷ []),
  read_words always (file reading.Strict) (file_reader reading.Strict) (reads_file reading.Strict) (in_message (int_field "message")) (Strict, FileStatement.a_message (message_of (codes "M") (a_single (plain_field "message") ∷ [])) ∷ []) 20 (lit≤ tt) refl,
  refl,
)

-- optional int32 a = 1; stands in a oneof of its own
an_optional : FileSyntax (codes "m.proto") (in_message (w "optional" ∷ int_field "a")) (record {
  name = codes "m.proto";
  package_name = [];
  imports = [];
  public_indexes = [];
  messages = more_messages
      (message_decl
      (record {
        name = codes "M";
        fields = record { name = codes "a"; number = pos 1; is_repeated = false; type_code = Some code.Int32; type_name = None; packed = None; oneof = Some (pos 0); is_optional = true } ∷ [];
        enums = [];
        oneofs = codes "_a" ∷ [];
        reserved = [];
        reserved_names = [];
        is_entry = false;
      })
      no_messages)
      no_messages;
  enums = [];
  services = [];
  is_proto2 = false;
})
unfolding opened
an_optional = (
  (Strict, FileStatement.a_message (message_of (codes "M") (a_single (field_of Optional (a_scalar code.Int32) (codes "a") 1 None) ∷ [])) ∷ []),
  read_words always (file reading.Strict) (file_reader reading.Strict) (reads_file reading.Strict) (in_message (w "optional" ∷ int_field "a"))
      (Strict, FileStatement.a_message (message_of (codes "M") (a_single (field_of Optional (a_scalar code.Int32) (codes "a") 1 None) ∷ [])) ∷ []) 20 (lit≤ tt) refl,
  refl,
)

abbrev my_map : MapDecl
my_map = record { key = code.Text; value = a_scalar code.Int32; name = codes "my_map"; number = 9; packed = None }

abbrev map_symbols : List Symbol
map_symbols = w "map" ∷ m "<" ∷ w "string" ∷ m "," ∷ w "int32" ∷ m ">" ∷ w "my_map" ∷ m "=" ∷ d "9" ∷ m ";" ∷ []

-- map<string, int32> my_map = 9; has the entry M.MyMapEntry
a_map : FileSyntax (codes "m.proto") (in_message map_symbols)
    (of_fields
    (record { name = codes "my_map"; number = pos 9; is_repeated = true; type_code = Some code.Message; type_name = Some (codes ".M.MyMapEntry"); packed = None; oneof = None; is_optional = false } ∷ [])
    (more_messages
    (message_decl
    (record {
      name = codes "MyMapEntry";
      fields = field_of Unlabelled (a_scalar code.Text) (codes "key") 1 None ∷ field_of Unlabelled (a_scalar code.Int32) (codes "value") 2 None ∷ [];
      enums = [];
      oneofs = [];
      reserved = [];
      reserved_names = [];
      is_entry = true;
    })
    no_messages)
    no_messages))
unfolding opened
a_map = (
  (Strict, FileStatement.a_message (message_of (codes "M") (MessageStatement.a_map my_map ∷ [])) ∷ []),
  read_words always (file reading.Strict) (file_reader reading.Strict) (reads_file reading.Strict) (in_message map_symbols) (Strict, FileStatement.a_message (message_of (codes "M") (MessageStatement.a_map my_map ∷ [])) ∷ []) 30 (lit≤ tt) refl,
  refl,
)

-- a field of a type named by the word `map`: map.a b = 1;
abbrev of_map : List Symbol
of_map = w "map" ∷ m "." ∷ w "a" ∷ w "b" ∷ m "=" ∷ d "1" ∷ m ";" ∷ []

a_type_map : FileSyntax (codes "m.proto") (in_message of_map) (of_fields (field_of Unlabelled (a_name (codes "map.a")) (codes "b") 1 None ∷ []) no_messages)
unfolding opened
a_type_map = (
  (Strict, FileStatement.a_message (message_of (codes "M") (a_single (field_of Unlabelled (a_name (codes "map.a")) (codes "b") 1 None) ∷ [])) ∷ []),
  read_words always (file reading.Strict) (file_reader reading.Strict) (reads_file reading.Strict) (in_message of_map)
      (Strict, FileStatement.a_message (message_of (codes "M") (a_single (field_of Unlabelled (a_name (codes "map.a")) (codes "b") 1 None) ∷ [])) ∷ []) 20 (lit≤ tt) refl,
  refl,
)

-- reserved 5, 7 to 9, max stands for the greatest end
abbrev ranges : List Symbol
ranges = w "reserved" ∷ d "5" ∷ m "," ∷ d "7" ∷ w "to" ∷ d "9" ∷ m "," ∷ d "12" ∷ w "to" ∷ w "max" ∷ m ";" ∷ []

reserved_ranges : FileSyntax (codes "m.proto") (in_message ranges) (record {
  name = codes "m.proto";
  package_name = [];
  imports = [];
  public_indexes = [];
  messages = more_messages
      (message_decl
      (record {
        name = codes "M";
        fields = [];
        enums = [];
        oneofs = [];
        reserved = (pos 5, pos 6) ∷ (pos 7, pos 10) ∷ (pos 12, pos 536870912) ∷ [];
        reserved_names = [];
        is_entry = false;
      })
      no_messages)
      no_messages;
  enums = [];
  services = [];
  is_proto2 = false;
})
unfolding opened
reserved_ranges = (
  (Strict, FileStatement.a_message (message_of (codes "M") (MessageStatement.reserved_ranges ((pos 5, pos 6) ∷ (pos 7, pos 10) ∷ (pos 12, pos 536870912) ∷ []) ∷ [])) ∷ []),
  read_words always (file reading.Strict) (file_reader reading.Strict) (reads_file reading.Strict) (in_message ranges)
      (Strict, FileStatement.a_message (message_of (codes "M") (MessageStatement.reserved_ranges ((pos 5, pos 6) ∷ (pos 7, pos 10) ∷ (pos 12, pos 536870912) ∷ []) ∷ [])) ∷ []) 30 (lit≤ tt) refl,
  refl,
)

-- ---- faults, as the reader reports them, and so by the definitions

-- the reader refuses so, however far it may go
abbrev Refuses : List Symbol → List Symbol → Option Rule → ℕ → Type 0
Refuses ts rest why n = file_reader reading.Strict n all_rules ts ≡ Err (rest, why)

-- syntax = "proto2";
abbrev proto2 : List Symbol
proto2 = w "syntax" ∷ m "=" ∷ text (codes "proto2") ∷ m ";" ∷ []

another_syntax : SyntaxFault proto2 2 NotProto3
unfolding opened
another_syntax =
    refused_so always (file reading.Strict) (file_reader reading.Strict) (reads_file reading.Strict) proto2 (text (codes "proto2") ∷ m ";" ∷ []) (Some syntax_first) (λ e. cc e)
    (at_least (Refuses proto2 (text (codes "proto2") ∷ m ";" ∷ []) (Some syntax_first)) 4 (λ n. refl))

-- no file that is read strictly is empty
none_there : (x : Grammar × List FileStatement) → ¬ file reading.Strict all_rules x []
unfolding opened
none_there x d = refused (words_read always (file reading.Strict) (file_reader reading.Strict) (reads_file reading.Strict) [] x 0 (lit≤ tt) d) refl
  where
    refused : {o : Outcome (Grammar × List FileStatement)} {y : (Grammar × List FileStatement) × List Symbol} {e : List Symbol × Option Rule} → o ≡ Ok y → o ≡ Err e → ⊥
    refused h k = cc (h, k)

no_symbols : SyntaxFault [] 0 NotProto3
no_symbols = Fault.no_symbols refl none_there

-- int32 a = 1 [(x) = 1];
abbrev custom : List Symbol
custom = m "(" ∷ w "x" ∷ m ")" ∷ m "=" ∷ d "1" ∷ m "]" ∷ m ";" ∷ m "}" ∷ []

abbrev with_custom : List Symbol
with_custom = proto3 ++ w "message" ∷ w "M" ∷ m "{" ∷ w "int32" ∷ w "a" ∷ m "=" ∷ d "1" ∷ m "[" ∷ custom

a_parenthesis : SyntaxFault with_custom 12 CustomOption
unfolding opened
a_parenthesis =
    refused_so always (file reading.Strict) (file_reader reading.Strict) (reads_file reading.Strict) with_custom custom (Some options_known) (λ e. cc e) (at_least (Refuses with_custom custom (Some options_known)) 20 (λ n. refl))

-- int32 a = NUMBER;
abbrev numbered : String → List Symbol
numbered s = proto3 ++ w "message" ∷ w "M" ∷ m "{" ∷ w "int32" ∷ w "a" ∷ m "=" ∷ d s ∷ m ";" ∷ m "}" ∷ []

too_large : SyntaxFault (numbered "2147483648") 10 NumberTooLarge
unfolding opened
too_large =
    refused_so always (file reading.Strict) (file_reader reading.Strict) (reads_file reading.Strict) (numbered "2147483648") (d "2147483648" ∷ m ";" ∷ m "}" ∷ []) (Some numbers_fit) (λ e. cc e)
    (at_least (Refuses (numbered "2147483648") (d "2147483648" ∷ m ";" ∷ m "}" ∷ []) (Some numbers_fit)) 13 (λ n. refl))

no_integer : SyntaxFault (numbered "08") 10 Unexpected
unfolding opened
no_integer =
    refused_so always (file reading.Strict) (file_reader reading.Strict) (reads_file reading.Strict) (numbered "08") (d "08" ∷ m ";" ∷ m "}" ∷ []) None (λ e. cc e)
    (at_least (Refuses (numbered "08") (d "08" ∷ m ";" ∷ m "}" ∷ []) None) 13 (λ n. refl))

-- message M { required int32 a = 1; }
abbrev labelled : List Symbol
labelled = w "required" ∷ (int_field "a" ++ m "}" ∷ [])

no_label : SyntaxFault (proto3 ++ w "message" ∷ w "M" ∷ m "{" ∷ labelled) 7 Unexpected
unfolding opened
no_label =
    refused_so always (file reading.Strict) (file_reader reading.Strict) (reads_file reading.Strict) (proto3 ++ w "message" ∷ w "M" ∷ m "{" ∷ labelled) labelled None (λ e. cc e)
    (at_least (Refuses (proto3 ++ w "message" ∷ w "M" ∷ m "{" ∷ labelled) labelled None) 14 (λ n. refl))

-- a second package
abbrev package_a : List Symbol
package_a = w "package" ∷ w "a" ∷ m ";" ∷ []

two_packages : SyntaxFault (proto3 ++ package_a ++ package_a) 7 Unexpected
unfolding opened
two_packages =
    refused_so always (file reading.Strict) (file_reader reading.Strict) (reads_file reading.Strict) (proto3 ++ package_a ++ package_a) package_a None (λ e. cc e) (at_least (Refuses (proto3 ++ package_a ++ package_a) package_a None) 10 (λ n. refl))

-- a message that is not closed
open_message : SyntaxFault (proto3 ++ w "message" ∷ w "M" ∷ m "{" ∷ []) 7 Unexpected
unfolding opened
open_message =
    refused_so always (file reading.Strict) (file_reader reading.Strict) (reads_file reading.Strict) (proto3 ++ w "message" ∷ w "M" ∷ m "{" ∷ []) [] None (λ e. cc e) (at_least (Refuses (proto3 ++ w "message" ∷ w "M" ∷ m "{" ∷ []) [] None) 7 (λ n. refl))

-- `default` begins no option of a field
abbrev defaults : List Symbol
defaults = w "default" ∷ m "=" ∷ d "1" ∷ m "]" ∷ m ";" ∷ m "}" ∷ []

abbrev with_default : List Symbol
with_default = proto3 ++ w "message" ∷ w "M" ∷ m "{" ∷ w "int32" ∷ w "a" ∷ m "=" ∷ d "1" ∷ m "[" ∷ defaults

no_default : SyntaxFault with_default 12 Unexpected
unfolding opened
no_default = refused_so always (file reading.Strict) (file_reader reading.Strict) (reads_file reading.Strict) with_default defaults None (λ e. cc e) (at_least (Refuses with_default defaults None) 18 (λ n. refl))

-- this many messages, each in the one before
abbrev nested : ℕ → List Symbol → List Symbol
nested zero ts = ts
nested (suc k) ts = w "message" ∷ w "A" ∷ m "{" ∷ nested k ts

-- the 65th message of a nest
a_deep_nest : SyntaxFault (proto3 ++ nested 64 (nested 1 [])) 196 NestedTooDeep
unfolding opened
a_deep_nest =
    refused_so always (file reading.Strict) (file_reader reading.Strict) (reads_file reading.Strict) (proto3 ++ nested 64 (nested 1 [])) (nested 1 []) (Some nests_bounded) (λ e. cc e)
    (at_least (Refuses (proto3 ++ nested 64 (nested 1 [])) (nested 1 []) (Some nests_bounded)) 199 (λ n. refl))

-- service S { rpc r(stream A) returns (.p.B) { ; } }
abbrev a_service : List Symbol
a_service =
    w "service" ∷ w "S" ∷ m "{" ∷ w "rpc" ∷ w "r" ∷ m "(" ∷ w "stream" ∷ w "A" ∷ m ")" ∷ w "returns" ∷ m "(" ∷ m "." ∷ w "p" ∷ m "." ∷ w "B" ∷ m ")" ∷ m "{" ∷ m ";" ∷ m "}" ∷ m "}" ∷ []

abbrev a_method : DeclaredMethod
a_method = record { name = codes "r"; input = codes "A"; output = codes ".p.B"; client_streams = true; server_streams = false }

streams : FileSyntax (codes "m.proto") (proto3 ++ package_a ++ a_service) (record {
  name = codes "m.proto";
  package_name = codes "a";
  imports = [];
  public_indexes = [];
  messages = no_messages;
  enums = [];
  services = record { name = codes "S"; methods = a_method ∷ [] } ∷ [];
  is_proto2 = false;
})
unfolding opened
streams = (
  (Strict, FileStatement.a_package (codes "a") ∷ FileStatement.a_service (record { name = codes "S"; methods = a_method ∷ [] }) ∷ []),
  read_words always (file reading.Strict) (file_reader reading.Strict) (reads_file reading.Strict) (proto3 ++ package_a ++ a_service)
      (Strict, FileStatement.a_package (codes "a") ∷ FileStatement.a_service (record { name = codes "S"; methods = a_method ∷ [] }) ∷ []) 40 (lit≤ tt) refl,
  refl,
)

-- enum E { option allow_alias = true; A = 0; B = -0x80000000; }
abbrev an_enum : List Symbol
an_enum =
    w "enum" ∷ w "E" ∷ m "{" ∷ w "option" ∷ w "allow_alias" ∷ m "=" ∷ w "true" ∷ m ";" ∷ w "A" ∷ m "=" ∷ d "0" ∷ m ";" ∷ w "B" ∷ m "=" ∷ m "-" ∷ d "0x80000000" ∷ m ";" ∷ m "}" ∷ []

abbrev values : DeclaredEnum
values = record { name = codes "E"; values = (codes "A", pos 0) ∷ (codes "B", neg_ℤ (pos 2147483648)) ∷ []; allows_alias = true; reserved = []; reserved_names = [] }

aliases : FileSyntax (codes "m.proto") (proto3 ++ an_enum) (record {
  name = codes "m.proto";
  package_name = [];
  imports = [];
  public_indexes = [];
  messages = no_messages;
  enums = values ∷ [];
  services = [];
  is_proto2 = false;
})
unfolding opened
aliases = (
  (Strict, FileStatement.an_enum values ∷ []),
  read_words always (file reading.Strict) (file_reader reading.Strict) (reads_file reading.Strict) (proto3 ++ an_enum) (Strict, FileStatement.an_enum values ∷ []) 40 (lit≤ tt) refl,
  refl,
)

-- ---- where a fault is reported

-- a symbol after the last is at the end of the source
place_of_symbol : place_in (record { at = 3; symbol = Symbol.word (codes "a") } ∷ []) 9 0 ≡ 3
place_of_symbol = refl

place_of_end : place_in (record { at = 3; symbol = Symbol.word (codes "a") } ∷ []) 9 1 ≡ 9
place_of_end = refl

-- an empty source is refused at its end
empty_source : HasFault [] 0 NotProto3
empty_source = HasFaultIn.in_syntax {ts = []} {ss = []} {k = 0} (lit≤ tt) ([], (refl, refl)) (0, Lexes.done) AreSymbols.none (Fault.no_symbols refl none_there)
