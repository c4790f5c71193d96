-- Small files that are read leniently, by their symbols: what they declare, or their fault, worked out by the rules.
use Prim.Native.String.{String}
use Rattle.std.proofs.Common.{◌≡◌, ℕ, zero, suc, ◌≤◌, List, [], ◌∷◌, ◌++◌, codes, refl, Option, Some, None, Err, lit≤, arith, false, true, pos, ℤ, map}
use Rattle.pb_declarations.specs.Decls.{DeclaredField, DeclaredFile, MessageHead, DeclaredMessages, message as message_decl, no_messages, more_messages}
use Rattle.pb_declarations.specs.declared.decl.TypeCode.TheVariants as code
use Rattle.pb_source_tokens.specs.declared.fault.SourceCause.TheVariants.{Unexpected, NotProto3, NestedTooDeep}
use Rattle.pb_source_tokens.specs.declared.rule.Rule.{Rule}
use Rattle.pb_source_tokens.specs.declared.rule.Rule.TheVariants.{SyntaxFirst as syntax_first, NestsBounded as nests_bounded}
use Rattle.pb_source_tokens.specs.declared.grammar.Grammar.{Grammar}
use Rattle.pb_source_tokens.specs.declared.grammar.Grammar.TheVariants.{Lenient}
use Rattle.pb_source_tokens.specs.declared.grammar.Syntax.TheVariants.{Proto2, Proto3}
use Rattle.pb_source_tokens.specs.Symbols.{Symbol, word, number, text, sign}
use Rattle.pb_source_tokens.specs.Language.{all_rules}
use Rattle.pb_source_tokens.specs.Said.{a_scalar}
use Rattle.pb_source_tokens.specs.Readers.Forms.{Outcome}
use Rattle.pb_source_tokens.specs.Readers.Phrases.{name_reader, fullname_reader, typename_reader, limited_reader, signed_reader, plus_or_minus_reader, sign_reader, exponent_end_reader, scaled_reader, fraction_reader, begun_end_reader, numeral_reader, aggregate_reader, signed_value_reader, unquoted_reader, constant_reader, part_reader, optname_reader, assignment_reader, option_reader, setting_reader, field_option_reader, options_reader, ended_reader, value_end_reader, type_reader, key_reader, range_reader, utf8_reader}
use Rattle.pb_source_tokens.proofs.ToEnd.{always}
use Rattle.pb_source.specs.declared.kind.Label.TheVariants.{Unlabelled, Repeated}
use Rattle.pb_source.specs.declared.reading.Reading.TheVariants as reading
use Rattle.pb_source.specs.Meaning.{Member, FileStatement, MessageStatement, field_of, group_field, message_of}
use Rattle.pb_source.specs.Grammar.{file, FileSyntaxIn}
use Rattle.pb_source.specs.SyntaxFault.{SyntaxFaultIn}
use Rattle.pb_source.specs.Readers.Lines.{field_tail_reader, field_reader, map_tail_reader, dotted_reader, of_map_reader, map_reader, group_head_reader, ungrouped_reader, oneof_statement_reader, oneof_reader, reserved_reader, value_reader, enum_statement_reader, enum_reader, extension_reader, extend_reader, extensions_reader, message_line_reader, allowed_statement_reader, nested_in, a_single, streamed_reader, method_statement_reader, method_end_reader, parameter_reader, method_reader, service_statement_reader, service_reader, access_reader, import_reader, package_reader, file_statement_reader, lenient_syntax_reader, syntax_reader, file_reader}
use Rattle.pb_source.proofs.FaultLemmas.{refused_so, read_words}
use Rattle.pb_source.proofs.FileLaws.{reads_file}

abbrev w : String → Symbol
w s = word (codes s)

abbrev m : String → Symbol
m s = sign (codes s)

abbrev d : String → Symbol
d s = number (codes s)

abbrev proto3 : List Symbol
proto3 = w "syntax" ∷ m "=" ∷ text (codes "proto3") ∷ m ";" ∷ []

-- the reader of files, with those of its lines
opened : ℕ → List Symbol → Outcome (Grammar × List FileStatement)
unfolding
    name_reader fullname_reader typename_reader limited_reader signed_reader plus_or_minus_reader sign_reader exponent_end_reader scaled_reader fraction_reader begun_end_reader
    numeral_reader aggregate_reader signed_value_reader unquoted_reader constant_reader part_reader optname_reader assignment_reader option_reader setting_reader
    field_option_reader options_reader ended_reader value_end_reader type_reader key_reader field_tail_reader field_reader map_tail_reader dotted_reader of_map_reader map_reader
    group_head_reader ungrouped_reader oneof_statement_reader oneof_reader range_reader utf8_reader reserved_reader value_reader enum_statement_reader enum_reader
    extension_reader extend_reader extensions_reader message_line_reader allowed_statement_reader nested_in streamed_reader method_statement_reader method_end_reader parameter_reader method_reader
    service_statement_reader service_reader access_reader import_reader package_reader file_statement_reader lenient_syntax_reader syntax_reader file_reader
opened n ts = file_reader reading.Lenient n all_rules ts

abbrev sucs : ℕ → ℕ → ℕ
sucs zero n = n
sucs (suc k) n = suc (sucs k n)

at_least : (P : ℕ → Type 0) (k : ℕ) → ((n : ℕ) → P (sucs k n)) → (n : ℕ) → k ≤ n → P n
at_least P zero f n l = f n
at_least P (suc k) f zero l = absurd (omega arith)
at_least P (suc k) f (suc n) l = at_least (λ n. P (suc n)) k f n (omega arith)

abbrev empty_file : DeclaredFile
empty_file = record {
  name = codes "m.proto";
  package_name = [];
  imports = [];
  public_indexes = [];
  messages = no_messages;
  enums = [];
  services = [];
  is_proto2 = false;
}

-- option (a.b).c = -1.5e-3;
abbrev custom : List Symbol
custom = w "option" ∷ m "(" ∷ w "a" ∷ m "." ∷ w "b" ∷ m ")" ∷ m "." ∷ w "c" ∷ m "=" ∷ m "-" ∷ d "1" ∷ m "." ∷ d "5e" ∷ m "-" ∷ d "3" ∷ m ";" ∷ []

a_custom_option : FileSyntaxIn reading.Lenient (codes "m.proto") (proto3 ++ custom) empty_file
unfolding opened
a_custom_option =
    ((Lenient Proto3, FileStatement.nothing_said ∷ []), read_words always (file reading.Lenient) (file_reader reading.Lenient) (reads_file reading.Lenient) (proto3 ++ custom) (Lenient Proto3, FileStatement.nothing_said ∷ []) 25 (lit≤ tt) refl, refl)

-- option a = { b [ < > ] };
abbrev in_braces : List Symbol
in_braces = w "option" ∷ w "a" ∷ m "=" ∷ m "{" ∷ w "b" ∷ m "[" ∷ m "<" ∷ m ">" ∷ m "]" ∷ m "}" ∷ m ";" ∷ []

an_aggregate : FileSyntaxIn reading.Lenient (codes "m.proto") (proto3 ++ in_braces) empty_file
unfolding opened
an_aggregate =
    ((Lenient Proto3, FileStatement.nothing_said ∷ []), read_words always (file reading.Lenient) (file_reader reading.Lenient) (reads_file reading.Lenient) (proto3 ++ in_braces) (Lenient Proto3, FileStatement.nothing_said ∷ []) 20 (lit≤ tt) refl, refl)

-- extend .X { int32 a = 1; repeated int32 b = 2; ; }
abbrev block : List Symbol
block =
    w "extend" ∷ m "." ∷ w "X" ∷ m "{" ∷ w "int32" ∷ w "a" ∷ m "=" ∷ d "1" ∷ m ";" ∷ w "repeated" ∷ w "int32" ∷ w "b" ∷ m "=" ∷ d "2" ∷ m ";" ∷ m ";" ∷ m "}" ∷ []

a_block : FileSyntaxIn reading.Lenient (codes "m.proto") (proto3 ++ block) empty_file
unfolding opened
a_block = ((Lenient Proto3, FileStatement.an_extend [] ∷ []), read_words always (file reading.Lenient) (file_reader reading.Lenient) (reads_file reading.Lenient) (proto3 ++ block) (Lenient Proto3, FileStatement.an_extend [] ∷ []) 25 (lit≤ tt) refl, refl)

-- message M { extensions 5 to max [a = 1]; repeated int32 b = 1 [(packed) = 1.5, packed = true]; }
abbrev said : List Symbol
said =
    w "message" ∷ w "M" ∷ m "{" ∷ w "extensions" ∷ d "5" ∷ w "to" ∷ w "max" ∷ m "[" ∷ w "a" ∷ m "=" ∷ d "1" ∷ m "]" ∷ m ";"
    ∷ w "repeated" ∷ w "int32" ∷ w "b" ∷ m "=" ∷ d "1" ∷ m "[" ∷ m "(" ∷ w "packed" ∷ m ")" ∷ m "=" ∷ d "1" ∷ m "." ∷ d "5" ∷ m "," ∷ w "packed" ∷ m "=" ∷ w "true" ∷ m "]" ∷ m ";"
    ∷ m "}" ∷ []

abbrev packed_field : DeclaredField
packed_field = field_of Repeated (a_scalar code.Int32) (codes "b") 1 (Some true)

abbrev declared : List FileStatement
declared = FileStatement.a_message (message_of (codes "M") (MessageStatement.nothing_said ∷ a_single packed_field ∷ [])) ∷ []

packed_alone_counts : FileSyntaxIn reading.Lenient (codes "m.proto") (proto3 ++ said) (record {
  name = codes "m.proto";
  package_name = [];
  imports = [];
  public_indexes = [];
  messages = more_messages
      (message_decl (record { name = codes "M"; fields = packed_field ∷ []; enums = []; oneofs = []; reserved = []; reserved_names = []; is_entry = false }) no_messages) no_messages;
  enums = [];
  services = [];
  is_proto2 = false;
})
unfolding opened
packed_alone_counts = ((Lenient Proto3, declared), read_words always (file reading.Lenient) (file_reader reading.Lenient) (reads_file reading.Lenient) (proto3 ++ said) (Lenient Proto3, declared) 45 (lit≤ tt) refl, refl)

-- ---- faults

abbrev Refuses : List Symbol → List Symbol → Option Rule → ℕ → Type 0
Refuses ts rest why n = file_reader reading.Lenient n all_rules ts ≡ Err (rest, why)

-- option a = { [ }
abbrev unbalanced : List Symbol
unbalanced = proto3 ++ w "option" ∷ w "a" ∷ m "=" ∷ m "{" ∷ m "[" ∷ m "}" ∷ []

another_bracket : SyntaxFaultIn reading.Lenient unbalanced 9 Unexpected
unfolding opened
another_bracket =
    refused_so always (file reading.Lenient) (file_reader reading.Lenient) (reads_file reading.Lenient) unbalanced (m "}" ∷ []) None (λ e. cc e) (at_least (Refuses unbalanced (m "}" ∷ []) None) 10 (λ n. refl))

-- option a = 08; is no integer, and no floating literal without its point
abbrev pointless : List Symbol
pointless = proto3 ++ w "option" ∷ w "a" ∷ m "=" ∷ d "08" ∷ m ";" ∷ []

no_point : SyntaxFaultIn reading.Lenient pointless 8 Unexpected
unfolding opened
no_point =
    refused_so always (file reading.Lenient) (file_reader reading.Lenient) (reads_file reading.Lenient) pointless (m ";" ∷ []) None (λ e. cc e) (at_least (Refuses pointless (m ";" ∷ []) None) 9 (λ n. refl))

-- extend X { required
abbrev labelled : List Symbol
labelled = proto3 ++ w "extend" ∷ w "X" ∷ m "{" ∷ w "required" ∷ []

no_label : SyntaxFaultIn reading.Lenient labelled 7 Unexpected
unfolding opened
no_label =
    refused_so always (file reading.Lenient) (file_reader reading.Lenient) (reads_file reading.Lenient) labelled (w "required" ∷ []) None (λ e. cc e) (at_least (Refuses labelled (w "required" ∷ []) None) 8 (λ n. refl))

-- ---- proto2

abbrev proto2_file : DeclaredMessages → DeclaredFile
proto2_file messages = record {
  name = codes "m.proto";
  package_name = [];
  imports = [];
  public_indexes = [];
  messages = messages;
  enums = [];
  services = [];
  is_proto2 = true;
}

no_syntax : FileSyntaxIn reading.Lenient (codes "m.proto") [] (proto2_file no_messages)
unfolding opened
no_syntax = ((Lenient Proto2, []), read_words always (file reading.Lenient) (file_reader reading.Lenient) (reads_file reading.Lenient) [] (Lenient Proto2, []) 0 (lit≤ tt) refl, refl)

abbrev proto2 : List Symbol
proto2 = w "syntax" ∷ m "=" ∷ text (codes "proto2") ∷ m ";" ∷ []

-- message M { required int32 a = 1 [default = -1]; optional int32 b = 2; repeated int32 c = 3; }
abbrev labels : List Symbol
labels =
    w "message" ∷ w "M" ∷ m "{"
    ∷ w "required" ∷ w "int32" ∷ w "a" ∷ m "=" ∷ d "1" ∷ m "[" ∷ w "default" ∷ m "=" ∷ m "-" ∷ d "1" ∷ m "]" ∷ m ";"
    ∷ w "optional" ∷ w "int32" ∷ w "b" ∷ m "=" ∷ d "2" ∷ m ";"
    ∷ w "repeated" ∷ w "int32" ∷ w "c" ∷ m "=" ∷ d "3" ∷ m ";"
    ∷ m "}" ∷ []

abbrev labelled_fields : List DeclaredField
labelled_fields =
    field_of Unlabelled (a_scalar code.Int32) (codes "a") 1 None ∷ field_of Unlabelled (a_scalar code.Int32) (codes "b") 2 None
    ∷ field_of Repeated (a_scalar code.Int32) (codes "c") 3 None ∷ []

abbrev labelled_statements : List FileStatement
labelled_statements = FileStatement.a_message (message_of (codes "M") (map a_single labelled_fields)) ∷ []

-- no label makes a oneof
each_label : FileSyntaxIn reading.Lenient (codes "m.proto") (proto2 ++ labels) (proto2_file (more_messages
    (message_decl (record { name = codes "M"; fields = labelled_fields; enums = []; oneofs = []; reserved = []; reserved_names = []; is_entry = false }) no_messages) no_messages))
unfolding opened
each_label = (
  (Lenient Proto2, labelled_statements),
  read_words always (file reading.Lenient) (file_reader reading.Lenient) (reads_file reading.Lenient) (proto2 ++ labels) (Lenient Proto2, labelled_statements) 45 (lit≤ tt) refl,
  refl,
)

-- message M { int32
abbrev unlabelled : List Symbol
unlabelled = proto2 ++ w "message" ∷ w "M" ∷ m "{" ∷ w "int32" ∷ []

label_wanted : SyntaxFaultIn reading.Lenient unlabelled 7 Unexpected
unfolding opened
label_wanted =
    refused_so always (file reading.Lenient) (file_reader reading.Lenient) (reads_file reading.Lenient) unlabelled (w "int32" ∷ []) None (λ e. cc e)
    (at_least (Refuses unlabelled (w "int32" ∷ []) None) 8 (λ n. refl))

-- message M { map a
abbrev no_map : List Symbol
no_map = proto2 ++ w "message" ∷ w "M" ∷ m "{" ∷ w "map" ∷ w "a" ∷ []

map_wanted : SyntaxFaultIn reading.Lenient no_map 8 Unexpected
unfolding opened
map_wanted =
    refused_so always (file reading.Lenient) (file_reader reading.Lenient) (reads_file reading.Lenient) no_map (w "a" ∷ []) None (λ e. cc e) (at_least (Refuses no_map (w "a" ∷ []) None) 9 (λ n. refl))

-- extend X { int32
abbrev unlabelled_extension : List Symbol
unlabelled_extension = proto2 ++ w "extend" ∷ w "X" ∷ m "{" ∷ w "int32" ∷ []

extension_label_wanted : SyntaxFaultIn reading.Lenient unlabelled_extension 7 Unexpected
unfolding opened
extension_label_wanted =
    refused_so always (file reading.Lenient) (file_reader reading.Lenient) (reads_file reading.Lenient) unlabelled_extension (w "int32" ∷ []) None (λ e. cc e)
    (at_least (Refuses unlabelled_extension (w "int32" ∷ []) None) 8 (λ n. refl))

abbrev proto4 : List Symbol
proto4 = w "syntax" ∷ m "=" ∷ text (codes "proto4") ∷ m ";" ∷ []

no_such_syntax : SyntaxFaultIn reading.Lenient proto4 2 NotProto3
unfolding opened
no_such_syntax =
    refused_so always (file reading.Lenient) (file_reader reading.Lenient) (reads_file reading.Lenient) proto4 (text (codes "proto4") ∷ m ";" ∷ []) (Some syntax_first) (λ e. cc e)
    (at_least (Refuses proto4 (text (codes "proto4") ∷ m ";" ∷ []) (Some syntax_first)) 4 (λ n. refl))

-- ---- groups

-- group G = 1 { }
abbrev an_empty_group : List Symbol
an_empty_group = w "group" ∷ w "G" ∷ m "=" ∷ d "1" ∷ m "{" ∷ m "}" ∷ []

-- the field of that group, and its message
abbrev its_member : Member
its_member = (group_field Unlabelled (codes "G") 1 None, Some (message_of (codes "G") []))

-- message M { optional group G = 1 { } oneof o { group G = 1 { } } extend X { optional group G = 1 { } } }
abbrev groups : List Symbol
groups =
    w "message" ∷ w "M" ∷ m "{" ∷ w "optional" ∷ (an_empty_group ++ w "oneof" ∷ w "o" ∷ m "{" ∷ (an_empty_group ++ m "}" ∷ w "extend" ∷ w "X" ∷ m "{" ∷ w "optional" ∷ (an_empty_group ++ m "}" ∷ m "}" ∷ [])))

abbrev group_statements : List FileStatement
group_statements =
    FileStatement.a_message (message_of (codes "M")
    (MessageStatement.a_field its_member ∷ MessageStatement.a_oneof (codes "o") (its_member ∷ []) ∷ MessageStatement.an_extend (message_of (codes "G") [] ∷ []) ∷ [])) ∷ []

abbrev empty_head : List ℕ → MessageHead
empty_head name = record { name = name; fields = []; enums = []; oneofs = []; reserved = []; reserved_names = []; is_entry = false }

-- the field of a group, in the oneof of this index or in none
abbrev grouped : Option ℤ → DeclaredField
grouped oneof = record {
  name = codes "g";
  number = pos 1;
  is_repeated = false;
  type_code = Some code.Group;
  type_name = Some (codes ".M.G");
  packed = None;
  oneof = oneof;
  is_optional = false;
}

-- the name of a group's field is in lower case, and its message, and that of a group in a block of `extend`, are in the scope around
each_group : FileSyntaxIn reading.Lenient (codes "m.proto") (proto2 ++ groups) (proto2_file (more_messages
    (message_decl (record { name = codes "M"; fields = grouped None ∷ grouped (Some (pos 0)) ∷ []; enums = []; oneofs = codes "o" ∷ []; reserved = []; reserved_names = []; is_entry = false })
    (more_messages (message_decl (empty_head (codes "G")) no_messages) (more_messages (message_decl (empty_head (codes "G")) no_messages) (more_messages (message_decl (empty_head (codes "G")) no_messages) no_messages))))
    no_messages))
unfolding opened
each_group = (
  (Lenient Proto2, group_statements),
  read_words always (file reading.Lenient) (file_reader reading.Lenient) (reads_file reading.Lenient) (proto2 ++ groups) (Lenient Proto2, group_statements) 45 (lit≤ tt) refl,
  refl,
)

-- message M { optional group g
abbrev no_capital : List Symbol
no_capital = proto2 ++ w "message" ∷ w "M" ∷ m "{" ∷ w "optional" ∷ w "group" ∷ w "g" ∷ []

capital_wanted : SyntaxFaultIn reading.Lenient no_capital 9 Unexpected
unfolding opened
capital_wanted =
    refused_so always (file reading.Lenient) (file_reader reading.Lenient) (reads_file reading.Lenient) no_capital (w "g" ∷ []) None (λ e. cc e) (at_least (Refuses no_capital (w "g" ∷ []) None) 10 (λ n. refl))

abbrev nested : ℕ → List Symbol → List Symbol
nested zero ts = ts
nested (suc k) ts = w "optional" ∷ w "group" ∷ w "G" ∷ m "=" ∷ d "1" ∷ m "{" ∷ nested k ts

-- the 65th group of a nest
abbrev a_deep_group : List Symbol
a_deep_group = proto2 ++ w "extend" ∷ w "X" ∷ m "{" ∷ nested 64 (w "optional" ∷ w "group" ∷ [])

too_deep : SyntaxFaultIn reading.Lenient a_deep_group 392 NestedTooDeep
unfolding opened
too_deep =
    refused_so always (file reading.Lenient) (file_reader reading.Lenient) (reads_file reading.Lenient) a_deep_group (w "group" ∷ []) (Some nests_bounded) (λ e. cc e)
    (at_least (Refuses a_deep_group (w "group" ∷ []) (Some nests_bounded)) 393 (λ n. refl))
