-- A source of the strict grammar is one of all of proto3, with the same declarations.
use Rattle.std.proofs.Common.{◌≡◌, ◌∙◌, refl, ℕ, zero, suc, List, [], ◌∷◌, codes, Option, Some, None, inl, inr}
use Rattle.pb_declarations.specs.Decls.{DeclaredField, DeclaredEnum, DeclaredMessage, DeclaredMethod, DeclaredService, DeclaredFile}
use Rattle.pb_source_tokens.specs.declared.grammar.Grammar.{Grammar}
use Rattle.pb_source_tokens.specs.declared.grammar.Grammar.TheVariants.{Strict, Lenient}
use Rattle.pb_source_tokens.specs.declared.grammar.Syntax.TheVariants.{Proto3}
use Rattle.pb_source.specs.declared.reading.Reading.{Reading}
use Rattle.pb_source.specs.declared.reading.Reading.TheVariants as reading
use Rattle.pb_source_tokens.specs.Symbols.{Symbol}
use Rattle.pb_source_tokens.specs.Language.{Language, all_rules, nothing}
use Rattle.pb_source_tokens.specs.Phrases.{mark}
use Rattle.pb_source_tokens.proofs.StrictLines.{Widens, until_wider, option_wider, setting_wider, field_end_wider, value_end_wider}
use Rattle.pb_source.specs.declared.kind.Label.{Label}
use Rattle.pb_source.specs.declared.kind.Label.TheVariants.{Unlabelled, Repeated, Optional}
use Rattle.pb_source.specs.Meaning.{MapDecl, MessageStatement, EnumStatement, FileStatement, file_of}
use Rattle.pb_source.specs.Grammar.{field, member, map_line, oneof_statement, oneof, enum_statement, enum_line, message_line, message_statement, body, message, depth_left, method_statement, method_end, method, service_statement, service, file_statement, file}
use Rattle.pb_source.specs.Source.{symbols_alone, IsSource, IsLenientSource}

-- ---- fields, oneofs and enums

field_wider : (l : Label) → Widens (field Strict all_rules l) (field (Lenient Proto3) all_rules l)
field_wider l f c (t, w, n, p, e, (a1, b1, h1, (a2, b2, h2, (a3, b3, h3, (a4, b4, h4, h5, j4), j3), j2), j1)) =
    (t, w, n, p, e, (a1, b1, h1, (a2, b2, h2, (a3, b3, h3, (a4, b4, h4, field_end_wider p b4 h5, j4), j3), j2), j1))

map_wider : Widens (map_line Strict all_rules) (map_line (Lenient Proto3) all_rules)
map_wider m c
    (a1, b1, h1, (a2, b2, h2, (a3, b3, h3, (a4, b4, h4, (a5, b5, h5, (a6, b6, h6, (a7, b7, h7, (a8, b8, h8, (a9, b9, h9, h, j9), j8), j7), j6), j5), j4), j3), j2), j1) =
    (a1, b1, h1, (a2, b2, h2, (a3, b3, h3, (a4, b4, h4, (a5, b5, h5, (a6, b6, h6, (a7, b7, h7, (a8, b8, h8, (a9, b9, h9, field_end_wider m.packed b9 h, j9), j8), j7), j6), j5), j4), j3), j2), j1)

-- in neither grammar `group` begins a group
module _ (B C : List MessageStatement → Language) where
  member_wider : (l : Label) → Widens (member Strict all_rules B l) (member (Lenient Proto3) all_rules C l)
  member_wider l x c (inl (f, e, b, d)) = inl (f, e, b, field_wider l f c d)
  member_wider l x c (inr d) = absurd d

  oneof_statement_wider : Widens (oneof_statement Strict all_rules B) (oneof_statement (Lenient Proto3) all_rules C)
  oneof_statement_wider None c (inl d) = inl (option_wider c d)
  oneof_statement_wider None c (inr d) = inr d
  oneof_statement_wider (Some x) c (b, d) = (b, member_wider Unlabelled x c d)

  oneof_wider : (n : List ℕ) → Widens (oneof Strict all_rules B n) (oneof (Lenient Proto3) all_rules C n)
  oneof_wider n xs c (ss, e, (a1, b1, h1, (a2, b2, h2, (a3, b3, h3, h, j3), j2), j1)) =
      (ss, e, (a1, b1, h1, (a2, b2, h2, (a3, b3, h3, until_wider (oneof_statement Strict all_rules B) (oneof_statement (Lenient Proto3) all_rules C) (mark "}") oneof_statement_wider ss b3 h, j3), j2), j1))

enum_statement_wider : Widens (enum_statement Strict all_rules) (enum_statement (Lenient Proto3) all_rules)
enum_statement_wider EnumStatement.nothing_said c (inl (a1, b1, h1, (a2, b2, h2, h, j2), j1)) = inl (a1, b1, h1, (a2, b2, setting_wider (codes "allow_alias") None a2 h2, h, j2), j1)
enum_statement_wider EnumStatement.nothing_said c (inr d) = inr d
enum_statement_wider (EnumStatement.allows_alias b) c (a1, b1, h1, (a2, b2, h2, h, j2), j1) = (a1, b1, h1, (a2, b2, setting_wider (codes "allow_alias") (Some b) a2 h2, h, j2), j1)
enum_statement_wider (EnumStatement.a_value w z) c (b, (a1, b1, h1, (a2, b2, h2, (a3, b3, h3, h, j3), j2), j1)) =
    (b, (a1, b1, h1, (a2, b2, h2, (a3, b3, h3, value_end_wider b3 h, j3), j2), j1))
enum_statement_wider (EnumStatement.reserved_ranges rs) c d = d
enum_statement_wider (EnumStatement.reserved_names ns) c d = d

enum_wider : Widens (enum_line Strict all_rules) (enum_line (Lenient Proto3) all_rules)
enum_wider e c (n, ss, i, (a1, b1, h1, (a2, b2, h2, (a3, b3, h3, h, j3), j2), j1)) =
    (n, ss, i, (a1, b1, h1, (a2, b2, h2, (a3, b3, h3, until_wider (enum_statement Strict all_rules) (enum_statement (Lenient Proto3) all_rules) (mark "}") enum_statement_wider ss b3 h, j3), j2), j1))

-- ---- messages

module _ (B C : List MessageStatement → Language) (wider : Widens B C) where
  message_line_wider : Widens (message_line B) (message_line C)
  message_line_wider m c (w, ss, e, (a1, b1, h1, (a2, b2, h2, (a3, b3, h3, h, j3), j2), j1)) = (w, ss, e, (a1, b1, h1, (a2, b2, h2, (a3, b3, h3, wider ss b3 h, j3), j2), j1))

  message_statement_wider : Widens (message_statement Strict all_rules B) (message_statement (Lenient Proto3) all_rules C)
  message_statement_wider MessageStatement.nothing_said c (inl d) = inl (option_wider c d)
  message_statement_wider MessageStatement.nothing_said c (inr (inl d)) = inr (inl d)
  message_statement_wider MessageStatement.nothing_said c (inr (inr d)) = absurd d
  message_statement_wider (MessageStatement.a_field x) c (inl (a, b, ha, hb, j)) = inl (a, b, ha, member_wider B C Repeated x b hb, j)
  message_statement_wider (MessageStatement.a_field x) c (inr (inl (a, b, ha, hb, j))) = inr (inl (a, b, ha, member_wider B C Optional x b hb, j))
  message_statement_wider (MessageStatement.a_field x) c (inr (inr (inl d))) = absurd d
  message_statement_wider (MessageStatement.a_field x) c (inr (inr (inr (f, e, b, d)))) = inr (inr (inr (f, e, b, field_wider Unlabelled f c d)))
  message_statement_wider (MessageStatement.a_map m) c d = map_wider m c d
  message_statement_wider (MessageStatement.a_oneof n xs) c d = oneof_wider B C n xs c d
  message_statement_wider (MessageStatement.a_message m) c d = message_line_wider m c d
  message_statement_wider (MessageStatement.an_extend ms) c d = absurd d
  message_statement_wider (MessageStatement.an_enum e) c d = enum_wider e c d
  message_statement_wider (MessageStatement.reserved_ranges rs) c d = d
  message_statement_wider (MessageStatement.reserved_names ns) c d = d

body_wider : (n : ℕ) → Widens (body Strict all_rules n) (body (Lenient Proto3) all_rules n)
body_wider zero ss c d = absurd d
body_wider (suc n) ss c d =
    until_wider (message_statement Strict all_rules (body Strict all_rules n)) (message_statement (Lenient Proto3) all_rules (body (Lenient Proto3) all_rules n)) (mark "}")
    (message_statement_wider (body Strict all_rules n) (body (Lenient Proto3) all_rules n) (body_wider n)) ss c d

message_wider : (n : ℕ) → Widens (message Strict all_rules n) (message (Lenient Proto3) all_rules n)
message_wider n = message_line_wider (body Strict all_rules n) (body (Lenient Proto3) all_rules n) (body_wider n)

-- ---- services

method_statement_wider : Widens (method_statement Strict all_rules) (method_statement (Lenient Proto3) all_rules)
method_statement_wider u c (inl d) = inl (option_wider c d)
method_statement_wider u c (inr d) = inr d

method_end_wider : (c : List Symbol) → method_end Strict all_rules c → method_end (Lenient Proto3) all_rules c
method_end_wider c (inl d) = inl d
method_end_wider c (inr (us, (a, b, ha, hb, j))) =
    inr (us, (a, b, ha, until_wider (method_statement Strict all_rules) (method_statement (Lenient Proto3) all_rules) (mark "}") method_statement_wider us b hb, j))

method_wider : Widens (method Strict all_rules) (method (Lenient Proto3) all_rules)
method_wider m c (a1, b1, h1, (a2, b2, h2, (a3, b3, h3, (a4, b4, h4, (a5, b5, h5, h, j5), j4), j3), j2), j1) =
    (a1, b1, h1, (a2, b2, h2, (a3, b3, h3, (a4, b4, h4, (a5, b5, h5, method_end_wider b5 h, j5), j4), j3), j2), j1)

service_statement_wider : Widens (service_statement Strict all_rules) (service_statement (Lenient Proto3) all_rules)
service_statement_wider None c (inl d) = inl (option_wider c d)
service_statement_wider None c (inr d) = inr d
service_statement_wider (Some m) c d = method_wider m c d

service_wider : Widens (service Strict all_rules) (service (Lenient Proto3) all_rules)
service_wider s c (ss, e, (a1, b1, h1, (a2, b2, h2, (a3, b3, h3, h, j3), j2), j1)) =
    (ss, e, (a1, b1, h1, (a2, b2, h2, (a3, b3, h3, until_wider (service_statement Strict all_rules) (service_statement (Lenient Proto3) all_rules) (mark "}") service_statement_wider ss b3 h, j3), j2), j1))

-- ---- files

file_statement_wider : Widens (file_statement Strict all_rules) (file_statement (Lenient Proto3) all_rules)
file_statement_wider FileStatement.nothing_said c (inl d) = inl (option_wider c d)
file_statement_wider FileStatement.nothing_said c (inr d) = inr d
file_statement_wider (FileStatement.an_extend ms) c d = absurd d
file_statement_wider (FileStatement.an_import is_public n) c d = d
file_statement_wider (FileStatement.a_package p) c d = d
file_statement_wider (FileStatement.a_message m) c d = message_wider 64 m c d
file_statement_wider (FileStatement.an_enum e) c d = enum_wider e c d
file_statement_wider (FileStatement.a_service s) c d = service_wider s c d

-- what is read strictly, as it is read leniently
abbrev widened : Grammar × List FileStatement → Grammar × List FileStatement
widened (Strict, ss) = (Lenient Proto3, ss)
widened (Lenient s, ss) = (Lenient s, ss)

file_wider : (x : Grammar × List FileStatement) (c : List Symbol) → file reading.Strict all_rules x c → file reading.Lenient all_rules (widened x) c
file_wider (Lenient s, ss) c (l, (a, b, ha, hb, j)) = absurd ha
file_wider (Strict, ss) c (l, (a, b, inr ha, hb, j)) = absurd (cc ha.0)
file_wider (Strict, ss) c (l, (a, b, inl ha, hb, j)) =
    (l, (a, b, inl ha, until_wider (file_statement Strict all_rules) (file_statement (Lenient Proto3) all_rules) nothing file_statement_wider ss b hb, j))

-- the file means the same
same_file : (name : List ℕ) (x : Grammar × List FileStatement) (c : List Symbol) → file reading.Strict all_rules x c → file_of x.0 name x.1 ≡ file_of (widened x).0 name (widened x).1
same_file name (Strict, ss) c d = refl
same_file name (Lenient s, ss) c (l, (a, b, ha, hb, j)) = absurd ha

pub source_wider : (name bytes : List ℕ) (d : DeclaredFile) → IsSource name bytes d → IsLenientSource name bytes d
source_wider name bytes d s = record {
  size = s.size;
  valid = s.valid;
  tokens = s.tokens;
  lexed = s.lexed;
  symbols = s.symbols;
  read = s.read;
  means = (widened s.means.0, file_wider s.means.0 (symbols_alone s.symbols) s.means.1, s.means.2 ∙ same_file name s.means.0 (symbols_alone s.symbols) s.means.1);
}
