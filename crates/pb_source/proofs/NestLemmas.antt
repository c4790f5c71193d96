-- Messages of sources stand in each other at most 65 deep: 64 that are written, and the entry of a map.
use Rattle.std.proofs.Common.{◌≡◌, ℕ, zero, suc, ◌≤◌, max, List, [], ◌∷◌, ◌++◌, Option, Some, None, option_to_list, inl, inr, not, refl, subst, sym, ap, ◌∙◌, arith}
use Rattle.pb_schema.specs.Names.{in_scope}
use Rattle.pb_declarations.specs.Decls.{DeclaredMessage, message as message_decl, DeclaredMessages, no_messages, more_messages, messages_of, DeclaredFile}
use Rattle.pb_declarations.specs.Nests.{nests, all_nest}
use Rattle.pb_source_tokens.specs.declared.grammar.Grammar.{Grammar}
use Rattle.pb_source.specs.declared.reading.Reading.{Reading}
use Rattle.pb_source.specs.declared.reading.Reading.TheVariants as reading
use Rattle.pb_source_tokens.specs.Symbols.{Symbol}
use Rattle.pb_source_tokens.specs.Language.{Rules, all_rules, Language, ◌▸◌, nothing}
use Rattle.pb_source_tokens.specs.Phrases.{Until, keyword, mark}
use Rattle.pb_source.specs.declared.kind.Label.{Label}
use Rattle.pb_source.specs.declared.kind.Label.TheVariants.{Unlabelled, Repeated}
use Rattle.pb_source.specs.Syntaxes.{is_lenient, is_proto2, optional_label}
use Rattle.pb_source.specs.Meaning.{Member, MessageStatement, FileStatement, those_said, groups_in, message_of, scoped, all_scoped, all_said, nested_said, file_messages_said, package_of}
use Rattle.pb_source.specs.Grammar.{in_proto2, beyond_strict, group, member, oneof_statement, extended_field, extension, extend, unlabelled, message_line, message_statement, body, file_statement, FileSyntaxIn}
use Rattle.pb_source.specs.Source.{IsSource, IsSourceIn}
use Rattle.pb_source.proofs.GrammarLines.{lined_kept, extended_single}

-- ---- names of entries change nothing

mutual
  scoped_nests : (scope : List ℕ) (m : DeclaredMessage) → nests (scoped scope m) ≡ nests m
  scoped_nests scope (message_decl head inner) = ap suc (all_scoped_nest (in_scope scope head.name) inner)

  all_scoped_nest : (scope : List ℕ) (ms : DeclaredMessages) → all_nest (all_scoped scope ms) ≡ all_nest ms
  all_scoped_nest scope no_messages = refl
  all_scoped_nest scope (more_messages m ms) =
      let first = scoped_nests scope m in
      let rest = all_scoped_nest scope ms in
      ap (λ a. max a (all_nest (all_scoped scope ms))) first ∙ ap (max (nests m)) rest

-- ---- messages in a row

abbrev listed_nest : List DeclaredMessage → ℕ
listed_nest ms = all_nest (messages_of ms)

both_nest : (k : ℕ) (xs ys : List DeclaredMessage) → listed_nest xs ≤ k → listed_nest ys ≤ k → listed_nest (xs ++ ys) ≤ k
both_nest k [] ys h i = i
both_nest k (x ∷ xs) ys h i = let rest = both_nest k xs ys (omega arith) i in omega arith

-- ---- what holds groups

module _ (grammar : Grammar) (k : ℕ) (rules : Rules) (Body : List MessageStatement → Language)
    (inner : (ss : List MessageStatement) (ts : List Symbol) → Body ss ts → listed_nest (all_said nested_said ss) ≤ k) where
  message_nest : (name : List ℕ) (ss : List MessageStatement) (ts : List Symbol) → Body ss ts → nests (message_of name ss) ≤ suc k
  message_nest name ss ts w = let h = inner ss ts w in omega arith

  group_nest : (l : Label) (x : Member) (ts : List Symbol) → in_proto2 grammar (group grammar rules Body l x) ts → listed_nest (option_to_list x.1) ≤ suc k
  group_nest l x ts w =
      let g = lined_kept (is_proto2 grammar) (group grammar rules Body l x) ts w in
      subst (λ x. listed_nest (option_to_list x.1) ≤ suc k) (sym g.4) (let h = message_nest g.0 g.3 g.5.1 g.5.3 in omega arith)

  member_nest : (l : Label) (x : Member) (ts : List Symbol) → member grammar rules Body l x ts → listed_nest (option_to_list x.1) ≤ suc k
  member_nest l x ts (inl (f, e, b, d)) = subst (λ x. listed_nest (option_to_list x.1) ≤ suc k) (sym e) (omega arith)
  member_nest l x ts (inr d) = group_nest l x ts d

  oneof_nest : (ss : List (Option Member)) (ts : List Symbol) → Until (oneof_statement grammar rules Body) (mark "}") ss ts → listed_nest (groups_in (those_said ss)) ≤ suc k
  oneof_nest [] ts w = omega arith
  oneof_nest (None ∷ ss) ts w = oneof_nest ss w.1 w.3
  oneof_nest (Some x ∷ ss) ts w = both_nest (suc k) (option_to_list x.1) (groups_in (those_said ss)) (member_nest Unlabelled x w.0 w.2.1) (oneof_nest ss w.1 w.3)

  extended_nest : (x : Member) (ts : List Symbol) → extended_field grammar rules Body x ts → listed_nest (option_to_list x.1) ≤ suc k
  extended_nest x ts (inl d) = member_nest Repeated x d.1 d.3
  extended_nest x ts (inr (inl d)) = member_nest (optional_label grammar) x d.1 d.3
  extended_nest x ts (inr (inr (inl d))) =
      let m = lined_kept (is_proto2 grammar) (keyword "required" ▸ member grammar rules Body Unlabelled x) ts d in
      member_nest Unlabelled x m.1 m.3
  extended_nest x ts (inr (inr (inr d))) =
      let m = lined_kept (not (is_proto2 grammar)) (extended_single grammar rules x) ts d in
      subst (λ x. listed_nest (option_to_list x.1) ≤ suc k) (sym m.1) (omega arith)

  extension_nest : (o : Option DeclaredMessage) (ts : List Symbol) → extension grammar rules Body o ts → listed_nest (option_to_list o) ≤ suc k
  extension_nest o ts (inl (e, d)) = subst (λ o. listed_nest (option_to_list o) ≤ suc k) (sym e) (omega arith)
  extension_nest o ts (inr (x, e, d)) = subst (λ o. listed_nest (option_to_list o) ≤ suc k) (sym e) (extended_nest x ts d)

  extensions_nest : (os : List (Option DeclaredMessage)) (ts : List Symbol) → Until (extension grammar rules Body) (mark "}") os ts → listed_nest (those_said os) ≤ suc k
  extensions_nest [] ts w = omega arith
  extensions_nest (None ∷ os) ts w = extensions_nest os w.1 w.3
  extensions_nest (Some m ∷ os) ts w = let first = extension_nest (Some m) w.0 w.2 in let rest = extensions_nest os w.1 w.3 in omega arith

  extend_nest : (ms : List DeclaredMessage) (ts : List Symbol) → beyond_strict grammar (extend grammar rules Body ms) ts → listed_nest ms ≤ suc k
  extend_nest ms ts w =
      let d = lined_kept (is_lenient grammar) (extend grammar rules Body ms) ts w in
      subst (λ ms. listed_nest ms ≤ suc k) (sym d.2) (extensions_nest d.1 d.3.3.3.1 d.3.3.3.3)

  line_nest : (m : DeclaredMessage) (ts : List Symbol) → message_line Body m ts → nests m ≤ suc k
  line_nest m ts w = subst (λ m. nests m ≤ suc k) (sym w.2) (message_nest w.0 w.1 w.3.3.3.1 w.3.3.3.3)

  fields_nest : (x : Member) (ts : List Symbol) → message_statement grammar rules Body (MessageStatement.a_field x) ts → listed_nest (option_to_list x.1) ≤ suc k
  fields_nest x ts (inl d) = member_nest Repeated x d.1 d.3
  fields_nest x ts (inr (inl d)) = member_nest (optional_label grammar) x d.1 d.3
  fields_nest x ts (inr (inr (inl d))) =
      let m = lined_kept (is_proto2 grammar) (keyword "required" ▸ member grammar rules Body Unlabelled x) ts d in
      member_nest Unlabelled x m.1 m.3
  fields_nest x ts (inr (inr (inr d))) =
      let m = lined_kept (not (is_proto2 grammar)) (unlabelled grammar rules x) ts d in
      subst (λ x. listed_nest (option_to_list x.1) ≤ suc k) (sym m.1) (omega arith)

  -- ---- statements of a message, with the entries of maps

  said_nest : (s : MessageStatement) (ts : List Symbol) → message_statement grammar rules Body s ts → listed_nest (nested_said s) ≤ suc k
  said_nest (MessageStatement.a_message m) ts w = let first = line_nest m ts w in omega arith
  said_nest (MessageStatement.a_map m) ts w = omega arith
  said_nest MessageStatement.nothing_said ts w = omega arith
  said_nest (MessageStatement.a_field x) ts w = fields_nest x ts w
  said_nest (MessageStatement.a_oneof n xs) ts w =
      subst (λ xs. listed_nest (groups_in xs) ≤ suc k) (sym w.1) (oneof_nest w.0 w.2.3.3.1 w.2.3.3.3)
  said_nest (MessageStatement.an_extend ms) ts w = extend_nest ms ts w
  said_nest (MessageStatement.an_enum e) ts w = omega arith
  said_nest (MessageStatement.reserved_ranges rs) ts w = omega arith
  said_nest (MessageStatement.reserved_names ns) ts w = omega arith

  all_said_nest : (ss : List MessageStatement) (ts : List Symbol) → Until (message_statement grammar rules Body) (mark "}") ss ts → listed_nest (all_said nested_said ss) ≤ suc k
  all_said_nest [] ts w = omega arith
  all_said_nest (s ∷ ss) ts w = both_nest (suc k) (nested_said s) (all_said nested_said ss) (said_nest s w.0 w.2) (all_said_nest ss w.1 w.3)

-- what a message holds in a nest of at most this many, with its entries
body_nests : (grammar : Grammar) (rules : Rules) (depth_left : ℕ) (ss : List MessageStatement) (ts : List Symbol) → body grammar rules depth_left ss ts → listed_nest (all_said nested_said ss) ≤ depth_left
body_nests grammar rules zero ss ts w = absurd w
body_nests grammar rules (suc depth_left) ss ts w = all_said_nest grammar depth_left rules (body grammar rules depth_left) (body_nests grammar rules depth_left) ss ts w

-- ---- statements of a file

in_file : (grammar : Grammar) (s : FileStatement) (ts : List Symbol) → file_statement grammar all_rules s ts → listed_nest (file_messages_said s) ≤ 65
in_file grammar (FileStatement.a_message m) ts w = let first = line_nest grammar 64 all_rules (body grammar all_rules 64) (body_nests grammar all_rules 64) m ts w in omega arith
in_file grammar (FileStatement.an_extend ms) ts w = extend_nest grammar 64 all_rules (body grammar all_rules 64) (body_nests grammar all_rules 64) ms ts w
in_file grammar FileStatement.nothing_said ts w = omega arith
in_file grammar (FileStatement.an_import is_public f) ts w = omega arith
in_file grammar (FileStatement.a_package p) ts w = omega arith
in_file grammar (FileStatement.an_enum e) ts w = omega arith
in_file grammar (FileStatement.a_service s) ts w = omega arith

all_in_file : (grammar : Grammar) (ss : List FileStatement) (ts : List Symbol) → Until (file_statement grammar all_rules) nothing ss ts → listed_nest (all_said file_messages_said ss) ≤ 65
all_in_file grammar [] ts w = omega arith
all_in_file grammar (s ∷ ss) ts w = both_nest 65 (file_messages_said s) (all_said file_messages_said ss) (in_file grammar s w.0 w.2) (all_in_file grammar ss w.1 w.3)

syntax_nests : (how : Reading) → (name : List ℕ) (ts : List Symbol) (d : DeclaredFile) → FileSyntaxIn how name ts d → all_nest d.messages ≤ 65
syntax_nests how name ts d w =
    let inner = all_in_file w.0.0 w.0.1 w.1.1.1 w.1.1.3 in
    subst (λ f. all_nest f.messages ≤ 65) (sym w.2) (subst (λ n. n ≤ 65) (sym (all_scoped_nest (package_of w.0.1) (messages_of (all_said file_messages_said w.0.1)))) inner)

pub source_nests_in : (how : Reading) → (name bytes : List ℕ) (d : DeclaredFile) → IsSourceIn how name bytes d → all_nest d.messages ≤ 65
source_nests_in how name bytes d s = syntax_nests how name _ d s.means

pub source_nests : (name bytes : List ℕ) (d : DeclaredFile) → IsSource name bytes d → all_nest d.messages ≤ 65
source_nests = source_nests_in reading.Strict
