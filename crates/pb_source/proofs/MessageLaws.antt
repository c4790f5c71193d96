-- The readers of messages read them.
use Prim.Native.String.{String}
use Rattle.std.proofs.Common.{◌≡◌, ℕ, zero, suc, List, [], ◌∷◌, ◌++◌, Bool, true, false, not, ◌||◌, codes, refl, ap, sym, subst, Option, Some, None, ◌⊎◌, inl, inr, arith}
use Rattle.std.specs.Prelude.{if◌then◌else◌}
use Rattle.std.specs.Str.{bytes_eq}
use Rattle.std.proofs.lemmas.Bool.{false≢true}
use Rattle.std.proofs.lemmas.Slice.Eq.{bytes_eq-Decides}
use Rattle.pb_declarations.specs.Decls.{DeclaredMessage, DeclaredField}
use Rattle.pb_source_tokens.specs.declared.grammar.Grammar.{Grammar}
use Rattle.pb_source_tokens.specs.declared.rule.Rule.TheVariants.{NestsBounded as nests_bounded}
use Rattle.pb_source_tokens.specs.Symbols.{Symbol, word, number, text, sign}
use Rattle.pb_source_tokens.specs.Language.{Language, ◌▸◌, Rules, Begins}
use Rattle.pb_source_tokens.specs.Phrases.{keyword, mark, name, Until, BeginsNot, option, message_range}
use Rattle.pb_source_tokens.specs.Readers.Forms.{Reader, mapped, mark_reader, first_passes, is_keyword}
use Rattle.pb_source_tokens.specs.Readers.Phrases.{message_range_reader}
use Rattle.pb_source_tokens.proofs.ReaderLaws.{Reads}
use Rattle.pb_source_tokens.proofs.Compose.{never, Mapped, reads_mapped, reads_both, reads_behind, said_so}
use Rattle.pb_source_tokens.proofs.Heads.{Headed, headed_one, headed_then}
use Rattle.pb_source_tokens.proofs.SymbolTests.{is_the_word, reads_mark, reads_keyword}
use Rattle.pb_source_tokens.proofs.Loops.{reads_until}
use Rattle.pb_source_tokens.proofs.Guards.{reads_guarded}
use Rattle.pb_source_tokens.proofs.KindLemmas.{first_kind, ByKind, Offers, kinds_fail, kinds_filled, reads_kinds}
use Rattle.pb_source_tokens.proofs.NameLaws.{reads_name}
use Rattle.pb_source_tokens.proofs.RangeLaws.{reads_message_range, message_range_first}
use Rattle.pb_source.specs.declared.kind.Label.{Label}
use Rattle.pb_source.specs.declared.kind.Label.TheVariants.{Unlabelled, Repeated}
use Rattle.pb_source.specs.Syntaxes.{is_lenient, is_proto2, optional_label}
use Rattle.pb_source.specs.declared.kind.MessageKind.{MessageKind}
use Rattle.pb_source.specs.declared.kind.MessageKind.TheVariants as kind
use Rattle.pb_source.specs.Meaning.{Member, MessageStatement, message_of}
use Rattle.pb_source.specs.Grammar.{field, member, unlabelled, beyond_strict, in_proto2, but_proto2, oneof, enum_line, extend, extensions, message_line, message_statement, body, message, depth_left}
use Rattle.pb_source.specs.Readers.Lines.{Nested, a_single, is_closing, field_reader, labelled_reader, extend_reader, extensions_reader, message_kind, nested_message_reader, message_statement_line, allowed_statement_reader, message_statement_reader, message_line_reader, body_reader, nested_in, room_statement_reader, room_body_reader, message_reader}
use Rattle.pb_source.proofs.StatementKinds.{kind_other, not_in_table, in_front, in_both, kind_one, kind_then, kind_front}
use Rattle.pb_source.proofs.FieldLaws.{reads_field, begins_type, field_first, MapLine, reads_map, map_line_first}
use Rattle.pb_source.proofs.ReservedLaws.{Reserved, reads_reserved, reserved_first}
use Rattle.pb_source.proofs.ExtensionLaws.{offers_lined, Beyond, offers_beyond, beyond_filled, beyond_kind, reads_extend, reads_extensions}
use Rattle.pb_source.proofs.BodyLaws.{Silent, reads_silent_end, reads_silent_option, not_empty_then, closing_of_none, reads_enum}
use Rattle.pb_source.proofs.OneofLaws.{reads_oneof}
use Rattle.pb_source.proofs.GrammarLines.{lined_kept, lined_on}
use Rattle.pb_source.proofs.GroupLaws.{Nests, reads_labelled}

-- ---- statements, by the messages that may stand among them

-- the words of `BeginsNot` for fields, and `map`
abbrev field_words : List (List ℕ × Option MessageKind)
field_words =
    (codes "message", Some kind.Message) ∷ (codes "enum", Some kind.Enum) ∷ (codes "option", Some kind.Option) ∷ (codes "oneof", Some kind.Oneof)
    ∷ (codes "reserved", Some kind.Reserved) ∷ (codes "optional", Some kind.Optional) ∷ (codes "repeated", Some kind.Repeated)
    ∷ (codes "required", Some kind.Required) ∷ (codes "extend", Some kind.Extend) ∷ (codes "extensions", Some kind.Extensions) ∷ []

abbrev map_word : List (List ℕ × Option MessageKind)
map_word = (codes "map", Some kind.Map) ∷ []

-- the line of messages, by the statements of each, up to its closing brace
line_first : (Body : List MessageStatement → Language) (m : DeclaredMessage) → Headed (is_keyword (codes "message")) (message_line Body m)
line_first Body m c d = headed_then (is_keyword (codes "message")) (headed_one (is_keyword (codes "message")) (word (codes "message")) refl) c d.3

module _ (grammar : Grammar) (Body : Rules → List MessageStatement → Language) (M : Rules → DeclaredMessage → Language)
    (first : (rules : Rules) (m : DeclaredMessage) → Headed (is_keyword (codes "message")) (M rules m)) where
  -- statements, where M has the messages
  abbrev With : Rules → MessageStatement → Language
  With rules (MessageStatement.a_message m) = M rules m
  With rules MessageStatement.nothing_said = message_statement grammar rules (Body rules) MessageStatement.nothing_said
  With rules (MessageStatement.a_field x) = message_statement grammar rules (Body rules) (MessageStatement.a_field x)
  With rules (MessageStatement.a_map m) = message_statement grammar rules (Body rules) (MessageStatement.a_map m)
  With rules (MessageStatement.a_oneof w xs) = message_statement grammar rules (Body rules) (MessageStatement.a_oneof w xs)
  With rules (MessageStatement.an_extend ms) = message_statement grammar rules (Body rules) (MessageStatement.an_extend ms)
  With rules (MessageStatement.an_enum e) = message_statement grammar rules (Body rules) (MessageStatement.an_enum e)
  With rules (MessageStatement.reserved_ranges rs) = message_statement grammar rules (Body rules) (MessageStatement.reserved_ranges rs)
  With rules (MessageStatement.reserved_names ns) = message_statement grammar rules (Body rules) (MessageStatement.reserved_names ns)

  -- a field or a group after the word of its label
  abbrev Labelled : String → Label → Rules → Member → Language
  Labelled w l rules x = keyword w ▸ member grammar rules (Body rules) l x

  abbrev MessageLine : MessageKind → Rules → MessageStatement → Language
  MessageLine kind.Empty = Silent MessageStatement.nothing_said (λ rules. mark ";")
  MessageLine kind.Option = Silent MessageStatement.nothing_said (option grammar)
  MessageLine kind.Message = Mapped MessageStatement.a_message M
  MessageLine kind.Enum = Mapped MessageStatement.an_enum (enum_line grammar)
  MessageLine kind.Oneof = Mapped {A = List ℕ × List Member} (λ x. MessageStatement.a_oneof x.0 x.1) (λ rules x. oneof grammar rules (Body rules) x.0 x.1)
  MessageLine kind.Reserved = Reserved message_range message_range_reader MessageStatement.reserved_ranges MessageStatement.reserved_names message_range_first
  MessageLine kind.Repeated = Mapped MessageStatement.a_field (Labelled "repeated" Repeated)
  MessageLine kind.Optional = Mapped MessageStatement.a_field (Labelled "optional" (optional_label grammar))
  MessageLine kind.Required = Mapped MessageStatement.a_field (λ rules x. in_proto2 grammar (Labelled "required" Unlabelled rules x))
  MessageLine kind.Map = MapLine grammar
  MessageLine kind.Field = Mapped a_single (λ rules f. but_proto2 grammar (field grammar rules Unlabelled f))
  MessageLine kind.Extend = Mapped MessageStatement.an_extend (λ rules ms. beyond_strict grammar (extend grammar rules (Body rules) ms))
  MessageLine kind.Extensions = Beyond grammar MessageStatement.nothing_said (extensions grammar)

  filled : (k : MessageKind) (rules : Rules) (s : MessageStatement) → MessageLine k rules s [] → ⊥
  filled kind.Empty rules s d = cc d.2
  filled kind.Option rules s d = not_empty_then (word (codes "option")) d.2
  filled kind.Message rules s d = false≢true (first rules d.0 [] d.2)
  filled kind.Enum rules s d = not_empty_then (word (codes "enum")) d.2.3
  filled kind.Oneof rules s d = not_empty_then (word (codes "oneof")) d.2.2
  filled kind.Reserved rules s d =
      false≢true (reserved_first message_range message_range_reader MessageStatement.reserved_ranges MessageStatement.reserved_names message_range_first rules s [] d)
  filled kind.Repeated rules s d = not_empty_then (word (codes "repeated")) d.2
  filled kind.Optional rules s d = not_empty_then (word (codes "optional")) d.2
  filled kind.Map rules s d = false≢true (map_line_first grammar rules s [] d)
  filled kind.Required rules s d = not_empty_then (word (codes "required")) (lined_kept (is_proto2 grammar) (Labelled "required" Unlabelled rules d.0) [] d.2)
  filled kind.Field rules s d = false≢true (field_first grammar rules Unlabelled d.0 [] (lined_kept (not (is_proto2 grammar)) (field grammar rules Unlabelled d.0) [] d.2))
  filled kind.Extend rules s d = not_empty_then (word (codes "extend")) (lined_kept (is_lenient grammar) (extend grammar rules (Body rules) d.0) [] d.2).3
  filled kind.Extensions rules s d = beyond_filled grammar MessageStatement.nothing_said (extensions grammar) rules s (λ d. not_empty_then (word (codes "extensions")) d.1) d

  -- the first symbol of a field without a label
  field_begins : (c : List Symbol) → first_kind message_kind c ≡ Some kind.Field
      → BeginsNot ("message" ∷ "enum" ∷ "option" ∷ "oneof" ∷ "reserved" ∷ "optional" ∷ "repeated" ∷ "required" ∷ "extend" ∷ "extensions" ∷ []) c
  field_begins [] h = tt
  field_begins (word w ∷ c) h =
      in_front field_words map_word w
      (not_in_table (field_words ++ map_word) kind.Field w (
        (λ e. cc e),
        ((λ e. cc e), ((λ e. cc e), ((λ e. cc e), ((λ e. cc e), ((λ e. cc e), ((λ e. cc e), ((λ e. cc e), ((λ e. cc e), ((λ e. cc e), ((λ e. cc e), tt)))))))))),
      )
      h)
  field_begins (number w ∷ c) h = tt
  field_begins (text w ∷ c) h = tt
  field_begins (sign w ∷ c) h = tt

  map_begins : (c : List Symbol) → first_passes (is_keyword (codes "map")) c ≡ true
      → BeginsNot ("message" ∷ "enum" ∷ "option" ∷ "oneof" ∷ "reserved" ∷ "optional" ∷ "repeated" ∷ "required" ∷ "extend" ∷ "extensions" ∷ []) c
  map_begins [] h = absurd (false≢true h)
  map_begins (word w ∷ c) h =
      subst (λ w. BeginsNot ("message" ∷ "enum" ∷ "option" ∷ "oneof" ∷ "reserved" ∷ "optional" ∷ "repeated" ∷ "required" ∷ "extend" ∷ "extensions" ∷ []) (word w ∷ c))
      (sym ((bytes_eq-Decides w (codes "map")).0 h)) refl
  map_begins (number w ∷ c) h = absurd (false≢true h)
  map_begins (text w ∷ c) h = absurd (false≢true h)
  map_begins (sign w ∷ c) h = absurd (false≢true h)

  single_on : (rules : Rules) (f : DeclaredField) (c : List Symbol)
      → BeginsNot ("message" ∷ "enum" ∷ "option" ∷ "oneof" ∷ "reserved" ∷ "optional" ∷ "repeated" ∷ "required" ∷ "extend" ∷ "extensions" ∷ []) c
      → but_proto2 grammar (field grammar rules Unlabelled f) c → With rules (a_single f) c
  single_on rules f c b d =
      inr (inr (inr (lined_on (not (is_proto2 grammar)) (field grammar rules Unlabelled f) (unlabelled grammar rules (f, None)) c (λ x. (f, refl, b, x)) d)))

  to_statement : (rules : Rules) (s : MessageStatement) (c : List Symbol) → ByKind message_kind MessageLine rules s c → With rules s c
  to_statement rules s c (kind.Empty, h, (u, e, d)) = subst (λ s. With rules s c) (sym e) (inr (inl d))
  to_statement rules s c (kind.Extensions, h, (u, e, d)) = subst (λ s. With rules s c) (sym e) (inr (inr d))
  to_statement rules s c (kind.Extend, h, (ms, e, d)) = subst (λ s. With rules s c) (sym e) d
  to_statement rules s c (kind.Option, h, (u, e, d)) = subst (λ s. With rules s c) (sym e) (inl d)
  to_statement rules s c (kind.Message, h, (m, e, d)) = subst (λ s. With rules s c) (sym e) d
  to_statement rules s c (kind.Enum, h, (m, e, d)) = subst (λ s. With rules s c) (sym e) d
  to_statement rules s c (kind.Oneof, h, (m, e, d)) = subst (λ s. With rules s c) (sym e) d
  to_statement rules s c (kind.Reserved, h, inl (ns, e, d)) = subst (λ s. With rules s c) (sym e) d
  to_statement rules s c (kind.Reserved, h, inr (rs, e, d)) = subst (λ s. With rules s c) (sym e) d
  to_statement rules s c (kind.Repeated, h, (x, e, d)) = subst (λ s. With rules s c) (sym e) (inl d)
  to_statement rules s c (kind.Optional, h, (x, e, d)) = subst (λ s. With rules s c) (sym e) (inr (inl d))
  to_statement rules s c (kind.Required, h, (x, e, d)) = subst (λ s. With rules s c) (sym e) (inr (inr (inl d)))
  to_statement rules s c (kind.Map, h, inl (m, e, d)) = subst (λ s. With rules s c) (sym e) d
  to_statement rules s c (kind.Map, h, inr (f, e, k, d)) = subst (λ s. With rules s c) (sym e) (single_on rules f c (map_begins c k) d)
  to_statement rules s c (kind.Field, h, (f, e, d)) = subst (λ s. With rules s c) (sym e) (single_on rules f c (field_begins c h) d)

  map_is : (s : Symbol) → is_keyword (codes "map") s ≡ true → message_kind s ≡ Some kind.Map
  map_is s h = ap message_kind (is_the_word (codes "map") s h)

  of_unlabelled : (rules : Rules) (f : DeclaredField) (c : List Symbol)
      → BeginsNot ("message" ∷ "enum" ∷ "option" ∷ "oneof" ∷ "reserved" ∷ "optional" ∷ "repeated" ∷ "required" ∷ "extend" ∷ "extensions" ∷ []) c
      → but_proto2 grammar (field grammar rules Unlabelled f) c → first_passes begins_type c ≡ true → ByKind message_kind MessageLine rules (a_single f) c
  of_unlabelled rules f [] b d h = absurd (false≢true h)
  of_unlabelled rules f (word w ∷ c) b d h = by_map (bytes_eq w (codes "map")) refl
    where
      by_map : (t : Bool) → bytes_eq w (codes "map") ≡ t → ByKind message_kind MessageLine rules (a_single f) (word w ∷ c)
      by_map true e = (kind.Map, map_is (word w) e, inr (f, refl, e, d))
      by_map false e = (kind.Field, kind_other (field_words ++ map_word) (Some kind.Field) w (in_both field_words map_word w b (ap (λ t. t || false) e)), (f, refl, d))
  of_unlabelled rules f (sign w ∷ c) b d h = (kind.Field, ap message_kind (ap sign ((bytes_eq-Decides w (codes ".")).0 h)), (f, refl, d))
  of_unlabelled rules f (number w ∷ c) b d h = absurd (false≢true h)
  of_unlabelled rules f (text w ∷ c) b d h = absurd (false≢true h)

  of_fields : (rules : Rules) (x : Member) (c : List Symbol) → message_statement grammar rules (Body rules) (MessageStatement.a_field x) c → ByKind message_kind MessageLine rules (MessageStatement.a_field x) c
  of_fields rules x c (inl d) = (kind.Repeated, kind_then message_kind (word (codes "repeated")) c d, (x, refl, d))
  of_fields rules x c (inr (inl d)) = (kind.Optional, kind_then message_kind (word (codes "optional")) c d, (x, refl, d))
  of_fields rules x c (inr (inr (inl d))) =
      (kind.Required, kind_then message_kind (word (codes "required")) c (lined_kept (is_proto2 grammar) (Labelled "required" Unlabelled rules x) c d), (x, refl, d))
  of_fields rules x c (inr (inr (inr d))) =
      let s = lined_kept (not (is_proto2 grammar)) (unlabelled grammar rules x) c d in
      subst (λ x. ByKind message_kind MessageLine rules (MessageStatement.a_field x) c) (sym s.1)
      (of_unlabelled rules s.0 c s.2 (lined_on (not (is_proto2 grammar)) (unlabelled grammar rules x) (field grammar rules Unlabelled s.0) c (λ _. s.3) d) (field_first grammar rules Unlabelled s.0 c s.3))

  of_statement : (rules : Rules) (s : MessageStatement) (c : List Symbol) → With rules s c → ByKind message_kind MessageLine rules s c
  of_statement rules MessageStatement.nothing_said c (inl d) = (kind.Option, kind_then message_kind (word (codes "option")) c d, (tt, refl, d))
  of_statement rules MessageStatement.nothing_said c (inr (inl d)) = (kind.Empty, kind_one message_kind (sign (codes ";")) c d, (tt, refl, d))
  of_statement rules MessageStatement.nothing_said c (inr (inr d)) = (
    kind.Extensions,
    beyond_kind grammar message_kind kind.Extensions (extensions grammar rules) c (λ d. kind_then message_kind (word (codes "extensions")) c d.1) d,
    (tt, refl, d),
  )
  of_statement rules (MessageStatement.a_field x) c d = of_fields rules x c d
  of_statement rules (MessageStatement.a_map m) c d =
      (kind.Map, kind_front message_kind kind.Map (is_keyword (codes "map")) map_is c (map_line_first grammar rules (MessageStatement.a_map m) c (inl (m, refl, d))), inl (m, refl, d))
  of_statement rules (MessageStatement.a_oneof w xs) c d = (kind.Oneof, kind_then message_kind (word (codes "oneof")) c d.2, ((w, xs), refl, d))
  of_statement rules (MessageStatement.a_message m) c d = (
    kind.Message,
    kind_front message_kind kind.Message (is_keyword (codes "message")) (λ s h. ap message_kind (is_the_word (codes "message") s h)) c (first rules m c d),
    (m, refl, d),
  )
  of_statement rules (MessageStatement.an_extend ms) c d = (
    kind.Extend,
    kind_then message_kind (word (codes "extend")) c (lined_kept (is_lenient grammar) (extend grammar rules (Body rules) ms) c d).3,
    (ms, refl, d),
  )
  of_statement rules (MessageStatement.an_enum e) c d = (kind.Enum, kind_then message_kind (word (codes "enum")) c d.3, (e, refl, d))
  of_statement rules (MessageStatement.reserved_ranges rs) c d = (kind.Reserved, kind_then message_kind (word (codes "reserved")) c d, inr (rs, refl, d))
  of_statement rules (MessageStatement.reserved_names ns) c d = (kind.Reserved, kind_then message_kind (word (codes "reserved")) c d, inl (ns, refl, d))

  module _ (n : ℕ) (nested : Nested) (nests : Nests grammar n Body nested) (messages : Offers n never (Mapped MessageStatement.a_message M) (nested_message_reader nested)) where
    offers : (k : MessageKind) → Offers n never (MessageLine k) (message_statement_line grammar n nested k)
    offers kind.Empty = reads_silent_end MessageStatement.nothing_said
    offers kind.Option = reads_silent_option grammar MessageStatement.nothing_said
    offers kind.Message = messages
    offers kind.Enum = reads_mapped MessageStatement.an_enum (reads_enum grammar n)
    offers kind.Oneof = reads_mapped (λ x. MessageStatement.a_oneof x.0 x.1) (reads_oneof grammar n Body nested nests)
    offers kind.Reserved = reads_reserved message_range message_range_reader MessageStatement.reserved_ranges MessageStatement.reserved_names message_range_first n (reads_message_range n)
    offers kind.Repeated = reads_mapped MessageStatement.a_field (reads_labelled grammar n "repeated" Repeated Body nested nests)
    offers kind.Optional = reads_mapped MessageStatement.a_field (reads_labelled grammar n "optional" (optional_label grammar) Body nested nests)
    offers kind.Map = reads_map grammar n
    offers kind.Required =
        offers_lined (is_proto2 grammar) MessageStatement.a_field (Labelled "required" Unlabelled) (labelled_reader grammar n (codes "required") Unlabelled nested)
        (reads_labelled grammar n "required" Unlabelled Body nested nests)
    offers kind.Field = offers_lined (not (is_proto2 grammar)) a_single (λ rules f. field grammar rules Unlabelled f) (field_reader grammar n Unlabelled) (reads_field grammar n Unlabelled)
    offers kind.Extend =
        offers_lined (is_lenient grammar) MessageStatement.an_extend (λ rules ms. extend grammar rules (Body rules) ms) (extend_reader grammar n nested) (reads_extend grammar n Body nested nests)
    offers kind.Extensions = offers_beyond grammar MessageStatement.nothing_said (extensions grammar) (extensions_reader grammar n) (reads_extensions grammar n)

    reads_allowed : Reads n never With (allowed_statement_reader grammar n nested)
    unfolding allowed_statement_reader
    reads_allowed =
        said_so {Q = With}
        (reads_kinds n never message_kind MessageLine (message_statement_line grammar n nested) offers filled
        (λ rules. (MessageStatement.nothing_said, sign (codes ";") ∷ [], (kind.Empty, refl, (tt, refl, refl)))))
        to_statement of_statement

module _ (grammar : Grammar) (Body : Rules → List MessageStatement → Language) where
  abbrev Lines : Rules → DeclaredMessage → Language
  Lines rules = message_line (Body rules)

  abbrev Statement : Rules → MessageStatement → Language
  Statement rules = message_statement grammar rules (Body rules)

  abbrev lines_first : (rules : Rules) (m : DeclaredMessage) → Headed (is_keyword (codes "message")) (Lines rules m)
  lines_first rules m = line_first (Body rules) m

  as_with : (rules : Rules) (s : MessageStatement) (c : List Symbol) → Statement rules s c → With grammar Body Lines lines_first rules s c
  as_with rules MessageStatement.nothing_said c d = d
  as_with rules (MessageStatement.a_field x) c d = d
  as_with rules (MessageStatement.a_map m) c d = d
  as_with rules (MessageStatement.a_oneof w xs) c d = d
  as_with rules (MessageStatement.a_message m) c d = d
  as_with rules (MessageStatement.an_extend ms) c d = d
  as_with rules (MessageStatement.an_enum e) c d = d
  as_with rules (MessageStatement.reserved_ranges rs) c d = d
  as_with rules (MessageStatement.reserved_names ns) c d = d

  with_as : (rules : Rules) (s : MessageStatement) (c : List Symbol) → With grammar Body Lines lines_first rules s c → Statement rules s c
  with_as rules MessageStatement.nothing_said c d = d
  with_as rules (MessageStatement.a_field x) c d = d
  with_as rules (MessageStatement.a_map m) c d = d
  with_as rules (MessageStatement.a_oneof w xs) c d = d
  with_as rules (MessageStatement.a_message m) c d = d
  with_as rules (MessageStatement.an_extend ms) c d = d
  with_as rules (MessageStatement.an_enum e) c d = d
  with_as rules (MessageStatement.reserved_ranges rs) c d = d
  with_as rules (MessageStatement.reserved_names ns) c d = d

  of_kind : (rules : Rules) (s : MessageStatement) (c : List Symbol) → Statement rules s c → ByKind message_kind (MessageLine grammar Body Lines lines_first) rules s c
  of_kind rules s c d = of_statement grammar Body Lines lines_first rules s c (as_with rules s c d)

  -- { statement } "}"
  reads_body : (n : ℕ) (statement : Reader MessageStatement) → Reads n never Statement statement → Reads n never (λ rules ss. Until (Statement rules) (mark "}") ss) (body_reader n statement)
  reads_body n statement rs =
      reads_until n is_closing Statement (λ rules u. mark "}") statement (mark_reader (codes "}")) rs (reads_mark (codes "}"))
      (λ rules u c d. headed_one is_closing (sign (codes "}")) refl c d)
      (λ rules s c rest d. kinds_fail message_kind (MessageLine grammar Body Lines lines_first) is_closing (closing_of_none message_kind refl) rules s c rest (of_kind rules s c d))
      (λ rules s c d. kinds_filled message_kind (MessageLine grammar Body Lines lines_first) rules s c (of_kind rules s c d)) n (omega arith)

  reads_line : (n : ℕ) (p : Reader (List MessageStatement)) → Reads n never Body p → Reads n never Lines (message_line_reader p)
  unfolding message_line_reader
  reads_line n p rp =
      said_so {Q = Lines}
      (reads_mapped (λ x. message_of x.0 x.1)
      (reads_behind {L = λ rules. keyword "message"} (reads_keyword (codes "message"))
      (reads_both reads_name (reads_behind {L = λ rules. mark "{"} (reads_mark (codes "{")) rp))))
      (λ rules m c d. (d.0.0, d.0.1, d.1, d.2)) (λ rules m c d. ((d.0, d.1), d.2, d.3))

-- ---- where a message may nest beyond the rule alone

module _ (grammar : Grammar) (Body : Rules → List MessageStatement → Language) where
  abbrev Nothing : Rules → DeclaredMessage → Language
  Nothing rules m ts = ⊥

  abbrev nothing_first : (rules : Rules) (m : DeclaredMessage) → Headed (is_keyword (codes "message")) (Nothing rules m)
  nothing_first rules m c d = absurd d

  abbrev Messageless : Rules → MessageStatement → Language
  Messageless = With grammar Body Nothing nothing_first

  -- no statement begins with the word `message` where no message may stand
  no_message : (rules : Rules) (s : MessageStatement) (c rest : List Symbol) → Messageless rules s c → first_passes (is_keyword (codes "message")) (c ++ rest) ≡ false
  no_message rules s c rest d = by_kind_of c (of_statement grammar Body Nothing nothing_first rules s c d)
    where
      is_none : (t : Symbol) (c : List Symbol) → is_keyword (codes "message") t ≡ true → ByKind message_kind (MessageLine grammar Body Nothing nothing_first) rules s (t ∷ c) → ⊥
      is_none t c h (k, i, d) =
          let z : message_kind t ≡ Some kind.Message = ap message_kind (is_the_word (codes "message") t h) in
          let e : k ≡ kind.Message = cc (z, i) in
          (subst (λ k. MessageLine grammar Body Nothing nothing_first k rules s (t ∷ c)) e d).2

      by_test : (t : Symbol) (c : List Symbol) (b : Bool) → is_keyword (codes "message") t ≡ b → ByKind message_kind (MessageLine grammar Body Nothing nothing_first) rules s (t ∷ c) → is_keyword (codes "message") t ≡ false
      by_test t c true h d = absurd (is_none t c h d)
      by_test t c false h d = h

      by_kind_of : (c : List Symbol) → ByKind message_kind (MessageLine grammar Body Nothing nothing_first) rules s c → first_passes (is_keyword (codes "message")) (c ++ rest) ≡ false
      by_kind_of [] (k, i, d) = absurd (cc i)
      by_kind_of (t ∷ c) d = by_test t c (is_keyword (codes "message") t) refl d

  abbrev Deeper : Rules → MessageStatement → Language
  Deeper = Mapped MessageStatement.a_message (λ rules. message_line (body grammar rules 1))

  -- message M { }
  one_more : (rules : Rules) (t : Symbol) → is_keyword (codes "message") t ≡ true → Begins (Deeper rules) (t ∷ [])
  one_more rules t h = subst (λ t. Begins (Deeper rules) (t ∷ [])) (sym (is_the_word (codes "message") t h)) (
    MessageStatement.a_message (message_of (codes "M") []),
    word (codes "M") ∷ sign (codes "{") ∷ sign (codes "}") ∷ [],
    (
      message_of (codes "M") [],
      refl,
      (codes "M", [], refl, (word (codes "message") ∷ [], _, refl, (word (codes "M") ∷ [], _, refl, (sign (codes "{") ∷ [], _, refl, refl, refl), refl), refl)),
    ),
  )

  abbrev LastOf : Rules → MessageStatement → Language
  LastOf rules s ts = ((rules nests_bounded ≡ false) × Deeper rules s ts) ⊎ Messageless rules s ts

  module _ (n : ℕ) (p : Reader (List MessageStatement)) (nests : Nests grammar n Body (Nested.beyond p)) where
    to_last : (rules : Rules) (s : MessageStatement) (c : List Symbol) → LastOf rules s c → message_statement grammar rules (Body rules) s c
    to_last rules s c (inl (h, (m, e, (w, ss, i, (a1, b1, h1, (a2, b2, h2, (a3, b3, h3, d, j3), j2), j1))))) =
        subst (λ s. message_statement grammar rules (Body rules) s c) (sym e) (w, ss, i, (a1, b1, h1, (a2, b2, h2, (a3, b3, h3, nests.2 rules ss b3 h d, j3), j2), j1))
    to_last rules MessageStatement.nothing_said c (inr d) = d
    to_last rules (MessageStatement.a_field x) c (inr d) = d
    to_last rules (MessageStatement.a_map m) c (inr d) = d
    to_last rules (MessageStatement.a_oneof w xs) c (inr d) = d
    to_last rules (MessageStatement.a_message m) c (inr d) = absurd d
    to_last rules (MessageStatement.an_extend ms) c (inr d) = d
    to_last rules (MessageStatement.an_enum e) c (inr d) = d
    to_last rules (MessageStatement.reserved_ranges rs) c (inr d) = d
    to_last rules (MessageStatement.reserved_names ns) c (inr d) = d

    of_last : (rules : Rules) (s : MessageStatement) (c : List Symbol) → message_statement grammar rules (Body rules) s c → LastOf rules s c
    of_last rules MessageStatement.nothing_said c d = inr d
    of_last rules (MessageStatement.a_field x) c d = inr d
    of_last rules (MessageStatement.a_map m) c d = inr d
    of_last rules (MessageStatement.a_oneof w xs) c d = inr d
    of_last rules (MessageStatement.a_message m) c (w, ss, i, (a1, b1, h1, (a2, b2, h2, (a3, b3, h3, d, j3), j2), j1)) =
        let z = nests.1 rules ss b3 d in
        inl (z.0, (m, refl, (w, ss, i, (a1, b1, h1, (a2, b2, h2, (a3, b3, h3, z.1, j3), j2), j1))))
    of_last rules (MessageStatement.an_extend ms) c d = inr d
    of_last rules (MessageStatement.an_enum e) c d = inr d
    of_last rules (MessageStatement.reserved_ranges rs) c d = inr d
    of_last rules (MessageStatement.reserved_names ns) c d = inr d

    reads_last : Reads n never (λ rules. message_statement grammar rules (Body rules)) (message_statement_reader grammar n (Nested.beyond p))
    reads_last =
        said_so {Q = λ rules. message_statement grammar rules (Body rules)}
        (reads_guarded n never nests_bounded (is_keyword (codes "message")) Deeper Messageless
        (mapped MessageStatement.a_message (message_line_reader p)) (allowed_statement_reader grammar n (Nested.beyond p))
        (reads_mapped MessageStatement.a_message (reads_line grammar (λ rules. body grammar rules 1) n p nests.0))
        (reads_allowed grammar Body Nothing nothing_first n (Nested.beyond p) nests (λ rules s c d. d.2))
        (λ rules s c d. line_first (body grammar rules 1) d.0 c d.2)
        (λ rules s c rest d stop. no_message rules s c rest d)
        one_more)
        to_last of_last

-- ---- statements, by what nests

nested_lines : (grammar : Grammar) (Body : Rules → List MessageStatement → Language) (n : ℕ) → Nests grammar n Body Nested.none → Offers n never (Mapped MessageStatement.a_message (Lines grammar Body)) None
nested_lines grammar Body n h = λ rules s c d. h rules d.2.1 d.2.3.3.3.1 d.2.3.3.3.3

pub reads_statement : (grammar : Grammar) (Body : Rules → List MessageStatement → Language) (n : ℕ) (nested : Nested) → Nests grammar n Body nested
    → Reads n never (λ rules. message_statement grammar rules (Body rules)) (message_statement_reader grammar n nested)
reads_statement grammar Body n Nested.none h =
    said_so {Q = Statement grammar Body} (reads_allowed grammar Body (Lines grammar Body) (lines_first grammar Body) n Nested.none h (nested_lines grammar Body n h)) (with_as grammar Body) (as_with grammar Body)
reads_statement grammar Body n (Nested.beyond p) h = reads_last grammar Body n p h
reads_statement grammar Body n (Nested.inside p) h =
    said_so {Q = Statement grammar Body}
    (reads_allowed grammar Body (Lines grammar Body) (lines_first grammar Body) n (Nested.inside p) h (reads_mapped MessageStatement.a_message (reads_line grammar Body n p h)))
    (with_as grammar Body) (as_with grammar Body)

-- ---- messages by the levels that are left

-- where the rule on nests is left out, one more may stand
abbrev pub deep : ℕ → Rules → ℕ
deep depth_left rules = if rules nests_bounded then depth_left else suc depth_left

deeper : (depth_left : ℕ) (rules : Rules) → suc (deep depth_left rules) ≡ deep (suc depth_left) rules
deeper depth_left rules = by_rule (rules nests_bounded)
  where
    by_rule : (b : Bool) → suc (if b then depth_left else suc depth_left) ≡ (if b then suc depth_left else suc (suc depth_left))
    by_rule true = refl
    by_rule false = refl

module _ (grammar : Grammar) (n : ℕ) where
  abbrev Bodies : ℕ → Rules → List MessageStatement → Language
  Bodies depth_left rules = body grammar rules (deep depth_left rules)

  reads_room_body : (depth_left : ℕ) → Nests grammar n (Bodies depth_left) (nested_in grammar n depth_left) → Reads n never (Bodies (suc depth_left)) (room_body_reader grammar n depth_left)
  reads_room_body depth_left h =
      said_so {Q = Bodies (suc depth_left)}
      (reads_body grammar (Bodies depth_left) n (room_statement_reader grammar n depth_left) (reads_statement grammar (Bodies depth_left) n (nested_in grammar n depth_left) h))
      (λ rules ss c d. subst (λ k. body grammar rules k ss c) (deeper depth_left rules) d) (λ rules ss c d. subst (λ k. body grammar rules k ss c) (sym (deeper depth_left rules)) d)

  last_so : (rules : Rules) (ss : List MessageStatement) (c : List Symbol) → Bodies 0 rules ss c → (rules nests_bounded ≡ false) × body grammar rules 1 ss c
  last_so rules ss c d = by_rule (rules nests_bounded) refl d
    where
      by_rule : (b : Bool) → rules nests_bounded ≡ b → body grammar rules (if b then 0 else 1) ss c → (rules nests_bounded ≡ false) × body grammar rules 1 ss c
      by_rule true h d = absurd d
      by_rule false h d = (h, d)

  pub nests_in : (depth_left : ℕ) → Nests grammar n (Bodies depth_left) (nested_in grammar n depth_left)
  unfolding nested_in
  nests_in zero = (
    reads_body grammar (λ rules. body grammar rules 0) n (message_statement_reader grammar n Nested.none) (reads_statement grammar (λ rules. body grammar rules 0) n Nested.none (λ rules ss c d. d)),
    last_so,
    (λ rules ss c h d. subst (λ b. body grammar rules (if b then 0 else 1) ss c) (sym h) d),
  )
  nests_in (suc depth_left) = reads_room_body depth_left (nests_in depth_left)

-- messages that nest at most 64 deep
pub reads_message : (grammar : Grammar) → (n : ℕ) → Reads n never (λ rules. message grammar rules (depth_left rules)) (message_reader grammar n 63)
reads_message grammar n = reads_line grammar (λ rules. body grammar rules (depth_left rules)) n (room_body_reader grammar n 63) (reads_room_body grammar n 63 (nests_in grammar n 63))

-- what nests in a file
pub nests_in_file : (grammar : Grammar) (n : ℕ) → Nests grammar n (λ rules. body grammar rules (depth_left rules)) (nested_in grammar n 64)
nests_in_file grammar n = nests_in grammar n 64

pub file_message_first : (grammar : Grammar) → (rules : Rules) (m : DeclaredMessage) (c : List Symbol) → message grammar rules (depth_left rules) m c → first_passes (is_keyword (codes "message")) c ≡ true
file_message_first grammar rules m c d = line_first (body grammar rules (depth_left rules)) m c d
