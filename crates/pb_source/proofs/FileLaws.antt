-- The reader of files reads them.
use Rattle.std.proofs.Common.{◌≡◌, ℕ, ◌+◌, ◌≤◌, List, [], ◌∷◌, ◌++◌, length, Bool, true, false, ◌||◌, codes, refl, ap, sym, ◌∙◌, subst, length-append, append_assoc, Some, arith, ◌⊎◌, inl, inr}
use Rattle.std.specs.Prelude.{if◌then◌else◌}
use Rattle.std.specs.Str.{bytes_eq}
use Rattle.std.proofs.lemmas.Bool.{false≢true, or_parts}
use Rattle.std.proofs.lemmas.Slice.Eq.{bytes_eq-Decides}
use Rattle.pb_source_tokens.specs.declared.grammar.Grammar.{Grammar}
use Rattle.pb_source_tokens.specs.declared.grammar.Grammar.TheVariants.{Strict, Lenient}
use Rattle.pb_source_tokens.specs.declared.grammar.Syntax.{Syntax}
use Rattle.pb_source_tokens.specs.declared.grammar.Syntax.TheVariants.{Proto2, Proto3}
use Rattle.pb_source_tokens.specs.declared.rule.Rule.TheVariants.{SyntaxFirst as syntax_first}
use Rattle.pb_source_tokens.specs.Symbols.{Symbol, word, number, text, sign}
use Rattle.pb_source_tokens.specs.Language.{Language, ◌▸◌, ◌or◌, one, nothing, Rules}
use Rattle.pb_source_tokens.specs.Said.{joined}
use Rattle.pb_source_tokens.specs.Phrases.{keyword, mark, fullname, Until, option, utf8_text}
use Rattle.pb_source_tokens.specs.Readers.Forms.{first_passes, is_keyword, symbol, judged, mapped}
use Rattle.pb_source_tokens.proofs.ReaderLaws.{Reads, IsStop, Chained, reads_chain}
use Rattle.pb_source_tokens.proofs.Parts.{Answered, reads_answer, reads_stop}
use Rattle.pb_source_tokens.proofs.Compose.{never, any_stop, Mapped, Both, Behind, Before, reads_mapped, reads_both_so, reads_behind, reads_before, reads_before_so, reads_either, said_so}
use Rattle.pb_source_tokens.proofs.Heads.{headed_one, headed_then, fails_rest, stops_rest, front_of, front_of_one}
use Rattle.pb_source_tokens.proofs.SymbolTests.{is_the_word, Keeps, reads_judged, reads_mark, reads_keyword}
use Rattle.pb_source_tokens.proofs.KindLemmas.{ByKind, Offers, kinds_fail, kinds_filled, reads_kinds}
use Rattle.pb_source_tokens.proofs.ToEnd.{always, Each, reads_to_end}
use Rattle.pb_source_tokens.proofs.NameLaws.{reads_fullname}
use Rattle.pb_source_tokens.proofs.OptionLaws.{end_stops}
use Rattle.pb_source_tokens.proofs.RangeLaws.{reads_utf8}
use Rattle.pb_source.specs.declared.reading.Reading.{Reading}
use Rattle.pb_source.specs.declared.reading.Reading.TheVariants as reading
use Rattle.pb_declarations.specs.Decls.{DeclaredMessage}
use Rattle.pb_source.specs.Syntaxes.{is_lenient}
use Rattle.pb_source.specs.declared.kind.FileKind.{FileKind}
use Rattle.pb_source.specs.declared.kind.FileKind.TheVariants as kind
use Rattle.pb_source.specs.Meaning.{FileStatement, all_said, packages_said}
use Rattle.pb_source.specs.Grammar.{beyond_strict, enum_line, extend, body, message, depth_left, service, access, file_statement, syntax_said, syntax_line, file}
use Rattle.pb_source.specs.Readers.Lines.{nested_in, extend_reader, access_reader, import_reader, package_reader, file_kind, file_line, file_statement_reader, syntax_word_in, syntax_text_in, strict_syntax_reader, named_syntax, named_syntax_in, lenient_syntax_reader, begins_syntax, syntax_reader, is_package, statements_reader, file_reader}
use Rattle.pb_source.proofs.StatementKinds.{kind_one, kind_then, kind_front}
use Rattle.pb_source.proofs.ExtensionLaws.{offers_lined, reads_extend}
use Rattle.pb_source.proofs.GrammarLines.{lined_kept}
use Rattle.pb_source.proofs.BodyLaws.{Silent, reads_silent_end, reads_silent_option, not_empty_then, reads_enum, reads_service}
use Rattle.pb_source.proofs.MessageLaws.{reads_message, nests_in_file, file_message_first}

-- ---- imports and packages

-- the words before an import's text
abbrev marks_access : Symbol → Bool
marks_access s = is_keyword (codes "public") s || is_keyword (codes "weak") s

not_public : (rest : List Symbol) → IsStop marks_access rest → first_passes (is_keyword (codes "public")) rest ≡ false
not_public [] s = refl
not_public (t ∷ rest) s = (or_parts (is_keyword (codes "public") t) (is_keyword (codes "weak") t) s).0

not_weak : (rest : List Symbol) → IsStop marks_access rest → first_passes (is_keyword (codes "weak")) rest ≡ false
not_weak [] s = refl
not_weak (t ∷ rest) s = (or_parts (is_keyword (codes "public") t) (is_keyword (codes "weak") t) s).1

abbrev Public : Rules → Bool → Language
Public = Silent true (λ rules. keyword "public")

abbrev NotPublic : Rules → Bool → Language
NotPublic rules b = Silent false (λ rules. keyword "weak") rules b or Answered false rules b

reads_access : {n : ℕ} → Reads n marks_access (λ rules. access) access_reader
unfolding access_reader
reads_access {n} =
    said_so {Q = λ rules. access}
    (reads_either (is_keyword (codes "public")) (reads_mapped {A = Unit {0}} {R = λ rules u. keyword "public"} (λ _. true) (reads_keyword (codes "public")))
    (reads_either (is_keyword (codes "weak")) (reads_mapped {A = Unit {0}} {R = λ rules u. keyword "weak"} (λ _. false) (reads_keyword (codes "weak"))) (reads_answer n marks_access false)
    (λ rules v c d. headed_one (is_keyword (codes "weak")) (word (codes "weak")) refl c d.2)
    (λ rules v c rest d s. ap (λ c. first_passes (is_keyword (codes "weak")) (c ++ rest)) d.1 ∙ not_weak rest s))
    (λ rules v c d. headed_one (is_keyword (codes "public")) (word (codes "public")) refl c d.2)
    no_public)
    to from
  where
    no_public : (rules : Rules) (b : Bool) (c rest : List Symbol) → NotPublic rules b c → IsStop marks_access rest → first_passes (is_keyword (codes "public")) (c ++ rest) ≡ false
    no_public rules b c rest (inl d) s = front_of (is_keyword (codes "public")) (word (codes "weak")) c rest d.2
    no_public rules b c rest (inr d) s = ap (λ c. first_passes (is_keyword (codes "public")) (c ++ rest)) d.1 ∙ not_public rest s

    to : (rules : Rules) (b : Bool) (c : List Symbol) → Public rules b c ⊎ NotPublic rules b c → access b c
    to rules b c (inl (u, e, d)) = subst (λ b. access b c) (sym e) d
    to rules b c (inr (inl (u, e, d))) = subst (λ b. access b c) (sym e) (inl d)
    to rules b c (inr (inr (e, d))) = subst (λ b. access b c) (sym e) (inr d)

    from : (rules : Rules) (b : Bool) (c : List Symbol) → access b c → Public rules b c ⊎ NotPublic rules b c
    from rules true c d = inl (tt, refl, d)
    from rules false c (inl d) = inr (inl (tt, refl, d))
    from rules false c (inr d) = inr (inr (refl, d))

abbrev Import : Rules → Bool × List ℕ → Language
Import = Behind (λ rules. keyword "import") (Both (λ rules. access) (Before utf8_text (λ rules. mark ";")))

reads_import : {n : ℕ} → Reads n never Import import_reader
unfolding import_reader
reads_import =
    reads_behind {L = λ rules. keyword "import"} (reads_keyword (codes "import"))
    (reads_both_so reads_access (reads_before {L = λ rules. mark ";"} reads_utf8 (reads_mark (codes ";")))
    (λ rules v c rest d s. text_stops rules v c rest d))
  where
    text_stops : (rules : Rules) (v : List ℕ) (c rest : List Symbol) → (utf8_text rules v ▸ mark ";") c → IsStop marks_access (c ++ rest)
    text_stops rules v c rest (a, b, (k, ha), hb, j) = stops_rest marks_access (c ++ rest) (front_of_one {S = mark ";"} marks_access (text v) c rest (a, b, ha, hb, j))

abbrev Package : Rules → List ℕ → Language
Package = Mapped joined (Behind (λ rules. keyword "package") (Before (λ rules. fullname) (λ rules. mark ";")))

reads_package : (n : ℕ) → Reads n never Package (package_reader n)
unfolding package_reader
reads_package n =
    reads_mapped joined
    (reads_behind {L = λ rules. keyword "package"} (reads_keyword (codes "package"))
    (reads_before_so {L = λ rules. mark ";"} (reads_fullname n) (reads_mark (codes ";")) (λ rules u c rest d s. end_stops (codes ";") c rest refl d)))

-- ---- statements, by whether a package has been said

-- a package is not said twice
abbrev pub Once : Bool → FileStatement → Type 0
Once said s = (said ≡ false) ⊎ (is_package s ≡ false)

abbrev pub StatementOnce : (grammar : Grammar) → Bool → Rules → FileStatement → Language
StatementOnce grammar said rules s ts = Once said s × file_statement grammar rules s ts

-- a block of `extend`
abbrev Extend : Grammar → Rules → List DeclaredMessage → Language
Extend grammar rules = extend grammar rules (body grammar rules (depth_left rules))

abbrev FileLine : (grammar : Grammar) → Bool → FileKind → Rules → FileStatement → Language
FileLine grammar said kind.Empty = Silent FileStatement.nothing_said (λ rules. mark ";")
FileLine grammar said kind.Option = Silent FileStatement.nothing_said (option grammar)
FileLine grammar said kind.Import = Mapped {A = Bool × List ℕ} (λ x. FileStatement.an_import x.0 x.1) Import
FileLine grammar true kind.Package = λ rules s ts. ⊥
FileLine grammar false kind.Package = Mapped FileStatement.a_package Package
FileLine grammar said kind.Message = Mapped FileStatement.a_message (λ rules. message grammar rules (depth_left rules))
FileLine grammar said kind.Enum = Mapped FileStatement.an_enum (enum_line grammar)
FileLine grammar said kind.Service = Mapped FileStatement.a_service (service grammar)
FileLine grammar said kind.Extend = Mapped FileStatement.an_extend (λ rules ms. beyond_strict grammar (Extend grammar rules ms))

file_offers : (grammar : Grammar) → (n : ℕ) (said : Bool) (k : FileKind) → Offers n never (FileLine grammar said k) (file_line grammar n said k)
file_offers grammar n said kind.Empty = reads_silent_end FileStatement.nothing_said
file_offers grammar n said kind.Option = reads_silent_option grammar FileStatement.nothing_said
file_offers grammar n said kind.Import = reads_mapped {A = Bool × List ℕ} (λ x. FileStatement.an_import x.0 x.1) reads_import
file_offers grammar n true kind.Package = λ rules s c d. d
file_offers grammar n false kind.Package = reads_mapped FileStatement.a_package (reads_package n)
file_offers grammar n said kind.Message = reads_mapped FileStatement.a_message (reads_message grammar n)
file_offers grammar n said kind.Enum = reads_mapped FileStatement.an_enum (reads_enum grammar n)
file_offers grammar n said kind.Service = reads_mapped FileStatement.a_service (reads_service grammar n)
file_offers grammar n said kind.Extend =
    offers_lined (is_lenient grammar) FileStatement.an_extend (Extend grammar) (extend_reader grammar n (nested_in grammar n 64))
    (reads_extend grammar n (λ rules. body grammar rules (depth_left rules)) (nested_in grammar n 64) (nests_in_file grammar n))

file_filled : (grammar : Grammar) → (said : Bool) (k : FileKind) (rules : Rules) (s : FileStatement) → FileLine grammar said k rules s [] → ⊥
file_filled grammar said kind.Empty rules s d = cc d.2
file_filled grammar said kind.Option rules s d = not_empty_then (word (codes "option")) d.2
file_filled grammar said kind.Import rules s d = not_empty_then (word (codes "import")) d.2
file_filled grammar true kind.Package rules s d = d
file_filled grammar false kind.Package rules s d = not_empty_then (word (codes "package")) d.2.2
file_filled grammar said kind.Message rules s d = false≢true (file_message_first grammar rules d.0 [] d.2)
file_filled grammar said kind.Enum rules s d = not_empty_then (word (codes "enum")) d.2.3
file_filled grammar said kind.Service rules s d = not_empty_then (word (codes "service")) d.2.2
file_filled grammar said kind.Extend rules s d = not_empty_then (word (codes "extend")) (lined_kept (is_lenient grammar) (Extend grammar rules d.0) [] d.2).3

package_so : (grammar : Grammar) → (said : Bool) (rules : Rules) (s : FileStatement) (c : List Symbol) → FileLine grammar said kind.Package rules s c → StatementOnce grammar said rules s c
package_so grammar true rules s c d = absurd d
package_so grammar false rules s c (p, e, (ws, i, d)) = subst (λ s. StatementOnce grammar false rules s c) (sym e) (inl refl, (ws, i, d))

to_file : (grammar : Grammar) → (said : Bool) (rules : Rules) (s : FileStatement) (c : List Symbol) → ByKind file_kind (FileLine grammar said) rules s c → StatementOnce grammar said rules s c
to_file grammar said rules s c (kind.Empty, h, (u, e, d)) = subst (λ s. StatementOnce grammar said rules s c) (sym e) (inr refl, inr d)
to_file grammar said rules s c (kind.Extend, h, (ms, e, d)) = subst (λ s. StatementOnce grammar said rules s c) (sym e) (inr refl, d)
to_file grammar said rules s c (kind.Option, h, (u, e, d)) = subst (λ s. StatementOnce grammar said rules s c) (sym e) (inr refl, inl d)
to_file grammar said rules s c (kind.Import, h, (x, e, d)) = subst (λ s. StatementOnce grammar said rules s c) (sym e) (inr refl, d)
to_file grammar said rules s c (kind.Package, h, d) = package_so grammar said rules s c d
to_file grammar said rules s c (kind.Message, h, (m, e, d)) = subst (λ s. StatementOnce grammar said rules s c) (sym e) (inr refl, d)
to_file grammar said rules s c (kind.Enum, h, (m, e, d)) = subst (λ s. StatementOnce grammar said rules s c) (sym e) (inr refl, d)
to_file grammar said rules s c (kind.Service, h, (m, e, d)) = subst (λ s. StatementOnce grammar said rules s c) (sym e) (inr refl, d)

of_package : (grammar : Grammar) → (said : Bool) (rules : Rules) (p : List ℕ) (c : List Symbol) → Once said (FileStatement.a_package p) → Package rules p c → FileLine grammar said kind.Package rules (FileStatement.a_package p) c
of_package grammar true rules p c (inl h) d = absurd (false≢true (sym h))
of_package grammar true rules p c (inr h) d = absurd (false≢true (sym h))
of_package grammar false rules p c o d = (p, refl, d)

of_file : (grammar : Grammar) → (said : Bool) (rules : Rules) (s : FileStatement) (c : List Symbol) → StatementOnce grammar said rules s c → ByKind file_kind (FileLine grammar said) rules s c
of_file grammar said rules FileStatement.nothing_said c (o, inl d) = (kind.Option, kind_then file_kind (word (codes "option")) c d, (tt, refl, d))
of_file grammar said rules FileStatement.nothing_said c (o, inr d) = (kind.Empty, kind_one file_kind (sign (codes ";")) c d, (tt, refl, d))
of_file grammar said rules (FileStatement.an_extend ms) c (o, d) =
    (kind.Extend, kind_then file_kind (word (codes "extend")) c (lined_kept (is_lenient grammar) (Extend grammar rules ms) c d).3, (ms, refl, d))
of_file grammar said rules (FileStatement.an_import p f) c (o, d) = (kind.Import, kind_then file_kind (word (codes "import")) c d, ((p, f), refl, d))
of_file grammar said rules (FileStatement.a_package p) c (o, d) = (kind.Package, kind_then file_kind (word (codes "package")) c d.2, of_package grammar said rules p c o d)
of_file grammar said rules (FileStatement.a_message m) c (o, d) =
    (kind.Message, kind_front file_kind kind.Message (is_keyword (codes "message")) (λ s h. ap file_kind (is_the_word (codes "message") s h)) c (file_message_first grammar rules m c d), (m, refl, d))
of_file grammar said rules (FileStatement.an_enum e) c (o, d) = (kind.Enum, kind_then file_kind (word (codes "enum")) c d.3, (e, refl, d))
of_file grammar said rules (FileStatement.a_service s) c (o, d) = (kind.Service, kind_then file_kind (word (codes "service")) c d.2, (s, refl, d))

pub reads_file_statement : (grammar : Grammar) → (n : ℕ) (said : Bool) → Reads n never (StatementOnce grammar said) (file_statement_reader grammar n said)
unfolding file_statement_reader
reads_file_statement grammar n said =
    said_so {Q = StatementOnce grammar said}
    (reads_kinds n never file_kind (FileLine grammar said) (file_line grammar n said) (file_offers grammar n said) (file_filled grammar said)
    (λ rules. (FileStatement.nothing_said, sign (codes ";") ∷ [], (kind.Empty, refl, (tt, refl, refl)))))
    (to_file grammar said) (of_file grammar said)

-- ---- the syntax, read strictly

abbrev SyntaxWord : Rules → Unit {0} → Language
SyntaxWord rules u ts = (s : Symbol) × Keeps syntax_first rules (is_keyword (codes "syntax") s) × one s ts

abbrev SyntaxText : Rules → Unit {0} → Language
SyntaxText rules u ts = (b : List ℕ) × Keeps syntax_first rules (bytes_eq b (codes "proto3")) × one (text b) ts

reads_syntax_word : {n : ℕ} {e : Symbol → Bool} → Reads n e SyntaxWord (symbol (judged syntax_first syntax_word_in))
reads_syntax_word = reads_judged syntax_first syntax_word_in (word (codes "syntax")) tt refl to (λ rules u c d. (d.0, is_keyword (codes "syntax") d.0, refl, d.1, d.2))
  where
    to : (rules : Rules) (s : Symbol) (u : Unit {0}) (ok : Bool) → syntax_word_in s ≡ Some (u, ok) → Keeps syntax_first rules ok → SyntaxWord rules u (s ∷ [])
    to rules s u ok h k =
        let p : ◌≡◌ {A = Unit {0} × Bool} (tt, is_keyword (codes "syntax") s) (u, ok) = cc h in
        (s, subst (λ b. Keeps syntax_first rules b) (sym (ap (λ x. x.1) p)) k, refl)

reads_syntax_text : {n : ℕ} {e : Symbol → Bool} → Reads n e SyntaxText (symbol (judged syntax_first syntax_text_in))
reads_syntax_text = reads_judged syntax_first syntax_text_in (text (codes "proto3")) tt refl to (λ rules u c d. (text d.0, bytes_eq d.0 (codes "proto3"), refl, d.1, d.2))
  where
    to : (rules : Rules) (s : Symbol) (u : Unit {0}) (ok : Bool) → syntax_text_in s ≡ Some (u, ok) → Keeps syntax_first rules ok → SyntaxText rules u (s ∷ [])
    to rules (text b) u ok h k =
        let p : ◌≡◌ {A = Unit {0} × Bool} (tt, bytes_eq b (codes "proto3")) (u, ok) = cc h in
        (b, subst (λ b. Keeps syntax_first rules b) (sym (ap (λ x. x.1) p)) k, refl)
    to rules (word b) u ok h k = absurd (cc h)
    to rules (number b) u ok h k = absurd (cc h)
    to rules (sign b) u ok h k = absurd (cc h)

abbrev Said : Rules → Language
Said rules = SyntaxWord rules tt ▸ mark "=" ▸ SyntaxText rules tt ▸ mark ";"

abbrev Strictly : Rules → Language
Strictly rules ts =
    syntax_said (word (codes "syntax")) (codes "proto3") ts ⊎ ((rules syntax_first ≡ false) × (s : Symbol) × (b : List ℕ) × syntax_said s b ts)

to_strict : (rules : Rules) (c : List Symbol) → Said rules c → Strictly rules c
to_strict rules c (a, b, (s, inr r, ha), (p, q, hp, (x, y, (t, k, hx), hy, l), i), j) = inr (r, s, t, (a, b, ha, (p, q, hp, (x, y, hx, hy, l), i), j))
to_strict rules c (a, b, (s, inl h, ha), (p, q, hp, (x, y, (t, inr r, hx), hy, l), i), j) = inr (r, s, t, (a, b, ha, (p, q, hp, (x, y, hx, hy, l), i), j))
to_strict rules c (a, b, (s, inl h, ha), (p, q, hp, (x, y, (t, inl k, hx), hy, l), i), j) =
    let e : s ≡ word (codes "syntax") = is_the_word (codes "syntax") s h in
    let f : t ≡ codes "proto3" = (bytes_eq-Decides t (codes "proto3")).0 k in
    inl (a, b, ha ∙ ap (λ s. s ∷ []) e, (p, q, hp, (x, y, hx ∙ ap (λ t. text t ∷ []) f, hy, l), i), j)

of_strict : (rules : Rules) (c : List Symbol) → Strictly rules c → Said rules c
of_strict rules c (inl (a, b, ha, (p, q, hp, (x, y, hx, hy, l), i), j)) = (a, b, (word (codes "syntax"), inl refl, ha), (p, q, hp, (x, y, (codes "proto3", inl refl, hx), hy, l), i), j)
of_strict rules c (inr (r, s, t, (a, b, ha, (p, q, hp, (x, y, hx, hy, l), i), j))) = (a, b, (s, inr r, ha), (p, q, hp, (x, y, (t, inr r, hx), hy, l), i), j)

reads_strict : {n : ℕ} → Reads n never (λ rules (u : Unit {0}). Strictly rules) strict_syntax_reader
unfolding strict_syntax_reader
reads_strict =
    said_so {Q = λ rules (u : Unit {0}). Strictly rules}
    (reads_behind {L = λ rules. SyntaxWord rules tt} reads_syntax_word
    (reads_behind {L = λ rules. mark "="} (reads_mark (codes "="))
    (reads_behind {L = λ rules. SyntaxText rules tt} {S = λ rules u. mark ";"} reads_syntax_text (reads_mark (codes ";")))))
    (λ rules u c d. to_strict rules c d) (λ rules u c d. of_strict rules c d)

-- ---- the syntax, read leniently

-- the text names this syntax, or none, where the rule on it is left out
abbrev Named : Rules → Syntax → Language
Named rules s ts = (b : List ℕ) × (s ≡ (named_syntax b).0) × Keeps syntax_first rules (named_syntax b).1 × one (text b) ts

reads_named : {n : ℕ} {e : Symbol → Bool} → Reads n e Named (symbol (judged syntax_first named_syntax_in))
reads_named = reads_judged syntax_first named_syntax_in (text (codes "proto3")) Proto3 refl to (λ rules s c d. (text d.0, (named_syntax d.0).1, ap (λ s. Some (s, (named_syntax d.0).1)) (sym d.1), d.2, d.3))
  where
    to : (rules : Rules) (t : Symbol) (s : Syntax) (ok : Bool) → named_syntax_in t ≡ Some (s, ok) → Keeps syntax_first rules ok → Named rules s (t ∷ [])
    to rules (text b) s ok h k =
        let p : ◌≡◌ {A = Syntax × Bool} (named_syntax b) (s, ok) = cc h in
        (b, sym (ap (λ x. x.0) p), subst (λ b. Keeps syntax_first rules b) (sym (ap (λ x. x.1) p)) k, refl)
    to rules (word b) s ok h k = absurd (cc h)
    to rules (number b) s ok h k = absurd (cc h)
    to rules (sign b) s ok h k = absurd (cc h)

abbrev Leniently : Rules → Syntax → Language
Leniently rules s = keyword "syntax" ▸ mark "=" ▸ Named rules s ▸ mark ";"

reads_lenient : {n : ℕ} → Reads n never Leniently lenient_syntax_reader
unfolding lenient_syntax_reader
reads_lenient =
    reads_behind {L = λ rules. keyword "syntax"} (reads_keyword (codes "syntax"))
    (reads_behind {L = λ rules. mark "="} (reads_mark (codes "=")) (reads_before {L = λ rules. mark ";"} reads_named (reads_mark (codes ";"))))

-- what a text names, by whether it is `proto2` and whether it is `proto3`
data NamedAs (rules : Rules) (b : List ℕ) (s : Syntax) : Type 0 where
  as_proto2 : s ≡ Proto2 → b ≡ codes "proto2" → NamedAs rules b s
  as_proto3 : s ≡ Proto3 → b ≡ codes "proto3" → NamedAs rules b s
  as_none : s ≡ Proto3 → rules syntax_first ≡ false → bytes_eq b (codes "proto2") ≡ false → NamedAs rules b s

is_proto2_text : (b : List ℕ) → bytes_eq b (codes "proto2") ≡ true → named_syntax b ≡ (Proto2, true)
is_proto2_text b h = rw h refl

no_proto2_text : (b : List ℕ) → bytes_eq b (codes "proto2") ≡ false → named_syntax b ≡ (Proto3, bytes_eq b (codes "proto3"))
no_proto2_text b h = rw h refl

left_out : (rules : Rules) → Keeps syntax_first rules false → rules syntax_first ≡ false
left_out rules (inl n) = absurd (false≢true n)
left_out rules (inr r) = r

named_as : (rules : Rules) (b : List ℕ) (s : Syntax) → s ≡ (named_syntax b).0 → Keeps syntax_first rules (named_syntax b).1 → NamedAs rules b s
named_as rules b s e k = by_tests (bytes_eq b (codes "proto2")) (bytes_eq b (codes "proto3")) refl refl
  where
    by_tests : (x y : Bool) → bytes_eq b (codes "proto2") ≡ x → bytes_eq b (codes "proto3") ≡ y → NamedAs rules b s
    by_tests true y h i = NamedAs.as_proto2 (e ∙ ap (λ x. x.0) (is_proto2_text b h)) ((bytes_eq-Decides b (codes "proto2")).0 h)
    by_tests false true h i = NamedAs.as_proto3 (e ∙ ap (λ x. x.0) (no_proto2_text b h)) ((bytes_eq-Decides b (codes "proto3")).0 i)
    by_tests false false h i =
        NamedAs.as_none (e ∙ ap (λ x. x.0) (no_proto2_text b h)) (left_out rules (subst (λ x. Keeps syntax_first rules x) (ap (λ x. x.1) (no_proto2_text b h) ∙ i) k)) h

-- the syntax is said, or not
abbrev Opened : Rules → Grammar → Language
Opened rules g = Mapped Lenient Leniently rules g or Answered (Lenient Proto2) rules g

to_lenient : (rules : Rules) (g : Grammar) (c : List Symbol) → Opened rules g c → syntax_line reading.Lenient rules g c
to_lenient rules g c (inr (e, d)) = subst (λ g. syntax_line reading.Lenient rules g c) (sym e) (inr d)
to_lenient rules g c (inl (s, e, (a, b, ha, (p, q, hp, (x, y, (t, is, k, hx), hy, l), i), j))) =
    subst (λ g. syntax_line reading.Lenient rules g c) (sym e) (by_name (named_as rules t s is k))
  where
    said : syntax_said (word (codes "syntax")) t c
    said = (a, b, ha, (p, q, hp, (x, y, hx, hy, l), i), j)

    by_name : NamedAs rules t s → syntax_line reading.Lenient rules (Lenient s) c
    by_name (NamedAs.as_proto2 n f) = subst (λ s. syntax_line reading.Lenient rules (Lenient s) c) (sym n) (inl (subst (λ t. syntax_said (word (codes "syntax")) t c) f said))
    by_name (NamedAs.as_proto3 n f) = subst (λ s. syntax_line reading.Lenient rules (Lenient s) c) (sym n) (inl (subst (λ t. syntax_said (word (codes "syntax")) t c) f said))
    by_name (NamedAs.as_none n r f) = subst (λ s. syntax_line reading.Lenient rules (Lenient s) c) (sym n) (inr (r, t, f, said))

of_lenient : (rules : Rules) (g : Grammar) (c : List Symbol) → syntax_line reading.Lenient rules g c → Opened rules g c
of_lenient rules Strict c d = absurd d
of_lenient rules (Lenient Proto2) c (inr d) = inr (refl, d)
of_lenient rules (Lenient Proto2) c (inl (a, b, ha, (p, q, hp, (x, y, hx, hy, l), i), j)) =
    inl (Proto2, refl, (a, b, ha, (p, q, hp, (x, y, (codes "proto2", refl, inl refl, hx), hy, l), i), j))
of_lenient rules (Lenient Proto3) c (inl (a, b, ha, (p, q, hp, (x, y, hx, hy, l), i), j)) =
    inl (Proto3, refl, (a, b, ha, (p, q, hp, (x, y, (codes "proto3", refl, inl refl, hx), hy, l), i), j))
of_lenient rules (Lenient Proto3) c (inr (r, t, f, (a, b, ha, (p, q, hp, (x, y, hx, hy, l), i), j))) =
    let n = no_proto2_text t f in
    inl (Proto3, refl, (a, b, ha, (p, q, hp, (x, y, (t, sym (ap (λ x. x.0) n), inr r, hx), hy, l), i), j))

-- ---- the syntax, as it is read

to_syntax_strict : (rules : Rules) (g : Grammar) (c : List Symbol) → Silent Strict Strictly rules g c → syntax_line reading.Strict rules g c
to_syntax_strict rules g c (u, e, d) = subst (λ g. syntax_line reading.Strict rules g c) (sym e) d

of_syntax_strict : (rules : Rules) (g : Grammar) (c : List Symbol) → syntax_line reading.Strict rules g c → Silent Strict Strictly rules g c
of_syntax_strict rules Strict c d = (tt, refl, d)
of_syntax_strict rules (Lenient s) c d = absurd d

reads_syntax : (r : Reading) {n : ℕ} → Reads n begins_syntax (syntax_line r) (syntax_reader r)
unfolding syntax_reader
reads_syntax reading.Strict {n} =
    said_so {Q = syntax_line reading.Strict}
    (reads_stop n never begins_syntax (Silent Strict Strictly) (mapped (λ _. Strict) strict_syntax_reader) (λ rest s. any_stop rest)
    (reads_mapped {A = Unit {0}} {R = λ rules u. Strictly rules} (λ _. Strict) reads_strict))
    to_syntax_strict of_syntax_strict
reads_syntax reading.Lenient {n} =
    said_so {Q = syntax_line reading.Lenient}
    (reads_either begins_syntax
    (reads_stop n never begins_syntax (Mapped Lenient Leniently) (mapped Lenient lenient_syntax_reader) (λ rest s. any_stop rest) (reads_mapped Lenient reads_lenient))
    (reads_answer n begins_syntax (Lenient Proto2))
    (λ rules g c d. headed_then begins_syntax (headed_one begins_syntax (word (codes "syntax")) refl) c d.2)
    (λ rules g c rest d s. ap (λ c. first_passes begins_syntax (c ++ rest)) d.1 ∙ fails_rest begins_syntax rest s))
    to_lenient of_lenient

-- ---- the whole file

abbrev pub count : Bool → ℕ
count b = if b then 1 else 0

abbrev pub said_behind : Bool → FileStatement → Bool
said_behind said s = if said then true else is_package s

-- what a statement adds
pub counted : (said : Bool) (s : FileStatement) → Once said s → count (said_behind said s) ≡ count said + length (packages_said s)
counted true (FileStatement.a_package p) (inl h) = absurd (false≢true (sym h))
counted true (FileStatement.a_package p) (inr h) = absurd (false≢true (sym h))
counted true FileStatement.nothing_said o = refl
counted true (FileStatement.an_import p f) o = refl
counted true (FileStatement.a_message m) o = refl
counted true (FileStatement.an_extend ms) o = refl
counted true (FileStatement.an_enum e) o = refl
counted true (FileStatement.a_service s) o = refl
counted false FileStatement.nothing_said o = refl
counted false (FileStatement.an_import p f) o = refl
counted false (FileStatement.a_package p) o = refl
counted false (FileStatement.a_message m) o = refl
counted false (FileStatement.an_extend ms) o = refl
counted false (FileStatement.an_enum e) o = refl
counted false (FileStatement.a_service s) o = refl

once : (said : Bool) (s : FileStatement) → count said + length (packages_said s) ≤ 1 → Once said s
once false s l = inl refl
once true (FileStatement.a_package p) l = absurd (omega arith)
once true FileStatement.nothing_said l = inr refl
once true (FileStatement.an_import p f) l = inr refl
once true (FileStatement.a_message m) l = inr refl
once true (FileStatement.an_extend ms) l = inr refl
once true (FileStatement.an_enum e) l = inr refl
once true (FileStatement.a_service s) l = inr refl

pub at_most_one : (said : Bool) → count said ≤ 1
at_most_one true = omega arith
at_most_one false = omega arith

module _ (grammar : Grammar) (n : ℕ) where
  statement_full : (said : Bool) (rules : Rules) (s : FileStatement) (c : List Symbol) → StatementOnce grammar said rules s c → 1 ≤ length c
  statement_full said rules s c d = kinds_filled file_kind (FileLine grammar said) rules s c (of_file grammar said rules s c d)

  abbrev All : Bool → Rules → List FileStatement → Language
  All = Each n is_package (StatementOnce grammar) (file_statement_reader grammar n) (reads_file_statement grammar n) statement_full

  few : (rules : Rules) (said : Bool) (ss : List FileStatement) (c : List Symbol) → All said rules ss c → count said + length (all_said packages_said ss) ≤ 1
  few rules said [] c d = let l = at_most_one said in omega arith
  few rules said (s ∷ ss) c (a, b, ha, hb, j) =
      let l = few rules (said_behind said s) ss b hb in
      let e = counted said s ha.0 in
      let k = length-append (packages_said s) (all_said packages_said ss) in
      omega arith

  to_until : (rules : Rules) (said : Bool) (ss : List FileStatement) (c : List Symbol) → All said rules ss c → Until (file_statement grammar rules) nothing ss c
  to_until rules said [] c d = d
  to_until rules said (s ∷ ss) c (a, b, ha, hb, j) = (a, b, ha.1, to_until rules (said_behind said s) ss b hb, j)

  of_until : (rules : Rules) (said : Bool) (ss : List FileStatement) (c : List Symbol) → count said + length (all_said packages_said ss) ≤ 1 → Until (file_statement grammar rules) nothing ss c → All said rules ss c
  of_until rules said [] c l d = d
  of_until rules said (s ∷ ss) c l (a, b, ha, hb, j) =
      let k = length-append (packages_said s) (all_said packages_said ss) in
      let o : Once said s = once said s (omega arith) in
      let e = counted said s o in
      (a, b, (o, ha), of_until rules (said_behind said s) ss b (omega arith) hb, j)

  -- the statements after the syntax, with the grammar
  abbrev Statements : Rules → Grammar × List FileStatement → Language
  Statements = Mapped (λ ss. (grammar, ss)) (All false)

  reads_statements : Reads n always Statements (statements_reader n grammar)
  reads_statements =
      reads_mapped (λ ss. (grammar, ss)) (reads_to_end n is_package (StatementOnce grammar) (file_statement_reader grammar n) (reads_file_statement grammar n) statement_full n (omega arith) false)

  -- no statement begins as a syntax does
  no_syntax : (rules : Rules) (x : Grammar × List FileStatement) (c rest : List Symbol) → Statements rules x c → IsStop always rest → IsStop begins_syntax (c ++ rest)
  no_syntax rules x c rest ([], e, d) s = ends c rest d s
    where
      ends : (c rest : List Symbol) → c ≡ [] → IsStop always rest → IsStop begins_syntax (c ++ rest)
      ends c [] d s = subst (λ c. IsStop begins_syntax (c ++ [])) (sym d) tt
      ends c (t ∷ rest) d s = absurd (false≢true (sym s))
  no_syntax rules x c rest (v ∷ vs, e, (a, b, ha, hb, j)) s =
      stops_rest begins_syntax (c ++ rest)
      (ap (λ c. first_passes begins_syntax (c ++ rest)) j ∙ ap (first_passes begins_syntax) (append_assoc a b rest)
      ∙ kinds_fail file_kind (FileLine grammar false) begins_syntax (λ s h. ap file_kind (is_the_word (codes "syntax") s h)) rules v a (b ++ rest) (of_file grammar false rules v a ha))

-- the reader of files reads files, exactly
pub reads_file : (r : Reading) (n : ℕ) → Reads n always (file r) (file_reader r n)
unfolding file_reader
reads_file r n =
    said_so {Q = file r}
    (reads_chain n n begins_syntax always (syntax_line r) (λ g. Statements g n) (syntax_reader r) (statements_reader n) (reads_syntax r) (λ g. reads_statements g n)
    (λ rules g x c rest d s. no_syntax g n rules x c rest d s) (λ rules g c d. omega arith))
    to from
  where
    to : (rules : Rules) (x : Grammar × List FileStatement) (c : List Symbol) → Chained (syntax_line r) (λ g. Statements g n) rules x c → file r rules x c
    to rules x c (g, (a, b, ha, (ss, e, d), j)) =
        subst (λ x. file r rules x c) (sym e) (let l = few g n rules false ss b d in omega arith, (a, b, ha, to_until g n rules false ss b d, j))

    from : (rules : Rules) (x : Grammar × List FileStatement) (c : List Symbol) → file r rules x c → Chained (syntax_line r) (λ g. Statements g n) rules x c
    from rules x c (l, (a, b, ha, d, j)) = (x.0, (a, b, ha, (x.1, refl, of_until x.0 n rules false x.1 b (omega arith) d), j))
