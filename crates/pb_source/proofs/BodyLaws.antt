-- The readers of enums and services read them.
use Rattle.std.proofs.Common.{◌≡◌, ℕ, List, [], ◌∷◌, ◌++◌, Bool, true, false, ◌||◌, codes, refl, ap, sym, ◌∙◌, subst, Option, Some, None, Err, inl, inr}
use Rattle.std.specs.Prelude.{if◌then◌else◌, zero, suc}
use Rattle.std.specs.Str.{bytes_eq}
use Rattle.std.proofs.lemmas.Bool.{false≢true, or_parts}
use Rattle.std.proofs.lemmas.Slice.Eq.{bytes_eq-Decides}
use Rattle.pb_declarations.specs.Decls.{DeclaredField, DeclaredMethod, DeclaredService}
use Rattle.pb_source_tokens.specs.declared.grammar.Grammar.{Grammar}
use Rattle.pb_source_tokens.specs.Symbols.{Symbol, word, number, text, sign}
use Rattle.pb_source_tokens.specs.Language.{Language, ◌▸◌, one, Rules}
use Rattle.pb_source_tokens.specs.Phrases.{keyword, mark, name, BeginsNot, option, setting, signed, value_end, enum_range, typename}
use Rattle.pb_source_tokens.specs.Readers.Forms.{Outcome, Reader, mapped, preceded, on_kind, first_passes, by_kind, is_mark, choice, keyword_reader, mark_reader}
use Rattle.pb_source_tokens.specs.Readers.Phrases.{option_reader, is_dot, enum_range_reader, name_reader, fullname_reader, typename_reader}
use Rattle.pb_source_tokens.proofs.ReaderLaws.{Reads}
use Rattle.pb_source_tokens.proofs.Compose.{never, Mapped, Both, Behind, Before, reads_mapped, reads_both, reads_behind, reads_before, reads_before_so, reads_some, reads_either, reads_equal, said_so}
use Rattle.pb_source_tokens.proofs.Heads.{Headed, headed_one, headed_then, headed_separated, front_of, is_a_word}
use Rattle.pb_source_tokens.proofs.SymbolTests.{is_the_sign, reads_mark, reads_keyword}
use Rattle.pb_source_tokens.proofs.KindLemmas.{first_kind, ByKind, Offers, kinds_fail, kinds_filled, reads_kinds}
use Rattle.pb_source_tokens.proofs.NameLaws.{reads_name, name_first, reads_typename}
use Rattle.pb_source_tokens.proofs.OptionLaws.{reads_option, reads_setting, reads_signed, reads_value_end, end_stops, end_constant}
use Rattle.pb_source_tokens.proofs.RangeLaws.{reads_enum_range, enum_range_first}
use Rattle.pb_source.specs.declared.kind.EnumKind.{EnumKind}
use Rattle.pb_source.specs.declared.kind.EnumKind.TheVariants as in_enum
use Rattle.pb_source.specs.declared.kind.ServiceKind.{ServiceKind}
use Rattle.pb_source.specs.declared.kind.ServiceKind.TheVariants as in_service
use Rattle.pb_source.specs.declared.kind.MethodKind.{MethodKind}
use Rattle.pb_source.specs.declared.kind.MethodKind.TheVariants as in_method
use Rattle.pb_source.specs.Meaning.{EnumStatement, those_said, enum_of}
use Rattle.pb_source.specs.Grammar.{enum_statement, enum_line, streamed, parameter, method_statement, method_end, method, service_statement, service}
use Rattle.pb_source.specs.Readers.Lines.{is_closing, said_of_alias, enum_kind, value_reader, enum_statement_line, enum_statement_reader, enum_reader, streams, streamed_reader, method_kind, method_line, method_statement_reader, method_end_reader, method_from, parameter_reader, method_reader, service_kind, service_line, service_statement_reader, service_from, service_reader}
use Rattle.pb_source.proofs.StatementKinds.{kind_other, not_in_table, kind_one, kind_then, reads_braced}
use Rattle.pb_source.proofs.FieldLaws.{begins_type}
use Rattle.pb_source.proofs.ReservedLaws.{Reserved, reads_reserved, reserved_first}

-- ---- statements that say nothing

-- a line that says nothing, and its value
abbrev pub Silent : {A : Type 0} → A → (Rules → Language) → Rules → A → Language
Silent v L = Mapped {A = Unit {0}} (λ _. v) (λ rules u. L rules)

pub reads_silent_end : {A : Type 0} {n : ℕ} (v : A) → Reads n never (Silent v (λ rules. mark ";")) (mapped (λ _. v) (mark_reader (codes ";")))
reads_silent_end v = reads_mapped {A = Unit {0}} {R = λ rules u. mark ";"} (λ _. v) (reads_mark (codes ";"))

pub reads_silent_option : (grammar : Grammar) → {A : Type 0} {n : ℕ} (v : A) → Reads n never (Silent v (option grammar)) (mapped (λ _. v) (option_reader grammar n))
reads_silent_option grammar {A} {n} v = reads_mapped {A = Unit {0}} {R = λ rules u. option grammar rules} (λ _. v) (reads_option grammar n)

pub not_empty_then : {S : Language} (s : Symbol) → (one s ▸ S) [] → ⊥
not_empty_then s (a, b, ha, hb, j) = let e : [] ≡ s ∷ b = j ∙ ap (λ a. a ++ b) ha in cc e

pub closing_of_none : {K : Type 0} (kind : Symbol → Option K) → kind (sign (codes "}")) ≡ None → (s : Symbol) → is_closing s ≡ true → kind s ≡ None
closing_of_none kind h s e = ap kind (is_the_sign (codes "}") s e) ∙ h

-- ---- enums

abbrev Value : (grammar : Grammar) → Rules → EnumStatement → Language
Value grammar = Mapped (λ x. EnumStatement.a_value x.0 x.1) (Both (λ rules. name) (Behind (λ rules. mark "=") (Before signed (value_end grammar))))

reads_value : (grammar : Grammar) → (n : ℕ) → Reads n never (Value grammar) (value_reader grammar n)
unfolding value_reader
reads_value grammar n =
    reads_mapped (λ x. EnumStatement.a_value x.0 x.1)
    (reads_both reads_name (reads_behind {L = λ rules. mark "="} (reads_mark (codes "=")) (reads_before {L = value_end grammar} reads_signed (reads_value_end grammar n))))

abbrev AliasOption : (grammar : Grammar) → Rules → EnumStatement → Language
AliasOption grammar = Mapped said_of_alias (Behind (λ rules. keyword "option") (Before (setting grammar (codes "allow_alias")) (λ rules. mark ";")))

abbrev EnumLine : (grammar : Grammar) → EnumKind → Rules → EnumStatement → Language
EnumLine grammar in_enum.Empty = Silent EnumStatement.nothing_said (λ rules. mark ";")
EnumLine grammar in_enum.Option = AliasOption grammar
EnumLine grammar in_enum.Reserved = Reserved enum_range enum_range_reader EnumStatement.reserved_ranges EnumStatement.reserved_names enum_range_first
EnumLine grammar in_enum.Value = Value grammar

enum_offers : (grammar : Grammar) → (n : ℕ) (k : EnumKind) → Offers n never (EnumLine grammar k) (enum_statement_line grammar n k)
enum_offers grammar n in_enum.Empty = reads_silent_end EnumStatement.nothing_said
enum_offers grammar n in_enum.Option =
    reads_mapped said_of_alias (reads_behind {L = λ rules. keyword "option"} (reads_keyword (codes "option"))
    (reads_before_so {L = λ rules. mark ";"} (reads_setting grammar (codes "allow_alias") n) (reads_mark (codes ";")) (λ rules u c rest d s. end_constant (codes ";") c rest refl d)))
enum_offers grammar n in_enum.Reserved = reads_reserved enum_range enum_range_reader EnumStatement.reserved_ranges EnumStatement.reserved_names enum_range_first n (reads_enum_range n)
enum_offers grammar n in_enum.Value = reads_value grammar n

value_first : (grammar : Grammar) → (rules : Rules) (s : EnumStatement) (c : List Symbol) → Value grammar rules s c → first_passes is_a_word c ≡ true
value_first grammar rules s c d = headed_then is_a_word (name_first d.0.0) c d.2

enum_filled : (grammar : Grammar) → (k : EnumKind) (rules : Rules) (s : EnumStatement) → EnumLine grammar k rules s [] → ⊥
enum_filled grammar in_enum.Empty rules s d = cc d.2
enum_filled grammar in_enum.Option rules s d = not_empty_then (word (codes "option")) d.2
enum_filled grammar in_enum.Reserved rules s d =
    false≢true (reserved_first enum_range enum_range_reader EnumStatement.reserved_ranges EnumStatement.reserved_names enum_range_first rules s [] d)
enum_filled grammar in_enum.Value rules s d = false≢true (value_first grammar rules s [] d)

begins_value : (c : List Symbol) → BeginsNot ("option" ∷ "reserved" ∷ []) c → first_passes is_a_word c ≡ true → first_kind enum_kind c ≡ Some in_enum.Value
begins_value [] b h = absurd (false≢true h)
begins_value (word w ∷ c) b h = kind_other ((codes "option", Some in_enum.Option) ∷ (codes "reserved", Some in_enum.Reserved) ∷ []) (Some in_enum.Value) w b
begins_value (sign w ∷ c) b h = absurd (false≢true h)
begins_value (number w ∷ c) b h = absurd (false≢true h)
begins_value (text w ∷ c) b h = absurd (false≢true h)

value_begins : (c : List Symbol) → first_kind enum_kind c ≡ Some in_enum.Value → BeginsNot ("option" ∷ "reserved" ∷ []) c
value_begins [] h = tt
value_begins (word w ∷ c) h =
    not_in_table ((codes "option", Some in_enum.Option) ∷ (codes "reserved", Some in_enum.Reserved) ∷ []) in_enum.Value w ((λ e. cc e), ((λ e. cc e), tt)) h
value_begins (number w ∷ c) h = tt
value_begins (text w ∷ c) h = tt
value_begins (sign w ∷ c) h = tt

said_alias : (grammar : Grammar) → (rules : Rules) (o : Option Bool) (c : List Symbol) → (keyword "option" ▸ setting grammar (codes "allow_alias") rules o ▸ mark ";") c → enum_statement grammar rules (said_of_alias o) c
said_alias grammar rules None c d = inl d
said_alias grammar rules (Some b) c d = d

to_enum : (grammar : Grammar) → (rules : Rules) (s : EnumStatement) (c : List Symbol) → ByKind enum_kind (EnumLine grammar) rules s c → enum_statement grammar rules s c
to_enum grammar rules s c (in_enum.Empty, h, (u, e, d)) = subst (λ s. enum_statement grammar rules s c) (sym e) (inr d)
to_enum grammar rules s c (in_enum.Option, h, (o, e, d)) = subst (λ s. enum_statement grammar rules s c) (sym e) (said_alias grammar rules o c d)
to_enum grammar rules s c (in_enum.Reserved, h, inl (ns, e, d)) = subst (λ s. enum_statement grammar rules s c) (sym e) d
to_enum grammar rules s c (in_enum.Reserved, h, inr (rs, e, d)) = subst (λ s. enum_statement grammar rules s c) (sym e) d
to_enum grammar rules s c (in_enum.Value, h, (x, e, d)) = subst (λ s. enum_statement grammar rules s c) (sym e) (value_begins c h, d)

of_enum : (grammar : Grammar) → (rules : Rules) (s : EnumStatement) (c : List Symbol) → enum_statement grammar rules s c → ByKind enum_kind (EnumLine grammar) rules s c
of_enum grammar rules EnumStatement.nothing_said c (inl d) = (in_enum.Option, kind_then enum_kind (word (codes "option")) c d, (None, refl, d))
of_enum grammar rules EnumStatement.nothing_said c (inr d) = (in_enum.Empty, kind_one enum_kind (sign (codes ";")) c d, (tt, refl, d))
of_enum grammar rules (EnumStatement.allows_alias b) c d = (in_enum.Option, kind_then enum_kind (word (codes "option")) c d, (Some b, refl, d))
of_enum grammar rules (EnumStatement.a_value w z) c (b, d) = (in_enum.Value, begins_value c b (headed_then is_a_word (name_first w) c d), ((w, z), refl, d))
of_enum grammar rules (EnumStatement.reserved_ranges rs) c d = (in_enum.Reserved, kind_then enum_kind (word (codes "reserved")) c d, inr (rs, refl, d))
of_enum grammar rules (EnumStatement.reserved_names ns) c d = (in_enum.Reserved, kind_then enum_kind (word (codes "reserved")) c d, inl (ns, refl, d))

reads_enum_statement : (grammar : Grammar) → (n : ℕ) → Reads n never (enum_statement grammar) (enum_statement_reader grammar n)
unfolding enum_statement_reader
reads_enum_statement grammar n =
    said_so {Q = enum_statement grammar}
    (reads_kinds n never enum_kind (EnumLine grammar) (enum_statement_line grammar n) (enum_offers grammar n) (enum_filled grammar)
    (λ rules. (EnumStatement.nothing_said, sign (codes ";") ∷ [], (in_enum.Empty, refl, (tt, refl, refl)))))
    (to_enum grammar) (of_enum grammar)

pub reads_enum : (grammar : Grammar) → (n : ℕ) → Reads n never (enum_line grammar) (enum_reader grammar n)
unfolding enum_reader
reads_enum grammar n =
    said_so {Q = enum_line grammar}
    (reads_mapped (λ x. enum_of x.0 x.1)
    (reads_behind {L = λ rules. keyword "enum"} (reads_keyword (codes "enum"))
    (reads_both reads_name
    (reads_braced (reads_enum_statement grammar n)
    (λ rules s c rest d. kinds_fail enum_kind (EnumLine grammar) is_closing (closing_of_none enum_kind refl) rules s c rest (of_enum grammar rules s c d))
    (λ rules s c d. kinds_filled enum_kind (EnumLine grammar) rules s c (of_enum grammar rules s c d))))))
    (λ rules e c d. (d.0.0, d.0.1, d.1, d.2)) (λ rules e c d. ((d.0, d.1), d.2, d.3))

-- ---- services

abbrev MethodLine : (grammar : Grammar) → MethodKind → Rules → Unit {0} → Language
MethodLine grammar in_method.Empty rules u = mark ";"
MethodLine grammar in_method.Option rules u = option grammar rules

method_offers : (grammar : Grammar) → (n : ℕ) (k : MethodKind) → Offers n never (MethodLine grammar k) (method_line grammar n k)
method_offers grammar n in_method.Empty = reads_mark (codes ";")
method_offers grammar n in_method.Option = reads_option grammar n

method_filled : (grammar : Grammar) → (k : MethodKind) (rules : Rules) (u : Unit {0}) → MethodLine grammar k rules u [] → ⊥
method_filled grammar in_method.Empty rules u d = cc d
method_filled grammar in_method.Option rules u d = not_empty_then (word (codes "option")) d

to_method : (grammar : Grammar) → (rules : Rules) (u : Unit {0}) (c : List Symbol) → ByKind method_kind (MethodLine grammar) rules u c → method_statement grammar rules u c
to_method grammar rules u c (in_method.Empty, h, d) = inr d
to_method grammar rules u c (in_method.Option, h, d) = inl d

of_method : (grammar : Grammar) → (rules : Rules) (u : Unit {0}) (c : List Symbol) → method_statement grammar rules u c → ByKind method_kind (MethodLine grammar) rules u c
of_method grammar rules u c (inl d) = (in_method.Option, kind_then method_kind (word (codes "option")) c d, d)
of_method grammar rules u c (inr d) = (in_method.Empty, kind_one method_kind (sign (codes ";")) c d, d)

reads_method_statement : (grammar : Grammar) → (n : ℕ) → Reads n never (method_statement grammar) (method_statement_reader grammar n)
unfolding method_statement_reader
reads_method_statement grammar n =
    said_so {Q = method_statement grammar}
    (reads_kinds n never method_kind (MethodLine grammar) (method_line grammar n) (method_offers grammar n) (method_filled grammar) (λ rules. (tt, sign (codes ";") ∷ [], (in_method.Empty, refl, refl)))) (to_method grammar) (of_method grammar)

reads_method_end : (grammar : Grammar) → (n : ℕ) → Reads n never (λ rules (u : Unit {0}). method_end grammar rules) (method_end_reader grammar n)
unfolding method_end_reader
reads_method_end grammar n =
    said_so {Q = λ rules (u : Unit {0}). method_end grammar rules}
    (reads_either {S = λ rules u. mark ";"} (is_mark (codes "{"))
    (reads_some (reads_braced (reads_method_statement grammar n)
    (λ rules s c rest d. kinds_fail method_kind (MethodLine grammar) is_closing (closing_of_none method_kind refl) rules s c rest (of_method grammar rules s c d))
    (λ rules s c d. kinds_filled method_kind (MethodLine grammar) rules s c (of_method grammar rules s c d))))
    (reads_mark (codes ";"))
    (λ rules u c d. headed_then (is_mark (codes "{")) (headed_one (is_mark (codes "{")) (sign (codes "{")) refl) c d.1)
    (λ rules u c rest d s. front_of (is_mark (codes "{")) (sign (codes ";")) c rest d))
    (λ rules u c d. elim d [ inl x ↦ inr x | inr x ↦ inl x ])
    (λ rules u c d. elim d [ inl x ↦ inr x | inr x ↦ inl x ])

-- ---- streams: whether the word `stream` stands first is the kind

abbrev Streamed : Bool → Rules → Bool × List ℕ → Language
Streamed true = Mapped (λ t. (true, t)) (Behind (λ rules. keyword "stream") (λ rules. typename))
Streamed false = Mapped (λ t. (false, t)) (λ rules. typename)

abbrev stream_kind : Symbol → Option Bool
stream_kind s = Some (streams s)

abbrev stream_line : ℕ → Bool → Option (Reader (Bool × List ℕ))
stream_line n true = Some (mapped (λ t. (true, t)) (preceded (keyword_reader (codes "stream")) (typename_reader n)))
stream_line n false = Some (mapped (λ t. (false, t)) (typename_reader n))

stream_offers : (n : ℕ) (b : Bool) → Offers n is_dot (Streamed b) (stream_line n b)
stream_offers n true = reads_mapped (λ t. (true, t)) (reads_behind {L = λ rules. keyword "stream"} (reads_keyword (codes "stream")) (reads_typename n))
stream_offers n false = reads_mapped (λ t. (false, t)) (reads_typename n)

typename_first : (t : List ℕ) → Headed begins_type (typename t)
typename_first t c (inl (ws, e, d)) = headed_separated name (mark ".") begins_type (λ w. headed_one begins_type (word w) refl) ws c d
typename_first t c (inr (ws, e, d)) = headed_then begins_type (headed_one begins_type (sign (codes ".")) refl) c d

stream_filled : (b : Bool) (rules : Rules) (x : Bool × List ℕ) → Streamed b rules x [] → ⊥
stream_filled true rules x d = not_empty_then (word (codes "stream")) d.2
stream_filled false rules x d = false≢true (typename_first d.0 [] d.2)

-- the word t
some_stream : (rules : Rules) → (x : Bool × List ℕ) × (c : List Symbol) × ByKind stream_kind Streamed rules x c
some_stream rules = ((false, codes "t"), word (codes "t") ∷ [], (false, refl, (codes "t", refl, inl (codes "t" ∷ [], refl, refl))))

none_left : (n : ℕ) (rules : Rules) → mapped {A = List ℕ} {B = Bool × List ℕ} (λ t. (false, t)) (typename_reader n) rules [] ≡ Err ([], None)
unfolding typename_reader fullname_reader name_reader
none_left zero rules = refl
none_left (suc n) rules = refl

as_kinds : (n : ℕ) (rules : Rules) (ts : List Symbol)
    → choice streams (mapped (λ t. (true, t)) (preceded (keyword_reader (codes "stream")) (typename_reader n))) (mapped (λ t. (false, t)) (typename_reader n)) rules ts
    ≡ by_kind stream_kind (stream_line n) rules ts
as_kinds n rules [] = none_left n rules
as_kinds n rules (s ∷ ts) = by_test (streams s)
  where
    by_test : (b : Bool)
        → ◌≡◌ {A = Outcome (Bool × List ℕ)}
        (if b then mapped (λ t. (true, t)) (preceded (keyword_reader (codes "stream")) (typename_reader n)) rules (s ∷ ts)
        else mapped (λ t. (false, t)) (typename_reader n) rules (s ∷ ts))
        (on_kind (stream_line n) (Some b) rules (s ∷ ts))
    by_test true = refl
    by_test false = refl

not_stream : (c : List Symbol) → first_kind stream_kind c ≡ Some false → BeginsNot ("stream" ∷ []) c
not_stream [] h = tt
not_stream (word w ∷ c) h = let e : bytes_eq w (codes "stream") ≡ false = cc h in ap (λ b. b || false) e
not_stream (number w ∷ c) h = tt
not_stream (text w ∷ c) h = tt
not_stream (sign w ∷ c) h = tt

of_not_stream : (c : List Symbol) → BeginsNot ("stream" ∷ []) c → first_passes begins_type c ≡ true → first_kind stream_kind c ≡ Some false
of_not_stream [] b h = absurd (false≢true h)
of_not_stream (word w ∷ c) b h = ap Some (or_parts (bytes_eq w (codes "stream")) false b).0
of_not_stream (number w ∷ c) b h = refl
of_not_stream (text w ∷ c) b h = refl
of_not_stream (sign w ∷ c) b h = refl

to_streamed : (rules : Rules) (x : Bool × List ℕ) (c : List Symbol) → ByKind stream_kind Streamed rules x c → streamed x.0 x.1 c
to_streamed rules x c (true, h, (t, e, d)) = subst (λ x. streamed x.0 x.1 c) (sym e) d
to_streamed rules x c (false, h, (t, e, d)) = subst (λ x. streamed x.0 x.1 c) (sym e) (not_stream c h, d)

of_streamed : (rules : Rules) (b : Bool) (t : List ℕ) (c : List Symbol) → streamed b t c → ByKind stream_kind Streamed rules (b, t) c
of_streamed rules true t c d = (true, kind_then stream_kind (word (codes "stream")) c d, (t, refl, d))
of_streamed rules false t c (b, d) = (false, of_not_stream c b (typename_first t c d), (t, refl, d))

reads_streamed : (n : ℕ) → Reads n is_dot (λ rules x. streamed x.0 x.1) (streamed_reader n)
unfolding streamed_reader
reads_streamed n =
    said_so {Q = λ rules x. streamed x.0 x.1}
    (reads_equal (reads_kinds n is_dot stream_kind Streamed (stream_line n) (stream_offers n) stream_filled some_stream) (as_kinds n))
    to_streamed (λ rules x c d. of_streamed rules x.0 x.1 c d)

reads_parameter : (n : ℕ) → Reads n never (λ rules x. parameter x.0 x.1) (parameter_reader n)
unfolding parameter_reader
reads_parameter n =
    reads_behind {L = λ rules. mark "("} (reads_mark (codes "("))
    (reads_before_so {L = λ rules. mark ")"} (reads_streamed n) (reads_mark (codes ")")) (λ rules u c rest d s. end_stops (codes ")") c rest refl d))

reads_method : (grammar : Grammar) → (n : ℕ) → Reads n never (method grammar) (method_reader grammar n)
unfolding method_reader
reads_method grammar n =
    said_so {Q = method grammar}
    (reads_mapped method_from
    (reads_behind {L = λ rules. keyword "rpc"} (reads_keyword (codes "rpc"))
    (reads_both reads_name (reads_both (reads_parameter n)
    (reads_behind {L = λ rules. keyword "returns"} (reads_keyword (codes "returns")) (reads_before {L = method_end grammar} (reads_parameter n) (reads_method_end grammar n)))))))
    (λ rules m c d. subst (λ m. method grammar rules m c) (sym d.1) d.2)
    (λ rules m c d. ((m.name, ((m.client_streams, m.input), (m.server_streams, m.output))), refl, d))

abbrev ServiceLine : (grammar : Grammar) → ServiceKind → Rules → Option DeclaredMethod → Language
ServiceLine grammar in_service.Empty = Silent None (λ rules. mark ";")
ServiceLine grammar in_service.Option = Silent None (option grammar)
ServiceLine grammar in_service.Method = Mapped Some (method grammar)

service_offers : (grammar : Grammar) → (n : ℕ) (k : ServiceKind) → Offers n never (ServiceLine grammar k) (service_line grammar n k)
service_offers grammar n in_service.Empty = reads_silent_end None
service_offers grammar n in_service.Option = reads_silent_option grammar None
service_offers grammar n in_service.Method = reads_mapped Some (reads_method grammar n)

service_filled : (grammar : Grammar) → (k : ServiceKind) (rules : Rules) (o : Option DeclaredMethod) → ServiceLine grammar k rules o [] → ⊥
service_filled grammar in_service.Empty rules o d = cc d.2
service_filled grammar in_service.Option rules o d = not_empty_then (word (codes "option")) d.2
service_filled grammar in_service.Method rules o d = not_empty_then (word (codes "rpc")) d.2

to_service : (grammar : Grammar) → (rules : Rules) (o : Option DeclaredMethod) (c : List Symbol) → ByKind service_kind (ServiceLine grammar) rules o c → service_statement grammar rules o c
to_service grammar rules o c (in_service.Empty, h, (u, e, d)) = subst (λ o. service_statement grammar rules o c) (sym e) (inr d)
to_service grammar rules o c (in_service.Option, h, (u, e, d)) = subst (λ o. service_statement grammar rules o c) (sym e) (inl d)
to_service grammar rules o c (in_service.Method, h, (m, e, d)) = subst (λ o. service_statement grammar rules o c) (sym e) d

of_service : (grammar : Grammar) → (rules : Rules) (o : Option DeclaredMethod) (c : List Symbol) → service_statement grammar rules o c → ByKind service_kind (ServiceLine grammar) rules o c
of_service grammar rules None c (inl d) = (in_service.Option, kind_then service_kind (word (codes "option")) c d, (tt, refl, d))
of_service grammar rules None c (inr d) = (in_service.Empty, kind_one service_kind (sign (codes ";")) c d, (tt, refl, d))
of_service grammar rules (Some m) c d = (in_service.Method, kind_then service_kind (word (codes "rpc")) c d, (m, refl, d))

reads_service_statement : (grammar : Grammar) → (n : ℕ) → Reads n never (service_statement grammar) (service_statement_reader grammar n)
unfolding service_statement_reader
reads_service_statement grammar n =
    said_so {Q = service_statement grammar}
    (reads_kinds n never service_kind (ServiceLine grammar) (service_line grammar n) (service_offers grammar n) (service_filled grammar) (λ rules. (None, sign (codes ";") ∷ [], (in_service.Empty, refl, (tt, refl, refl)))))
    (to_service grammar) (of_service grammar)

pub reads_service : (grammar : Grammar) → (n : ℕ) → Reads n never (service grammar) (service_reader grammar n)
unfolding service_reader
reads_service grammar n =
    said_so {Q = service grammar}
    (reads_mapped service_from
    (reads_behind {L = λ rules. keyword "service"} (reads_keyword (codes "service"))
    (reads_both reads_name
    (reads_braced (reads_service_statement grammar n)
    (λ rules s c rest d. kinds_fail service_kind (ServiceLine grammar) is_closing (closing_of_none service_kind refl) rules s c rest (of_service grammar rules s c d))
    (λ rules s c d. kinds_filled service_kind (ServiceLine grammar) rules s c (of_service grammar rules s c d))))))
    (λ rules s c d. subst (λ s. service grammar rules s c) (sym d.1) (d.0.1, refl, d.2))
    (λ rules s c d. ((s.name, d.0), named s (those_said d.0) d.1, d.2))
  where
    named : (s : DeclaredService) (ms : List DeclaredMethod) → s.methods ≡ ms → ◌≡◌ {A = DeclaredService} s (record { name = s.name; methods = ms })
    named s ms h = ap (λ ms. record { name = s.name; methods = ms }) h
