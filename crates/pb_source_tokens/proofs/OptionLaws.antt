-- The readers of integers, constants and options read them.
use Prim.Native.String.{String}
use Rattle.std.proofs.Common.{◌≡◌, ℕ, ◌≤◌, pos, neg_ℤ, List, [], ◌∷◌, ◌++◌, length, Bool, true, false, ◌||◌, nat_le, le-leb, leb-true, option_map, codes, refl, ap, sym, ◌∙◌, subst, Option, Some, None, arith, ◌⊎◌, inl, inr}
use Rattle.std.specs.Prelude.{if◌then◌else◌}
use Rattle.std.specs.Str.{bytes_eq}
use Rattle.std.proofs.lemmas.Bool.{false≢true, or_parts}
use Rattle.std.proofs.Math.Bool.{or-false}
use Rattle.std.proofs.lemmas.Slice.Eq.{bytes_eq-Decides}
use Rattle.pb_source_tokens.specs.declared.rule.Rule.TheVariants.{NumbersFit as numbers_fit, OptionsKnown as options_known}
use Rattle.pb_source_tokens.specs.declared.grammar.Grammar.{Grammar}
use Rattle.pb_source_tokens.specs.declared.grammar.Syntax.{Syntax}
use Rattle.pb_source_tokens.specs.declared.grammar.Grammar.TheVariants.{Strict, Lenient}
use Rattle.pb_source_tokens.specs.declared.grammar.Syntax.TheVariants.{Proto2, Proto3}
use Rattle.pb_source_tokens.specs.Symbols.{Symbol, word, number, text, sign}
use Rattle.pb_source_tokens.specs.Language.{Language, ◌▸◌, ◌or◌, one, Rules}
use Rattle.pb_source_tokens.specs.Said.{last_said}
use Rattle.pb_source_tokens.specs.Phrases.{keyword, mark, integer, limited, aggregate, counted, signed, plus_or_minus, plain_constant, constant, fullname, typename, part, optname, assignment, option, truth, is_the_name, setting, is_one_of, barred, field_option, Listed, options, ended, field_end, group_end, value_end}
use Rattle.pb_source_tokens.specs.Readers.Forms.{Reader, preceded, mapped, first_passes, is_keyword, is_mark, tested, if_so, symbol, judged, plain, mark_reader}
use Rattle.pb_source_tokens.specs.Readers.Phrases.{is_dot, is_comma, listed, integer_in, limited_in, limited_reader, counted_reader, signed_reader, is_text, is_word, is_number, numeral_reader, aggregate_reader, signed_value_reader, unquoted_reader, plus_or_minus_reader, constant_reader, part_in, part_reader, optname_reader, assignment_reader, option_reader, truth_in, said_reader, setting_reader, is_barred, if_allowed, field_option_reader, options_reader, ended_reader, field_end_reader, group_end_reader, value_end_reader}
use Rattle.pb_source_tokens.proofs.ReaderLaws.{Reads, IsStop, Chained, reads_chain}
use Rattle.pb_source_tokens.proofs.Parts.{Answered, reads_answer, reads_stop}
use Rattle.pb_source_tokens.proofs.Compose.{never, any_stop, Mapped, Behind, Before, reads_mapped, reads_behind, reads_behind_so, reads_before_so, reads_some, reads_either, said_so}
use Rattle.pb_source_tokens.proofs.Heads.{Headed, headed_one, headed_then, headed_separated, Apart, fails_front, fails_rest, stops_rest, stops_front, is_a_word, filled_front, front_of_one, front_of}
use Rattle.pb_source_tokens.proofs.SymbolTests.{same_bytes, Keeps, reads_plain, reads_judged, reads_mark, reads_keyword}
use Rattle.pb_source_tokens.proofs.Loops.{reads_separated}
use Rattle.pb_source_tokens.proofs.KindLemmas.{ByKind, reads_kinds}
use Rattle.pb_source_tokens.proofs.NameLaws.{reads_name, fullname_first, reads_fullname, reads_typename}
use Rattle.pb_source_tokens.proofs.AggregateLaws.{reads_aggregate}
use Rattle.pb_source_tokens.proofs.FloatLaws.{goes_on, reads_on, Numeral, reads_numeral, begins_numeral, numeral_first}

-- ---- integers

integer_some : (s : Symbol) (n : ℕ) → integer_in s ≡ Some n → integer n (s ∷ [])
integer_some (number w) n h = (w, h, refl)
integer_some (word w) n h = absurd (cc h)
integer_some (text w) n h = absurd (cc h)
integer_some (sign w) n h = absurd (cc h)

pub reads_integer : {n : ℕ} {e : Symbol → Bool} → Reads n e (λ rules. integer) (symbol (plain integer_in))
reads_integer = reads_plain {R = integer} integer_in (number (codes "0")) 0 refl integer_some (λ n c d. (number d.0, d.1, d.2))

judged_some : (limit n : ℕ) (ok : Bool) (o : Option ℕ) → option_map {U = ℕ × Bool} (λ n. (n, nat_le n limit)) o ≡ Some (n, ok) → (o ≡ Some n) × (nat_le n limit ≡ ok)
judged_some limit n ok None h = absurd (cc h)
judged_some limit n ok (Some m) h =
    let p : ◌≡◌ {A = ℕ × Bool} (m, nat_le m limit) (n, ok) = cc h in
    let e : m ≡ n = ap (λ x. x.0) p in
    (ap Some e, ap (λ m. nat_le m limit) (sym e) ∙ ap (λ x. x.1) p)

pub reads_limited : {n : ℕ} {e : Symbol → Bool} (limit : ℕ) → Reads n e (limited limit) (limited_reader limit)
unfolding limited_reader
reads_limited limit = reads_judged numbers_fit (limited_in limit) (number (codes "0")) 0 (ap (λ b. Some (0, b)) (le-leb 0 limit (omega arith))) to from
  where
    to : (rules : Rules) (s : Symbol) (n : ℕ) (ok : Bool) → limited_in limit s ≡ Some (n, ok) → Keeps numbers_fit rules ok → limited limit rules n (s ∷ [])
    to rules s n ok h k =
        let x = judged_some limit n ok (integer_in s) h in
        (elim k [ inl e ↦ inl (leb-true n limit (x.1 ∙ e)) | inr r ↦ inr r ], integer_some s n x.0)

    from : (rules : Rules) (n : ℕ) (c : List Symbol) → limited limit rules n c
        → (s : Symbol) × (ok : Bool) × (limited_in limit s ≡ Some (n, ok)) × Keeps numbers_fit rules ok × (c ≡ s ∷ [])
    from rules n c (k, (w, h, d)) =
        (number w, nat_le n limit, ap (option_map {U = ℕ × Bool} (λ n. (n, nat_le n limit))) h, elim k [ inl l ↦ inl (le-leb n limit l) | inr r ↦ inr r ], d)

pub reads_counted : {n : ℕ} {e : Symbol → Bool} → Reads n e counted counted_reader
reads_counted = reads_limited 2147483647

pub integer_first : (n : ℕ) → Headed is_number (integer n)
integer_first n c (w, h, d) = headed_one is_number (number w) refl c d

number_or_sign : (w : List ℕ) → Apart is_number (is_mark w)
number_or_sign w (number v) h = refl
number_or_sign w (word v) h = absurd (false≢true h)
number_or_sign w (text v) h = absurd (false≢true h)
number_or_sign w (sign v) h = absurd (false≢true h)

pub reads_signed : {n : ℕ} → Reads n never signed signed_reader
unfolding signed_reader
reads_signed =
    said_so {Q = signed}
    (reads_either (is_mark (codes "-")) (reads_behind {L = λ rules. mark "-"} (reads_mark (codes "-")) (reads_mapped (λ n. neg_ℤ (pos n)) (reads_limited 2147483648))) (reads_mapped pos reads_counted)
    (λ rules v c d. headed_then (is_mark (codes "-")) (headed_one (is_mark (codes "-")) (sign (codes "-")) refl) c d)
    (λ rules v c rest d s. fails_front is_number (is_mark (codes "-")) (number_or_sign (codes "-")) c rest (integer_first d.0 c d.2.1)))
    (λ rules v c d. elim d [ inl x ↦ inr (x.3.0, x.3.1, (x.0, x.1, x.2, x.3.2, x.4)) | inr x ↦ inl x ])
    (λ rules v c d. elim d [ inl x ↦ inr x | inr x ↦ inl (x.2.0, x.2.1, x.2.2, (x.0, x.1, x.2.3), x.2.4) ])

-- ---- constants

abbrev pub is_plus_or_minus : Symbol → Bool
is_plus_or_minus s = is_mark (codes "-") s || is_mark (codes "+") s

not_minus : (rest : List Symbol) → IsStop is_plus_or_minus rest → first_passes (is_mark (codes "-")) rest ≡ false
not_minus [] s = refl
not_minus (t ∷ rest) s = (or_parts (is_mark (codes "-") t) (is_mark (codes "+") t) s).0

not_plus : (rest : List Symbol) → IsStop is_plus_or_minus rest → first_passes (is_mark (codes "+")) rest ≡ false
not_plus [] s = refl
not_plus (t ∷ rest) s = (or_parts (is_mark (codes "-") t) (is_mark (codes "+") t) s).1

pub reads_plus_or_minus : {n : ℕ} → Reads n is_plus_or_minus (λ rules (u : Unit {0}). plus_or_minus) plus_or_minus_reader
unfolding plus_or_minus_reader
reads_plus_or_minus {n} =
    said_so {Q = λ rules (u : Unit {0}). plus_or_minus}
    (reads_either {R = λ rules u. mark "-"} (is_mark (codes "-")) (reads_mark (codes "-"))
    (reads_either {R = λ rules u. mark "+"} (is_mark (codes "+")) (reads_mark (codes "+")) (reads_answer n is_plus_or_minus tt)
    (λ rules v c d. headed_one (is_mark (codes "+")) (sign (codes "+")) refl c d)
    (λ rules v c rest d s. ap (λ c. first_passes (is_mark (codes "+")) (c ++ rest)) d.1 ∙ not_plus rest s))
    (λ rules v c d. headed_one (is_mark (codes "-")) (sign (codes "-")) refl c d)
    (λ rules v c rest d s. no_minus rules v c rest d s))
    (λ rules v c d. elim d [ inl x ↦ inl x | inr (inl x) ↦ inr (inl x) | inr (inr x) ↦ inr (inr x.1) ])
    (λ rules v c d. elim d [ inl x ↦ inl x | inr (inl x) ↦ inr (inl x) | inr (inr x) ↦ inr (inr (refl, x)) ])
  where
    no_minus : (rules : Rules) (v : Unit {0}) (c rest : List Symbol) → mark "+" c ⊎ Answered tt rules v c → IsStop is_plus_or_minus rest → first_passes (is_mark (codes "-")) (c ++ rest) ≡ false
    no_minus rules v c rest (inl d) s = front_of (is_mark (codes "-")) (sign (codes "+")) c rest d
    no_minus rules v c rest (inr d) s = ap (λ c. first_passes (is_mark (codes "-")) (c ++ rest)) d.1 ∙ not_minus rest s

word_or_number : Apart is_a_word is_number
word_or_number (word v) h = refl
word_or_number (number v) h = absurd (false≢true h)
word_or_number (text v) h = absurd (false≢true h)
word_or_number (sign v) h = absurd (false≢true h)

-- an integer, or a name
abbrev Unsigned : Rules → Unit {0} → Language
Unsigned rules u = (λ ts. (n : ℕ) × integer n ts) or (λ ts. (ws : List (List ℕ)) × fullname ws ts)

reads_unsigned : (n : ℕ) → Reads n is_dot Unsigned (Rattle.pb_source_tokens.specs.Readers.Forms.choice is_number (mapped (λ _. tt) (symbol (plain integer_in))) (mapped (λ _. tt) (Rattle.pb_source_tokens.specs.Readers.Phrases.fullname_reader n)))
reads_unsigned n =
    reads_either is_number (reads_some reads_integer) (reads_some (reads_fullname n)) (λ rules u c d. integer_first d.0 c d.1)
    (λ rules u c rest d s. fails_front is_a_word is_number word_or_number c rest (fullname_first d.0 c d.1))

abbrev begins_unsigned : Symbol → Bool
begins_unsigned (word w) = true
begins_unsigned (number w) = true
begins_unsigned (text w) = false
begins_unsigned (sign w) = false

unsigned_first : (u : Unit {0}) (rules : Rules) → Headed begins_unsigned (Unsigned rules u)
unsigned_first u rules c (inl (n, (w, h, d))) = headed_one begins_unsigned (number w) refl c d
unsigned_first u rules c (inr (ws, d)) = headed_separated Rattle.pb_source_tokens.specs.Phrases.name (mark ".") begins_unsigned (λ w. headed_one begins_unsigned (word w) refl) ws c d

unsigned_or_sign : Apart begins_unsigned is_plus_or_minus
unsigned_or_sign (word v) h = refl
unsigned_or_sign (number v) h = refl
unsigned_or_sign (text v) h = absurd (false≢true h)
unsigned_or_sign (sign v) h = absurd (false≢true h)

unsigned_or_text : Apart begins_unsigned is_text
unsigned_or_text (word v) h = refl
unsigned_or_text (number v) h = refl
unsigned_or_text (text v) h = absurd (false≢true h)
unsigned_or_text (sign v) h = refl

no_text : (rules : Rules) (u : Unit {0}) (c rest : List Symbol) → (plus_or_minus ▸ Unsigned rules u) c → first_passes is_text (c ++ rest) ≡ false
no_text rules u c rest (a, b, inl ha, hb, j) = front_of_one {S = Unsigned rules u} is_text (sign (codes "-")) c rest (a, b, ha, hb, j)
no_text rules u c rest (a, b, inr (inl ha), hb, j) = front_of_one {S = Unsigned rules u} is_text (sign (codes "+")) c rest (a, b, ha, hb, j)
no_text rules u c rest (a, b, inr (inr ha), hb, j) =
    ap (λ z. first_passes is_text (z ++ rest)) (j ∙ ap (λ a. a ++ b) ha) ∙ fails_front begins_unsigned is_text unsigned_or_text b rest (unsigned_first u rules b hb)

abbrev Texts : Rules → Unit {0} → Language
Texts rules u ts = (b : List ℕ) × one (text b) ts

reads_any_text : {n : ℕ} {e : Symbol → Bool} → Reads n e Texts (tested is_text)
reads_any_text = reads_plain {R = λ u ts. (b : List ℕ) × one (text b) ts} (λ s. if_so (is_text s)) (text []) tt refl to (λ u c d. (text d.0, refl, d.1))
  where
    to : (s : Symbol) (u : Unit {0}) → if_so (is_text s) ≡ Some u → (b : List ℕ) × one (text b) (s ∷ [])
    to (text b) u h = (b, refl)
    to (word w) u h = absurd (cc h)
    to (number w) u h = absurd (cc h)
    to (sign w) u h = absurd (cc h)

reads_plain_constant : (n : ℕ) → Reads n is_dot (λ rules (u : Unit {0}). plain_constant) (constant_reader Strict n)
unfolding constant_reader unquoted_reader signed_value_reader
reads_plain_constant n =
    said_so {Q = λ rules (u : Unit {0}). plain_constant}
    (reads_either is_text reads_any_text
    (reads_behind_so {L = λ rules. plus_or_minus} reads_plus_or_minus (reads_unsigned n)
    (λ rules u c rest d s. stops_front begins_unsigned is_plus_or_minus unsigned_or_sign c rest (unsigned_first u rules c d)))
    (λ rules u c d. headed_one is_text (text d.0) refl c d.1)
    (λ rules u c rest d s. no_text rules u c rest d))
    to from
  where
    to : (rules : Rules) (u : Unit {0}) (c : List Symbol) → Texts rules u c ⊎ (plus_or_minus ▸ Unsigned rules u) c → plain_constant c
    to rules u c (inl d) = inl d
    to rules u c (inr (a, b, ha, inl (n, hb), j)) = inr (inl (n, (a, b, ha, hb, j)))
    to rules u c (inr (a, b, ha, inr (ws, hb), j)) = inr (inr (ws, (a, b, ha, hb, j)))

    from : (rules : Rules) (u : Unit {0}) (c : List Symbol) → plain_constant c → Texts rules u c ⊎ (plus_or_minus ▸ Unsigned rules u) c
    from rules u c (inl d) = inl d
    from rules u c (inr (inl (n, (a, b, ha, hb, j)))) = inr (a, b, ha, inl (n, hb), j)
    from rules u c (inr (inr (ws, (a, b, ha, hb, j)))) = inr (a, b, ha, inr (ws, hb), j)

-- ---- constants of the lenient grammars

-- a name, an integer or a floating literal
abbrev Bare : Rules → Unit {0} → Language
Bare rules u = (λ ts. (ws : List (List ℕ)) × fullname ws ts) or Numeral

numeral_or_word : Apart begins_numeral is_word
numeral_or_word (number v) h = refl
numeral_or_word (sign v) h = refl
numeral_or_word (word v) h = absurd (false≢true h)
numeral_or_word (text v) h = absurd (false≢true h)

name_first_word : (ws : List (List ℕ)) → Headed is_word (fullname ws)
name_first_word = headed_separated Rattle.pb_source_tokens.specs.Phrases.name (mark ".") is_word (λ w. headed_one is_word (word w) refl)

reads_bare : (n : ℕ) → Reads n goes_on Bare (Rattle.pb_source_tokens.specs.Readers.Forms.choice is_word (mapped (λ _. tt) (Rattle.pb_source_tokens.specs.Readers.Phrases.fullname_reader n)) numeral_reader)
reads_bare n =
    reads_either {S = λ rules u. Numeral} is_word (reads_some (reads_on (reads_fullname n))) reads_numeral (λ rules u c d. name_first_word d.0 c d.1)
    (λ rules u c rest d s. fails_front begins_numeral is_word numeral_or_word c rest (numeral_first c d))

abbrev begins_bare : Symbol → Bool
begins_bare (word w) = true
begins_bare (number w) = true
begins_bare (sign c) = bytes_eq c (codes ".")
begins_bare (text w) = false

bare_first : (u : Unit {0}) (rules : Rules) → Headed begins_bare (Bare rules u)
bare_first u rules c (inl (ws, d)) = headed_separated Rattle.pb_source_tokens.specs.Phrases.name (mark ".") begins_bare (λ w. headed_one begins_bare (word w) refl) ws c d
bare_first u rules c (inr d) = numeral_bare c (numeral_first c d)
  where
    numeral_bare : (c : List Symbol) → first_passes begins_numeral c ≡ true → first_passes begins_bare c ≡ true
    numeral_bare [] h = h
    numeral_bare (number w ∷ c) h = refl
    numeral_bare (sign w ∷ c) h = h
    numeral_bare (word w ∷ c) h = refl
    numeral_bare (text w ∷ c) h = h

-- where the sign is a point it is no other
point_is : (w v : List ℕ) → bytes_eq w (codes ".") ≡ true → bytes_eq (codes ".") v ≡ false → bytes_eq w v ≡ false
point_is w v h k = ap (λ w. bytes_eq w v) ((bytes_eq-Decides w (codes ".")).0 h) ∙ k

bare_or_sign : Apart begins_bare is_plus_or_minus
bare_or_sign (word v) h = refl
bare_or_sign (number v) h = refl
bare_or_sign (text v) h = absurd (false≢true h)
bare_or_sign (sign v) h = ap (λ v. is_plus_or_minus (sign v)) ((bytes_eq-Decides v (codes ".")).0 h)

-- the first symbol of what has no quotes and no braces
abbrev begins_unquoted : Symbol → Bool
begins_unquoted s = is_plus_or_minus s || begins_bare s

abbrev Unquoted : Rules → Unit {0} → Language
Unquoted rules u = plus_or_minus ▸ Bare rules u

reads_unquoted : (n : ℕ) → Reads n goes_on Unquoted (signed_value_reader (Lenient Proto3) n)
unfolding signed_value_reader
reads_unquoted n =
    reads_behind_so {L = λ rules. plus_or_minus} reads_plus_or_minus (reads_bare n)
    (λ rules u c rest d s. stops_front begins_bare is_plus_or_minus bare_or_sign c rest (bare_first u rules c d))

unquoted_fails : (test : Symbol → Bool) → Apart begins_bare test → test (sign (codes "-")) ≡ false → test (sign (codes "+")) ≡ false
    → (rules : Rules) (u : Unit {0}) (c rest : List Symbol) → Unquoted rules u c → first_passes test (c ++ rest) ≡ false
unquoted_fails test apart minus plus rules u c rest (a, b, inl ha, hb, j) = front_of_one {S = Bare rules u} test (sign (codes "-")) c rest (a, b, ha, hb, j) ∙ minus
unquoted_fails test apart minus plus rules u c rest (a, b, inr (inl ha), hb, j) = front_of_one {S = Bare rules u} test (sign (codes "+")) c rest (a, b, ha, hb, j) ∙ plus
unquoted_fails test apart minus plus rules u c rest (a, b, inr (inr ha), hb, j) =
    ap (λ z. first_passes test (z ++ rest)) (j ∙ ap (λ a. a ++ b) ha) ∙ fails_front begins_bare test apart b rest (bare_first u rules b hb)

bare_or_text : Apart begins_bare is_text
bare_or_text (word v) h = refl
bare_or_text (number v) h = refl
bare_or_text (text v) h = absurd (false≢true h)
bare_or_text (sign v) h = refl

bare_or_brace : Apart begins_bare (is_mark (codes "{"))
bare_or_brace (word v) h = refl
bare_or_brace (number v) h = refl
bare_or_brace (text v) h = absurd (false≢true h)
bare_or_brace (sign v) h = ap (λ v. bytes_eq v (codes "{")) ((bytes_eq-Decides v (codes ".")).0 h)

abbrev Braced : Rules → Unit {0} → Language
Braced rules u = aggregate or Unquoted rules u

braced_no_text : (rules : Rules) (u : Unit {0}) (c rest : List Symbol) → Braced rules u c → first_passes is_text (c ++ rest) ≡ false
braced_no_text rules u c rest (inl d) = front_of_one {S = λ ts. (Rattle.pb_source_tokens.specs.Aggregates.Balanced ▸ Rattle.pb_source_tokens.specs.Aggregates.closing Rattle.pb_source_tokens.specs.declared.bracket.Bracket.TheVariants.Curly) ts} is_text (sign (codes "{")) c rest d
braced_no_text rules u c rest (inr d) = unquoted_fails is_text bare_or_text refl refl rules u c rest d

reads_full_constant : (s : Syntax) (n : ℕ) → Reads n goes_on (λ rules (u : Unit {0}). constant (Lenient s)) (constant_reader (Lenient s) n)
unfolding constant_reader unquoted_reader
reads_full_constant s n =
    said_so {Q = λ rules (u : Unit {0}). constant (Lenient s)}
    (reads_either is_text reads_any_text
    (reads_either {R = λ rules u. aggregate} (is_mark (codes "{")) (reads_stop n never goes_on (λ rules (u : Unit {0}). aggregate) (aggregate_reader n) (λ rest s. any_stop rest) (reads_aggregate n))
    (reads_unquoted n)
    (λ rules u c d. headed_then (is_mark (codes "{")) (headed_one (is_mark (codes "{")) (sign (codes "{")) refl) c d)
    (λ rules u c rest d s. unquoted_fails (is_mark (codes "{")) bare_or_brace refl refl rules u c rest d))
    (λ rules u c d. headed_one is_text (text d.0) refl c d.1)
    (λ rules u c rest d s. braced_no_text rules u c rest d))
    to from
  where
    to : (rules : Rules) (u : Unit {0}) (c : List Symbol) → Texts rules u c ⊎ Braced rules u c → constant (Lenient s) c
    to rules u c (inl d) = inl (inl d)
    to rules u c (inr (inl d)) = inr (inr d)
    to rules u c (inr (inr (a, b, ha, inl (ws, hb), j))) = inl (inr (inr (ws, (a, b, ha, hb, j))))
    to rules u c (inr (inr (a, b, ha, inr (inl (n, hb)), j))) = inl (inr (inl (n, (a, b, ha, hb, j))))
    to rules u c (inr (inr (a, b, ha, inr (inr hb), j))) = inr (inl (a, b, ha, hb, j))

    from : (rules : Rules) (u : Unit {0}) (c : List Symbol) → constant (Lenient s) c → Texts rules u c ⊎ Braced rules u c
    from rules u c (inl (inl d)) = inl d
    from rules u c (inl (inr (inl (n, (a, b, ha, hb, j))))) = inr (inr (a, b, ha, inr (inl (n, hb)), j))
    from rules u c (inl (inr (inr (ws, (a, b, ha, hb, j))))) = inr (inr (a, b, ha, inl (ws, hb), j))
    from rules u c (inr (inl (a, b, ha, hb, j))) = inr (inr (a, b, ha, inr (inr hb), j))
    from rules u c (inr (inr d)) = inr (inl d)

pub reads_constant : (g : Grammar) (n : ℕ) → Reads n goes_on (λ rules (u : Unit {0}). constant g) (constant_reader g n)
reads_constant Strict n = reads_on (reads_plain_constant n)
reads_constant (Lenient s) n = reads_full_constant s n

-- ---- names of options

reads_strict_part : {n : ℕ} {e : Symbol → Bool} → Reads n e (part Strict) (symbol (judged options_known part_in))
reads_strict_part = reads_judged options_known part_in (word []) [] refl to from
  where
    parenthesis : (rules : Rules) (c w : List ℕ) (ok b : Bool) → bytes_eq c (codes "(") ≡ b
        → ◌≡◌ {A = Option (List ℕ × Bool)} (if b then Some (codes "(", false) else None) (Some (w, ok)) → Keeps options_known rules ok → part Strict rules w (sign c ∷ [])
    parenthesis rules c w ok false e h k = absurd (cc h)
    parenthesis rules c w ok true e h k =
        let p : ◌≡◌ {A = List ℕ × Bool} (codes "(", false) (w, ok) = cc h in
        elim k [
          | inl t ↦ absurd (false≢true (ap (λ x. x.1) p ∙ t))
          | inr r ↦ inr (r, sym (ap (λ x. x.0) p), ap (λ c. sign c ∷ []) ((bytes_eq-Decides c (codes "(")).0 e))
        ]

    to : (rules : Rules) (s : Symbol) (w : List ℕ) (ok : Bool) → part_in s ≡ Some (w, ok) → Keeps options_known rules ok → part Strict rules w (s ∷ [])
    to rules (word v) w ok h k = let p : ◌≡◌ {A = List ℕ × Bool} (v, true) (w, ok) = cc h in inl (ap (λ x. word x.0 ∷ []) p)
    to rules (sign c) w ok h k = parenthesis rules c w ok (bytes_eq c (codes "(")) refl h k
    to rules (number v) w ok h k = absurd (cc h)
    to rules (text v) w ok h k = absurd (cc h)

    from : (rules : Rules) (w : List ℕ) (c : List Symbol) → part Strict rules w c → (s : Symbol) × (ok : Bool) × (part_in s ≡ Some (w, ok)) × Keeps options_known rules ok × (c ≡ s ∷ [])
    from rules w c (inl d) = (word w, true, refl, inl refl, d)
    from rules w c (inr (r, e, d)) = (sign (codes "("), false, ap (λ w. Some (w, false)) (sym e), inr r, d)

end_dots : (w : List ℕ) (c rest : List Symbol) → bytes_eq w (codes ".") ≡ false → one (sign w) c → IsStop is_dot (c ++ rest)
end_dots w c rest h d = stops_rest is_dot (c ++ rest) (front_of is_dot (sign w) c rest d ∙ h)

abbrev Extension : Rules → List ℕ → Language
Extension = Behind (λ rules. mark "(") (Before (Mapped (λ _. codes "(") (λ rules. typename)) (λ rules. mark ")"))

pub reads_part : (g : Grammar) (n : ℕ) → Reads n never (part g) (part_reader g n)
unfolding part_reader
reads_part Strict n = reads_strict_part
reads_part (Lenient s) n =
    said_so {Q = part (Lenient s)}
    (reads_either (is_mark (codes "("))
    (reads_behind {L = λ rules. mark "("} (reads_mark (codes "("))
    (reads_before_so {L = λ rules. mark ")"} (reads_mapped (λ _. codes "(") (reads_typename n)) (reads_mark (codes ")")) (λ rules u c rest d s. end_dots (codes ")") c rest refl d)))
    reads_name
    (λ rules w c d. headed_then (is_mark (codes "(")) (headed_one (is_mark (codes "(")) (sign (codes "(")) refl) c d)
    (λ rules w c rest d s. front_of (is_mark (codes "(")) (word w) c rest d))
    to from
  where
    to : (rules : Rules) (w : List ℕ) (c : List Symbol) → Extension rules w c ⊎ Rattle.pb_source_tokens.specs.Phrases.name w c → part (Lenient s) rules w c
    to rules w c (inl (a, b, ha, (x, y, (n, e, d), hy, k), j)) = inr (e, (n, (a, b, ha, (x, y, d, hy, k), j)))
    to rules w c (inr d) = inl d

    from : (rules : Rules) (w : List ℕ) (c : List Symbol) → part (Lenient s) rules w c → Extension rules w c ⊎ Rattle.pb_source_tokens.specs.Phrases.name w c
    from rules w c (inl d) = inr d
    from rules w c (inr (e, (n, (a, b, ha, (x, y, d, hy, k), j)))) = inl (a, b, ha, (x, y, (n, e, d), hy, k), j)

abbrev pub begins_part : Symbol → Bool
begins_part (word w) = true
begins_part (sign c) = bytes_eq c (codes "(")
begins_part (number w) = false
begins_part (text b) = false

part_first : (g : Grammar) (rules : Rules) (w : List ℕ) → Headed begins_part (part g rules w)
part_first Strict rules w c (inl d) = headed_one begins_part (word w) refl c d
part_first Strict rules w c (inr (r, e, d)) = headed_one begins_part (sign (codes "(")) refl c d
part_first (Lenient s) rules w c (inl d) = headed_one begins_part (word w) refl c d
part_first (Lenient s) rules w c (inr (e, (n, d))) = headed_then begins_part (headed_one begins_part (sign (codes "(")) refl) c d

pub optname_first : (g : Grammar) (rules : Rules) (ws : List (List ℕ)) → Headed begins_part (optname g rules ws)
optname_first g rules = headed_separated (part g rules) (mark ".") begins_part (part_first g rules)

pub reads_optname : (g : Grammar) (n : ℕ) → Reads n is_dot (optname g) (optname_reader g n)
unfolding optname_reader
reads_optname g n =
    reads_separated n never is_dot is_dot (part g) (λ rules u. mark ".") (part_reader g n) (mark_reader (codes ".")) (reads_part g n) (reads_mark (codes "."))
    (λ rules u c h. headed_one is_dot (sign (codes ".")) refl c h) (λ rest s. (any_stop rest, fails_rest is_dot rest s)) (λ rules u c rest h. any_stop (c ++ rest))
    (λ rules w c h. filled_front begins_part c (part_first g rules w c h)) n (omega arith)

-- ---- options

-- a sign after a name stops it
pub mark_stops : {S : Language} (w : List ℕ) (c rest : List Symbol) → bytes_eq w (codes ".") ≡ false → (one (sign w) ▸ S) c → IsStop is_dot (c ++ rest)
mark_stops {S} w c rest h d = stops_rest is_dot (c ++ rest) (front_of_one {S = S} is_dot (sign w) c rest d ∙ h)

pub end_stops : (w : List ℕ) (c rest : List Symbol) → bytes_eq w (codes ".") ≡ false → one (sign w) c → IsStop is_dot (c ++ rest)
end_stops = end_dots

pub end_constant : (w : List ℕ) (c rest : List Symbol) → bytes_eq w (codes ".") ≡ false → one (sign w) c → IsStop goes_on (c ++ rest)
end_constant w c rest h d = stops_rest goes_on (c ++ rest) (front_of goes_on (sign w) c rest d ∙ h)

-- ---- lists of options

-- items between commas, where neither `,` nor what goes on an item follows
pub reads_listed : {I : Type 0} {n : ℕ} {Item : Rules → I → Language} {item : Reader I} (e : Symbol → Bool) → Reads n e Item item → e (sign (codes ",")) ≡ false
    → ((rules : Rules) (i : I) (c : List Symbol) → Item rules i c → 1 ≤ length c) → Reads n (λ s. e s || is_comma s) (λ rules. Listed (Item rules)) (listed n item)
reads_listed {I} {n} {Item} {item} e ri comma full =
    reads_separated n e (λ s. e s || is_comma s) is_comma Item (λ rules u. mark ",") item (mark_reader (codes ",")) ri (reads_mark (codes ","))
    (λ rules u c h. headed_one is_comma (sign (codes ",")) refl c h) stops
    (λ rules u c rest h. stops_rest e (c ++ rest) (front_of e (sign (codes ",")) c rest h ∙ comma)) full n (omega arith)
  where
    stops : (rest : List Symbol) → IsStop (λ s. e s || is_comma s) rest → IsStop e rest × (first_passes is_comma rest ≡ false)
    stops [] s = (tt, refl)
    stops (t ∷ rest) s = or_parts (e t) (is_comma t) s

pub stops_listed : (e : Symbol → Bool) (w : List ℕ) (c rest : List Symbol) → e (sign w) ≡ false → bytes_eq w (codes ",") ≡ false → one (sign w) c → IsStop (λ s. e s || is_comma s) (c ++ rest)
stops_listed e w c rest h k d =
    stops_rest (λ s. e s || is_comma s) (c ++ rest) (front_of (λ s. e s || is_comma s) (sign w) c rest d ∙ ap (λ b. b || bytes_eq w (codes ",")) h ∙ k)

a_part : (g : Grammar) (rules : Rules) → part g rules (codes "a") (word (codes "a") ∷ [])
a_part Strict rules = inl refl
a_part (Lenient s) rules = inl refl

a_constant : (g : Grammar) → constant g (text [] ∷ [])
a_constant Strict = inl ([], refl)
a_constant (Lenient s) = inl (inl ([], refl))

module _ (g : Grammar) where
  pub reads_assignment : (n : ℕ) → Reads n goes_on (λ rules (u : Unit {0}). assignment g rules) (assignment_reader g n)
  unfolding assignment_reader
  reads_assignment n =
      said_so {Q = λ rules (u : Unit {0}). assignment g rules}
      (reads_behind_so {L = λ rules ts. (ws : List (List ℕ)) × optname g rules ws ts} (reads_some (reads_optname g n))
      (reads_behind {L = λ rules. mark "="} (reads_mark (codes "=")) (reads_constant g n))
      (λ rules u c rest d s. mark_stops {S = (constant g)} (codes "=") c rest refl d))
      (λ rules u c d. (d.2.0, (d.0, d.1, d.2.1, d.3, d.4))) (λ rules u c d. (d.1.0, d.1.1, (d.0, d.1.2), d.1.3, d.1.4))

  pub reads_option : (n : ℕ) → Reads n never (λ rules (u : Unit {0}). option g rules) (option_reader g n)
  unfolding option_reader
  reads_option n =
      reads_behind {L = λ rules. keyword "option"} (reads_keyword (codes "option"))
      (reads_before_so {L = λ rules. mark ";"} (reads_assignment n) (reads_mark (codes ";")) (λ rules u c rest d s. end_constant (codes ";") c rest refl d))

  -- ---- options that count

  reads_truth : {n : ℕ} {e : Symbol → Bool} → Reads n e (λ rules. truth) (symbol (plain truth_in))
  reads_truth = reads_plain {R = truth} truth_in (word (codes "true")) true refl to from
    where
      is_false : (w : List ℕ) (b c : Bool) → bytes_eq w (codes "false") ≡ c → (if c then Some false else None) ≡ Some b → truth b (word w ∷ [])
      is_false w b true e h = let f : false ≡ b = cc h in subst (λ b. truth b (word w ∷ [])) f (ap (λ w. word w ∷ []) ((bytes_eq-Decides w (codes "false")).0 e))
      is_false w b false e h = absurd (cc h)

      is_true : (w : List ℕ) (b c : Bool) → bytes_eq w (codes "true") ≡ c → (if c then Some true else (if bytes_eq w (codes "false") then Some false else None)) ≡ Some b → truth b (word w ∷ [])
      is_true w b true e h = let f : true ≡ b = cc h in subst (λ b. truth b (word w ∷ [])) f (ap (λ w. word w ∷ []) ((bytes_eq-Decides w (codes "true")).0 e))
      is_true w b false e h = is_false w b (bytes_eq w (codes "false")) refl h

      to : (s : Symbol) (b : Bool) → truth_in s ≡ Some b → truth b (s ∷ [])
      to (word w) b h = is_true w b (bytes_eq w (codes "true")) refl h
      to (number w) b h = absurd (cc h)
      to (text w) b h = absurd (cc h)
      to (sign w) b h = absurd (cc h)

      from : (b : Bool) (c : List Symbol) → truth b c → (s : Symbol) × (truth_in s ≡ Some b) × (c ≡ s ∷ [])
      from true c d = (word (codes "true"), refl, d)
      from false c d = (word (codes "false"), refl, d)

  abbrev Said : Bool → Rules → Option Bool → Language
  Said true = Mapped Some (λ rules. truth)
  Said false = Mapped {A = Unit {0}} (λ _. None) (λ rules u. (constant g))

  reads_said : (n : ℕ) (b : Bool) → Reads n goes_on (Said b) (said_reader g n b)
  reads_said n true = reads_mapped Some reads_truth
  reads_said n false = reads_mapped (λ _. None) (reads_constant g n)

  only_name : (v : List ℕ) (ws : List (List ℕ)) → is_the_name v ws ≡ true → ws ≡ v ∷ []
  only_name v [] h = absurd (false≢true h)
  only_name v (w ∷ []) h = ap (λ w. w ∷ []) ((bytes_eq-Decides w v).0 h)
  only_name v (w ∷ u ∷ ws) h = absurd (false≢true h)

  abbrev Assigned : List ℕ → List (List ℕ) → Rules → Option Bool → Language
  Assigned v ws = Behind (λ rules. mark "=") (Said (is_the_name v ws))

  module _ (v : List ℕ) where
    setting_of : (rules : Rules) (o : Option Bool) (c : List Symbol) (ws : List (List ℕ)) (b : Bool) → is_the_name v ws ≡ b → (optname g rules ws ▸ mark "=" ▸ Said b rules o) c → setting g v rules o c
    setting_of rules o c ws true h (x, y, hx, (z, w, hz, (t, e, d), j), k) =
        subst (λ o. setting g v rules o c) (sym e) (x, y, subst (λ ws. optname g rules ws x) (only_name v ws h) hx, (z, w, hz, d, j), k)
    setting_of rules o c ws false h (x, y, hx, (z, w, hz, (t, e, d), j), k) =
        subst (λ o. setting g v rules o c) (sym e) (ws, h, (x, y, hx, (z, w, hz, d, j), k))

    to_setting : (rules : Rules) (o : Option Bool) (c : List Symbol) → Chained (optname g) (Assigned v) rules o c → setting g v rules o c
    to_setting rules o c (ws, d) = setting_of rules o c ws (is_the_name v ws) refl d

    chained : (rules : Rules) (o : Option Bool) (c : List Symbol) (ws : List (List ℕ)) (b : Bool) → is_the_name v ws ≡ b → (optname g rules ws ▸ mark "=" ▸ Said b rules o) c → Chained (optname g) (Assigned v) rules o c
    chained rules o c ws b h d = (ws, subst (λ b. (optname g rules ws ▸ mark "=" ▸ Said b rules o) c) (sym h) d)

    of_setting : (rules : Rules) (o : Option Bool) (c : List Symbol) → setting g v rules o c → Chained (optname g) (Assigned v) rules o c
    of_setting rules (Some t) c (x, y, hx, (z, w, hz, d, j), k) = chained rules (Some t) c (v ∷ []) true (same_bytes v) (x, y, hx, (z, w, hz, (t, refl, d), j), k)
    of_setting rules None c (ws, h, (x, y, hx, (z, w, hz, d, j), k)) = chained rules None c ws false h (x, y, hx, (z, w, hz, (tt, refl, d), j), k)

    pub reads_setting : (n : ℕ) → Reads n goes_on (setting g v) (setting_reader g n v)
    unfolding setting_reader
    reads_setting n =
        said_so {Q = setting g v}
        (reads_chain n n is_dot goes_on (optname g) (Assigned v) (optname_reader g n) (λ ws. preceded (mark_reader (codes "=")) (said_reader g n (is_the_name v ws))) (reads_optname g n)
        (λ ws. reads_behind {L = λ rules. mark "="} (reads_mark (codes "=")) (reads_said n (is_the_name v ws)))
        (λ rules ws o c rest d s. mark_stops {S = Said (is_the_name v ws) rules o} (codes "=") c rest refl d) (λ rules ws c d. omega arith))
        to_setting of_setting

    pub setting_first : (rules : Rules) (o : Option Bool) (c : List Symbol) → setting g v rules o c → first_passes begins_part c ≡ true
    setting_first rules (Some t) c d = headed_then begins_part (optname_first g rules (v ∷ [])) c d
    setting_first rules None c (ws, h, d) = headed_then begins_part (optname_first g rules ws) c d

  -- ---- options of fields

  abbrev packed : List ℕ
  packed = codes "packed"

  abbrev Settings : Rules → Option Bool → Language
  Settings = ByKind (if_allowed g) (λ _. setting g packed)

  barred_so : (g : Grammar) (w : List ℕ) → is_one_of (barred g) w ≡ is_barred g (word w)
  barred_so Strict w = or-false (bytes_eq w (codes "default"))
  barred_so (Lenient Proto2) w = refl
  barred_so (Lenient Proto3) w = or-false (bytes_eq w (codes "default"))

  allowed : (b : Bool) (u : Unit {0}) → (if b then None else Some tt) ≡ Some u → b ≡ false
  allowed true u h = absurd (cc h)
  allowed false u h = refl

  not_barred : (g : Grammar) (s : Symbol) → is_barred g s ≡ false → if_allowed g s ≡ Some tt
  not_barred g s h = rw h refl

  never_barred : (g : Grammar) (s : Symbol) → is_keyword (codes "default") s ≡ false → is_barred g s ≡ false
  never_barred Strict s h = h
  never_barred (Lenient Proto2) s h = refl
  never_barred (Lenient Proto3) s h = h

  to_field_option : (rules : Rules) (o : Option Bool) (c : List Symbol) → Settings rules o c → field_option g rules o c
  to_field_option rules o [] (u, h, d) = (tt, d)
  to_field_option rules o (word w ∷ c) (u, h, d) = (barred_so g w ∙ allowed (is_barred g (word w)) u h, d)
  to_field_option rules o (number w ∷ c) (u, h, d) = (tt, d)
  to_field_option rules o (text w ∷ c) (u, h, d) = (tt, d)
  to_field_option rules o (sign w ∷ c) (u, h, d) = (tt, d)

  of_field_option : (rules : Rules) (o : Option Bool) (c : List Symbol) → field_option g rules o c → Settings rules o c
  of_field_option rules o [] (h, d) = absurd (false≢true (setting_first packed rules o [] d))
  of_field_option rules o (word w ∷ c) (h, d) = (tt, not_barred g (word w) (sym (barred_so g w) ∙ h), d)
  of_field_option rules o (number w ∷ c) (h, d) = (tt, not_barred g (number w) (never_barred g (number w) refl), d)
  of_field_option rules o (text w ∷ c) (h, d) = (tt, not_barred g (text w) (never_barred g (text w) refl), d)
  of_field_option rules o (sign w ∷ c) (h, d) = (tt, not_barred g (sign w) (never_barred g (sign w) refl), d)

  -- a = ''
  some_setting : (rules : Rules) → (o : Option Bool) × (c : List Symbol) × Settings rules o c
  some_setting rules = (
    None,
    word (codes "a") ∷ sign (codes "=") ∷ text [] ∷ [],
    (tt, not_barred g (word (codes "a")) (never_barred g (word (codes "a")) refl), (codes "a" ∷ [], refl, (word (codes "a") ∷ [], sign (codes "=") ∷ text [] ∷ [], a_part g rules, (sign (codes "=") ∷ [], text [] ∷ [], refl, a_constant g, refl), refl))),
  )

  pub reads_field_option : (n : ℕ) → Reads n goes_on (field_option g) (field_option_reader g n)
  unfolding field_option_reader
  reads_field_option n =
      said_so {Q = (field_option g)}
      (reads_kinds n goes_on (if_allowed g) (λ _. setting g packed) (λ _. Some (setting_reader g n packed)) (λ _. reads_setting packed n)
      (λ u rules o d. false≢true (setting_first packed rules o [] d)) some_setting)
      to_field_option of_field_option

  reads_options : (close : String) {I : Type 0} {n : ℕ} {Item : Rules → I → Language} {item : Reader I} → Reads n goes_on Item item → ((rules : Rules) (i : I) (c : List Symbol) → Item rules i c → 1 ≤ length c)
      → Reads n never (λ rules. options close (Item rules)) (options_reader (codes close) n item)
  unfolding options_reader
  reads_options close {I} {n} {Item} {item} ri full =
      reads_behind {L = λ rules. mark "["} (reads_mark (codes "["))
      (reads_before_so {L = λ rules. mark "]" ▸ mark close} (reads_listed goes_on ri refl full)
      (reads_behind {L = λ rules. mark "]"} {S = λ rules u. mark close} (reads_mark (codes "]")) (reads_mark (codes close)))
      (λ rules u c rest d s. stops_rest (λ s. goes_on s || is_comma s) (c ++ rest) (front_of_one {S = mark close} (λ s. goes_on s || is_comma s) (sign (codes "]")) c rest d)))

  assignment_first : (rules : Rules) (c : List Symbol) → assignment g rules c → first_passes begins_part c ≡ true
  assignment_first rules c (ws, d) = headed_then begins_part (optname_first g rules ws) c d

  reads_ended : (close : String) → bytes_eq (codes close) (codes "[") ≡ false → (n : ℕ) → Reads n never (ended close g) (ended_reader (codes close) g n)
  unfolding ended_reader
  reads_ended close apart n =
      said_so {Q = ended close g}
      (reads_either (is_mark (codes "["))
      (reads_mapped (last_said None) (reads_options close (reads_field_option n) (λ rules o c d. filled_front begins_part c (setting_first packed rules o c d.1))))
      (reads_mapped {A = Unit {0}} {R = λ rules u. mark close} (λ _. None) (reads_mark (codes close)))
      (λ rules o c d. headed_then (is_mark (codes "[")) (headed_one (is_mark (codes "[")) (sign (codes "[")) refl) c d.2)
      (λ rules o c rest d s. front_of (is_mark (codes "[")) (sign (codes close)) c rest d.2 ∙ apart))
      (λ rules o c d. elim d [ inl x ↦ inr x | inr x ↦ inl (x.1, x.2) ])
      (λ rules o c d. elim d [ inl x ↦ inr (tt, x.0, x.1) | inr x ↦ inl x ])

  pub reads_field_end : (n : ℕ) → Reads n never (field_end g) (field_end_reader g n)
  reads_field_end = reads_ended ";" refl

  pub reads_group_end : (n : ℕ) → Reads n never (group_end g) (group_end_reader g n)
  reads_group_end = reads_ended "{" refl

  pub reads_value_end : (n : ℕ) → Reads n never (λ rules (u : Unit {0}). value_end g rules) (value_end_reader g n)
  unfolding value_end_reader
  reads_value_end n =
      said_so {Q = λ rules (u : Unit {0}). value_end g rules}
      (reads_either {S = λ rules u. mark ";"} (is_mark (codes "["))
      (reads_some (reads_options ";" {Item = λ rules u. assignment g rules} (reads_assignment n) (λ rules u c d. filled_front begins_part c (assignment_first rules c d))))
      (reads_mark (codes ";"))
      (λ rules u c d. headed_then (is_mark (codes "[")) (headed_one (is_mark (codes "[")) (sign (codes "[")) refl) c d.1)
      (λ rules u c rest d s. front_of (is_mark (codes "[")) (sign (codes ";")) c rest d))
      (λ rules u c d. elim d [ inl x ↦ inr x | inr x ↦ inl x ])
      (λ rules u c d. elim d [ inl x ↦ inr x | inr x ↦ inl x ])
