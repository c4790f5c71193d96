-- Symbols are one file, or have one fault.
use Rattle.std.proofs.Common.{◌≡◌, ℕ, zero, suc, ◌-◌, ◌≤◌, List, [], ◌∷◌, ◌++◌, length, take, drop, Bool, true, false, refl, ap, sym, ◌∙◌, subst, arith, append-nil, Option, Ok, Err, ◌⊎◌, inl, inr}
use Rattle.std.specs.Prelude.{if◌then◌else◌}
use Rattle.std.proofs.lemmas.List.{take-append-drop}
use Rattle.pb_source.specs.declared.reading.Reading.{Reading}
use Rattle.pb_source_tokens.specs.Symbols.{Symbol}
use Rattle.pb_source_tokens.specs.Language.{Rules, all_rules, reported, Begins}
use Rattle.pb_source_tokens.specs.declared.rule.Rule.{Rule}
use Rattle.pb_source_tokens.specs.declared.fault.SourceCause.{SourceCause}
use Rattle.pb_source_tokens.specs.declared.fault.SourceCause.TheVariants.{Unexpected, NotProto3}
use Rattle.pb_source_tokens.specs.Readers.Forms.{Outcome, Reader, answer, to_end}
use Rattle.pb_source_tokens.proofs.ReaderLaws.{bind_ok}
use Rattle.pb_source_tokens.proofs.Parts.{ok_parts}
use Rattle.pb_source_tokens.proofs.ToEnd.{always}
use Rattle.pb_source_tokens.specs.declared.grammar.Grammar.{Grammar}
use Rattle.pb_source.specs.Meaning.{FileStatement}
use Rattle.pb_source.specs.Grammar.{file}
use Rattle.pb_source.specs.SyntaxFault.{Fault, SyntaxFaultIn}
use Rattle.pb_source.specs.Readers.Lines.{syntax_reader, file_statement_reader, is_package, statements_reader, file_reader}
use Rattle.pb_source.proofs.FaultLemmas.{refused_so, only_so, words_read, read_words}
use Rattle.pb_source.proofs.FileLaws.{reads_file}
use Rattle.pb_source.proofs.GrowingLines.{refused_further}

-- what is read of a file
abbrev pub Read : Type 0
Read = Grammar × List FileStatement

-- ---- what is read up to the end leaves nothing

ends_whole : {I : Type 0} (n : ℕ) (marks : I → Bool) (item : Bool → Reader I) (b : Bool) (front : List I) (rules : Rules) (ts : List Symbol) (v : List I)
    (rest : List Symbol)
    → to_end n marks item b front rules ts ≡ Ok (v, rest) → rest ≡ []
ends_whole zero marks item b front rules [] v rest h = sym (ok_parts {v = front} {w = v} {x = []} {y = rest} h).1
ends_whole zero marks item b front rules (s ∷ ts) v rest h = absurd (cc h)
ends_whole (suc n) marks item b front rules [] v rest h = sym (ok_parts {v = front} {w = v} {x = []} {y = rest} h).1
ends_whole {I} (suc n) marks item b front rules (s ∷ ts) v rest h =
    let next : I → Reader (List I) = λ i. to_end n marks item (if b then true else marks i) (front ++ i ∷ []) in
    let p = bind_ok (item b rules (s ∷ ts)) (λ i mid. next i rules mid) (v, rest) h in
    ends_whole n marks item (if b then true else marks p.0) (front ++ p.0 ∷ []) rules p.1 v rest p.3

whole : (how : Reading) → (n : ℕ) (rules : Rules) (ts : List Symbol) (v : Read) (rest : List Symbol) → file_reader how n rules ts ≡ Ok (v, rest) → rest ≡ []
unfolding file_reader
whole how n rules ts v rest h =
    let p = bind_ok (syntax_reader how rules ts) (λ g mid. statements_reader n g rules mid) (v, rest) h in
    let q = bind_ok (to_end n is_package (file_statement_reader p.0 n) false [] rules p.1) (λ ss mid. answer (p.0, ss) rules mid) (v, rest) p.3 in
    let e = ok_parts {v = (p.0, q.0)} {w = v} {x = q.1} {y = rest} q.3 in
    sym e.1 ∙ ends_whole n is_package (file_statement_reader p.0 n) false [] rules p.1 q.0 q.1 q.2

-- ---- by what the reader answers

abbrev Answer : (how : Reading) → List Symbol → Outcome Read → Type 0
Answer how ts o = file_reader how (length ts) all_rules ts ≡ o

is_word : (how : Reading) → (ts : List Symbol) (v : Read) (rest : List Symbol) → Answer how ts (Ok (v, rest)) → file how all_rules v ts
is_word how ts v rest h =
    let none = whole how (length ts) all_rules ts v rest h in
    read_words always (file how) (file_reader how) (reads_file how) ts v (length ts) (omega arith) (h ∙ ap (λ r. Ok (v, r)) none)

word_read : (how : Reading) → (ts : List Symbol) (v : Read) → file how all_rules v ts → Answer how ts (Ok (v, []))
word_read how ts v d = words_read always (file how) (file_reader how) (reads_file how) ts v (length ts) (omega arith) d

begins : (how : Reading) → (ts : List Symbol) (why : Option Rule) → Answer how ts (Err ([], why)) → Begins (file how all_rules) ts
begins how ts why h =
    let r = (reads_file how (length ts)).refused all_rules ts [] why (omega arith) h in
    subst (Begins (file how all_rules)) (sym (r.joined ∙ append-nil r.front)) r.begins

no_word : (how : Reading) → (ts rest : List Symbol) (why : Option Rule) → Answer how ts (Err (rest, why)) → (v : Read) → file how all_rules v ts → ⊥
no_word how ts rest why h v d = apart (word_read how ts v d) h
  where
    apart : {o : Outcome Read} {x : Read × List Symbol} {y : List Symbol × Option Rule} → o ≡ Ok x → o ≡ Err y → ⊥
    apart h k = cc (h, k)

further : (how : Reading) → (ts : List Symbol) (t : Symbol) (x : List Symbol) (why : Option Rule) → Answer how ts (Err (t ∷ x, why)) → (n : ℕ) → length ts ≤ n
    → file_reader how n all_rules ts ≡ Err (t ∷ x, why)
further how ts t x why h n l = refused_further how all_rules ts t x why (length ts) n l h

-- ---- always one of the two

pub file_or_fault : (how : Reading) → (ts : List Symbol) → ((v : Read) × file how all_rules v ts) ⊎ ((k : ℕ) × (c : SourceCause) × SyntaxFaultIn how ts k c)
file_or_fault how ts = by_answer ts (file_reader how (length ts) all_rules ts) refl
  where
    by_answer : (ts : List Symbol) (o : Outcome Read) → Answer how ts o → ((v : Read) × file how all_rules v ts)
        ⊎ ((k : ℕ) × (c : SourceCause) × SyntaxFaultIn how ts k c)
    by_answer ts (Ok (v, rest)) h = inl (v, is_word how ts v rest h)
    by_answer [] (Err e) h = inr (0, NotProto3, Fault.no_symbols refl (no_word how [] e.0 e.1 h))
    by_answer (s ∷ ts) (Err ([], why)) h = inr (length (s ∷ ts), Unexpected, Fault.at_end (λ e. cc e) (begins how (s ∷ ts) why h) (no_word how (s ∷ ts) [] why h))
    by_answer (s ∷ ts) (Err (t ∷ x, why)) h =
        inr (
          length (s ∷ ts) - length (t ∷ x),
          reported why,
          refused_so always (file how) (file_reader how) (reads_file how) (s ∷ ts) (t ∷ x) why (λ e. cc e) (further how (s ∷ ts) t x why h),
        )

-- ---- never both

begins_front : (how : Reading) → (ts : List Symbol) (k : ℕ) → Begins (file how all_rules) ts → Begins (file how all_rules) (take k ts)
begins_front how ts k (v, more, d) = (
  v,
  drop k ts ++ more,
  subst (file how all_rules v) (ap (λ r. r ++ more) (sym (take-append-drop k ts)) ∙ Rattle.std.proofs.Common.append_assoc (take k ts) (drop k ts) more) d,
)

pub file_no_fault : (how : Reading) → (ts : List Symbol) (v : Read) (k : ℕ) (c : SourceCause) → file how all_rules v ts → SyntaxFaultIn how ts k c → ⊥
file_no_fault how ts v k c d (Fault.no_symbols e none) = none v d
file_no_fault how ts v k c d (Fault.at_end some b none) = none v d
file_no_fault how ts v k c d (Fault.at_symbol l b never w) = never (begins_front how ts (suc k) (v, [], subst (file how all_rules v) (sym (append-nil ts)) d))

-- ---- never two

pub one_statements : (how : Reading) → (ts : List Symbol) (v w : Read) → file how all_rules v ts → file how all_rules w ts → v ≡ w
one_statements how ts v w d e = same (word_read how ts v d) (word_read how ts w e)
  where
    same : {o : Outcome Read} {x y : Read} → o ≡ Ok (x, []) → o ≡ Ok (y, []) → x ≡ y
    same {o} {x} {y} h k = let e : ◌≡◌ {A = Read × List Symbol} (x, []) (y, []) = cc (h, k) in ap (λ z. z.0) e

pub one_syntax_fault : (how : Reading) → (ts : List Symbol) (j k : ℕ) (c d : SourceCause) → SyntaxFaultIn how ts j c → SyntaxFaultIn how ts k d → (j ≡ k) × (c ≡ d)
one_syntax_fault how ts j k c d f g = by_answer ts (file_reader how (length ts) all_rules ts) refl f g
  where
    nothing : (k : ℕ) (c : SourceCause) → SyntaxFaultIn how [] k c → (k ≡ 0) × (c ≡ NotProto3)
    nothing k c (Fault.no_symbols e n) = (refl, refl)
    nothing k c (Fault.at_end some b none) = absurd (some refl)
    nothing k c (Fault.at_symbol l b never w) = absurd (omega arith)

    at_the_end : (s : Symbol) (ts : List Symbol) (k : ℕ) (c : SourceCause) → Begins (file how all_rules) (s ∷ ts) → SyntaxFaultIn how (s ∷ ts) k c
        → (k ≡ length (s ∷ ts)) × (c ≡ Unexpected)
    at_the_end s ts k c b (Fault.no_symbols e n) = absurd (cc e)
    at_the_end s ts k c b (Fault.at_end some a none) = (refl, refl)
    at_the_end s ts k c b (Fault.at_symbol l a never w) = absurd (never (begins_front how (s ∷ ts) (suc k) b))

    alike : {a b p : ℕ} {x y q : SourceCause} → (a ≡ p) × (x ≡ q) → (b ≡ p) × (y ≡ q) → (a ≡ b) × (x ≡ y)
    alike h k = (h.0 ∙ sym k.0, h.1 ∙ sym k.1)

    by_answer : (ts : List Symbol) (o : Outcome Read) → Answer how ts o → SyntaxFaultIn how ts j c → SyntaxFaultIn how ts k d → (j ≡ k) × (c ≡ d)
    by_answer ts (Ok (v, rest)) h f g = absurd (file_no_fault how ts v j c (is_word how ts v rest h) f)
    by_answer [] (Err e) h f g = alike (nothing j c f) (nothing k d g)
    by_answer (s ∷ ts) (Err ([], why)) h f g = let b = begins how (s ∷ ts) why h in alike (at_the_end s ts j c b f) (at_the_end s ts k d b g)
    by_answer (s ∷ ts) (Err (t ∷ x, why)) h f g =
        let r = further how (s ∷ ts) t x why h in
        alike (only_so always (file how) (file_reader how) (reads_file how) (s ∷ ts) (t ∷ x) why j c (λ e. cc e) r f)
        (only_so always (file how) (file_reader how) (reads_file how) (s ∷ ts) (t ∷ x) why k d (λ e. cc e) r g)
