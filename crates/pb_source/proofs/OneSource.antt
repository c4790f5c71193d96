-- A source is one file, or has one fault.
use Rattle.std.proofs.Common.{◌≡◌, ℕ, ◌^◌, ◌-◌, ◌<◌, ◌≤◌, List, length, Bool, true, false, refl, ap, sym, ◌∙◌, subst, arith, IsUtf8, ◌⊎◌, inl, inr}
use Rattle.std.proofs.lemmas.Bool.{cases_lt}
use Rattle.std.proofs.lemmas.Str.{IsUtf8-from_is_utf8, is_utf8-from_IsUtf8}
use Rattle.std.specs.Str.{is_utf8}
use Rattle.std.specs.Str.Lossy.{utf8_valid_len}
use Rattle.pb_declarations.specs.Decls.{DeclaredFile}
use Rattle.pb_declarations.specs.One.{ExactlyOne}
use Rattle.pb_source.specs.declared.reading.Reading.{Reading}
use Rattle.pb_source.specs.declared.reading.Reading.TheVariants as reading
use Rattle.pb_source_tokens.specs.declared.fault.SourceCause.{SourceCause}
use Rattle.pb_source_tokens.specs.declared.fault.SourceCause.TheVariants.{SourceTooLarge, BadUtf8}
use Rattle.pb_source_tokens.specs.declared.fault.SourceFault.{SourceFault}
use Rattle.pb_source_tokens.specs.Fault.{fault}
use Rattle.pb_source_tokens.specs.Tokens.{PlacedToken, AreTokens, LexFault}
use Rattle.pb_source_tokens.specs.Symbols.{PlacedSymbol, AreSymbols}
use Rattle.pb_source_tokens.specs.SymbolView.{HasSymbols}
use Rattle.pb_source_tokens.proofs.OneOrFault.{same_told}
use Rattle.pb_source_tokens.specs.Language.{all_rules}
use Rattle.pb_source_tokens.proofs.OneLexing.{one_fault, not_both}
use Rattle.pb_source_tokens.proofs.OneReading.{one_source}
use Rattle.pb_source_tokens.proofs.SomeLexing.{tokens_or_fault}
use Rattle.pb_source_tokens.proofs.SomeReading.{some_symbols}
use Rattle.pb_source_tokens.proofs.SymbolLemmas.{tokens_meant}
use Rattle.pb_source.specs.Meaning.{FileStatement, file_of}
use Rattle.pb_source.specs.Grammar.{file}
use Rattle.pb_source.specs.SyntaxFault.{SyntaxFaultIn}
use Rattle.pb_source.specs.Source.{symbols_alone, place_in, IsSource, HasFault, IsSourceIn, HasFaultIn}
use Rattle.pb_source.proofs.OneFile.{Read, file_or_fault, file_no_fault, one_statements, one_syntax_fault}
use Rattle.pb_source.proofs.SourceLaws.{too_large_only, bad_utf8_only, token_only}

-- ---- whole sources

module _ (how : Reading) (name bytes : List ℕ) where
  -- a source has one list of symbols
  same_symbols : (ss us : List PlacedSymbol) → HasSymbols bytes ss → HasSymbols bytes us → ss ≡ us
  same_symbols ss us (ts, a, b) h = one_source bytes ts ss us a b h

  one_declaration : (d e : DeclaredFile) → IsSourceIn how name bytes d → IsSourceIn how name bytes e → d ≡ e
  one_declaration d e s t =
      let same = same_symbols s.symbols t.symbols (s.tokens, s.lexed, s.read) (t.tokens, t.lexed, t.read) in
      let word : file how all_rules s.means.0 (symbols_alone t.symbols) = subst (λ ss. file how all_rules s.means.0 (symbols_alone ss)) same s.means.1 in
      s.means.2 ∙ ap (λ x. file_of x.0 name x.1) (one_statements how (symbols_alone t.symbols) s.means.0 t.means.0 word t.means.1) ∙ sym t.means.2

  never_both : (d : DeclaredFile) (place : ℕ) (c : SourceCause) → IsSourceIn how name bytes d → HasFaultIn how bytes place c → ⊥
  never_both d place c s (HasFaultIn.too_large l) = let k = s.size in omega arith
  never_both d place c s (HasFaultIn.bad_utf8 l h) = h s.valid
  never_both d place c s (HasFaultIn.in_token l v f) = not_both bytes s.tokens place c s.lexed f
  never_both d place c s (HasFaultIn.in_syntax {ts} {ss} {k} l v a b f) =
      let same = same_symbols s.symbols ss (s.tokens, s.lexed, s.read) (ts, a, b) in
      file_no_fault how (symbols_alone ss) s.means.0 k c (subst (λ ss. file how all_rules s.means.0 (symbols_alone ss)) same s.means.1) f

  turned : {p q : ℕ} {c d : SourceCause} → (q ≡ p) × (d ≡ c) → (p ≡ q) × (c ≡ d)
  turned h = (sym h.0, sym h.1)

  same_fault : (p q : ℕ) (c d : SourceCause) → HasFaultIn how bytes p c → HasFaultIn how bytes q d → (p ≡ q) × (c ≡ d)
  same_fault p q c d (HasFaultIn.too_large l) g = turned (too_large_only how bytes l q d g)
  same_fault p q c d (HasFaultIn.bad_utf8 l h) g = turned (bad_utf8_only how bytes l h q d g)
  same_fault p q c d (HasFaultIn.in_token l v f) g = turned (token_only how bytes l v p c f q d g)
  same_fault p q c d (HasFaultIn.in_syntax {ts} l v a b f) (HasFaultIn.too_large k) = absurd (omega arith)
  same_fault p q c d (HasFaultIn.in_syntax {ts} l v a b f) (HasFaultIn.bad_utf8 k h) = absurd (h v)
  same_fault p q c d (HasFaultIn.in_syntax {ts} l v a b f) (HasFaultIn.in_token k u g) = absurd (not_both bytes ts q d a g)
  same_fault p q c d (HasFaultIn.in_syntax {ts} {ss} {k = j} l v a b f) (HasFaultIn.in_syntax {ts = us} {ss = ws} {k} m u x y g) =
      let same = same_symbols ss ws (ts, a, b) (us, x, y) in
      let both = one_syntax_fault how (symbols_alone ws) j k c d (subst (λ ss. SyntaxFaultIn how (symbols_alone ss) j c) same f) g in
      (ap (λ ss. place_in ss (length bytes) j) same ∙ ap (place_in ws (length bytes)) both.0, both.1)

  -- ---- always one of the two

  abbrev Answered : Type 0
  Answered = ((d : DeclaredFile) × IsSourceIn how name bytes d) ⊎ ((e : SourceFault) × HasFaultIn how bytes e.byte e.cause)

  by_file : length bytes ≤ 2 ^ 31 - 1 → IsUtf8 bytes → (ts : List PlacedToken) → AreTokens bytes ts → (ss : List PlacedSymbol) → AreSymbols ts ss
      → ((v : Read) × file how all_rules v (symbols_alone ss)) ⊎ ((k : ℕ) × (c : SourceCause) × SyntaxFaultIn how (symbols_alone ss) k c) → Answered
  by_file l u ts a ss b (inl (v, d)) =
      inl (file_of v.0 name v.1, record { size = l; valid = u; tokens = ts; lexed = a; symbols = ss; read = b; means = (v, d, refl) })
  by_file l u ts a ss b (inr (k, c, f)) = inr (fault (place_in ss (length bytes) k) c, HasFaultIn.in_syntax {ts = ts} {ss = ss} {k = k} l u a b f)

  by_tokens : length bytes ≤ 2 ^ 31 - 1 → IsUtf8 bytes → ((ts : List PlacedToken) × AreTokens bytes ts)
      ⊎ ((place : ℕ) × (c : SourceCause) × LexFault bytes place c) → Answered
  by_tokens l u (inl (ts, a)) = let s = some_symbols ts (tokens_meant bytes ts a) in by_file l u ts a s.0 s.1 (file_or_fault how (symbols_alone s.0))
  by_tokens l u (inr (place, c, f)) = inr (fault place c, HasFaultIn.in_token l u f)

  by_text : length bytes ≤ 2 ^ 31 - 1 → (b : Bool) → is_utf8 bytes ≡ b → Answered
  by_text l true h = by_tokens l (IsUtf8-from_is_utf8 bytes h) (tokens_or_fault bytes)
  by_text l false h = inr (fault (utf8_valid_len bytes) BadUtf8, HasFaultIn.bad_utf8 l (λ u. cc (sym (is_utf8-from_IsUtf8 bytes u) ∙ h)))

  by_size : (2 ^ 31 - 1 < length bytes) ⊎ (length bytes ≤ 2 ^ 31 - 1) → Answered
  by_size (inl l) = inr (fault (2 ^ 31 - 1) SourceTooLarge, HasFaultIn.too_large l)
  by_size (inr l) = by_text l (is_utf8 bytes) refl

  pub one_file_in : ExactlyOne (IsSourceIn how name bytes) (λ (e : SourceFault). HasFaultIn how bytes e.byte e.cause)
  one_file_in = record {
    either = by_size (cases_lt (2 ^ 31 - 1) (length bytes));
    not_both = λ d e s f. never_both d e.byte e.cause s f;
    one_meaning = one_declaration;
    one_fault = λ e g f h. same_told e g (same_fault e.byte g.byte e.cause g.cause f h);
  }

pub one_file : (name bytes : List ℕ) → ExactlyOne (IsSource name bytes) (λ (e : SourceFault). HasFault bytes e.byte e.cause)
one_file = one_file_in reading.Strict
