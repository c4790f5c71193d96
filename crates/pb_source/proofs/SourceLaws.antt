-- What the reader of files gives on the symbols of a source is the source's declaration or its fault, and nothing else is.
use Rattle.std.proofs.Common.{◌≡◌, ℕ, zero, suc, ◌^◌, ◌-◌, ◌<◌, ◌≤◌, List, [], ◌∷◌, length, drop, refl, ap, sym, ◌∙◌, subst, length-drop, take, Option, Ok, Err, arith, inl, inr, IsUtf8}
use Rattle.std.proofs.lemmas.Bool.{cases_lt}
use Rattle.std.proofs.lemmas.List.{length-map, take-append-drop}
use Rattle.std.specs.Str.Lossy.{utf8_valid_len}
use Rattle.pb_declarations.specs.Decls.{DeclaredFile}
use Rattle.pb_source.specs.declared.reading.Reading.{Reading}
use Rattle.pb_source_tokens.specs.declared.fault.SourceCause.{SourceCause}
use Rattle.pb_source_tokens.specs.declared.fault.SourceCause.TheVariants.{SourceTooLarge, BadUtf8, NotProto3}
use Rattle.pb_source_tokens.specs.declared.rule.Rule.{Rule}
use Rattle.pb_source_tokens.specs.declared.symbol.Placed.{Placed}
use Rattle.pb_source_tokens.specs.Tokens.{LexFault}
use Rattle.pb_source_tokens.specs.Symbols.{Symbol, PlacedSymbol}
use Rattle.pb_source_tokens.specs.SymbolView.{symbol_of, placed_of, symbols_of, HasSymbols}
use Rattle.pb_source_tokens.specs.Language.{all_rules, Begins}
use Rattle.pb_source_tokens.specs.Readers.Forms.{Outcome}
use Rattle.pb_source_tokens.specs.Readers.Given.{symbols_from}
use Rattle.pb_source_tokens.proofs.ToEnd.{always}
use Rattle.pb_source_tokens.proofs.OneLexing.{one_fault, not_both}
use Rattle.pb_source_tokens.proofs.OneReading.{one_source, no_symbols}
use Rattle.pb_source.specs.Meaning.{file_of}
use Rattle.pb_source.specs.Grammar.{file}
use Rattle.pb_source.specs.SyntaxFault.{Fault, SyntaxFaultIn}
use Rattle.pb_source.specs.Source.{symbols_alone, place_in, IsSourceIn, HasFaultIn}
use Rattle.pb_source.specs.Readers.Lines.{file_reader}
use Rattle.pb_source.specs.Readers.Reported.{cause_at}
use Rattle.pb_source.proofs.OneFile.{Read}
use Rattle.pb_source.proofs.FaultLemmas.{refused_so, only_so, words_read, read_words}
use Rattle.pb_source.proofs.FileLaws.{reads_file}

-- ---- symbols and their places

alone_is : (ps : List Placed) → symbols_alone (symbols_of ps) ≡ symbols_from ps 0
alone_is [] = refl
alone_is (p ∷ ps) = ap (λ ts. symbol_of p.symbol ∷ ts) (alone_is ps)

length_from : (ps : List Placed) (at : ℕ) → length (symbols_from ps at) ≡ length ps - at
length_from ps at = length-map (drop at ps) (λ p. symbol_of p.symbol) ∙ length-drop at ps

-- after the last symbol is the end
place_behind : (ss : List PlacedSymbol) (end k : ℕ) → length ss ≤ k → place_in ss end k ≡ end
place_behind [] end k l = refl
place_behind (s ∷ ss) end zero l = absurd (omega arith)
place_behind (s ∷ ss) end (suc k) l = place_behind ss end k (omega arith)

same_place : (ps : List Placed) (end at : ℕ) → place_in (symbols_of ps) end (length (symbols_from ps 0) - length (symbols_from ps at)) ≡ place_in (symbols_of ps) end at
same_place ps end at = by_order (length ps) (length-map ps placed_of) (length_from ps 0) (length_from ps at)
  where
    by_order : (n : ℕ) → length (symbols_of ps) ≡ n → length (symbols_from ps 0) ≡ n - 0 → length (symbols_from ps at) ≡ n - at
        → place_in (symbols_of ps) end (length (symbols_from ps 0) - length (symbols_from ps at)) ≡ place_in (symbols_of ps) end at
    by_order n a b c =
        elim (cases_lt at n) [
          | inl l ↦ ap (place_in (symbols_of ps) end) (let e : length (symbols_from ps 0) - length (symbols_from ps at) ≡ at = omega arith in e)
          | inr l ↦ place_behind (symbols_of ps) end (length (symbols_from ps 0) - length (symbols_from ps at)) (omega arith) ∙ sym (place_behind (symbols_of ps) end at (omega arith))
        ]

abbrev Bytes : Type 0
Bytes = List ℕ

-- a source has one list of symbols
same_symbols : (bytes : Bytes) (ps : List Placed) (ss : List PlacedSymbol) → HasSymbols bytes (symbols_of ps) → HasSymbols bytes ss → symbols_alone ss ≡ symbols_from ps 0
same_symbols bytes ps ss (ts, a, b) h = ap symbols_alone (sym (one_source bytes ts (symbols_of ps) ss a b h)) ∙ alone_is ps

-- ---- sources that are read

-- however far the reader may go, it reads these statements, and nothing is left
abbrev pub ReadsAll : (how : Reading) → List Placed → Read → Type 0
ReadsAll how ps ss = (n : ℕ) → length ps ≤ n → file_reader how n all_rules (symbols_from ps 0) ≡ Ok (ss, [])

-- or it refuses the symbol of this index
abbrev pub RefusesAt : (how : Reading) → List Placed → ℕ → Option Rule → Type 0
RefusesAt how ps at rule = (n : ℕ) → length ps ≤ n → file_reader how n all_rules (symbols_from ps 0) ≡ Err (symbols_from ps at, rule)

module _ (how : Reading) (bytes : Bytes) (size : length bytes ≤ 2 ^ 31 - 1) (valid : IsUtf8 bytes) (ps : List Placed) (has : HasSymbols bytes (symbols_of ps)) where
  enough : (n : ℕ) → length (symbols_from ps 0) ≤ n → length ps ≤ n
  enough n l = let e = length_from ps 0 in omega arith

  depth_left : length (symbols_from ps 0) ≤ length ps
  depth_left = let e = length_from ps 0 in omega arith

  pub is_source : (name : Bytes) (ss : Read) → ReadsAll how ps ss → IsSourceIn how name bytes (file_of ss.0 name ss.1)
  is_source name ss h = record {
    size = size;
    valid = valid;
    tokens = has.0;
    lexed = has.1;
    symbols = symbols_of ps;
    read = has.2;
    means = (
      ss,
      subst (file how all_rules ss) (sym (alone_is ps)) (read_words always (file how) (file_reader how) (reads_file how) (symbols_from ps 0) ss (length ps) depth_left (h (length ps) (omega arith))),
      refl,
    );
  }

  -- what a source means was read
  was_read : (name : Bytes) (d : DeclaredFile) → IsSourceIn how name bytes d → (ss : Read) × (file_reader how (length ps) all_rules (symbols_from ps 0) ≡ Ok (ss, [])) × (d ≡ file_of ss.0 name ss.1)
  was_read name d s =
      let e = same_symbols bytes ps s.symbols has (s.tokens, s.lexed, s.read) in
      (s.means.0, words_read always (file how) (file_reader how) (reads_file how) (symbols_from ps 0) s.means.0 (length ps) depth_left (subst (file how all_rules s.means.0) e s.means.1), s.means.2)

  pub only_source : (name : Bytes) (ss : Read) → ReadsAll how ps ss → (d : DeclaredFile) → IsSourceIn how name bytes d → d ≡ file_of ss.0 name ss.1
  only_source name ss h d s =
      let w = was_read name d s in
      let e : w.0 ≡ ss = same (w.1) (h (length ps) (omega arith)) in
      w.2 ∙ ap (λ x. file_of x.0 name x.1) e
    where
      same : {o : Outcome (Read)} {x y : Read} → o ≡ Ok (x, []) → o ≡ Ok (y, []) → x ≡ y
      same {o} {x} {y} h k = let e : ◌≡◌ {A = Read × List Symbol} (x, []) (y, []) = cc (h, k) in ap (λ z. z.0) e

  pub no_source : (name : Bytes) (at : ℕ) (rule : Option Rule) → RefusesAt how ps at rule → (d : DeclaredFile) → IsSourceIn how name bytes d → ⊥
  no_source name at rule h d s = let w = was_read name d s in apart w.1 (h (length ps) (omega arith))
    where
      apart : {o : Outcome (Read)} {x : Read × List Symbol} {y : List Symbol × Option Rule} → o ≡ Ok x → o ≡ Err y → ⊥
      apart h k = cc (h, k)

  -- ---- faults

  -- the fault of a source that has symbols is that of its symbols
  data InSymbols (place : ℕ) (c : SourceCause) : Type 0 where
    in_symbols : (k : ℕ) → place ≡ place_in (symbols_of ps) (length bytes) k → SyntaxFaultIn how (symbols_from ps 0) k c → InSymbols place c

  symbols_fault : (place : ℕ) (c : SourceCause) → HasFaultIn how bytes place c → InSymbols place c
  symbols_fault place c (HasFaultIn.too_large l) = absurd (omega arith)
  symbols_fault place c (HasFaultIn.bad_utf8 l h) = absurd (h valid)
  symbols_fault place c (HasFaultIn.in_token l v f) = absurd (no_symbols bytes place c (symbols_of ps) f has)
  symbols_fault place c (HasFaultIn.in_syntax {ts} {ss} {k} l v a b f) =
      let e : symbols_of ps ≡ ss = sym (one_source bytes ts ss (symbols_of ps) a b has) in
      InSymbols.in_symbols k (ap (λ ss. place_in ss (length bytes) k) (sym e)) (subst (λ ts. SyntaxFaultIn how ts k c) (same_symbols bytes ps ss has (ts, a, b)) f)

  no_end : (ss : Read) → ReadsAll how ps ss → ((v : Read) → ¬ (file how) all_rules v (symbols_from ps 0)) → ⊥
  no_end ss h none = none ss (read_words always (file how) (file_reader how) (reads_file how) (symbols_from ps 0) ss (length ps) depth_left (h (length ps) (omega arith)))

  -- what is read begins a file, with each of its symbols
  begins_all : (ss : Read) → ReadsAll how ps ss → (k : ℕ) → Begins (file how all_rules) (take k (symbols_from ps 0))
  begins_all ss h k = (
    ss,
    drop k (symbols_from ps 0),
    subst (file how all_rules ss) (sym (take-append-drop k (symbols_from ps 0)))
        (read_words always (file how) (file_reader how) (reads_file how) (symbols_from ps 0) ss (length ps) depth_left (h (length ps) (omega arith))),
  )

  no_syntax_fault : (ss : Read) → ReadsAll how ps ss → (k : ℕ) (c : SourceCause) → SyntaxFaultIn how (symbols_from ps 0) k c → ⊥
  no_syntax_fault ss h k c (Fault.no_symbols e none) = no_end ss h none
  no_syntax_fault ss h k c (Fault.at_end some b none) = no_end ss h none
  no_syntax_fault ss h k c (Fault.at_symbol l b never w) = never (begins_all ss h (suc k))

  pub no_fault : (ss : Read) → ReadsAll how ps ss → (place : ℕ) (c : SourceCause) → HasFaultIn how bytes place c → ⊥
  no_fault ss h place c f = on_symbols (symbols_fault place c f)
    where
      on_symbols : InSymbols place c → ⊥
      on_symbols (InSymbols.in_symbols k e g) = no_syntax_fault ss h k c g

  -- the refusal's fault, and no other
  pub syntax_fault : (at : ℕ) (rule : Option Rule) → RefusesAt how ps at rule → SyntaxFaultIn how (symbols_from ps 0) (length (symbols_from ps 0) - length (symbols_from ps at)) (cause_at ps rule)
  syntax_fault at rule h = by_symbols ps h
    where
      none_there : (at : ℕ) → RefusesAt how [] at rule → (v : Read) → ¬ (file how) all_rules v []
      none_there at h v d = apart (words_read always (file how) (file_reader how) (reads_file how) [] v 0 (omega arith) d) (h 0 (omega arith))
        where
          apart : {o : Outcome Read} {x : Read × List Symbol} {y : List Symbol × Option Rule} → o ≡ Ok x → o ≡ Err y → ⊥
          apart h k = cc (h, k)

      by_symbols : (qs : List Placed) → RefusesAt how qs at rule → SyntaxFaultIn how (symbols_from qs 0) (length (symbols_from qs 0) - length (symbols_from qs at)) (cause_at qs rule)
      by_symbols [] h = subst (λ k. SyntaxFaultIn how [] k NotProto3) (let e = length_from [] at in omega arith) (Fault.no_symbols refl (none_there at h))
      by_symbols (q ∷ qs) h =
          refused_so always (file how) (file_reader how) (reads_file how) (symbols_from (q ∷ qs) 0) (symbols_from (q ∷ qs) at) rule (λ e. cc e)
          (λ n l. h n (let e = length_from (q ∷ qs) 0 in omega arith))

  pub only_syntax_fault : (at : ℕ) (rule : Option Rule) → RefusesAt how ps at rule → (k : ℕ) (c : SourceCause) → SyntaxFaultIn how (symbols_from ps 0) k c
      → (k ≡ length (symbols_from ps 0) - length (symbols_from ps at)) × (c ≡ cause_at ps rule)
  only_syntax_fault at rule h k c f = by_symbols ps h f
    where
      no_symbols_so : (k : ℕ) (c : SourceCause) → SyntaxFaultIn how [] k c → (k ≡ 0) × (c ≡ NotProto3)
      no_symbols_so k c (Fault.no_symbols e none) = (refl, refl)
      no_symbols_so k c (Fault.at_end some b none) = absurd (some refl)
      no_symbols_so k c (Fault.at_symbol l b never w) = absurd (omega arith)

      by_symbols : (qs : List Placed) → RefusesAt how qs at rule → SyntaxFaultIn how (symbols_from qs 0) k c → (k ≡ length (symbols_from qs 0) - length (symbols_from qs at)) × (c ≡ cause_at qs rule)
      by_symbols [] h f = let x = no_symbols_so k c f in let e = length_from [] at in (let y = x.0 in omega arith, x.1)
      by_symbols (q ∷ qs) h f =
          only_so always (file how) (file_reader how) (reads_file how) (symbols_from (q ∷ qs) 0) (symbols_from (q ∷ qs) at) rule k c (λ e. cc e)
          (λ n l. h n (let e = length_from (q ∷ qs) 0 in omega arith)) f

  pub has_fault : (at : ℕ) (rule : Option Rule) → RefusesAt how ps at rule → HasFaultIn how bytes (place_in (symbols_of ps) (length bytes) at) (cause_at ps rule)
  has_fault at rule h =
      subst (λ place. HasFaultIn how bytes place (cause_at ps rule)) (same_place ps (length bytes) at)
      (HasFaultIn.in_syntax {ts = has.0} {ss = symbols_of ps} size valid has.1 has.2
      (subst (λ ts. SyntaxFaultIn how ts (length (symbols_from ps 0) - length (symbols_from ps at)) (cause_at ps rule)) (sym (alone_is ps)) (syntax_fault at rule h)))

  pub only_fault : (at : ℕ) (rule : Option Rule) → RefusesAt how ps at rule → (place : ℕ) (c : SourceCause) → HasFaultIn how bytes place c
      → (place ≡ place_in (symbols_of ps) (length bytes) at) × (c ≡ cause_at ps rule)
  only_fault at rule h place c f = on_symbols (symbols_fault place c f)
    where
      on_symbols : InSymbols place c → (place ≡ place_in (symbols_of ps) (length bytes) at) × (c ≡ cause_at ps rule)
      on_symbols (InSymbols.in_symbols k e g) =
          let x = only_syntax_fault at rule h k c g in
          (e ∙ ap (place_in (symbols_of ps) (length bytes)) x.0 ∙ same_place ps (length bytes) at, x.1)

-- ---- sources without symbols

module _ (how : Reading) (bytes : Bytes) where
  pub too_large_no_source : 2 ^ 31 - 1 < length bytes → (name : Bytes) (d : DeclaredFile) → IsSourceIn how name bytes d → ⊥
  too_large_no_source l name d s = let k = s.size in omega arith

  pub too_large_only : 2 ^ 31 - 1 < length bytes → (place : ℕ) (c : SourceCause) → HasFaultIn how bytes place c
      → (place ≡ 2 ^ 31 - 1) × (c ≡ SourceTooLarge)
  too_large_only l place c (HasFaultIn.too_large k) = (refl, refl)
  too_large_only l place c (HasFaultIn.bad_utf8 k h) = absurd (omega arith)
  too_large_only l place c (HasFaultIn.in_token k v f) = absurd (omega arith)
  too_large_only l place c (HasFaultIn.in_syntax k v a b f) = absurd (omega arith)

  pub bad_utf8_no_source : ¬ IsUtf8 bytes → (name : Bytes) (d : DeclaredFile) → IsSourceIn how name bytes d → ⊥
  bad_utf8_no_source h name d s = h s.valid

  pub bad_utf8_only : length bytes ≤ 2 ^ 31 - 1 → ¬ IsUtf8 bytes → (place : ℕ) (c : SourceCause) → HasFaultIn how bytes place c
      → (place ≡ utf8_valid_len bytes) × (c ≡ BadUtf8)
  bad_utf8_only l h place c (HasFaultIn.too_large k) = absurd (omega arith)
  bad_utf8_only l h place c (HasFaultIn.bad_utf8 k i) = (refl, refl)
  bad_utf8_only l h place c (HasFaultIn.in_token k v f) = absurd (h v)
  bad_utf8_only l h place c (HasFaultIn.in_syntax k v a b f) = absurd (h v)

  pub token_no_source : (at : ℕ) (why : SourceCause) → LexFault bytes at why → (name : Bytes) (d : DeclaredFile) → IsSourceIn how name bytes d → ⊥
  token_no_source at why f name d s = not_both bytes s.tokens at why s.lexed f

  pub token_only : length bytes ≤ 2 ^ 31 - 1 → IsUtf8 bytes → (at : ℕ) (why : SourceCause) → LexFault bytes at why → (place : ℕ) (c : SourceCause) → HasFaultIn how bytes place c → (place ≡ at) × (c ≡ why)
  token_only l u at why g place c (HasFaultIn.too_large k) = absurd (omega arith)
  token_only l u at why g place c (HasFaultIn.bad_utf8 k h) = absurd (h u)
  token_only l u at why g place c (HasFaultIn.in_token k v f) = one_fault bytes place at c why f g
  token_only l u at why g place c (HasFaultIn.in_syntax {ts} k v a b f) = absurd (not_both bytes ts at why a g)
