-- Tokens have one list of symbols.
use Rattle.std.proofs.Common.{◌≡◌, ◌≢◌, ℕ, List, [], ◌∷◌, ◌++◌, Bool, true, false, refl, ap, sym, ◌∙◌, subst, append-nil}
use Rattle.std.specs.Prelude.{if◌then◌else◌}
use Rattle.pb_source_tokens.specs.Tokens.{PlacedToken, AreTokens, LexFault}
use Rattle.pb_source_tokens.specs.Texts.{text_meaning}
use Rattle.pb_source_tokens.specs.Symbols.{Symbol, word, number, text, sign, PlacedSymbol, Means, Joined, BeginsNoText, AreSymbols}
use Rattle.pb_source_tokens.specs.SymbolView.{HasSymbols}
use Rattle.pb_source_tokens.specs.declared.fault.SourceCause.{SourceCause}
use Rattle.pb_source_tokens.specs.declared.token.TokenKind.{TokenKind}
use Rattle.pb_source_tokens.specs.declared.token.TokenKind.TheVariants.{Word, Number, Text, Sign}
use Rattle.pb_source_tokens.proofs.OneLexing.{one_list, not_both}
use Rattle.pb_source_tokens.proofs.TextMeaning.{token_means}

abbrev is_text : TokenKind → Bool
is_text Word = false
is_text Number = false
is_text Text = true
is_text Sign = false

abbrev begins_text : List PlacedToken → Bool
begins_text [] = false
begins_text (t ∷ ts) = is_text t.kind

no_text : (k : TokenKind) → k ≢ Text → is_text k ≡ false
no_text Word h = refl
no_text Number h = refl
no_text Text h = absurd (h refl)
no_text Sign h = refl

begins_none : (ts : List PlacedToken) → BeginsNoText ts → begins_text ts ≡ false
begins_none [] h = refl
begins_none (t ∷ ts) h = no_text t.kind h

abbrev placed : ℕ → Symbol → PlacedSymbol
placed at s = record { at = at; symbol = s }

-- the bytes before those that a first symbol means
abbrev with_text : ℕ → List ℕ → Symbol → Symbol
with_text at m (word v) = word v
with_text at m (number v) = number v
with_text at m (text v) = text (m ++ v)
with_text at m (sign v) = sign v

abbrev joined_to : ℕ → List ℕ → List PlacedSymbol → List PlacedSymbol
joined_to at m [] = []
joined_to at m (p ∷ ps) = placed at (with_text at m p.symbol) ∷ ps

abbrev of_kind : TokenKind → PlacedToken → Bool → List PlacedSymbol → List PlacedSymbol
of_kind Word t b ss = placed t.at (word t.text) ∷ ss
of_kind Number t b ss = placed t.at (number t.text) ∷ ss
of_kind Text t b ss = if◌then◌else◌ b (joined_to t.at (text_meaning t.text) ss) (placed t.at (text (text_meaning t.text)) ∷ ss)
of_kind Sign t b ss = placed t.at (sign t.text) ∷ ss

-- the symbols of tokens
abbrev pub read_symbols : List PlacedToken → List PlacedSymbol
read_symbols [] = []
read_symbols (t ∷ ts) = of_kind t.kind t (begins_text ts) (read_symbols ts)

texts_so : (t : PlacedToken) (run ts : List PlacedToken) (vs : List ℕ) (ss : List PlacedSymbol) → Joined (t ∷ run) vs → BeginsNoText ts → read_symbols ts ≡ ss → read_symbols (t ∷ run ++ ts) ≡ placed t.at (text vs) ∷ ss
texts_so t [] ts vs ss (xs, ys, m, j, e) h s =
    ap (λ k. of_kind k t (begins_text ts) (read_symbols ts)) m.0 ∙ ap (λ b. of_kind Text t b (read_symbols ts)) (begins_none ts h) ∙ ap (λ x. placed t.at (text x) ∷ read_symbols ts) (whole m) ∙ ap (λ s. placed t.at (text vs) ∷ s) s
  where
    whole : Means t xs → text_meaning t.text ≡ vs
    whole m = token_means t xs m ∙ sym (e ∙ ap (λ y. xs ++ y) j ∙ append-nil xs)
texts_so t (u ∷ run) ts vs ss (xs, ys, m, j, e) h s =
    let rest = texts_so u run ts ys ss j h s in
    ap (λ k. of_kind k t (is_text u.kind) (read_symbols (u ∷ run ++ ts))) m.0 ∙ ap (λ k. of_kind Text t (is_text k) (read_symbols (u ∷ run ++ ts))) (first_kind j) ∙ ap (joined_to t.at (text_meaning t.text)) rest
    ∙ ap (λ x. placed t.at (text (x ++ ys)) ∷ ss) (token_means t xs m) ∙ ap (λ x. placed t.at (text x) ∷ ss) (sym e)
  where
    first_kind : Joined (u ∷ run) ys → u.kind ≡ Text
    first_kind (a, b, n, k, f) = n.0

pub symbols_so : {ts : List PlacedToken} {ss : List PlacedSymbol} → AreSymbols ts ss → read_symbols ts ≡ ss
symbols_so (AreSymbols.none) = refl
symbols_so (AreSymbols.a_word {t} {ts} {ss} k r) = ap (λ k. of_kind k t (begins_text ts) (read_symbols ts)) k ∙ ap (λ s. placed t.at (word t.text) ∷ s) (symbols_so r)
symbols_so (AreSymbols.a_number {t} {ts} {ss} k r) = ap (λ k. of_kind k t (begins_text ts) (read_symbols ts)) k ∙ ap (λ s. placed t.at (number t.text) ∷ s) (symbols_so r)
symbols_so (AreSymbols.a_sign {t} {ts} {ss} k r) = ap (λ k. of_kind k t (begins_text ts) (read_symbols ts)) k ∙ ap (λ s. placed t.at (sign t.text) ∷ s) (symbols_so r)
symbols_so (AreSymbols.texts {t} run ts {all} {ss} {vs} j h r e) = ap read_symbols e ∙ texts_so t run ts vs ss j h (symbols_so r)

-- the symbols of tokens are one list
pub one_reading : (ts : List PlacedToken) (ss us : List PlacedSymbol) → AreSymbols ts ss → AreSymbols ts us → ss ≡ us
one_reading ts ss us a b = sym (symbols_so a) ∙ symbols_so b

pub one_source : (source : List ℕ) (ts : List PlacedToken) (ss us : List PlacedSymbol) → AreTokens source ts → AreSymbols ts ss → HasSymbols source us → ss ≡ us
one_source source ts ss us a b (vs, c, d) = one_reading ts ss us b (subst (λ vs. AreSymbols vs us) (one_list source vs ts c a) d)

pub no_symbols : (source : List ℕ) (place : ℕ) (cause : SourceCause) (us : List PlacedSymbol) → LexFault source place cause → HasSymbols source us → ⊥
no_symbols source place cause us h (vs, c, d) = not_both source vs place cause c h
