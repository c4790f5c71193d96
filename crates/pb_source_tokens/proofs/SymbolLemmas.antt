-- Tokens are turned into symbols one after another.
use Rattle.std.proofs.Common.{◌≡◌, ◌≢◌, ℕ, zero, suc, ◌+◌, ◌<◌, ◌≤◌, List, [], ◌∷◌, ◌++◌, length, take, drop, Bool, refl, ap, sym, ◌∙◌, subst, arith, inl, inr, append_assoc, append-nil, take-append-drop, All}
use Rattle.std.specs.Char.{is_digit}
use Rattle.std.proofs.Common.{get_or, ◌-◌, length-drop, drop-drop}
use Rattle.std.proofs.lemmas.List.{take_all, take_more, drop_more, drop_all, drop-map, get_or-map, map_push, length-map}
use Rattle.std.proofs.lemmas.List.Elements.{All-nil, All-cons, All-drop}
use Rattle.pb_source_tokens.specs.Tokens.{PlacedToken, Lexes, Spelled, Escape, Units, Stops, AreTokens}
use Rattle.pb_source_tokens.specs.Texts.{text_meaning}
use Rattle.pb_source_tokens.specs.Symbols.{PlacedSymbol, Means, Joined, BeginsNoText, AreSymbols, IsMeant, word, number, text, sign}
use Rattle.pb_source_tokens.specs.TokenView.{token_of, tokens_of}
use Rattle.pb_source_tokens.specs.SymbolView.{placed_of, symbols_of}
use Rattle.pb_source_tokens.specs.declared.token.Token.{Token as CodeToken}
use Rattle.pb_source_tokens.specs.declared.symbol.Placed.{Placed}
use Rattle.pb_source_tokens.specs.declared.token.TokenKind.{TokenKind}
use Rattle.pb_source_tokens.specs.declared.token.TokenKind.TheVariants.{Word, Number, Text, Sign}
use Rattle.pb_source_tokens.proofs.TextMeaning.{token_means}

-- ---- texts in a row

joined_push : (ts : List PlacedToken) (t : PlacedToken) (vs xs : List ℕ) → Joined ts vs → Means t xs → Joined (ts ++ t ∷ []) (vs ++ xs)
joined_push [] t vs xs j m = (xs, [], m, refl, ap (λ v. v ++ xs) j ∙ sym (append-nil xs))
joined_push (u ∷ ts) t vs xs (ws, bs, n, j, e) m = (ws, bs ++ xs, n, joined_push ts t bs xs j m, ap (λ v. v ++ xs) e ∙ append_assoc ws bs xs)

-- a text that is meant joins those before it, by the bytes that the code appends
pub joined_next : (ts : List PlacedToken) (t : PlacedToken) (vs new : List ℕ) → Joined ts vs → IsMeant t → t.kind ≡ Text → new ≡ vs ++ text_meaning t.text → Joined (ts ++ t ∷ []) new
joined_next ts t vs new j meant k e =
    let m = meant k in
    subst (Joined (ts ++ t ∷ [])) (sym (e ∙ ap (λ x. vs ++ x) (token_means t m.0 m.1))) (joined_push ts t vs m.0 j m.1)

-- ---- a symbol of texts

pub texts_symbol : (t : PlacedToken) (ts : List PlacedToken) (n : ℕ) (vs : List ℕ) → t.kind ≡ Text → Joined (take n (t ∷ ts)) vs → BeginsNoText (drop n (t ∷ ts))
    → (0 < n) × ((ss : List PlacedSymbol) → AreSymbols (drop n (t ∷ ts)) ss → AreSymbols (t ∷ ts) (record { at = t.at; symbol = text vs } ∷ ss))
texts_symbol t ts zero vs k j b = absurd (b k)
texts_symbol t ts (suc n) vs k j b = (omega arith, λ ss r. AreSymbols.texts (take n ts) (drop n ts) j b r (ap (λ r. t ∷ r) (sym (take-append-drop n ts))))

-- ---- the texts among tokens mean something

-- what comes after the quote of a text plays no part
stops_cut : (test : ℕ → Bool) (cs : List ℕ) (c : ℕ) (x y : List ℕ) → Stops test (cs ++ c ∷ x) → Stops test (cs ++ c ∷ y)
stops_cut test [] c x y h = h
stops_cut test (d ∷ cs) c x y h = h

escape_cut : {e v : List ℕ} (cs : List ℕ) (c : ℕ) (x y : List ℕ) → Escape e v (cs ++ c ∷ x) → Escape e v (cs ++ c ∷ y)
escape_cut cs c x y (Escape.short h) = Escape.short h
escape_cut cs c x y (Escape.hexadecimal h a (inl l)) = Escape.hexadecimal h a (inl l)
escape_cut cs c x y (Escape.hexadecimal h a (inr (l, s))) = Escape.hexadecimal h a (inr (l, stops_cut (λ c. is_digit c 16) cs c x y s))
escape_cut cs c x y (Escape.octal a (inl l)) = Escape.octal a (inl l)
escape_cut cs c x y (Escape.octal a (inr (l, m, s))) = Escape.octal a (inr (l, m, stops_cut (λ c. is_digit c 8) cs c x y s))
escape_cut cs c x y (Escape.unicode h a s) = Escape.unicode h a s

units_cut : {quote c : ℕ} {front vs rest x : List ℕ} → Units quote front vs rest → rest ≡ c ∷ x → (y : List ℕ) → Units quote front vs (c ∷ y)
units_cut Units.none e y = Units.none
units_cut (Units.plain p u) e y = Units.plain p (units_cut u e y)
units_cut {c = c} {x = x} (Units.escape {e = w} {v} {cs} h u j) e y = Units.escape {e = w} (escape_cut cs c x y (subst (λ r. Escape w v (cs ++ r)) e h)) (units_cut u e y) j

spelled_meant : (t : PlacedToken) {bs : List ℕ} → Spelled t.kind t.text bs → IsMeant t
spelled_meant t {bs} s k = by_kind (subst (λ kind. Spelled kind t.text bs) k s) refl
  where
    by_kind : {ts bs : List ℕ} → Spelled Text ts bs → ts ≡ t.text → (vs : List ℕ) × Means t vs
    by_kind (Spelled.a_text {quote} {cs} {vs} q u j) e = (vs, (k, quote, cs, q, sym e ∙ j, units_cut u refl []))

lexes_meant : {x y : ℕ} {bs rest : List ℕ} {ts : List PlacedToken} → Lexes x bs ts y rest → All IsMeant ts
lexes_meant Lexes.done = All-nil IsMeant
lexes_meant (Lexes.blank b g) = lexes_meant g
lexes_meant (Lexes.comment d g j) = lexes_meant g
lexes_meant (Lexes.token {x} {y} {k} {t} {bs} {cs} {rest} {ts} d g j) = All-cons IsMeant (record { kind = k; at = x; text = t }) ts (spelled_meant (record { kind = k; at = x; text = t }) d) (lexes_meant g)

pub tokens_meant : (bs : List ℕ) (ts : List PlacedToken) → AreTokens bs ts → All IsMeant ts
tokens_meant bs ts (y, g) = lexes_meant g

-- ---- steps of the code

pub text_kind : (k : TokenKind) → k ≢ Word → k ≢ Number → k ≢ Sign → k ≡ Text
text_kind Word a b d = absurd (a refl)
text_kind Number a b d = absurd (b refl)
text_kind Text a b d = refl
text_kind Sign a b d = absurd (d refl)

pub stops_there : (tokens : List CodeToken) (n : ℕ) (d : CodeToken) → n < length tokens → (get_or tokens n d).kind ≢ Text → BeginsNoText (drop n (tokens_of tokens))
stops_there tokens n d l h = subst BeginsNoText (sym (drop-map token_of n tokens ∙ ap tokens_of (drop_more tokens n d l))) h

pub texts_on : (tokens : List CodeToken) (n : ℕ) (d : CodeToken) (vs new : List ℕ) → n < length tokens → All IsMeant (tokens_of tokens) → (get_or tokens n d).kind ≡ Text
    → Joined (take n (tokens_of tokens)) vs → new ≡ vs ++ text_meaning (get_or tokens n d).text.now → Joined (take (n + 1) (tokens_of tokens)) new
texts_on tokens n d vs new l m k j e =
    let t = token_of (get_or tokens n d) in
    let all = tokens_of tokens in
    let room : n < length all = subst (λ m. n < m) (sym (length-map tokens token_of)) l in
    let here : get_or all n t ≡ t = get_or-map token_of tokens n d t l in
    let more : take (n + 1) all ≡ take n all ++ t ∷ [] = take_more all n t room ∙ ap (λ u. take n all ++ u ∷ []) here in
    subst (λ ts. Joined ts new) (sym more) (joined_next (take n all) t vs new j (subst IsMeant here (m n t room)) k e)

pub word_first : (tokens : List CodeToken) (d : CodeToken) (ss : List PlacedSymbol) → 0 < length tokens → (get_or tokens 0 d).kind ≡ Word → AreSymbols (drop 1 (tokens_of tokens)) ss
    → AreSymbols (tokens_of tokens) (record { at = (get_or tokens 0 d).at; symbol = word (get_or tokens 0 d).text.now } ∷ ss)
word_first [] d ss l k r = absurd (omega arith)
word_first (t ∷ ts) d ss l k r = AreSymbols.a_word k r

pub number_first : (tokens : List CodeToken) (d : CodeToken) (ss : List PlacedSymbol) → 0 < length tokens → (get_or tokens 0 d).kind ≡ Number → AreSymbols (drop 1 (tokens_of tokens)) ss
    → AreSymbols (tokens_of tokens) (record { at = (get_or tokens 0 d).at; symbol = number (get_or tokens 0 d).text.now } ∷ ss)
number_first [] d ss l k r = absurd (omega arith)
number_first (t ∷ ts) d ss l k r = AreSymbols.a_number k r

pub sign_first : (tokens : List CodeToken) (d : CodeToken) (ss : List PlacedSymbol) → 0 < length tokens → (get_or tokens 0 d).kind ≡ Sign → AreSymbols (drop 1 (tokens_of tokens)) ss
    → AreSymbols (tokens_of tokens) (record { at = (get_or tokens 0 d).at; symbol = sign (get_or tokens 0 d).text.now } ∷ ss)
sign_first [] d ss l k r = absurd (omega arith)
sign_first (t ∷ ts) d ss l k r = AreSymbols.a_sign k r

pub texts_first : (tokens : List CodeToken) (d : CodeToken) (n : ℕ) (vs : List ℕ) (ss : List PlacedSymbol) → 0 < length tokens → (get_or tokens 0 d).kind ≡ Text
    → Joined (take n (tokens_of tokens)) vs → BeginsNoText (drop n (tokens_of tokens)) → AreSymbols (drop n (tokens_of tokens)) ss
    → AreSymbols (tokens_of tokens) (record { at = (get_or tokens 0 d).at; symbol = text vs } ∷ ss)
texts_first [] d n vs ss l k j b r = absurd (omega arith)
texts_first (t ∷ ts) d n vs ss l k j b r = (texts_symbol (token_of t) (tokens_of ts) n vs k j b).1 ss r

-- what `&tokens[at..]` is
rest_is : (tokens : List CodeToken) (at : ℕ) → take (length tokens - at) (drop at tokens) ≡ drop at tokens
rest_is tokens at = take_all (length tokens - at) (drop at tokens) (let e = length-drop at tokens in omega arith)

rest_tokens : (tokens : List CodeToken) (at : ℕ) → tokens_of (take (length tokens - at) (drop at tokens)) ≡ drop at (tokens_of tokens)
rest_tokens tokens at = ap tokens_of (rest_is tokens at) ∙ sym (drop-map token_of at tokens)

pub rest_meant : (tokens : List CodeToken) (at : ℕ) → All IsMeant (tokens_of tokens) → All IsMeant (tokens_of (take (length tokens - at) (drop at tokens)))
rest_meant tokens at m = subst (All IsMeant) (sym (rest_tokens tokens at)) (All-drop IsMeant at (tokens_of tokens) m)

pub rest_room : (tokens : List CodeToken) (at n : ℕ) → at ≤ length tokens → n ≤ length (take (length tokens - at) (drop at tokens)) → at + n ≤ length tokens
rest_room tokens at n l h = let e = ap length (rest_is tokens at) ∙ length-drop at tokens in omega arith

-- the symbols before an index, with those from there on, are those of the tokens
abbrev pub ReadsTo : List CodeToken → ℕ → List Placed → Type 0
ReadsTo tokens at before = (ss : List PlacedSymbol) → AreSymbols (drop at (tokens_of tokens)) ss → AreSymbols (tokens_of tokens) (symbols_of before ++ ss)

pub symbols_on : (tokens : List CodeToken) (at n : ℕ) (before new : List Placed) (p : Placed) → new ≡ before ++ p ∷ [] → ReadsTo tokens at before
    → ((ss : List PlacedSymbol) → AreSymbols (drop n (tokens_of (take (length tokens - at) (drop at tokens)))) ss → AreSymbols (tokens_of (take (length tokens - at) (drop at tokens))) (placed_of p ∷ ss))
    → ReadsTo tokens (at + n) new
symbols_on tokens at n before new p e f g ss r =
    let all = tokens_of tokens in
    let h = subst (λ ts. (ss : List PlacedSymbol) → AreSymbols (drop n ts) ss → AreSymbols ts (placed_of p ∷ ss)) (rest_tokens tokens at) g in
    let one = h ss (subst (λ ts. AreSymbols ts ss) (sym (drop-drop n at all)) r) in
    subst (AreSymbols all) (sym (append_assoc (symbols_of before) (placed_of p ∷ []) ss) ∙ ap (λ x. x ++ ss) (sym (map_push placed_of before p) ∙ ap symbols_of (sym e))) (f (placed_of p ∷ ss) one)

pub symbols_end : (tokens : List CodeToken) (at : ℕ) (before : List Placed) → length tokens ≤ at → ReadsTo tokens at before → AreSymbols (tokens_of tokens) (symbols_of before)
symbols_end tokens at before l f =
    subst (AreSymbols (tokens_of tokens)) (append-nil (symbols_of before))
    (f [] (subst (λ ts. AreSymbols ts []) (sym (drop-map token_of at tokens ∙ ap tokens_of (drop_all at tokens l))) AreSymbols.none))
