-- Tokens have symbols.
use Rattle.std.proofs.Common.{◌≡◌, ◌≢◌, ℕ, List, [], ◌∷◌, ◌++◌, refl, ap, All}
use Rattle.std.proofs.lemmas.List.Elements.{All-head, All-tail}
use Rattle.pb_source_tokens.specs.Tokens.{PlacedToken}
use Rattle.pb_source_tokens.specs.Symbols.{PlacedSymbol, Joined, BeginsNoText, AreSymbols, IsMeant}
use Rattle.pb_source_tokens.specs.declared.token.TokenKind.{TokenKind}
use Rattle.pb_source_tokens.specs.declared.token.TokenKind.TheVariants.{Word, Number, Text, Sign}

abbrev HaveSymbols : List PlacedToken → Type 0
HaveSymbols ts = (ss : List PlacedSymbol) × AreSymbols ts ss

-- the texts at the front, joined, and the rest, which has symbols
record Texts (ts : List PlacedToken) : Type 0 where
  run : List PlacedToken
  rest : List PlacedToken
  joined : ts ≡ run ++ rest
  bytes : List ℕ
  meant : Joined run bytes
  stops : BeginsNoText rest
  symbols : List PlacedSymbol
  read : AreSymbols rest symbols

-- the tokens have symbols, and so has what comes after the texts at their front
abbrev Read : List PlacedToken → Type 0
Read ts = HaveSymbols ts × Texts ts

no_texts : (t : PlacedToken) (ts : List PlacedToken) → t.kind ≢ Text → HaveSymbols (t ∷ ts) → Read (t ∷ ts)
no_texts t ts other h = (h, record { run = []; rest = t ∷ ts; joined = refl; bytes = []; meant = refl; stops = other; symbols = h.0; read = h.1 })

one_more : (t : PlacedToken) (ts : List PlacedToken) → IsMeant t → Read ts → (k : TokenKind) → t.kind ≡ k → Read (t ∷ ts)
one_more t ts h later Word e = no_texts t ts (λ z. cc (e, z)) (_, AreSymbols.a_word e later.0.1)
one_more t ts h later Number e = no_texts t ts (λ z. cc (e, z)) (_, AreSymbols.a_number e later.0.1)
one_more t ts h later Sign e = no_texts t ts (λ z. cc (e, z)) (_, AreSymbols.a_sign e later.0.1)
one_more t ts h later Text e =
    let r = later.1 in
    let m = h e in
    let meant : Joined (t ∷ r.run) (m.0 ++ r.bytes) = (m.0, r.bytes, m.1, r.meant, refl) in (
      (_, AreSymbols.texts {t = t} r.run r.rest {all = t ∷ ts} {ss = r.symbols} {vs = m.0 ++ r.bytes} meant r.stops r.read (ap (λ x. t ∷ x) r.joined)),
      record {
        run = t ∷ r.run;
        rest = r.rest;
        joined = ap (λ x. t ∷ x) r.joined;
        bytes = m.0 ++ r.bytes;
        meant = meant;
        stops = r.stops;
        symbols = r.symbols;
        read = r.read;
      },
    )

read_all : (ts : List PlacedToken) → All IsMeant ts → Read ts
read_all [] h = (
  ([], AreSymbols.none),
  record { run = []; rest = []; joined = refl; bytes = []; meant = refl; stops = tt; symbols = []; read = AreSymbols.none },
)
read_all (t ∷ ts) h = one_more t ts (All-head IsMeant t ts h) (read_all ts (All-tail IsMeant t ts h)) t.kind refl

pub some_symbols : (ts : List PlacedToken) → All IsMeant ts → (ss : List PlacedSymbol) × AreSymbols ts ss
some_symbols ts h = let r = read_all ts h in r.0
