-- Tokens, one piece after another.
use Rattle.std.proofs.Common.{◌≡◌, ℕ, ◌+◌, ◌-◌, ◌≤◌, List, [], ◌∷◌, ◌++◌, length, take, drop, Result, Ok, Err, refl, ap, sym, ◌∙◌, subst, append_assoc, append-nil, drop-drop, drop_of_length-le}
use Rattle.pb_text_tokens.specs.Tokens.{Begins, ByFirst, Lexes, Lexed, PlacedToken, fault_at, placed, quoted_by, with_token}
use Rattle.pb_text_tokens.specs.Characters.{first_of}
use Rattle.pb_text_tokens.specs.Strings.{Inside, later, stopped}
use Rattle.pb_text_tokens.specs.declared.bytes.First.{First}
use Rattle.pb_text_tokens.specs.declared.bytes.First.TheVariants as first
use Rattle.pb_text_tokens.specs.declared.lexing.Piece.{Piece}
use Rattle.pb_text_tokens.specs.declared.lexing.Piece.TheVariants.{Gap, Token}
use Rattle.pb_text_tokens.specs.declared.lexing.PieceFault.{PieceFault}
use Rattle.pb_text_tokens.specs.declared.token.TokenKind.{TokenKind}
use Rattle.pb_text_tokens.proofs.StringLemmas.{tail_at}

-- ---- the loop

-- tokens before what follows
abbrev pub before : List PlacedToken → Lexed → Lexed
before ts (Ok us) = Ok (ts ++ us)
before ts (Err e) = Err e

abbrev pub ReachesToken : List ℕ → ℕ → List PlacedToken → Type 0
ReachesToken bs at ts = (o : Lexed) → Lexes at (drop at bs) o → Lexes 0 bs (before ts o)

before_none : (o : Lexed) → before [] o ≡ o
before_none (Ok us) = refl
before_none (Err e) = refl

before_token : (ts : List PlacedToken) (t : PlacedToken) (o : Lexed) → before ts (with_token t o) ≡ before (ts ++ t ∷ []) o
before_token ts t (Ok us) = ap Ok (sym (append_assoc ts (t ∷ []) us))
before_token ts t (Err e) = refl

pub begin_tokens : (bs : List ℕ) → ReachesToken bs 0 []
begin_tokens bs o h = subst (Lexes 0 bs) (sym (before_none o)) h

pub gap_on : (bs : List ℕ) (at n : ℕ) (ts : List PlacedToken) → ReachesToken bs at ts → Begins (take (length bs - at) (drop at bs)) (Ok (Gap n)) → ReachesToken bs (at + n) ts
gap_on bs at n ts f b o h =
    f o (Lexes.gap n (subst (λ r. Begins r (Ok (Gap n))) (tail_at bs at) b) (subst (λ r. Lexes (at + n) r o) (sym (drop-drop n at bs)) h))

pub token_on : (bs : List ℕ) (at n : ℕ) (k : TokenKind) (ts : List PlacedToken) → ReachesToken bs at ts → Begins (take (length bs - at) (drop at bs)) (Ok (Token k n))
    → ReachesToken bs (at + n) (ts ++ placed k at (take n (drop at bs)) ∷ [])
token_on bs at n k ts f b o h =
    subst (Lexes 0 bs) (before_token ts (placed k at (take n (drop at bs))) o)
    (f (with_token (placed k at (take n (drop at bs))) o)
    (Lexes.token k n (subst (λ r. Begins r (Ok (Token k n))) (tail_at bs at) b) (subst (λ r. Lexes (at + n) r o) (sym (drop-drop n at bs)) h) refl))

pub fault_there : (bs : List ℕ) (at : ℕ) (e : PieceFault) (ts : List PlacedToken) → ReachesToken bs at ts → Begins (take (length bs - at) (drop at bs)) (Err e)
    → Lexes 0 bs (Err (fault_at at e))
fault_there bs at e ts f b = f (Err (fault_at at e)) (Lexes.fault e (subst (λ r. Begins r (Err e)) (tail_at bs at) b) refl)

pub all_read : (bs : List ℕ) (at : ℕ) (ts : List PlacedToken) → length bs ≤ at → ReachesToken bs at ts → Lexes 0 bs (Ok ts)
all_read bs at ts l f = subst (λ us. Lexes 0 bs (Ok us)) (append-nil ts) (f (Ok []) (subst (λ r. Lexes at r (Ok [])) (sym (drop_of_length-le bs l)) Lexes.done))

-- ---- there is one answer

pub inside_one : {quote : ℕ} {bs : List ℕ} {o p : Result ℕ PieceFault} → Inside quote bs o → Inside quote bs p → o ≡ p
inside_one (Inside.closes e) (Inside.closes f) = refl
inside_one (Inside.closes e) (Inside.passes f g r) = absurd (cc (e, f))
inside_one (Inside.closes e) (Inside.stops f r) = absurd (cc (e, f))
inside_one (Inside.passes e g r) (Inside.closes f) = absurd (cc (e, f))
inside_one {quote} {bs} (Inside.passes {n} {o = o} e g r) (Inside.passes {n = m} {o = p} f h s) =
    let same : n ≡ m = cc (e, f) in
    r ∙ ap (later n) (inside_one g (subst (λ k. Inside quote (drop k bs) p) (sym same) h)) ∙ ap (λ k. later k p) same ∙ sym s
inside_one (Inside.passes e g r) (Inside.stops f s) = absurd (cc (e, f))
inside_one (Inside.stops e r) (Inside.closes f) = absurd (cc (e, f))
inside_one (Inside.stops e r) (Inside.passes f g s) = absurd (cc (e, f))
inside_one (Inside.stops {c} e r) (Inside.stops {c = d} f s) = let same : c ≡ d = cc (e, f) in r ∙ ap stopped same ∙ sym s

by_first_one : (w : First) (c : ℕ) (cs : List ℕ) (o p : Result Piece PieceFault) → ByFirst w c cs o → ByFirst w c cs p → o ≡ p
by_first_one first.Blank c cs o p g h = g ∙ sym h
by_first_one first.Comment c cs o p g h = g ∙ sym h
by_first_one first.Word c cs o p g h = g ∙ sym h
by_first_one first.Number c cs o p g h = g ∙ sym h
by_first_one first.Quote c cs o p (r, g, e) (s, h, f) = e ∙ ap quoted_by (inside_one g h) ∙ sym f
by_first_one first.Mark c cs o p g h = g ∙ sym h
by_first_one first.Other c cs o p g h = g ∙ sym h

pub begins_one : (bs : List ℕ) (o p : Result Piece PieceFault) → Begins bs o → Begins bs p → o ≡ p
begins_one [] o p g h = absurd g
begins_one (c ∷ cs) o p g h = by_first_one (first_of (c ∷ cs)) c cs o p g h

pub lexes_one : {x : ℕ} {bs : List ℕ} {o p : Lexed} → Lexes x bs o → Lexes x bs p → o ≡ p
lexes_one (Lexes.done) (Lexes.done) = refl
lexes_one (Lexes.done) (Lexes.gap _ b g) = absurd b
lexes_one (Lexes.done) (Lexes.token _ _ b g r) = absurd b
lexes_one (Lexes.done) (Lexes.fault _ b r) = absurd b
lexes_one (Lexes.gap _ b g) (Lexes.done) = absurd b
lexes_one {x} {bs} (Lexes.gap n {o = o} b g) (Lexes.gap m {o = p} c h) =
    let e = begins_one bs _ _ b c in
    let same : n ≡ m = cc e in
    lexes_one g (subst (λ k. Lexes (x + k) (drop k bs) p) (sym same) h)
lexes_one {x} {bs} (Lexes.gap _ b g) (Lexes.token _ _ c h r) = let e = begins_one bs _ _ b c in absurd (cc e)
lexes_one {x} {bs} (Lexes.gap _ b g) (Lexes.fault _ c r) = let e = begins_one bs _ _ b c in absurd (cc e)
lexes_one (Lexes.token _ _ b g r) (Lexes.done) = absurd b
lexes_one {x} {bs} (Lexes.token _ _ b g r) (Lexes.gap _ c h) = let e = begins_one bs _ _ b c in absurd (cc e)
lexes_one {x} {bs} (Lexes.token k n {o = o} b g r) (Lexes.token j m {o = p} c h s) =
    let e = begins_one bs _ _ b c in
    let same : n ≡ m = cc e in
    let kind : k ≡ j = cc e in
    r ∙ ap (with_token (placed k x (take n bs))) (lexes_one g (subst (λ i. Lexes (x + i) (drop i bs) p) (sym same) h))
    ∙ ap (λ i. with_token (placed k x (take i bs)) p) same ∙ ap (λ i. with_token (placed i x (take m bs)) p) kind ∙ sym s
lexes_one {x} {bs} (Lexes.token _ _ b g r) (Lexes.fault _ c s) = let e = begins_one bs _ _ b c in absurd (cc e)
lexes_one (Lexes.fault _ b r) (Lexes.done) = absurd b
lexes_one {x} {bs} (Lexes.fault _ b r) (Lexes.gap _ c h) = let e = begins_one bs _ _ b c in absurd (cc e)
lexes_one {x} {bs} (Lexes.fault _ b r) (Lexes.token _ _ c h s) = let e = begins_one bs _ _ b c in absurd (cc e)
lexes_one {x} {bs} (Lexes.fault e b r) (Lexes.fault f c s) =
    let q = begins_one bs _ _ b c in
    let same : e ≡ f = cc q in
    r ∙ ap (λ i. Err (fault_at x i)) same ∙ sym s
