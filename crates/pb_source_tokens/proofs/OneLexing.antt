-- A source has one list of tokens or one fault.
use Rattle.std.proofs.Common.{◌≡◌, ℕ, zero, suc, ◌+◌, ◌-◌, ◌<◌, ◌≤◌, List, [], ◌∷◌, ◌++◌, length, take, drop, refl, ap, sym, ◌∙◌, subst, arith, length-append, drop_of_length-le}
use Rattle.std.proofs.Math.Seq.{drop-append_seam, take-append_seam}
use Rattle.pb_source_tokens.specs.Tokens.{PlacedToken, Lexes, FaultHere, after_mark, AreTokens, LexFault}
use Rattle.pb_source_tokens.specs.declared.fault.SourceCause.{SourceCause}
use Rattle.pb_source_tokens.proofs.LexLemmas.{tail_at}
use Rattle.pb_source_tokens.proofs.OnePiece.{Found, found_at, blank_found, comment_found, spelled_found, fault_found}

-- ---- what a source comes to

data Lexed : Type 0 where
  tokens : List PlacedToken → Lexed
  fault_at : ℕ → SourceCause → Lexed

abbrev behind : PlacedToken → Lexed → Lexed
behind t (Lexed.tokens ts) = Lexed.tokens (t ∷ ts)
behind t (Lexed.fault_at place c) = Lexed.fault_at place c

abbrev on_found : Found → ℕ → List ℕ → (ℕ → Lexed) → Lexed
on_found (Found.gap n) x bs f = f n
on_found (Found.token k n) x bs f = behind (record { kind = k; at = x; text = take n bs }) (f n)
on_found (Found.fault offset c) x bs f = Lexed.fault_at (x + offset) c

-- the tokens of the bytes from a place on, or their fault; the first number is at least that of the bytes
abbrev lexed : ℕ → ℕ → List ℕ → Lexed
lexed zero x bs = Lexed.tokens []
lexed (suc m) x [] = Lexed.tokens []
lexed (suc m) x (c ∷ cs) = on_found (found_at (c ∷ cs)) x (c ∷ cs) (λ n. lexed m (x + n) (drop n (c ∷ cs)))

on_some : (m x : ℕ) (bs : List ℕ) → 0 < length bs → lexed (suc m) x bs ≡ on_found (found_at bs) x bs (λ n. lexed m (x + n) (drop n bs))
on_some m x [] l = absurd (omega arith)
on_some m x (c ∷ cs) l = refl

-- tokens before what the rest comes to
abbrev before : List PlacedToken → Lexed → Lexed
before [] l = l
before (t ∷ ts) l = behind t (before ts l)

-- what a lexing that goes on so comes to
lexes_to : {x y : ℕ} {bs rest : List ℕ} {ts : List PlacedToken} (o : Lexed) → Lexes x bs ts y rest → ((m : ℕ) → length rest ≤ m → lexed m y rest ≡ o) → (m : ℕ) → length bs ≤ m → lexed m x bs ≡ before ts o
lexes_to o (Lexes.done) f m l = f m l
lexes_to o (Lexes.blank {x} {y} {c} {bs} {rest} {ts} b g) f zero l = absurd (omega arith)
lexes_to o (Lexes.blank {x} {y} {c} {bs} {rest} {ts} b g) f (suc m) l =
    ap (λ p. on_found p x (c ∷ bs) (λ n. lexed m (x + n) (drop n (c ∷ bs)))) (blank_found c bs b) ∙ ap (λ x. lexed m x bs) (next x) ∙ lexes_to o g f m (omega arith)
  where
    next : (x : ℕ) → x + 1 ≡ suc x
    next x = omega arith
lexes_to o (Lexes.comment {x} {y} {c} {bs} {cs} {rest} {ts} d g j) f m l = more m (ap length j ∙ length-append c bs) l (λ m l. lexes_to o g f m l)
  where
    more : (m : ℕ) → length cs ≡ length c + length bs → length cs ≤ m → ((m : ℕ) → length bs ≤ m → lexed m (x + length c) bs ≡ before ts o) → lexed m x cs ≡ before ts o
    more zero e l g = let s = (comment_found d).some in absurd (omega arith)
    more (suc m) e l g =
        let s = (comment_found d).some in
        ap (lexed (suc m) x) j ∙ on_some m x (c ++ bs) (let k = length-append c bs in omega arith) ∙ ap (λ p. on_found p x (c ++ bs) (λ n. lexed m (x + n) (drop n (c ++ bs)))) (comment_found d).found
        ∙ ap (λ r. lexed m (x + length c) r) (drop-append_seam c bs) ∙ g m (omega arith)
lexes_to o (Lexes.token {x} {y} {k} {t} {bs} {cs} {rest} {ts} d g j) f m l = more m (ap length j ∙ length-append t bs) l (λ m l. lexes_to o g f m l)
  where
    more : (m : ℕ) → length cs ≡ length t + length bs → length cs ≤ m → ((m : ℕ) → length bs ≤ m → lexed m (x + length t) bs ≡ before ts o)
        → lexed m x cs ≡ behind (record { kind = k; at = x; text = t }) (before ts o)
    more zero e l g = let s = (spelled_found d).some in absurd (omega arith)
    more (suc m) e l g =
        let s = (spelled_found d).some in
        ap (lexed (suc m) x) j ∙ on_some m x (t ++ bs) (let k = length-append t bs in omega arith) ∙ ap (λ p. on_found p x (t ++ bs) (λ n. lexed m (x + n) (drop n (t ++ bs)))) (spelled_found d).found
        ∙ ap (λ u. behind (record { kind = k; at = x; text = u }) (lexed m (x + length t) (drop (length t) (t ++ bs)))) (take-append_seam t bs)
        ∙ ap (λ r. behind (record { kind = k; at = x; text = t }) (lexed m (x + length t) r)) (drop-append_seam t bs) ∙ ap (behind (record { kind = k; at = x; text = t })) (g m (omega arith))

before_tokens : (ts : List PlacedToken) → before ts (Lexed.tokens []) ≡ Lexed.tokens ts
before_tokens [] = refl
before_tokens (t ∷ ts) = ap (behind t) (before_tokens ts)

before_fault : (ts : List PlacedToken) (place : ℕ) (c : SourceCause) → before ts (Lexed.fault_at place c) ≡ Lexed.fault_at place c
before_fault [] place c = refl
before_fault (t ∷ ts) place c = ap (behind t) (before_fault ts place c)

no_bytes : (m y : ℕ) → lexed m y [] ≡ Lexed.tokens []
no_bytes zero y = refl
no_bytes (suc m) y = refl

fault_lexed : (y place : ℕ) (rest : List ℕ) (c : SourceCause) → FaultHere y rest place c → (m : ℕ) → length rest ≤ m → lexed m y rest ≡ Lexed.fault_at place c
fault_lexed y place rest c h zero l = let s = (fault_found h).some in absurd (omega arith)
fault_lexed y place rest c h (suc m) l =
    let g = fault_found h in
    on_some m y rest g.some ∙ ap (λ p. on_found p y rest (λ n. lexed m (y + n) (drop n rest))) g.found ∙ ap (λ p. Lexed.fault_at p c) (sym g.at)

abbrev source_lexed : List ℕ → Lexed
source_lexed bs = lexed (length (after_mark bs).1) (after_mark bs).0 (after_mark bs).1

tokens_lexed : (bs : List ℕ) (ts : List PlacedToken) → AreTokens bs ts → source_lexed bs ≡ Lexed.tokens ts
tokens_lexed bs ts (y, g) = lexes_to (Lexed.tokens []) g (λ m l. no_bytes m y) (length (after_mark bs).1) (omega arith) ∙ before_tokens ts

refused_lexed : (bs : List ℕ) (place : ℕ) (c : SourceCause) → LexFault bs place c → source_lexed bs ≡ Lexed.fault_at place c
refused_lexed bs place c (ts, y, rest, g, h) = lexes_to (Lexed.fault_at place c) g (fault_lexed y place rest c h) (length (after_mark bs).1) (omega arith) ∙ before_fault ts place c

-- ---- the laws

pub one_list : (bs : List ℕ) (ts us : List PlacedToken) → AreTokens bs ts → AreTokens bs us → ts ≡ us
one_list bs ts us g h = same (sym (tokens_lexed bs ts g) ∙ tokens_lexed bs us h)
  where
    same : Lexed.tokens ts ≡ Lexed.tokens us → ts ≡ us
    same e = cc e

pub one_fault : (bs : List ℕ) (p q : ℕ) (c d : SourceCause) → LexFault bs p c → LexFault bs q d → (p ≡ q) × (c ≡ d)
one_fault bs p q c d g h = same (sym (refused_lexed bs p c g) ∙ refused_lexed bs q d h)
  where
    same : Lexed.fault_at p c ≡ Lexed.fault_at q d → (p ≡ q) × (c ≡ d)
    same e = (cc e, cc e)

pub not_both : (bs : List ℕ) (ts : List PlacedToken) (p : ℕ) (c : SourceCause) → AreTokens bs ts → LexFault bs p c → ⊥
not_both bs ts p c g h = apart (sym (tokens_lexed bs ts g) ∙ refused_lexed bs p c h)
  where
    apart : Lexed.tokens ts ≡ Lexed.fault_at p c → ⊥
    apart e = cc e

-- ---- what the code answers

pub all_read : (bs : List ℕ) (at : ℕ) (ts : List PlacedToken) → length bs ≤ at → Lexes (after_mark bs).0 (after_mark bs).1 ts at (drop at bs) → AreTokens bs ts
all_read bs at ts l g = (at, subst (λ r. Lexes (after_mark bs).0 (after_mark bs).1 ts at r) (drop_of_length-le bs l) g)

pub refused_there : (bs : List ℕ) (at offset : ℕ) (c : SourceCause) (ts : List PlacedToken) → Lexes (after_mark bs).0 (after_mark bs).1 ts at (drop at bs)
    → ((x : ℕ) → FaultHere x (take (length bs - at) (drop at bs)) (x + offset) c) → LexFault bs (at + offset) c
refused_there bs at offset c ts g h = (ts, at, drop at bs, g, subst (λ r. FaultHere at r (at + offset) c) (tail_at bs at) (h at))
