-- Whole tokens, and then one thing more.
use Rattle.std.proofs.Common.{◌≡◌, ℕ, zero, suc, ◌+◌, ◌<◌, ◌≤◌, List, [], ◌∷◌, ◌++◌, ◌-◌, length, take, drop, get_or, refl, ap, sym, ◌∙◌, subst, append-nil, length-drop, arith, inl, inr}
use Rattle.std.proofs.Math.Seq.{drop-append_seam, take-append_seam}
use Rattle.std.proofs.lemmas.List.{take_all, get_or-drop}
use Rattle.pb_source_tokens.specs.Tokens.{PlacedToken, Lexes, after_mark}
use Rattle.pb_source_tokens.specs.Lexing.{IsGap, IsTokenAt}
use Rattle.std.specs.Prelude.{IsUtf8}
use Rattle.std.specs.Str.{IsCharBoundary}
use Rattle.std.proofs.lemmas.Str.{IsCharBoundary-before_ascii, IsCharBoundary-after_ascii}
use Rattle.std.proofs.Math.ListN.{get_or-append}
use Rattle.pb_source_tokens.proofs.AsciiLemmas.{spelled_ends}
use Rattle.pb_source_tokens.specs.declared.token.TokenKind.{TokenKind}

pub lexes_then : {x y z : ℕ} {bs cs ds : List ℕ} {ts us : List PlacedToken} → Lexes x bs ts y cs → Lexes y cs us z ds → Lexes x bs (ts ++ us) z ds
lexes_then Lexes.done g = g
lexes_then (Lexes.blank b f) g = Lexes.blank b (lexes_then f g)
lexes_then (Lexes.comment c f e) g = Lexes.comment c (lexes_then f g) e
lexes_then (Lexes.token s f e) g = Lexes.token s (lexes_then f g) e

after : (t rest bs : List ℕ) (n : ℕ) → bs ≡ t ++ rest → length t ≡ n → rest ≡ drop n bs
after t rest bs n e l = sym (ap (λ k. drop k bs) (sym l) ∙ ap (drop (length t)) e ∙ drop-append_seam t rest)

one_gap : (y n : ℕ) (bs : List ℕ) → IsGap n bs → Lexes y bs [] (y + n) (drop n bs)
one_gap y n bs (inl (e, c, rest, j, b)) =
    subst (λ k. Lexes y bs [] (y + k) (drop k bs)) (sym e) (subst (λ b. Lexes y b [] (y + 1) (drop 1 b)) (sym j) (Lexes.blank b (subst (λ k. Lexes (suc y) rest [] k rest) (omega arith) Lexes.done)))
one_gap y n bs (inr (c, rest, j, l, d)) =
    Lexes.comment d (subst (λ r. Lexes (y + length c) rest [] (y + n) r) (after c rest bs n j l) (subst (λ k. Lexes (y + length c) rest [] (y + k) rest) l Lexes.done)) j

one_token : (y n : ℕ) (k : TokenKind) (bs : List ℕ) (t : IsTokenAt k n bs) → Lexes y bs (record { kind = k; at = y; text = t.0 } ∷ []) (y + n) (drop n bs)
one_token y n k bs (t, rest, j, l, s) =
    Lexes.token s (subst (λ r. Lexes (y + length t) rest [] (y + n) r) (after t rest bs n j l) (subst (λ k. Lexes (y + length t) rest [] (y + k) rest) l Lexes.done)) j

pub lexes_gap : (x y n : ℕ) (bs cs : List ℕ) (ts : List PlacedToken) → Lexes x bs ts y cs → IsGap n cs → Lexes x bs ts (y + n) (drop n cs)
lexes_gap x y n bs cs ts f g = subst (λ ts. Lexes x bs ts (y + n) (drop n cs)) (append-nil ts) (lexes_then f (one_gap y n cs g))

pub lexes_token : (x y n : ℕ) (k : TokenKind) (bs cs : List ℕ) (ts : List PlacedToken) → Lexes x bs ts y cs → (t : IsTokenAt k n cs)
    → Lexes x bs (ts ++ record { kind = k; at = y; text = t.0 } ∷ []) (y + n) (drop n cs)
lexes_token x y n k bs cs ts f t = lexes_then f (one_token y n k cs t)

-- ---- places of the code

pub begin_lexing : (bs : List ℕ) (m : ℕ) → (after_mark bs).0 ≡ m → (after_mark bs).1 ≡ drop m bs → Lexes (after_mark bs).0 (after_mark bs).1 [] m (drop m bs)
begin_lexing bs m h k = subst (λ y. Lexes (after_mark bs).0 (after_mark bs).1 [] y (drop m bs)) h (subst (λ r. Lexes (after_mark bs).0 (after_mark bs).1 [] (after_mark bs).0 r) k Lexes.done)

-- what `&bs[at..]` is
pub tail_at : (bs : List ℕ) (at : ℕ) → take (length bs - at) (drop at bs) ≡ drop at bs
tail_at bs at = take_all (length bs - at) (drop at bs) (let e = length-drop at bs in omega arith)

drop_empty : (n : ℕ) → drop {A = ℕ} n [] ≡ []
drop_empty zero = refl
drop_empty (suc n) = refl

drop_on : (bs : List ℕ) (at n : ℕ) → drop n (drop at bs) ≡ drop (at + n) bs
drop_on bs zero n = ap (λ m. drop m bs) (omega arith)
drop_on [] (suc at) n = drop_empty n ∙ sym (drop_empty (suc at + n))
drop_on (c ∷ bs) (suc at) n = drop_on bs at n ∙ ap (λ m. drop m (c ∷ bs)) (next at n)
  where
    next : (at n : ℕ) → suc (at + n) ≡ suc at + n
    next at n = omega arith

pub gap_from : (x y n : ℕ) (b bs : List ℕ) (ts : List PlacedToken) → Lexes x b ts y (drop y bs) → IsGap n (take (length bs - y) (drop y bs)) → Lexes x b ts (y + n) (drop (y + n) bs)
gap_from x y n b bs ts f g = subst (λ r. Lexes x b ts (y + n) r) (drop_on bs y n) (lexes_gap x y n b (drop y bs) ts f (subst (IsGap n) (tail_at bs y) g))

pub text_is : (k : TokenKind) (n : ℕ) (cs : List ℕ) (t : IsTokenAt k n cs) → t.0 ≡ take n cs
text_is k n cs (t, rest, j, l, s) = sym (take-append_seam t rest) ∙ ap (λ m. take m (t ++ rest)) l ∙ ap (take n) (sym j)

pub token_from : (x y n : ℕ) (k : TokenKind) (b bs : List ℕ) (ts : List PlacedToken) → Lexes x b ts y (drop y bs) → IsTokenAt k n (take (length bs - y) (drop y bs))
    → Lexes x b (ts ++ record { kind = k; at = y; text = take n (drop y bs) } ∷ []) (y + n) (drop (y + n) bs)
token_from x y n k b bs ts f g =
    let t : IsTokenAt k n (drop y bs) = subst (IsTokenAt k n) (tail_at bs y) g in
    subst (λ r. Lexes x b (ts ++ record { kind = k; at = y; text = take n (drop y bs) } ∷ []) (y + n) r) (drop_on bs y n)
    (subst (λ u. Lexes x b (ts ++ record { kind = k; at = y; text = u } ∷ []) (y + n) (drop n (drop y bs))) (text_is k n (drop y bs) t) (lexes_token x y n k b (drop y bs) ts f t))

-- what is found within the rest is within the bytes
pub room_at : (bs : List ℕ) (at n : ℕ) → at ≤ length bs → n ≤ length (take (length bs - at) (drop at bs)) → at + n ≤ length bs
room_at bs at n l h = let e = ap length (tail_at bs at) ∙ length-drop at bs in omega arith

-- bytes that stand in front stand there as far as they go
pub slice_is : (n : ℕ) (bs text : List ℕ) → text ≡ take n bs → text ≡ take (length text) bs
slice_is n bs text e = e ∙ front n bs ∙ ap (λ t. take (length t) bs) (sym e)
  where
    front : (n : ℕ) (bs : List ℕ) → take n bs ≡ take (length (take n bs)) bs
    front zero bs = refl
    front (suc n) [] = refl
    front (suc n) (c ∷ bs) = ap (λ r. c ∷ r) (front n bs)

-- ---- where a text may be cut

byte_at : (k : TokenKind) (bs : List ℕ) (at n m : ℕ) (g : IsTokenAt k n (take (length bs - at) (drop at bs))) → m < length g.0 → get_or g.0 m 0 ≡ get_or bs (at + m) 0
byte_at k bs at n m g l = sym (get_or-append g.0 g.1 0 m l) ∙ ap (λ r. get_or r m 0) (sym g.2 ∙ tail_at bs at) ∙ get_or-drop at bs m 0

pub cut_before : (k : TokenKind) (bs : List ℕ) (at n : ℕ) → at < length bs → IsTokenAt k n (take (length bs - at) (drop at bs)) → IsCharBoundary bs at
cut_before k bs at n l g =
    let e = spelled_ends g.4 in
    IsCharBoundary-before_ascii bs at l (subst (λ b. b < 128) (byte_at k bs at n 0 g e.some ∙ ap (λ m. get_or bs m 0) (none at)) e.first)
  where
    none : (at : ℕ) → at + 0 ≡ at
    none at = omega arith

pub cut_after : (k : TokenKind) (bs : List ℕ) (at n : ℕ) → IsUtf8 bs → at + n ≤ length bs → IsTokenAt k n (take (length bs - at) (drop at bs)) → IsCharBoundary bs (at + n)
cut_after k bs at zero u l g = absurd (empty (length g.0) g.3 (spelled_ends g.4).some)
  where
    empty : (m : ℕ) → m ≡ 0 → 0 < m → ⊥
    empty m e f = omega arith
cut_after k bs at (suc m) u l g =
    let e = spelled_ends g.4 in
    let size : length g.0 ≡ suc m = g.3 in
    subst (IsCharBoundary bs) (next at m)
    (IsCharBoundary-after_ascii bs (at + m) u (omega arith) (subst (λ b. b < 128) (byte_at k bs at (suc m) m g (omega arith)) (e.last m (sym size))))
  where
    next : (at m : ℕ) → (at + m) + 1 ≡ at + suc m
    next at m = omega arith
