-- What the code makes of a text is what the text means.
use Rattle.std.proofs.Common.{◌≡◌, ◌≢◌, ℕ, zero, suc, ◌+◌, ◌%◌, ◌<◌, ◌≤◌, List, [], ◌∷◌, ◌++◌, length, drop, get_or, true, false, eqb, refl, ap, sym, ◌∙◌, subst, arith, ◌⊎◌, inl, inr, eq-eqb, ne_eqb, append_assoc, append-nil, drop-drop}
use Rattle.std.proofs.lemmas.List.{drop_more}
use Rattle.std.specs.Prelude.{encode_utf8}
use Rattle.std.specs.Char.{digit_value, is_digit}
use Rattle.pb_source_tokens.specs.Tokens.{PlacedToken, is_plain, is_quote, AreDigits, Stops, Escape, Units}
use Rattle.pb_source_tokens.specs.Texts.{number_from, escape_len, escape_meaning, meant_from, text_meaning}
use Rattle.pb_source_tokens.specs.Symbols.{Means}
use Rattle.pb_source_tokens.proofs.DigitLemmas.{octal_is}
use Rattle.pb_source_tokens.proofs.TextLemmas.{number_takes, escape_is, IsEscape, slash_plain}

-- ---- a step of the loop over units

meant_drop : (quote k : ℕ) (bs : List ℕ) → meant_from quote k bs ≡ meant_from quote 0 (drop k bs)
meant_drop quote zero bs = refl
meant_drop quote (suc k) [] = refl
meant_drop quote (suc k) (c ∷ cs) = meant_drop quote k cs

meant_escape : (quote at n : ℕ) (bs : List ℕ) → at < length bs → is_plain quote (get_or bs at 0) ≡ false → get_or bs at 0 ≡ 92 → n ≢ 0 → n ≡ escape_len (drop (at + 1) bs)
    → meant_from quote 0 (drop at bs) ≡ escape_meaning (drop (at + 1) bs) ++ meant_from quote 0 (drop (at + (1 + n)) bs)
meant_escape quote at n bs l p e z h =
    let after = drop (at + 1) bs in
    rw (drop_more bs at 0 l) (
    rw p (
    rw (eq-eqb (get_or bs at 0) 92 e, ← h, ne_eqb n 0 z)
    (ap (λ r. escape_meaning after ++ r) (meant_drop quote n after ∙ ap (meant_from quote 0) (drop-drop n (at + 1) bs) ∙ ap (λ k. meant_from quote 0 (drop k bs)) (same at n)))))
  where
    same : (at n : ℕ) → at + 1 + n ≡ at + (1 + n)
    same at n = omega arith

-- what is written so far, and what is left
pub meant_on : (quote at n : ℕ) (bs all into new : List ℕ) → at < length bs → is_plain quote (get_or bs at 0) ≡ false → get_or bs at 0 ≡ 92 → n ≢ 0 → n ≡ escape_len (drop (at + 1) bs)
    → all ≡ into ++ meant_from quote 0 (drop at bs) → new ≡ into ++ escape_meaning (drop (at + 1) bs) → all ≡ new ++ meant_from quote 0 (drop (at + (1 + n)) bs)
meant_on quote at n bs all into new l p e z h k j =
    let rest = meant_from quote 0 (drop (at + (1 + n)) bs) in
    k ∙ ap (λ r. into ++ r) (meant_escape quote at n bs l p e z h) ∙ sym (append_assoc into (escape_meaning (drop (at + 1) bs)) rest) ∙ ap (λ r. r ++ rest) (sym j)

-- ---- escapes

octal_meaning : (k : ℕ) (cs : List ℕ) → k < 8 → escape_meaning ((48 + k) ∷ cs) ≡ (number_from 8 0 3 ((48 + k) ∷ cs)).1 % 256 ∷ []
octal_meaning zero cs l = refl
octal_meaning (suc zero) cs l = refl
octal_meaning (suc (suc zero)) cs l = refl
octal_meaning (suc (suc (suc zero))) cs l = refl
octal_meaning (suc (suc (suc (suc zero)))) cs l = refl
octal_meaning (suc (suc (suc (suc (suc zero))))) cs l = refl
octal_meaning (suc (suc (suc (suc (suc (suc zero)))))) cs l = refl
octal_meaning (suc (suc (suc (suc (suc (suc (suc zero))))))) cs l = refl
octal_meaning (suc (suc (suc (suc (suc (suc (suc (suc k)))))))) cs l = absurd (omega arith)

octal_means : (n : ℕ) (ds rest : List ℕ) → AreDigits 8 ds n → 0 < length ds → length ds ≤ 3 → (length ds ≡ 3) ⊎ Stops (λ c. is_digit c 8) rest → escape_meaning (ds ++ rest) ≡ n % 256 ∷ []
octal_means n [] rest a l m s = absurd (omega arith)
octal_means n (d ∷ ds) rest a l m s =
    let o = octal_is d a.0.0 in
    subst (λ d. escape_meaning (d ∷ ds ++ rest) ≡ (number_from 8 0 3 (d ∷ ds ++ rest)).1 % 256 ∷ []) (sym o) (octal_meaning (digit_value d) (ds ++ rest) a.0.0)
    ∙ ap (λ r. r.1 % 256 ∷ []) (number_takes 8 0 3 n (d ∷ ds) rest a.0 a.1 m s)

hex_means : (k n : ℕ) (ds rest : List ℕ) → AreDigits 16 ds n → length ds ≤ k → (length ds ≡ k) ⊎ Stops (λ c. is_digit c 16) rest → (number_from 16 0 k (ds ++ rest)).1 ≡ n
hex_means k n ds rest a l s = ap (λ r. r.1) (number_takes 16 0 k n ds rest a.0 a.1 l s)

hex_room : {P : Type 0} (n : ℕ) → (n ≡ 2) ⊎ ((n ≡ 1) × P) → (n ≤ 2) × ((n ≡ 2) ⊎ P)
hex_room n (inl e) = (omega arith, inl e)
hex_room n (inr f) = (let e = f.0 in omega arith, inr f.1)

-- an escape, split where its `\` ends
pub record Meant (e v rest : List ℕ) : Type 0 where
  pub behind : List ℕ
  pub joined : e ≡ 92 ∷ behind
  pub some : 0 < length behind
  pub size : escape_len (behind ++ rest) ≡ length behind
  pub means : escape_meaning (behind ++ rest) ≡ v

with_meaning : {e v rest : List ℕ} (i : IsEscape e rest) → escape_meaning (i.behind ++ rest) ≡ v → Meant e v rest
with_meaning i m = record { behind = i.behind; joined = i.joined; some = i.some; size = i.size; means = m }

same_tail : (a b : List ℕ) → 92 ∷ a ≡ 92 ∷ b → a ≡ b
same_tail a b e = ap (drop 1) e

means_as : {e v rest : List ℕ} (ds : List ℕ) (i : IsEscape e rest) → e ≡ 92 ∷ ds → escape_meaning (ds ++ rest) ≡ v → Meant e v rest
means_as {rest = rest} ds i j m = with_meaning i (ap (λ r. escape_meaning (r ++ rest)) (same_tail i.behind ds (sym i.joined ∙ j)) ∙ m)

escape_means : {e v rest : List ℕ} → Escape e v rest → Meant e v rest
escape_means (Escape.short {c} {v} {rest} h) = means_as (c ∷ []) (escape_is (Escape.short h)) refl (rw h refl)
escape_means (Escape.hexadecimal {c} {n} {ds} {rest} (inl e) a s) =
    let r = hex_room (length ds) s in
    means_as (c ∷ ds) (escape_is (Escape.hexadecimal (inl e) a s)) refl (subst (λ c. escape_meaning (c ∷ ds ++ rest) ≡ n ∷ []) (sym e) (ap (λ n. n ∷ []) (hex_means 2 n ds rest a r.0 r.1)))
escape_means (Escape.hexadecimal {c} {n} {ds} {rest} (inr e) a s) =
    let r = hex_room (length ds) s in
    means_as (c ∷ ds) (escape_is (Escape.hexadecimal (inr e) a s)) refl (subst (λ c. escape_meaning (c ∷ ds ++ rest) ≡ n ∷ []) (sym e) (ap (λ n. n ∷ []) (hex_means 2 n ds rest a r.0 r.1)))
escape_means (Escape.octal {n} {ds} {rest} a (inl l)) = means_as ds (escape_is (Escape.octal a (inl l))) refl (octal_means n ds rest a (omega arith) (omega arith) (inl l))
escape_means (Escape.octal {n} {ds} {rest} a (inr (l, m, s))) = means_as ds (escape_is (Escape.octal a (inr (l, m, s)))) refl (octal_means n ds rest a l (omega arith) (inr s))
escape_means (Escape.unicode {c} {n} {ds} {rest} (inl (e, l)) a s) =
    means_as (c ∷ ds) (escape_is (Escape.unicode (inl (e, l)) a s)) refl
    (subst (λ c. escape_meaning (c ∷ ds ++ rest) ≡ encode_utf8 n) (sym e) (ap encode_utf8 (hex_means 4 n ds rest a (omega arith) (inl l))))
escape_means (Escape.unicode {c} {n} {ds} {rest} (inr (e, l)) a s) =
    means_as (c ∷ ds) (escape_is (Escape.unicode (inr (e, l)) a s)) refl
    (subst (λ c. escape_meaning (c ∷ ds ++ rest) ≡ encode_utf8 n) (sym e) (ap encode_utf8 (hex_means 8 n ds rest a (omega arith) (inl l))))

-- ---- units

meant_skip : (quote : ℕ) (cs rest : List ℕ) → meant_from quote (length cs) (cs ++ rest) ≡ meant_from quote 0 rest
meant_skip quote [] rest = refl
meant_skip quote (c ∷ cs) rest = meant_skip quote cs rest

units_mean : {quote : ℕ} {front vs rest : List ℕ} → Units quote front vs rest → meant_from quote 0 (front ++ rest) ≡ vs ++ meant_from quote 0 rest
units_mean (Units.none) = refl
units_mean {quote} {rest = rest} (Units.plain {c} {cs} p u) = rw p (ap (λ r. c ∷ r) (units_mean u))
units_mean {quote} {rest = rest} (Units.escape {e} {v} {cs} {vs} {es} x u j) =
    let i = escape_means x in
    let t = i.behind in
    let all = t ++ (cs ++ rest) in
    let word : es ≡ 92 ∷ t ++ cs = j ∙ ap (λ e. e ++ cs) i.joined in
    let whole : es ++ rest ≡ 92 ∷ all = ap (λ e. e ++ rest) word ∙ ap (λ r. 92 ∷ r) (append_assoc t cs rest) in
    let some : eqb (escape_len all) 0 ≡ false = ne_eqb (escape_len all) 0 (λ z. none (length t) i.some (sym i.size ∙ z)) in
    let step : meant_from quote 0 (92 ∷ all) ≡ escape_meaning all ++ meant_from quote (escape_len all) all = rw (slash_plain quote) (rw some refl) in
    ap (meant_from quote 0) whole ∙ step ∙ ap (λ m. m ++ meant_from quote (escape_len all) all) i.means ∙ ap (λ k. v ++ meant_from quote k all) i.size
    ∙ ap (λ r. v ++ r) (meant_skip quote t (cs ++ rest) ∙ units_mean u) ∙ sym (append_assoc v vs (meant_from quote 0 rest))
  where
    none : (n : ℕ) → 0 < n → n ≡ 0 → ⊥
    none n l e = omega arith

-- after the units of a text stands its quote, which means nothing
quote_means : (quote : ℕ) (rest : List ℕ) → is_quote quote ≡ true → meant_from quote 0 (quote ∷ rest) ≡ []
quote_means quote rest h =
    let p : is_plain quote quote ≡ false = rw (eq-eqb quote quote refl) refl in
    rw (p, not_slash quote h) refl
  where
    not_slash : (quote : ℕ) → is_quote quote ≡ true → eqb quote 92 ≡ false
    not_slash quote h = ne_eqb quote 92 (λ e. cc (h, e))

pub token_means : (t : PlacedToken) (vs : List ℕ) → Means t vs → text_meaning t.text ≡ vs
token_means t vs (k, quote, cs, q, j, u) = ap text_meaning j ∙ units_mean u ∙ ap (λ r. vs ++ r) (quote_means quote [] q) ∙ append-nil vs
