-- A text that is closed is one, or stops at a NUL or at the `\` of no escape.
use Rattle.std.proofs.Common.{◌≡◌, ◌≢◌, ℕ, zero, suc, ◌+◌, ◌<◌, ◌≤◌, List, [], ◌∷◌, ◌++◌, length, take, drop, get_or, Bool, true, false, ◌||◌, eqb, Some, refl, ap, sym, ◌∙◌, subst, arith, ◌⊎◌, inl, inr, ne_eqb, eqb-true, append_assoc, length-append, take-append-drop, length-take-le, drop-cons}
use Rattle.std.specs.Prelude.{slice_index}
use Rattle.std.specs.Str.Parse.{AllDigits}
use Rattle.pb_source_tokens.specs.Tokens.{short_escape, is_plain, is_quote, AreDigits, Escape, Units, closes, is_closed, Spelled, FaultHere}
use Rattle.pb_source_tokens.specs.Lexing.{IsTokenAt}
use Rattle.pb_source_tokens.specs.Texts.{escape_len, units_from, units_len}
use Rattle.pb_source_tokens.specs.declared.token.TokenKind.TheVariants.{Text}
use Rattle.pb_source_tokens.specs.declared.fault.SourceCause.TheVariants.{BadToken, OpenText}
use Rattle.pb_source_tokens.proofs.DigitLemmas.{digit_apart}
use Rattle.pb_source_tokens.proofs.TextLemmas.{plain_is, no_escape, units_there}

-- a quote is no line feed and no `\`
pub record Quote (quote : ℕ) : Type 0 where
  pub passes : is_quote quote ≡ true
  pub line_not : eqb 10 quote ≡ false
  pub slash_not : eqb 92 quote ≡ false
  pub short : (c : ℕ) → c ≢ 34 → c ≢ 39 → eqb c quote ≡ false

pub quote_is : (quote : ℕ) → is_quote quote ≡ true → Quote quote
quote_is quote h = by_test (eqb quote 34) (eqb quote 39) refl refl h
  where
    by_test : (a b : Bool) → eqb quote 34 ≡ a → eqb quote 39 ≡ b → a || b ≡ true → Quote quote
    by_test true b e f h = subst Quote (sym (eqb-true quote 34 e)) (record { passes = refl; line_not = refl; slash_not = refl; short = λ c x y. ne_eqb c 34 x })
    by_test false true e f h = subst Quote (sym (eqb-true quote 39 f)) (record { passes = refl; line_not = refl; slash_not = refl; short = λ c x y. ne_eqb c 39 y })
    by_test false false e f h = absurd (cc h)

-- what a text's rules pass leaves the text as open or closed as it was
closes_digits : (quote base : ℕ) (ds rest : List ℕ) → Quote quote → base ≤ 16 → AllDigits base ds → closes quote false (ds ++ rest) ≡ closes quote false rest
closes_digits quote base [] rest q b h = refl
closes_digits quote base (d ∷ ds) rest q b h =
    let a = digit_apart base d b h.0 in
    rw (ne_eqb d 10 a.0, q.short d a.1 a.2, ne_eqb d 92 a.3) (closes_digits quote base ds rest q b h.1)

behind_slash : (quote : ℕ) (bs : List ℕ) → Quote quote → closes quote false (92 ∷ bs) ≡ closes quote true bs
behind_slash quote bs q = rw q.slash_not refl

after_slash : (quote c : ℕ) (bs : List ℕ) → c ≢ 10 → closes quote true (c ∷ bs) ≡ closes quote false bs
after_slash quote c bs h = rw (ne_eqb c 10 h) refl

-- the byte after the `\` is no line feed
short_not_line : (c v : ℕ) → short_escape c ≡ Some v → c ≢ 10
short_not_line c v h e = cc (h, e)

closes_octal : (quote n : ℕ) (ds cs : List ℕ) → Quote quote → AreDigits 8 ds n → 0 < length ds → closes quote false (92 ∷ ds ++ cs) ≡ closes quote false cs
closes_octal quote n [] cs q a l = absurd (omega arith)
closes_octal quote n (d ∷ ds) cs q a l =
    let x = digit_apart 8 d (omega arith) a.0.0 in
    behind_slash quote (d ∷ ds ++ cs) q ∙ after_slash quote d (ds ++ cs) x.0 ∙ closes_digits quote 8 ds cs q (omega arith) a.0.1

closes_escape : {quote : ℕ} {e v rest : List ℕ} (cs : List ℕ) → Quote quote → Escape e v rest → closes quote false (e ++ cs) ≡ closes quote false cs
closes_escape {quote} cs q (Escape.short {c} {v} h) = behind_slash quote (c ∷ cs) q ∙ after_slash quote c cs (short_not_line c v h)
closes_escape {quote} cs q (Escape.hexadecimal {c} {n} {ds} (inl e) a s) =
    behind_slash quote (c ∷ ds ++ cs) q ∙ after_slash quote c (ds ++ cs) (λ z. omega (arith, e, z)) ∙ closes_digits quote 16 ds cs q (omega arith) a.0
closes_escape {quote} cs q (Escape.hexadecimal {c} {n} {ds} (inr e) a s) =
    behind_slash quote (c ∷ ds ++ cs) q ∙ after_slash quote c (ds ++ cs) (λ z. omega (arith, e, z)) ∙ closes_digits quote 16 ds cs q (omega arith) a.0
closes_escape {quote} cs q (Escape.octal {n} {ds} {rest} a s) = closes_octal quote n ds cs q a (some s)
  where
    some : {P Q : Type 0} → (length ds ≡ 3) ⊎ ((0 < length ds) × P × Q) → 0 < length ds
    some (inl e) = omega (arith, e)
    some (inr f) = f.0
closes_escape {quote} cs q (Escape.unicode {c} {n} {ds} (inl (e, l)) a s) =
    behind_slash quote (c ∷ ds ++ cs) q ∙ after_slash quote c (ds ++ cs) (λ z. omega (arith, e, z)) ∙ closes_digits quote 16 ds cs q (omega arith) a.0
closes_escape {quote} cs q (Escape.unicode {c} {n} {ds} (inr (e, l)) a s) =
    behind_slash quote (c ∷ ds ++ cs) q ∙ after_slash quote c (ds ++ cs) (λ z. omega (arith, e, z)) ∙ closes_digits quote 16 ds cs q (omega arith) a.0

pub closes_units : {quote : ℕ} {front vs rest : List ℕ} → Quote quote → Units quote front vs rest → closes quote false (front ++ rest) ≡ closes quote false rest
closes_units q (Units.none) = refl
closes_units {quote} {rest = rest} q (Units.plain {c} {cs} p u) = let a = plain_is quote c p in rw (a.line_not, a.quote_not, a.slash_not) (closes_units q u)
closes_units {quote} {rest = rest} q (Units.escape {e} {v} {cs} {vs} {es} x u j) =
    ap (λ es. closes quote false (es ++ rest)) j ∙ ap (closes quote false) (append_assoc e cs rest) ∙ closes_escape (cs ++ rest) q x ∙ closes_units q u

-- what stands where the units of a closed text stop: its quote, a NUL, or the `\` of no escape
pub data StopsAt (quote : ℕ) : List ℕ → Type 0 where
  at_quote : {rest : List ℕ} → StopsAt quote (quote ∷ rest)
  at_nul : {rest : List ℕ} → StopsAt quote (0 ∷ rest)
  at_slash : {rest : List ℕ} → escape_len rest ≡ 0 → StopsAt quote (92 ∷ rest)

stop_there : (quote : ℕ) (bs : List ℕ) → Quote quote → closes quote false bs ≡ true → units_len quote bs ≡ 0 → StopsAt quote bs
stop_there quote [] q h s = absurd (cc h)
stop_there quote (c ∷ cs) q h s = by_tests (eqb c quote) (eqb c 92) (eqb c 10) (eqb c 0) (eqb (escape_len cs) 0) refl refl refl refl refl
  where
    by_tests : (a b d e z : Bool) → eqb c quote ≡ a → eqb c 92 ≡ b → eqb c 10 ≡ d → eqb c 0 ≡ e → eqb (escape_len cs) 0 ≡ z → StopsAt quote (c ∷ cs)
    by_tests true b d e z ha hb hd he hz = subst (λ c. StopsAt quote (c ∷ cs)) (sym (eqb-true c quote ha)) StopsAt.at_quote
    by_tests false true d e true ha hb hd he hz = subst (λ c. StopsAt quote (c ∷ cs)) (sym (eqb-true c 92 hb)) (StopsAt.at_slash (eqb-true (escape_len cs) 0 hz))
    by_tests false true d e false ha hb hd he hz =
        let p : is_plain quote c ≡ false = rw (ha, hb) refl in
        let e : units_len quote (c ∷ cs) ≡ suc (units_from quote (escape_len cs) cs) = rw (p, hb, hz) refl in
        absurd (some (units_len quote (c ∷ cs)) (units_from quote (escape_len cs) cs) e s)
      where
        some : (n m : ℕ) → n ≡ suc m → n ≡ 0 → ⊥
        some n m e f = omega arith
    by_tests false false true e z ha hb hd he hz = let k : closes quote false (c ∷ cs) ≡ false = rw hd refl in absurd (cc (sym h ∙ k))
    by_tests false false false true z ha hb hd he hz = subst (λ c. StopsAt quote (c ∷ cs)) (sym (eqb-true c 0 he)) StopsAt.at_nul
    by_tests false false false false z ha hb hd he hz =
        let p : is_plain quote c ≡ true = rw (ha, hb, hd, he) refl in
        let e : units_len quote (c ∷ cs) ≡ suc (units_len quote cs) = rw p refl in
        absurd (some (units_len quote (c ∷ cs)) (units_len quote cs) e s)
      where
        some : (n m : ℕ) → n ≡ suc m → n ≡ 0 → ⊥
        some n m e f = omega arith

pub record ClosedAt (quote : ℕ) (bs : List ℕ) (n : ℕ) : Type 0 where
  pub room : n < length bs
  pub meant : List ℕ
  pub units : Units quote (take n bs) meant (drop n bs)
  pub stop : StopsAt quote (drop n bs)

pub closed_at : (quote : ℕ) (bs : List ℕ) → is_quote quote ≡ true → is_closed quote bs ≡ true → ClosedAt quote bs (units_len quote bs)
closed_at quote bs h c =
    let q = quote_is quote h in
    let n = units_len quote bs in
    let g = units_there (length bs) quote bs (omega arith) in
    let open_still : closes quote false (drop n bs) ≡ true = sym (closes_units q g.units) ∙ ap (closes quote false) (take-append-drop n bs) ∙ c in
    record { room = some n bs g.room open_still; meant = g.meant; units = g.units; stop = stop_there quote (drop n bs) q open_still g.stuck }
  where
    some : (n : ℕ) (bs : List ℕ) → n ≤ length bs → closes quote false (drop n bs) ≡ true → n < length bs
    some zero [] l h = absurd (cc h)
    some zero (c ∷ cs) l h = omega arith
    some (suc n) [] l h = absurd (omega arith)
    some (suc n) (c ∷ cs) l h = let r = some n cs (omega arith) h in omega arith

-- ---- what the code finds

pub open_text_there : (bs : List ℕ) → 0 < length bs → is_quote (slice_index bs 0) ≡ true → is_closed (slice_index bs 0) (drop 1 bs) ≡ false → (x : ℕ) → FaultHere x bs (x + 0) OpenText
open_text_there [] l q h x = absurd (omega arith)
open_text_there (c ∷ cs) l q h x = subst (λ y. FaultHere x (c ∷ cs) y OpenText) (omega arith) (FaultHere.open_text q h)

pub quote_at : (quote n : ℕ) (bs : List ℕ) → n < length bs → slice_index bs n ≡ quote → drop n bs ≡ quote ∷ drop (suc n) bs
quote_at quote n bs l h = drop-cons bs n 0 l ∙ ap (λ c. c ∷ drop (suc n) bs) h

pub text_piece : (bs : List ℕ) → 0 < length bs → is_quote (slice_index bs 0) ≡ true → is_closed (slice_index bs 0) (drop 1 bs) ≡ true
    → slice_index (drop 1 bs) (units_len (slice_index bs 0) (drop 1 bs)) ≡ slice_index bs 0
    → (0 < units_len (slice_index bs 0) (drop 1 bs) + 2) × (units_len (slice_index bs 0) (drop 1 bs) + 2 ≤ length bs) × IsTokenAt Text (units_len (slice_index bs 0) (drop 1 bs) + 2) bs
text_piece [] l q h e = absurd (omega arith)
text_piece (c ∷ cs) l q h e =
    let n = units_len c cs in
    let g = closed_at c cs q h in
    let r = g.room in
    let rest = drop (suc n) cs in
    let left : drop n cs ≡ c ∷ rest = quote_at c n cs r e in
    let size = length-append (take n cs) (c ∷ []) in
    let front = length-take-le n cs (omega arith) in (
      omega arith,
      omega arith,
      (
        c ∷ (take n cs ++ c ∷ []),
        rest,
        ap (λ r. c ∷ r) (sym (take-append-drop n cs) ∙ ap (λ r. take n cs ++ r) left ∙ sym (append_assoc (take n cs) (c ∷ []) rest)),
        omega arith,
        Spelled.a_text q (subst (Units c (take n cs) g.meant) left g.units) refl,
      ),
    )

pub text_fault : (bs : List ℕ) → 0 < length bs → is_quote (slice_index bs 0) ≡ true → is_closed (slice_index bs 0) (drop 1 bs) ≡ true
    → slice_index (drop 1 bs) (units_len (slice_index bs 0) (drop 1 bs)) ≢ slice_index bs 0
    → (x : ℕ) → FaultHere x bs (x + (1 + units_len (slice_index bs 0) (drop 1 bs))) BadToken
text_fault [] l q h e x = absurd (omega arith)
text_fault (c ∷ cs) l q h e x =
    let n = units_len c cs in
    let g = closed_at c cs q h in
    let r = g.room in
    let front = length-take-le n cs (omega arith) in
    subst (λ y. FaultHere x (c ∷ cs) y BadToken) (place x n (length (take n cs)) front) (by_stop (take n cs) g.meant (drop n cs) g.units g.stop (sym (take-append-drop n cs)) (λ s. e (here n cs r s)))
  where
    place : (x n m : ℕ) → m ≡ n → suc x + m ≡ x + (1 + n)
    place x n m f = omega arith

    here : (n : ℕ) (cs : List ℕ) → n < length cs → (rest : List ℕ) × (drop n cs ≡ c ∷ rest) → slice_index cs n ≡ c
    here n cs l (rest, f) = ap (λ r. get_or r 0 0) (sym (drop-cons cs n 0 l) ∙ f)

    by_stop : (front vs rest : List ℕ) → Units c front vs rest → StopsAt c rest → cs ≡ front ++ rest → ((t : List ℕ) × (rest ≡ c ∷ t) → ⊥) → FaultHere x (c ∷ cs) (suc x + length front) BadToken
    by_stop front vs [] u s j f = elim s [ ]
    by_stop front vs (d ∷ rest) u (StopsAt.at_quote) j f = absurd (f (rest, refl))
    by_stop front vs (d ∷ rest) u (StopsAt.at_nul) j f = FaultHere.nul_in_text q h u j
    by_stop front vs (d ∷ rest) u (StopsAt.at_slash z) j f = FaultHere.bad_escape q h u (no_escape rest z) j

pub text_room : (bs : List ℕ) → 0 < length bs → is_quote (slice_index bs 0) ≡ true → is_closed (slice_index bs 0) (drop 1 bs) ≡ true
    → (units_len (slice_index bs 0) (drop 1 bs) < length (drop 1 bs)) × (units_len (slice_index bs 0) (drop 1 bs) + 2 ≤ length bs)
text_room [] l q h = absurd (omega arith)
text_room (c ∷ cs) l q h = let g = closed_at c cs q h in let r = g.room in (r, omega arith)
