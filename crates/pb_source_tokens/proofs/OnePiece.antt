-- What stands at the front of bytes is one thing.
use Rattle.std.proofs.Common.{◌≡◌, ◌≢◌, ℕ, zero, suc, ◌+◌, ◌<◌, List, [], ◌∷◌, ◌++◌, length, take, drop, Bool, true, false, not, ◌&&◌, ◌||◌, ◌==◌, eqb, Option, Some, None, refl, ap, sym, ◌∙◌, subst, arith, inl, inr, eq-eqb, ne_eqb, eqb-true, append_assoc, length-append, take-append-drop}
use Rattle.std.proofs.Math.Seq.{drop-append_seam}
use Rattle.std.specs.Prelude.{if◌then◌else◌}
use Rattle.std.specs.List.{list_all}
use Rattle.std.specs.Char.{is_ascii_digit}
use Rattle.pb_source_tokens.specs.Tokens.{Spelled, Comment, FaultHere, Units, Stops, NoEscape, begins_word, continues_word, goes_on_line, is_blank, is_quote, is_sign, is_plain, begins_comment, has_close, closes, is_closed}
use Rattle.pb_source_tokens.specs.Texts.{escape_len, units_len}
use Rattle.pb_source_tokens.specs.declared.token.TokenKind.{TokenKind}
use Rattle.pb_source_tokens.specs.declared.token.TokenKind.TheVariants.{Word, Number, Text, Sign}
use Rattle.pb_source_tokens.specs.declared.fault.SourceCause.{SourceCause}
use Rattle.pb_source_tokens.specs.declared.fault.SourceCause.TheVariants.{BadToken, OpenComment, OpenText}
use Rattle.pb_source_tokens.proofs.CommentLemmas.{or_parts}
use Rattle.pb_source_tokens.proofs.AsciiLemmas.{and_parts, begins_ascii, digit_ascii, quote_ascii, sign_ascii}
use Rattle.pb_source_tokens.proofs.TextLemmas.{escape_there, slash_plain, units_count}
use Rattle.pb_source_tokens.proofs.TextPieces.{quote_is, closes_units}

-- ---- the kind of a first byte

abbrev kind_of : ℕ → ℕ
kind_of c = if◌then◌else◌ (is_blank c) 0 (if◌then◌else◌ (begins_word c) 1 (if◌then◌else◌ (is_ascii_digit c) 2 (if◌then◌else◌ (is_quote c) 3 (if◌then◌else◌ (eqb c 47) 4 (if◌then◌else◌ (is_sign c) 5 6)))))

abbrev all_below : (ℕ → Bool) → ℕ → Bool
all_below f zero = true
all_below f (suc n) = f n && all_below f n

one_below : (f : ℕ → Bool) (n c : ℕ) → all_below f n ≡ true → c < n → f c ≡ true
one_below f zero c h l = absurd (omega arith)
one_below f (suc n) c h l = by_test (eqb c n) refl (λ k. one_below f n c (and_parts (f n) (all_below f n) h).1 k)
  where
    other : (c n : ℕ) → eqb c n ≡ false → c < suc n → c < n
    other c n e l = let x : c ≢ n = λ z. absurd (cc (sym (eq-eqb c n z) ∙ e)) in omega (arith, x)

    by_test : (b : Bool) → eqb c n ≡ b → (c < n → f c ≡ true) → f c ≡ true
    by_test true e k = subst (λ n. f n ≡ true) (sym (eqb-true c n e)) (and_parts (f n) (all_below f n) h).0
    by_test false e k = k (other c n e l)

-- a byte that passes is of the kind
abbrev passes_kind : (ℕ → Bool) → ℕ → ℕ → Bool
passes_kind test k c = not (test c) || eqb (kind_of c) k

kind_by : (test : ℕ → Bool) (k c : ℕ) → all_below (passes_kind test k) 128 ≡ true → c < 128 → test c ≡ true → kind_of c ≡ k
kind_by test k c h l t = by_test (test c) (eqb (kind_of c) k) refl (one_below (passes_kind test k) 128 c h l) t
  where
    by_test : (a b : Bool) → eqb (kind_of c) k ≡ b → not a || b ≡ true → a ≡ true → kind_of c ≡ k
    by_test true true e p t = eqb-true (kind_of c) k e
    by_test true false e p t = absurd (cc p)
    by_test false b e p t = absurd (cc t)

word_kind : (c : ℕ) → begins_word c ≡ true → kind_of c ≡ 1
word_kind c h = kind_by (λ c. begins_word c) 1 c refl (begins_ascii c h) h

number_kind : (c : ℕ) → is_ascii_digit c ≡ true → kind_of c ≡ 2
number_kind c h = kind_by (λ c. is_ascii_digit c) 2 c refl (digit_ascii c h) h

quote_kind : (c : ℕ) → is_quote c ≡ true → kind_of c ≡ 3
quote_kind c h = kind_by (λ c. is_quote c) 3 c refl (quote_ascii c h) h

sign_kind : (c : ℕ) → is_sign c ≡ true → c ≢ 47 → kind_of c ≡ 5
sign_kind c h x = kind_by (λ c. is_sign c && not (eqb c 47)) 5 c refl (sign_ascii c h) (rw (h, ne_eqb c 47 x) refl)

blank_kind : (c : ℕ) → is_blank c ≡ true → kind_of c ≡ 0
blank_kind c h = rw h refl

no_kind : (c : ℕ) → is_blank c ≡ false → continues_word c ≡ false → is_quote c ≡ false → is_sign c ≡ false → kind_of c ≡ 6
no_kind c a b d e =
    let p = or_parts (begins_word c) (is_ascii_digit c) b in
    let x : c ≢ 47 = λ z. cc (sym e ∙ ap is_sign z) in
    rw (e, a, p.0, p.1, d, ne_eqb c 47 x) refl

-- ---- lengths

abbrev pub run_len : (ℕ → Bool) → List ℕ → ℕ
run_len test [] = 0
run_len test (c ∷ cs) = if◌then◌else◌ (test c) (suc (run_len test cs)) 0

run_is : (test : ℕ → Bool) (cs rest : List ℕ) → list_all test cs ≡ true → Stops test rest → run_len test (cs ++ rest) ≡ length cs
run_is test [] [] h s = refl
run_is test [] (c ∷ cs) h s = rw s refl
run_is test (c ∷ cs) rest h s = let p = and_parts (test c) (list_all test cs) h in rw p.0 (ap suc (run_is test cs rest p.1 s))

abbrev one_on : Option ℕ → Option ℕ
one_on None = None
one_on (Some n) = Some (suc n)

-- how many bytes stand before the first `*/`
abbrev pub close_len : List ℕ → Option ℕ
close_len [] = None
close_len (c ∷ []) = None
close_len (c ∷ d ∷ cs) = if◌then◌else◌ (c == 42 && d == 47) (Some 0) (one_on (close_len (d ∷ cs)))

none_closes : (bs : List ℕ) → has_close bs ≡ false → close_len bs ≡ None
none_closes [] h = refl
none_closes (c ∷ []) h = refl
none_closes (c ∷ d ∷ cs) h = let p = or_parts (c == 42 && d == 47) (has_close (d ∷ cs)) h in rw (p.0, none_closes (d ∷ cs) p.1) refl

first_closes : (body rest : List ℕ) → has_close (body ++ 42 ∷ []) ≡ false → close_len (body ++ 42 ∷ 47 ∷ rest) ≡ Some (length body)
first_closes [] rest h = refl
first_closes (c ∷ []) rest h = let p = or_parts (c == 42 && false) false h in rw (p.0) refl
first_closes (c ∷ d ∷ ds) rest h = let p = or_parts (c == 42 && d == 47) (has_close (d ∷ ds ++ 42 ∷ [])) h in rw (p.0, first_closes (d ∷ ds) rest p.1) refl

-- ---- what stands at the front

pub data Found : Type 0 where
  gap : ℕ → Found
  token : TokenKind → ℕ → Found
  fault : ℕ → SourceCause → Found

abbrev on_close : Option ℕ → Found
on_close None = Found.fault 0 OpenComment
on_close (Some n) = Found.gap (n + 4)

abbrev after_slash : List ℕ → Found
after_slash [] = Found.token Sign 1
after_slash (d ∷ ds) = if◌then◌else◌ (d == 47) (Found.gap (run_len goes_on_line ds + 2)) (if◌then◌else◌ (d == 42) (on_close (close_len ds)) (Found.token Sign 1))

abbrev first_is : ℕ → List ℕ → Bool
first_is quote [] = false
first_is quote (c ∷ cs) = c == quote

abbrev text_of : ℕ → List ℕ → Found
text_of quote cs =
    if◌then◌else◌ (is_closed quote cs)
    (if◌then◌else◌ (first_is quote (drop (units_len quote cs) cs)) (Found.token Text (units_len quote cs + 2)) (Found.fault (suc (units_len quote cs)) BadToken))
    (Found.fault 0 OpenText)

abbrev by_kind : ℕ → ℕ → List ℕ → Found
by_kind zero c cs = Found.gap 1
by_kind (suc zero) c cs = Found.token Word (suc (run_len continues_word cs))
by_kind (suc (suc zero)) c cs = Found.token Number (suc (run_len continues_word cs))
by_kind (suc (suc (suc zero))) c cs = text_of c cs
by_kind (suc (suc (suc (suc zero)))) c cs = after_slash cs
by_kind (suc (suc (suc (suc (suc zero))))) c cs = Found.token Sign 1
by_kind (suc (suc (suc (suc (suc (suc k)))))) c cs = Found.fault 0 BadToken

abbrev pub found_at : List ℕ → Found
found_at [] = Found.fault 0 BadToken
found_at (c ∷ cs) = by_kind (kind_of c) c cs

of_kind : (k c : ℕ) (cs : List ℕ) → kind_of c ≡ k → found_at (c ∷ cs) ≡ by_kind k c cs
of_kind k c cs h = ap (λ k. by_kind k c cs) h

-- ---- the rules leave no choice

pub blank_found : (c : ℕ) (cs : List ℕ) → is_blank c ≡ true → found_at (c ∷ cs) ≡ Found.gap 1
blank_found c cs h = of_kind 0 c cs (blank_kind c h)

pub record FoundGap (c rest : List ℕ) : Type 0 where
  pub some : 0 < length c
  pub found : found_at (c ++ rest) ≡ Found.gap (length c)

pub comment_found : {c rest : List ℕ} → Comment c rest → FoundGap c rest
comment_found (Comment.to_line_end body rest h s) = record { some = omega arith; found = ap (λ n. Found.gap (n + 2)) (run_is goes_on_line body rest h s) ∙ ap Found.gap (two (length body)) }
  where
    two : (n : ℕ) → n + 2 ≡ suc (suc n)
    two n = omega arith
comment_found (Comment.to_close body rest h) = record {
  some = omega arith;
  found = ap (λ r. found_at (47 ∷ 42 ∷ r)) (append_assoc body (42 ∷ 47 ∷ []) rest) ∙ ap on_close (first_closes body rest h)
      ∙ ap Found.gap (four (length body) (length (body ++ 42 ∷ 47 ∷ [])) (length-append body (42 ∷ 47 ∷ [])));
}
  where
    four : (n m : ℕ) → m ≡ n + 2 → n + 4 ≡ suc (suc m)
    four n m e = omega arith

-- ---- texts

line_quote : (quote : ℕ) → is_quote quote ≡ true → (eqb quote 10 ≡ false) × (eqb 0 quote ≡ false) × (eqb quote 92 ≡ false)
line_quote quote h = by_test (eqb quote 34) (eqb quote 39) refl refl h
  where
    by_test : (a b : Bool) → eqb quote 34 ≡ a → eqb quote 39 ≡ b → a || b ≡ true → (eqb quote 10 ≡ false) × (eqb 0 quote ≡ false) × (eqb quote 92 ≡ false)
    by_test true b e f h = subst (λ q. (eqb q 10 ≡ false) × (eqb 0 q ≡ false) × (eqb q 92 ≡ false)) (sym (eqb-true quote 34 e)) (refl, refl, refl)
    by_test false true e f h = subst (λ q. (eqb q 10 ≡ false) × (eqb 0 q ≡ false) × (eqb q 92 ≡ false)) (sym (eqb-true quote 39 f)) (refl, refl, refl)
    by_test false false e f h = absurd (cc h)

closes_here : (quote : ℕ) (rest : List ℕ) → is_quote quote ≡ true → closes quote false (quote ∷ rest) ≡ true
closes_here quote rest h = rw ((line_quote quote h).0, eq-eqb quote quote refl) refl

stuck_quote : (quote : ℕ) (rest : List ℕ) → is_quote quote ≡ true → units_len quote (quote ∷ rest) ≡ 0
stuck_quote quote rest h =
    let p : is_plain quote quote ≡ false = rw (eq-eqb quote quote refl) refl in
    rw (p, (line_quote quote h).2) refl

stuck_nul : (quote : ℕ) (rest : List ℕ) → units_len quote (0 ∷ rest) ≡ 0
stuck_nul quote rest = rw (by_test (eqb 0 quote)) refl
  where
    by_test : (b : Bool) → not (b || false || false || true) ≡ false
    by_test true = refl
    by_test false = refl

stuck_slash : (quote : ℕ) (rest : List ℕ) → escape_len rest ≡ 0 → units_len quote (92 ∷ rest) ≡ 0
stuck_slash quote rest z = rw (slash_plain quote, z) refl

no_length : (rest : List ℕ) → NoEscape (92 ∷ rest) → escape_len rest ≡ 0
no_length rest never = by_len (escape_len rest) refl
  where
    by_len : (n : ℕ) → escape_len rest ≡ n → escape_len rest ≡ 0
    by_len zero e = e
    by_len (suc n) e =
        let x = escape_there rest (λ z. some n (sym e ∙ z)) in
        absurd (never (92 ∷ take (escape_len rest) rest) x.2 (drop (escape_len rest) rest) x.3 (ap (λ r. 92 ∷ r) (sym (take-append-drop (escape_len rest) rest))))
      where
        some : (n : ℕ) → suc n ≡ 0 → ⊥
        some n h = omega arith

-- where the units of a text stop
stops_at : (quote : ℕ) (front vs rest : List ℕ) → Units quote front vs rest → units_len quote rest ≡ 0 → units_len quote (front ++ rest) ≡ length front
stops_at quote front vs rest u s = units_count u ∙ ap (λ n. length front + n) s ∙ none (length front)
  where
    none : (n : ℕ) → n + 0 ≡ n
    none n = omega arith

text_at : (quote n : ℕ) (front rest : List ℕ) (b : Bool) → is_quote quote ≡ true → is_closed quote (front ++ rest) ≡ true → units_len quote (front ++ rest) ≡ length front → first_is quote rest ≡ b
    → found_at (quote ∷ front ++ rest) ≡ if◌then◌else◌ b (Found.token Text (length front + 2)) (Found.fault (suc (length front)) BadToken)
text_at quote n front rest b q c s f =
    of_kind 3 quote (front ++ rest) (quote_kind quote q)
    ∙ ap (λ c. if◌then◌else◌ c (if◌then◌else◌ (first_is quote (drop (units_len quote (front ++ rest)) (front ++ rest))) (Found.token Text (units_len quote (front ++ rest) + 2))
    (Found.fault (suc (units_len quote (front ++ rest))) BadToken)) (Found.fault 0 OpenText)) c
    ∙ ap (λ n. if◌then◌else◌ (first_is quote (drop n (front ++ rest))) (Found.token Text (n + 2)) (Found.fault (suc n) BadToken)) s
    ∙ ap (λ r. if◌then◌else◌ (first_is quote r) (Found.token Text (length front + 2)) (Found.fault (suc (length front)) BadToken)) (drop-append_seam front rest)
    ∙ ap (λ b. if◌then◌else◌ b (Found.token Text (length front + 2)) (Found.fault (suc (length front)) BadToken)) f

-- ---- tokens

pub record FoundToken (k : TokenKind) (t rest : List ℕ) : Type 0 where
  pub some : 0 < length t
  pub found : found_at (t ++ rest) ≡ Found.token k (length t)

slash_sign : (rest : List ℕ) → Stops begins_comment rest → after_slash rest ≡ Found.token Sign 1
slash_sign [] s = refl
slash_sign (d ∷ ds) s = let p = or_parts (eqb d 47) (eqb d 42) s in rw (p.0, p.1) refl

pub spelled_found : {k : TokenKind} {t rest : List ℕ} → Spelled k t rest → FoundToken k t rest
spelled_found (Spelled.a_word {c} {cs} {rest} h a s) =
    record { some = omega arith; found = of_kind 1 c (cs ++ rest) (word_kind c h) ∙ ap (λ n. Found.token Word (suc n)) (run_is continues_word cs rest a s) }
spelled_found (Spelled.a_number {c} {cs} {rest} h a s) =
    record { some = omega arith; found = of_kind 2 c (cs ++ rest) (number_kind c h) ∙ ap (λ n. Found.token Number (suc n)) (run_is continues_word cs rest a s) }
spelled_found (Spelled.a_text {quote} {cs} {vs} {ts} {rest} q u j) =
    let closed : is_closed quote (cs ++ quote ∷ rest) ≡ true = closes_units (quote_is quote q) u ∙ closes_here quote rest q in
    let size : length ts ≡ length cs + 2 = ap length j ∙ ap suc (length-append cs (quote ∷ [])) ∙ two (length cs) in
    let whole : ts ++ rest ≡ quote ∷ cs ++ quote ∷ rest = ap (λ t. t ++ rest) j ∙ ap (λ r. quote ∷ r) (append_assoc cs (quote ∷ []) rest) in
    record {
      some = omega arith;
      found = ap found_at whole ∙ text_at quote 0 cs (quote ∷ rest) true q closed (stops_at quote cs vs (quote ∷ rest) u (stuck_quote quote rest q)) (eq-eqb quote quote refl) ∙ ap (Found.token Text) (sym size);
    }
  where
    two : (n : ℕ) → suc (n + 1) ≡ n + 2
    two n = omega arith
spelled_found (Spelled.a_sign {c} {rest} h (inl x)) = record { some = omega arith; found = of_kind 5 c rest (sign_kind c h x) }
spelled_found (Spelled.a_sign {c} {rest} h (inr s)) = record { some = omega arith; found = by_test (eqb c 47) refl }
  where
    by_test : (b : Bool) → eqb c 47 ≡ b → found_at (c ∷ rest) ≡ Found.token Sign 1
    by_test true e = subst (λ c. found_at (c ∷ rest) ≡ Found.token Sign 1) (sym (eqb-true c 47 e)) (slash_sign rest s)
    by_test false e = of_kind 5 c rest (sign_kind c h (λ z. cc (sym (eq-eqb c 47 z) ∙ e)))

-- ---- faults

pub record FoundFault (x : ℕ) (bs : List ℕ) (place : ℕ) (c : SourceCause) : Type 0 where
  pub some : 0 < length bs
  pub offset : ℕ
  pub at : place ≡ x + offset
  pub found : found_at bs ≡ Found.fault offset c

pub fault_found : {x place : ℕ} {bs : List ℕ} {c : SourceCause} → FaultHere x bs place c → FoundFault x bs place c
fault_found {x} (FaultHere.open_comment {bs} h) = record { some = omega arith; offset = 0; at = omega arith; found = ap on_close (none_closes bs h) }
fault_found {x} (FaultHere.open_text {quote} {bs} q h) = record { some = omega arith; offset = 0; at = omega arith; found = of_kind 3 quote bs (quote_kind quote q) ∙ rw h refl }
fault_found {x} (FaultHere.nul_in_text {quote} {bs} {front} {vs} {rest} q h u j) = record {
  some = omega arith;
  offset = suc (length front);
  at = omega arith;
  found = ap (λ r. found_at (quote ∷ r)) j ∙ text_at quote 0 front (0 ∷ rest) false q (ap (is_closed quote) (sym j) ∙ h) (stops_at quote front vs (0 ∷ rest) u (stuck_nul quote rest)) (line_quote quote q).1;
}
fault_found {x} (FaultHere.bad_escape {quote} {bs} {front} {vs} {rest} q h u never j) = record {
  some = omega arith;
  offset = suc (length front);
  at = omega arith;
  found = ap (λ r. found_at (quote ∷ r)) j
      ∙ text_at quote 0 front (92 ∷ rest) false q (ap (is_closed quote) (sym j) ∙ h) (stops_at quote front vs (92 ∷ rest) u (stuck_slash quote rest (no_length rest never))) (quote_is quote q).slash_not;
}
fault_found {x} (FaultHere.bad_byte {c} {bs} a b d e) = record { some = omega arith; offset = 0; at = omega arith; found = of_kind 6 c bs (no_kind c a b d e) }
