-- Every source has tokens or a fault.
use Rattle.std.proofs.Common.{◌≡◌, ℕ, zero, suc, ◌+◌, ◌<◌, ◌≤◌, List, [], ◌∷◌, ◌++◌, length, Bool, true, false, ◌&&◌, ◌==◌, eqb, refl, ap, sym, ◌∙◌, subst, arith, ◌⊎◌, inl, inr, eqb-true, eq-eqb, length-append}
use Rattle.std.specs.Prelude.{slice_index}
use Rattle.std.specs.List.{list_all}
use Rattle.std.specs.Char.{is_ascii_digit}
use Rattle.pb_source_tokens.specs.Tokens.{PlacedToken, Spelled, Comment, Lexes, FaultHere, Stops, begins_word, continues_word, goes_on_line, is_blank, is_sign, is_quote, has_close, is_closed, after_mark, AreTokens, LexFault}
use Rattle.pb_source_tokens.specs.Texts.{units_len}
use Rattle.pb_source_tokens.specs.declared.token.TokenKind.{TokenKind}
use Rattle.pb_source_tokens.specs.declared.fault.SourceCause.{SourceCause}
use Rattle.pb_source_tokens.specs.declared.fault.SourceCause.TheVariants.{BadToken, OpenComment, OpenText}
use Rattle.pb_source_tokens.proofs.CommentLemmas.{both_false}
use Rattle.pb_source_tokens.proofs.PieceLemmas.{bad_piece}
use Rattle.pb_source_tokens.proofs.TextPieces.{open_text_there, text_piece, text_fault}
use Rattle.pb_source_tokens.proofs.OnePiece.{comment_found, spelled_found}

-- ---- runs, and where a comment ends

-- the bytes of a run that pass, and what stops it
record Run (test : ℕ → Bool) (bs : List ℕ) : Type 0 where
  front : List ℕ
  rest : List ℕ
  joined : bs ≡ front ++ rest
  passes : list_all test front ≡ true
  stops : Stops test rest

run : (test : ℕ → Bool) (bs : List ℕ) → Run test bs
run test [] = record { front = []; rest = []; joined = refl; passes = refl; stops = tt }
run test (c ∷ cs) = by_test (test c) refl (run test cs)
  where
    by_test : (b : Bool) → test c ≡ b → Run test cs → Run test (c ∷ cs)
    by_test true h r = record {
      front = c ∷ r.front;
      rest = r.rest;
      joined = ap (λ x. c ∷ x) r.joined;
      passes = ap (λ b. b && list_all test r.front) h
          ∙ r.passes;
      stops = r.stops;
    }
    by_test false h r = record { front = []; rest = c ∷ cs; joined = refl; passes = refl; stops = h }

-- the bytes before the first `*/`, and after it
record Close (bs : List ℕ) : Type 0 where
  body : List ℕ
  rest : List ℕ
  joined : bs ≡ body ++ 42 ∷ 47 ∷ rest
  first : has_close (body ++ 42 ∷ []) ≡ false

close : (bs : List ℕ) → (has_close bs ≡ false) ⊎ Close bs
close [] = inl refl
close (c ∷ []) = inl refl
close (c ∷ d ∷ cs) = by_test (c == 42 && d == 47) refl (close (d ∷ cs))
  where
    here : (c d : ℕ) → (c == 42 && d == 47) ≡ true → (c ≡ 42) × (d ≡ 47)
    here c d h = by_tests (eqb c 42) (eqb d 47) refl refl h
      where
        by_tests : (a b : Bool) → eqb c 42 ≡ a → eqb d 47 ≡ b → (a && b) ≡ true → (c ≡ 42) × (d ≡ 47)
        by_tests true true e f h = (eqb-true c 42 e, eqb-true d 47 f)
        by_tests true false e f h = absurd (cc h)
        by_tests false b e f h = absurd (cc h)

    no_end : (b : Bool) → (b && false) ≡ false
    no_end true = refl
    no_end false = refl

    longer : (body rest : List ℕ) → (c == 42 && d == 47) ≡ false → d ∷ cs ≡ body ++ 42 ∷ 47 ∷ rest → has_close (body ++ 42 ∷ []) ≡ false
        → has_close (c ∷ body ++ 42 ∷ []) ≡ false
    longer [] rest h j f = both_false (c == 42 && false) false (no_end (c == 42)) refl
    longer (e ∷ body) rest h j f =
        let same : d ≡ e = heads j in
        both_false (c == 42 && e == 47) (has_close (e ∷ body ++ 42 ∷ [])) (subst (λ x. (c == 42 && x == 47) ≡ false) same h) f
      where
        heads : {x y : ℕ} {xs ys : List ℕ} → x ∷ xs ≡ y ∷ ys → x ≡ y
        heads h = cc h

    by_test : (b : Bool) → (c == 42 && d == 47) ≡ b → (has_close (d ∷ cs) ≡ false) ⊎ Close (d ∷ cs) → (has_close (c ∷ d ∷ cs) ≡ false) ⊎ Close (c ∷ d ∷ cs)
    by_test true h later = let e = here c d h in
        inr (record { body = []; rest = cs; joined = ap (λ x. x ∷ d ∷ cs) e.0 ∙ ap (λ x. 42 ∷ x ∷ cs) e.1; first = refl })
    by_test false h (inl f) = inl (both_false (c == 42 && d == 47) (has_close (d ∷ cs)) h f)
    by_test false h (inr r) =
        inr (record { body = c ∷ r.body; rest = r.rest; joined = ap (λ x. c ∷ x) r.joined; first = longer r.body r.rest h r.joined r.first })

-- ---- what stands at the front

data Stands (bs : List ℕ) : Type 0 where
  a_blank : {c : ℕ} {rest : List ℕ} → is_blank c ≡ true → bs ≡ c ∷ rest → Stands bs
  a_comment : {c rest : List ℕ} → Comment c rest → bs ≡ c ++ rest → Stands bs
  a_token : {k : TokenKind} {t rest : List ℕ} → Spelled k t rest → bs ≡ t ++ rest → Stands bs
  a_fault : (offset : ℕ) (c : SourceCause) → ((x : ℕ) → FaultHere x bs (x + offset) c) → Stands bs

word_there : (c : ℕ) (cs : List ℕ) → begins_word c ≡ true → Stands (c ∷ cs)
word_there c cs h = let r = run continues_word cs in
    Stands.a_token (Spelled.a_word {c = c} {cs = r.front} {rest = r.rest} h r.passes r.stops) (ap (λ x. c ∷ x) r.joined)

number_there : (c : ℕ) (cs : List ℕ) → is_ascii_digit c ≡ true → Stands (c ∷ cs)
number_there c cs h = let r = run continues_word cs in
    Stands.a_token (Spelled.a_number {c = c} {cs = r.front} {rest = r.rest} h r.passes r.stops) (ap (λ x. c ∷ x) r.joined)

text_there : (c : ℕ) (cs : List ℕ) → is_quote c ≡ true → Stands (c ∷ cs)
text_there c cs q = by_close (is_closed c cs) refl
  where
    by_end : (b : Bool) → eqb (slice_index cs (units_len c cs)) c ≡ b → is_closed c cs ≡ true → Stands (c ∷ cs)
    by_end true e h = let p = text_piece (c ∷ cs) (omega arith) q h (eqb-true (slice_index cs (units_len c cs)) c e) in Stands.a_token p.2.4 p.2.2
    by_end false e h = Stands.a_fault (1 + units_len c cs) BadToken
        (text_fault (c ∷ cs) (omega arith) q h (λ z. cc (sym (eq-eqb (slice_index cs (units_len c cs)) c z) ∙ e)))

    by_close : (b : Bool) → is_closed c cs ≡ b → Stands (c ∷ cs)
    by_close true h = by_end (eqb (slice_index cs (units_len c cs)) c) refl h
    by_close false h = Stands.a_fault 0 OpenText (open_text_there (c ∷ cs) (omega arith) q h)

slash_there : (cs : List ℕ) → Stands (47 ∷ cs)
slash_there [] = Stands.a_token (Spelled.a_sign {c = 47} {rest = []} refl (inr tt)) refl
slash_there (d ∷ ds) = by_tests (eqb d 47) (eqb d 42) refl refl
  where
    line : Stands (47 ∷ 47 ∷ ds)
    line = let r = run goes_on_line ds in Stands.a_comment (Comment.to_line_end r.front r.rest r.passes r.stops) (ap (λ x. 47 ∷ 47 ∷ x) r.joined)

    closed : (has_close ds ≡ false) ⊎ Close ds → Stands (47 ∷ 42 ∷ ds)
    closed (inl h) = Stands.a_fault 0 OpenComment (λ x. subst (λ y. FaultHere x (47 ∷ 42 ∷ ds) y OpenComment) (omega arith) (FaultHere.open_comment h))
    closed (inr r) =
        Stands.a_comment (Comment.to_close r.body r.rest r.first)
        (ap (λ x. 47 ∷ 42 ∷ x) (r.joined ∙ sym (Rattle.std.proofs.Common.append_assoc r.body (42 ∷ 47 ∷ []) r.rest)))

    by_tests : (a b : Bool) → eqb d 47 ≡ a → eqb d 42 ≡ b → Stands (47 ∷ d ∷ ds)
    by_tests true b e f = subst (λ d. Stands (47 ∷ d ∷ ds)) (sym (eqb-true d 47 e)) line
    by_tests false true e f = subst (λ d. Stands (47 ∷ d ∷ ds)) (sym (eqb-true d 42 f)) (closed (close ds))
    by_tests false false e f = Stands.a_token (Spelled.a_sign {c = 47} {rest = d ∷ ds} refl (inr (both_false (eqb d 47) (eqb d 42) e f))) refl

stands : (c : ℕ) (cs : List ℕ) → Stands (c ∷ cs)
stands c cs = by_tests (is_blank c) (begins_word c) (is_ascii_digit c) (is_quote c) (eqb c 47) (is_sign c) refl refl refl refl refl refl
  where
    by_tests : (u v w x y z : Bool) → is_blank c ≡ u → begins_word c ≡ v → is_ascii_digit c ≡ w → is_quote c ≡ x → eqb c 47 ≡ y → is_sign c ≡ z
        → Stands (c ∷ cs)
    by_tests true v w x y z hu hv hw hx hy hz = Stands.a_blank hu refl
    by_tests false true w x y z hu hv hw hx hy hz = word_there c cs hv
    by_tests false false true x y z hu hv hw hx hy hz = number_there c cs hw
    by_tests false false false true y z hu hv hw hx hy hz = text_there c cs hx
    by_tests false false false false true z hu hv hw hx hy hz = subst (λ c. Stands (c ∷ cs)) (sym (eqb-true c 47 hy)) (slash_there cs)
    by_tests false false false false false true hu hv hw hx hy hz =
        Stands.a_token (Spelled.a_sign {c = c} {rest = cs} hz (inl (λ e. cc (sym (eq-eqb c 47 e) ∙ hy)))) refl
    by_tests false false false false false false hu hv hw hx hy hz = Stands.a_fault 0 BadToken (bad_piece (c ∷ cs) (omega arith) hu hv hw hx hz)

-- ---- a whole source

-- from a place on there are whole tokens up to the end, or up to a fault
data Ends (x : ℕ) (bs : List ℕ) : Type 0 where
  at_end : {y : ℕ} {ts : List PlacedToken} → Lexes x bs ts y [] → Ends x bs
  at_fault : {y place : ℕ} {ts : List PlacedToken} {rest : List ℕ} {c : SourceCause} → Lexes x bs ts y rest → FaultHere y rest place c → Ends x bs

shorter : (a b c : List ℕ) (m : ℕ) → a ≡ b ++ c → 0 < length b → length a ≤ suc m → length c ≤ m
shorter a b c m j l k = let e : length a ≡ length b + length c = ap length j ∙ length-append b c in omega arith

ends : (m x : ℕ) (bs : List ℕ) → length bs ≤ m → Ends x bs
ends m x [] l = Ends.at_end Lexes.done
ends zero x (c ∷ cs) l = absurd (omega arith)
ends (suc m) x (c ∷ cs) l = go_on (ends m) (stands c cs)
  where
    blank : {c : ℕ} {rest : List ℕ} → is_blank c ≡ true → Ends (suc x) rest → Ends x (c ∷ rest)
    blank b (Ends.at_end g) = Ends.at_end (Lexes.blank b g)
    blank b (Ends.at_fault g f) = Ends.at_fault (Lexes.blank b g) f

    comment : {bs c rest : List ℕ} → Comment c rest → bs ≡ c ++ rest → Ends (x + length c) rest → Ends x bs
    comment d j (Ends.at_end g) = Ends.at_end (Lexes.comment d g j)
    comment d j (Ends.at_fault g f) = Ends.at_fault (Lexes.comment d g j) f

    token : {bs : List ℕ} {k : TokenKind} {t rest : List ℕ} → Spelled k t rest → bs ≡ t ++ rest → Ends (x + length t) rest → Ends x bs
    token s j (Ends.at_end g) = Ends.at_end (Lexes.token s g j)
    token s j (Ends.at_fault g f) = Ends.at_fault (Lexes.token s g j) f

    go_on : ((y : ℕ) (rest : List ℕ) → length rest ≤ m → Ends y rest) → Stands (c ∷ cs) → Ends x (c ∷ cs)
    go_on f (Stands.a_blank {c = d} {rest} b j) = subst (Ends x) (sym j) (blank b (f (suc x) rest (shorter (c ∷ cs) (d ∷ []) rest m j (omega arith) l)))
    go_on f (Stands.a_comment {c = d} {rest} s j) = comment s j (f (x + length d) rest (shorter (c ∷ cs) d rest m j (comment_found s).some l))
    go_on f (Stands.a_token {k} {t} {rest} s j) = token s j (f (x + length t) rest (shorter (c ∷ cs) t rest m j (spelled_found s).some l))
    go_on f (Stands.a_fault offset d g) = Ends.at_fault Lexes.done (g x)

pub tokens_or_fault : (bs : List ℕ) → ((ts : List PlacedToken) × AreTokens bs ts) ⊎ ((place : ℕ) × (c : SourceCause) × LexFault bs place c)
tokens_or_fault bs = told (ends (length (after_mark bs).1) (after_mark bs).0 (after_mark bs).1 (omega arith))
  where
    told : Ends (after_mark bs).0 (after_mark bs).1 → ((ts : List PlacedToken) × AreTokens bs ts) ⊎ ((place : ℕ) × (c : SourceCause) × LexFault bs place c)
    told (Ends.at_end {y} {ts} g) = inl (ts, (y, g))
    told (Ends.at_fault {y} {place} {ts} {rest} {c} g f) = inr (place, c, (ts, y, rest, g, f))
