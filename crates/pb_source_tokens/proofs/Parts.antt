-- Readers of one symbol, of nothing, of one of two languages.
use Rattle.std.proofs.Common.{◌≡◌, ℕ, suc, ◌+◌, ◌≤◌, List, [], ◌∷◌, ◌++◌, length, Bool, true, false, refl, ap, sym, ◌∙◌, length-append, Option, None, Result, Ok, Err, arith, ◌⊎◌, inl, inr}
use Rattle.std.proofs.lemmas.Bool.{false≢true}
use Rattle.pb_source_tokens.specs.Symbols.{Symbol}
use Rattle.pb_source_tokens.specs.Language.{Language, ◌or◌, Rules, all_rules}
use Rattle.pb_source_tokens.specs.declared.rule.Rule.{Rule}
use Rattle.pb_source_tokens.specs.Readers.Forms.{Refusal, Outcome, Reader, symbol, on_verdict, answer, choice, first_passes}
use Rattle.pb_source_tokens.proofs.ReaderLaws.{Reads, IsStop, Taken, Refused, Allowed, leaves}

-- ---- one symbol

-- a test of one symbol, which a rule that is left out changes only at its own refusals
pub record Judges {A : Type 0} (f : Rules → Symbol → Result A (Option Rule)) : Type 0 where
  pub some : (rules : Rules) → (s : Symbol) × (v : A) × (f rules s ≡ Ok v)
  pub kept : (rules : Rules) (s : Symbol) (v : A) → f all_rules s ≡ Ok v → f rules s ≡ Ok v
  pub same : (rules : Rules) (s : Symbol) (why : Option Rule) → leaves rules why ≡ false → f all_rules s ≡ Err why → f rules s ≡ Err why
  pub allowed : (rules : Rules) (s : Symbol) (why : Option Rule) → leaves rules why ≡ true → f all_rules s ≡ Err why → (v : A) × (f rules s ≡ Ok v)

-- the symbols that pass
abbrev pub Passing : {A : Type 0} → (Rules → Symbol → Result A (Option Rule)) → Rules → A → Language
Passing f rules v ts = (s : Symbol) × (f rules s ≡ Ok v) × (ts ≡ s ∷ [])

abbrev pub gives : {A : Type 0} → A → List Symbol → Outcome A
gives v x = Ok (v, x)

abbrev pub fails : {A : Type 0} → List Symbol → Option Rule → Outcome A
fails x c = Err (x, c)

pub ok_parts : {A : Type 0} {v w : A} {x y : List Symbol} → gives v x ≡ gives w y → (v ≡ w) × (x ≡ y)
ok_parts {A} {v} {w} {x} {y} h = let e : ◌≡◌ {A = A × List Symbol} (v, x) (w, y) = cc h in (ap (λ z. z.0) e, ap (λ z. z.1) e)

pub err_parts : {A : Type 0} {x y : List Symbol} {c d : Option Rule} → fails {A = A} x c ≡ fails y d → (x ≡ y) × (c ≡ d)
err_parts {A} {x} {y} {c} {d} h = let e : ◌≡◌ {A = List Symbol × Option Rule} (x, c) (y, d) = cc h in (ap (λ z. z.0) e, ap (λ z. z.1) e)

answer_ok : {A : Type 0} (s : Symbol) (ts : List Symbol) (o : Result A (Option Rule)) (v : A) (rest : List Symbol) → on_verdict s ts o ≡ Ok (v, rest) → (o ≡ Ok v) × (rest ≡ ts)
answer_ok {A} s ts (Ok w) v rest h = let e = ok_parts {v = w} {w = v} {x = ts} {y = rest} h in (ap Ok e.0, sym e.1)
answer_ok s ts (Err c) v rest h = absurd (cc h)

answer_err : {A : Type 0} (s : Symbol) (ts : List Symbol) (o : Result A (Option Rule)) (rest : List Symbol) (why : Option Rule) → on_verdict s ts o ≡ Err (rest, why) → (o ≡ Err why) × (rest ≡ s ∷ ts)
answer_err s ts (Ok w) rest why h = absurd (cc h)
answer_err s ts (Err c) rest why h = let e = err_parts h in (ap Err e.1, sym e.0)

module _ {A : Type 0} (n : ℕ) (e : Symbol → Bool) (f : Rules → Symbol → Result A (Option Rule)) (j : Judges f) where
  symbol_sound : (rules : Rules) (ts : List Symbol) (v : A) (rest : List Symbol) → length ts ≤ n → symbol f rules ts ≡ Ok (v, rest) → Taken (Passing f rules) ts v rest
  symbol_sound rules [] v rest l h = absurd (cc h)
  symbol_sound rules (s ∷ ts) v rest l h =
      let a = answer_ok s ts (f rules s) v rest h in
      record { taken = s ∷ []; joined = ap (λ r. s ∷ r) (sym a.1); derived = (s, a.0, refl) }

  symbol_takes : (rules : Rules) (v : A) (c rest : List Symbol) → Passing f rules v c → symbol f rules (c ++ rest) ≡ Ok (v, rest)
  symbol_takes rules v c rest (s, p, q) = ap (λ c. symbol f rules (c ++ rest)) q ∙ ap (λ o. on_verdict s rest o) p

  symbol_complete : (rules : Rules) (v : A) (c rest : List Symbol) → length (c ++ rest) ≤ n → Passing f rules v c → IsStop e rest → symbol f rules (c ++ rest) ≡ Ok (v, rest)
  symbol_complete rules v c rest l d stop = symbol_takes rules v c rest d

  symbol_again : (rules : Rules) (c : List Symbol) (v : A) (t : Symbol) (x y : List Symbol) → length (c ++ t ∷ x) ≤ n → length (c ++ t ∷ y) ≤ n
      → symbol f rules (c ++ t ∷ x) ≡ Ok (v, t ∷ x) → symbol f rules (c ++ t ∷ y) ≡ Ok (v, t ∷ y)
  symbol_again rules c v t x y l k h =
      let a = symbol_sound rules (c ++ t ∷ x) v (t ∷ x) l h in
      let same : c ≡ a.taken = Rattle.std.proofs.lemmas.List.append_cancel_right c a.taken (t ∷ x) a.joined in
      symbol_takes rules v c (t ∷ y) (a.derived.0, a.derived.1, same ∙ a.derived.2)

  symbol_refused : (rules : Rules) (ts rest : List Symbol) (why : Option Rule) → length ts ≤ n → symbol f rules ts ≡ Err (rest, why) → Refused (Passing f rules) ts rest
  symbol_refused rules [] rest why l h = let x = j.some rules in record { front = []; joined = (err_parts h).0; begins = (x.1, x.0 ∷ [], (x.0, x.2, refl)) }
  symbol_refused rules (s ∷ ts) rest why l h =
      let x = j.some rules in
      record { front = []; joined = sym (answer_err s ts (f rules s) rest why h).1; begins = (x.1, x.0 ∷ [], (x.0, x.2, refl)) }

  symbol_at_end : (rules : Rules) (ts : List Symbol) (why : Option Rule) → length ts ≤ n → symbol f rules ts ≡ Err ([], why) → why ≡ None
  symbol_at_end rules [] why l h = sym (err_parts h).1
  symbol_at_end rules (s ∷ ts) why l h = absurd (cc (answer_err s ts (f rules s) [] why h).1)

  symbol_stuck :
      (rules : Rules) (front : List Symbol) (t : Symbol) (x y : List Symbol) (why : Option Rule) → length (front ++ t ∷ x) ≤ n → length (front ++ t ∷ y) ≤ n
      → symbol f rules (front ++ t ∷ x) ≡ Err (t ∷ x, why) → symbol f rules (front ++ t ∷ y) ≡ Err (t ∷ y, why)
  symbol_stuck rules [] t x y why l k h = ap (λ o. on_verdict t y o) (answer_err t x (f rules t) (t ∷ x) why h).0
  symbol_stuck rules (s ∷ front) t x y why l k h =
      let e = (answer_err s (front ++ t ∷ x) (f rules s) (t ∷ x) why h).1 in
      absurd (longer (length front) (length x) (ap length e ∙ ap (λ m. suc m) (length-append front (t ∷ x))))
    where
      longer : (a b : ℕ) → suc b ≡ suc (a + suc b) → ⊥
      longer a b h = omega arith

  symbol_some_word : (rules : Rules) → (v : A) × (c : List Symbol) × Passing f rules v c
  symbol_some_word rules = let x = j.some rules in (x.1, x.0 ∷ [], (x.0, x.2, refl))

  symbol_kept : (rules : Rules) (ts : List Symbol) (v : A) (rest : List Symbol) → length ts ≤ n → symbol f all_rules ts ≡ Ok (v, rest) → symbol f rules ts ≡ Ok (v, rest)
  symbol_kept rules [] v rest l h = absurd (cc h)
  symbol_kept rules (s ∷ ts) v rest l h =
      let a = answer_ok s ts (f all_rules s) v rest h in
      ap (λ o. on_verdict s ts o) (j.kept rules s v a.0) ∙ ap (λ r. Ok (v, r)) (sym a.1)

  symbol_same : (rules : Rules) (ts rest : List Symbol) (why : Option Rule) → length ts ≤ n → leaves rules why ≡ false → symbol f all_rules ts ≡ Err (rest, why) → symbol f rules ts ≡ Err (rest, why)
  symbol_same rules [] rest why l z h = h
  symbol_same rules (s ∷ ts) rest why l z h =
      let a = answer_err s ts (f all_rules s) rest why h in
      ap (λ o. on_verdict s ts o) (j.same rules s why z a.0) ∙ ap (λ r. Err (r, why)) (sym a.1)

  symbol_allowed : (rules : Rules) (ts rest : List Symbol) (why : Option Rule) → length ts ≤ n → leaves rules why ≡ true → symbol f all_rules ts ≡ Err (rest, why) → Allowed (Passing f rules) ts rest
  symbol_allowed rules [] rest why l z h = absurd (false≢true (ap (leaves rules) (err_parts h).1 ∙ z))
  symbol_allowed rules (s ∷ ts) rest why l z h =
      let a = answer_err s ts (f all_rules s) rest why h in
      let b = j.allowed rules s why z a.0 in
      record { front = []; symbol = s; more = ts; left = a.1; joined = refl; begins = (b.0, [], (s, b.1, refl)) }

  pub reads_symbol : Reads n e (Passing f) (symbol f)
  reads_symbol = record {
    sound = symbol_sound;
    complete = symbol_complete;
    again = symbol_again;
    refused = symbol_refused;
    at_end = symbol_at_end;
    stuck = symbol_stuck;
    some_word = symbol_some_word;
    kept = symbol_kept;
    same = symbol_same;
    allowed = symbol_allowed;
  }

-- ---- nothing

abbrev pub Answered : {A : Type 0} → A → Rules → A → Language
Answered v rules w ts = (w ≡ v) × (ts ≡ [])

pub reads_answer : {A : Type 0} (n : ℕ) (e : Symbol → Bool) (v : A) → Reads n e (Answered v) (answer v)
reads_answer {A} n e v = record {
  sound = λ rules ts w rest l h. let p = ok_parts h in record { taken = []; joined = p.1; derived = (sym p.0, refl) };
  complete = λ rules w c rest l d stop. ap (λ z. Ok (v, z ++ rest)) d.1 ∙ ap (λ z. Ok (z, rest)) (sym d.0);
  again = λ rules c w t x y l k h. let p = ok_parts h in
      ap (λ z. Ok (z, c ++ t ∷ y)) p.0 ∙ ap (λ z. Ok (w, z ++ t ∷ y)) (Rattle.std.proofs.lemmas.List.append_cancel_right c [] (t ∷ x) p.1);
  refused = λ rules ts rest why l h. absurd (apart h);
  at_end = λ rules ts why l h. absurd (apart h);
  stuck = λ rules front t x y why l k h. absurd (apart h);
  some_word = λ rules. (v, [], (refl, refl));
  kept = λ rules ts w rest l h. h;
  same = λ rules ts rest why l z h. absurd (apart h);
  allowed = λ rules ts rest why l z h. absurd (apart h);
}
  where
    apart : {x : A × List Symbol} {y : Refusal} → Ok x ≡ Err y → ⊥
    apart h = cc h

-- ---- the same language said otherwise

pub reads_as : {A : Type 0} (n : ℕ) (e : Symbol → Bool) (R Q : Rules → A → Language) (p : Reader A) → Reads n e R p
    → ((rules : Rules) (v : A) (c : List Symbol) → R rules v c → Q rules v c) → ((rules : Rules) (v : A) (c : List Symbol) → Q rules v c → R rules v c) → Reads n e Q p
reads_as n e R Q p r to from = record {
  sound = λ rules ts v rest l h. let a = r.sound rules ts v rest l h in record { taken = a.taken; joined = a.joined; derived = to rules v a.taken a.derived };
  complete = λ rules v c rest l d stop. r.complete rules v c rest l (from rules v c d) stop;
  again = r.again;
  refused = λ rules ts rest why l h. let a = r.refused rules ts rest why l h in
      record { front = a.front; joined = a.joined; begins = (a.begins.0, a.begins.1, to rules a.begins.0 (a.front ++ a.begins.1) a.begins.2) };
  at_end = r.at_end;
  stuck = r.stuck;
  some_word = λ rules. let a = r.some_word rules in (a.0, a.1, to rules a.0 a.1 a.2);
  kept = r.kept;
  same = r.same;
  allowed = λ rules ts rest why l z h. let a = r.allowed rules ts rest why l z h in
      record {
        front = a.front;
        symbol = a.symbol;
        more = a.more;
        left = a.left;
        joined = a.joined;
        begins = (a.begins.0, a.begins.1, to rules a.begins.0 ((a.front ++ a.symbol ∷ []) ++ a.begins.1) a.begins.2);
      };
}

-- ---- one of two languages, by the symbol that stands first

pub passes_at : (test : Symbol → Bool) (c : List Symbol) (t : Symbol) (x y : List Symbol) → first_passes test (c ++ t ∷ x) ≡ first_passes test (c ++ t ∷ y)
passes_at test [] t x y = refl
passes_at test (s ∷ c) t x y = refl

pub passes_front : (test : Symbol → Bool) (c rest : List Symbol) → first_passes test c ≡ true → first_passes test (c ++ rest) ≡ true
passes_front test [] rest h = absurd (false≢true h)
passes_front test (s ∷ c) rest h = h

module _ {A : Type 0} (n : ℕ) (e : Symbol → Bool) (test : Symbol → Bool) (R S : Rules → A → Language) (p q : Reader A) (rp : Reads n e R p) (rq : Reads n e S q)
    (begins : (rules : Rules) (v : A) (c : List Symbol) → R rules v c → first_passes test c ≡ true)
    (begins_not : (rules : Rules) (v : A) (c rest : List Symbol) → S rules v c → IsStop e rest → first_passes test (c ++ rest) ≡ false) where
  abbrev pub Either : Rules → A → Language
  Either rules v = R rules v or S rules v

  chosen : (rules : Rules) (ts : List Symbol) → (first_passes test ts ≡ true) × (choice test p q rules ts ≡ p rules ts) ⊎ (first_passes test ts ≡ false) × (choice test p q rules ts ≡ q rules ts)
  chosen rules ts = by_test (first_passes test ts) refl
    where
      by_test : (b : Bool) → first_passes test ts ≡ b
          → (first_passes test ts ≡ true) × (choice test p q rules ts ≡ p rules ts) ⊎ (first_passes test ts ≡ false) × (choice test p q rules ts ≡ q rules ts)
      by_test true h = inl (h, rw h refl)
      by_test false h = inr (h, rw h refl)

  on_pass : (rules : Rules) (ts : List Symbol) → first_passes test ts ≡ true → choice test p q rules ts ≡ p rules ts
  on_pass rules ts h = rw h refl

  on_fail : (rules : Rules) (ts : List Symbol) → first_passes test ts ≡ false → choice test p q rules ts ≡ q rules ts
  on_fail rules ts h = rw h refl

  choice_sound : (rules : Rules) (ts : List Symbol) (v : A) (rest : List Symbol) → length ts ≤ n → choice test p q rules ts ≡ Ok (v, rest) → Taken (Either rules) ts v rest
  choice_sound rules ts v rest l h =
      elim (chosen rules ts) [
        | inl c ↦ let a = rp.sound rules ts v rest l (sym c.1 ∙ h) in record { taken = a.taken; joined = a.joined; derived = inl a.derived }
        | inr c ↦ let a = rq.sound rules ts v rest l (sym c.1 ∙ h) in record { taken = a.taken; joined = a.joined; derived = inr a.derived }
      ]

  choice_complete : (rules : Rules) (v : A) (c rest : List Symbol) → length (c ++ rest) ≤ n → Either rules v c → IsStop e rest → choice test p q rules (c ++ rest) ≡ Ok (v, rest)
  choice_complete rules v c rest l (inl d) stop = on_pass rules (c ++ rest) (passes_front test c rest (begins rules v c d)) ∙ rp.complete rules v c rest l d stop
  choice_complete rules v c rest l (inr d) stop = on_fail rules (c ++ rest) (begins_not rules v c rest d stop) ∙ rq.complete rules v c rest l d stop

  choice_again : (rules : Rules) (c : List Symbol) (v : A) (t : Symbol) (x y : List Symbol) → length (c ++ t ∷ x) ≤ n → length (c ++ t ∷ y) ≤ n
      → choice test p q rules (c ++ t ∷ x) ≡ Ok (v, t ∷ x) → choice test p q rules (c ++ t ∷ y) ≡ Ok (v, t ∷ y)
  choice_again rules c v t x y l k h =
      elim (chosen rules (c ++ t ∷ x)) [
        | inl b ↦ on_pass rules (c ++ t ∷ y) (sym (passes_at test c t x y) ∙ b.0) ∙ rp.again rules c v t x y l k (sym b.1 ∙ h)
        | inr b ↦ on_fail rules (c ++ t ∷ y) (sym (passes_at test c t x y) ∙ b.0) ∙ rq.again rules c v t x y l k (sym b.1 ∙ h)
      ]

  choice_refused : (rules : Rules) (ts rest : List Symbol) (why : Option Rule) → length ts ≤ n → choice test p q rules ts ≡ Err (rest, why) → Refused (Either rules) ts rest
  choice_refused rules ts rest why l h =
      elim (chosen rules ts) [
        | inl c ↦ let a = rp.refused rules ts rest why l (sym c.1 ∙ h) in record { front = a.front; joined = a.joined; begins = (a.begins.0, a.begins.1, inl a.begins.2) }
        | inr c ↦ let a = rq.refused rules ts rest why l (sym c.1 ∙ h) in record { front = a.front; joined = a.joined; begins = (a.begins.0, a.begins.1, inr a.begins.2) }
      ]

  choice_at_end : (rules : Rules) (ts : List Symbol) (why : Option Rule) → length ts ≤ n → choice test p q rules ts ≡ Err ([], why) → why ≡ None
  choice_at_end rules ts why l h = elim (chosen rules ts) [ inl c ↦ rp.at_end rules ts why l (sym c.1 ∙ h) | inr c ↦ rq.at_end rules ts why l (sym c.1 ∙ h) ]

  choice_stuck :
      (rules : Rules) (front : List Symbol) (t : Symbol) (x y : List Symbol) (why : Option Rule) → length (front ++ t ∷ x) ≤ n → length (front ++ t ∷ y) ≤ n
      → choice test p q rules (front ++ t ∷ x) ≡ Err (t ∷ x, why) → choice test p q rules (front ++ t ∷ y) ≡ Err (t ∷ y, why)
  choice_stuck rules c t x y why l k h =
      elim (chosen rules (c ++ t ∷ x)) [
        | inl b ↦ on_pass rules (c ++ t ∷ y) (sym (passes_at test c t x y) ∙ b.0) ∙ rp.stuck rules c t x y why l k (sym b.1 ∙ h)
        | inr b ↦ on_fail rules (c ++ t ∷ y) (sym (passes_at test c t x y) ∙ b.0) ∙ rq.stuck rules c t x y why l k (sym b.1 ∙ h)
      ]

  choice_some_word : (rules : Rules) → (v : A) × (c : List Symbol) × Either rules v c
  choice_some_word rules = let a = rp.some_word rules in (a.0, a.1, inl a.2)

  choice_kept : (rules : Rules) (ts : List Symbol) (v : A) (rest : List Symbol) → length ts ≤ n → choice test p q all_rules ts ≡ Ok (v, rest) → choice test p q rules ts ≡ Ok (v, rest)
  choice_kept rules ts v rest l h =
      elim (chosen all_rules ts) [
        | inl c ↦ on_pass rules ts c.0 ∙ rp.kept rules ts v rest l (sym c.1 ∙ h)
        | inr c ↦ on_fail rules ts c.0 ∙ rq.kept rules ts v rest l (sym c.1 ∙ h)
      ]

  choice_same : (rules : Rules) (ts rest : List Symbol) (why : Option Rule) → length ts ≤ n → leaves rules why ≡ false → choice test p q all_rules ts ≡ Err (rest, why)
      → choice test p q rules ts ≡ Err (rest, why)
  choice_same rules ts rest why l z h =
      elim (chosen all_rules ts) [
        | inl c ↦ on_pass rules ts c.0 ∙ rp.same rules ts rest why l z (sym c.1 ∙ h)
        | inr c ↦ on_fail rules ts c.0 ∙ rq.same rules ts rest why l z (sym c.1 ∙ h)
      ]

  choice_allowed : (rules : Rules) (ts rest : List Symbol) (why : Option Rule) → length ts ≤ n → leaves rules why ≡ true → choice test p q all_rules ts ≡ Err (rest, why)
      → Allowed (Either rules) ts rest
  choice_allowed rules ts rest why l z h =
      elim (chosen all_rules ts) [
        | inl c ↦ let a = rp.allowed rules ts rest why l z (sym c.1 ∙ h) in
            record { front = a.front; symbol = a.symbol; more = a.more; left = a.left; joined = a.joined; begins = (a.begins.0, a.begins.1, inl a.begins.2) }
        | inr c ↦ let a = rq.allowed rules ts rest why l z (sym c.1 ∙ h) in
            record { front = a.front; symbol = a.symbol; more = a.more; left = a.left; joined = a.joined; begins = (a.begins.0, a.begins.1, inr a.begins.2) }
      ]

  pub reads_choice : Reads n e Either (choice test p q)
  reads_choice = record {
    sound = choice_sound;
    complete = choice_complete;
    again = choice_again;
    refused = choice_refused;
    at_end = choice_at_end;
    stuck = choice_stuck;
    some_word = choice_some_word;
    kept = choice_kept;
    same = choice_same;
    allowed = choice_allowed;
  }

-- ---- what is read of longer lists is read of shorter ones, and fewer stops need less

pub reads_less : {A : Type 0} (n m : ℕ) (e : Symbol → Bool) (R : Rules → A → Language) (p : Reader A) → m ≤ n → Reads n e R p → Reads m e R p
reads_less n m e R p le r = record {
  sound = λ rules ts v rest l. r.sound rules ts v rest (omega arith);
  complete = λ rules v c rest l. r.complete rules v c rest (omega arith);
  again = λ rules c v t x y l k. r.again rules c v t x y (omega arith) (omega arith);
  refused = λ rules ts rest why l. r.refused rules ts rest why (omega arith);
  at_end = λ rules ts why l. r.at_end rules ts why (omega arith);
  stuck = λ rules front t x y why l k. r.stuck rules front t x y why (omega arith) (omega arith);
  some_word = r.some_word;
  kept = λ rules ts v rest l. r.kept rules ts v rest (omega arith);
  same = λ rules ts rest why l. r.same rules ts rest why (omega arith);
  allowed = λ rules ts rest why l. r.allowed rules ts rest why (omega arith);
}

pub reads_stop : {A : Type 0} (n : ℕ) (e d : Symbol → Bool) (R : Rules → A → Language) (p : Reader A) → ((rest : List Symbol) → IsStop d rest → IsStop e rest) → Reads n e R p → Reads n d R p
reads_stop n e d R p f r = record {
  sound = r.sound;
  complete = λ rules v c rest l w stop. r.complete rules v c rest l w (f rest stop);
  again = r.again;
  refused = r.refused;
  at_end = r.at_end;
  stuck = r.stuck;
  some_word = r.some_word;
  kept = r.kept;
  same = r.same;
  allowed = r.allowed;
}
