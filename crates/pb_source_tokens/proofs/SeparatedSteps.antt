-- What a loop over items with a separator between owes: a turn of it is a step of the reader of such items.
use Rattle.std.proofs.Common.{◌≡◌, ℕ, zero, suc, ◌<◌, ◌≤◌, List, [], ◌∷◌, ◌++◌, length, Bool, true, false, if◌then◌else◌, refl, ap, sym, ◌∙◌, append_assoc, append-nil, arith, None, Ok, Err}
use Rattle.std.proofs.lemmas.Bool.{false≢true}
use Rattle.pb_source_tokens.specs.Symbols.{Symbol}
use Rattle.pb_source_tokens.specs.Language.{all_rules}
use Rattle.pb_source_tokens.specs.Readers.Forms.{Reader, Refusal, Outcome, on_outcome, answer, first_passes, choice, preceded, separated}
use Rattle.pb_source_tokens.specs.Readers.Given.{symbols_from, Fails}
use Rattle.pb_source_tokens.specs.declared.symbol.Placed.{Placed}
use Rattle.pb_source_tokens.specs.declared.refusal.Refusal.{Refusal as CodeRefusal}
use Rattle.pb_source_tokens.proofs.UntilSteps.{fails_on, length_from}

-- what is left is read with the items of front before it
abbrev pub with_front : {I : Type 0} → List I → Outcome (List I) → Outcome (List I)
with_front front o = on_outcome o (λ is rest. Ok (front ++ is, rest))

-- { separator item }
abbrev pub rest_of : {I : Type 0} → ℕ → (Symbol → Bool) → Reader I → Reader (Unit {0}) → List Symbol → Outcome (List I)
rest_of turns test item separator = choice test (preceded separator (separated turns test item separator)) (answer []) all_rules

pub record Turned {I : Type 0} (test : Symbol → Bool) (item : Reader I) (separator : Reader (Unit {0})) (m : ℕ) (ts : List Symbol) (front : List I) (rest : List Symbol) : Type 0 where
  pub turns : ℕ
  pub enough : length rest ≤ turns
  pub same : separated m test item separator all_rules ts ≡ with_front front (rest_of turns test item separator rest)

-- the items of front have been read, from one index up to another
pub record HasRead {I : Type 0} (test : Symbol → Bool) (item : ℕ → Reader I) (separator : Reader (Unit {0})) (ps : List Placed) (at : ℕ) (front : List I) (here : ℕ) : Type 0 where
  pub within : here ≤ length ps
  pub passed : at < here
  pub turned : (n : ℕ) → length ps ≤ n → Turned test (item n) separator n (symbols_from ps at) front (symbols_from ps here)

front_of_front : {I : Type 0} (front more : List I) (o : Outcome (List I)) → with_front front (with_front more o) ≡ with_front (front ++ more) o
front_of_front front more (Ok x) = ap (λ is. Ok (is, x.1)) (sym (append_assoc front more x.0))
front_of_front front more (Err e) = refl

module _ {I : Type 0} (test : Symbol → Bool) (item : Reader I) (separator : Reader (Unit {0})) where
  -- the item at the front, and the rest
  choose : (t : ℕ) (b : Bool) (i : I) (rest : List Symbol) (o : Outcome (Unit {0}))
      → ◌≡◌ {A = Outcome (List I)} (if b then on_outcome o (λ _ r. on_outcome (separated t test item separator all_rules r) (λ is r'. Ok (i ∷ is, r'))) else Ok (i ∷ [], rest))
      (with_front (i ∷ []) (if b then on_outcome o (λ _ r. separated t test item separator all_rules r) else Ok ([], rest)))
  choose t false i rest o = refl
  choose t true i rest (Ok x) = refl
  choose t true i rest (Err e) = refl

  pub first_item : (t : ℕ) (ts rest : List Symbol) (i : I) → item all_rules ts ≡ Ok (i, rest)
      → separated (suc t) test item separator all_rules ts ≡ with_front (i ∷ []) (rest_of t test item separator rest)
  first_item t ts rest i h = rw h (choose t (first_passes test rest) i rest (separator all_rules rest))

  -- a separator and an item are read, or one of them is refused
  apart : (o : Outcome (Unit {0})) (j : I) (rest : List Symbol) → on_outcome o (λ _ r. item all_rules r) ≡ Ok (j, rest) → (mid : List Symbol) × (o ≡ Ok (tt, mid)) × (item all_rules mid ≡ Ok (j, rest))
  apart (Ok x) j rest h = (x.1, refl, h)
  apart (Err e) j rest h = absurd (cc h)

  one_more : (t : ℕ) (mid rest : List Symbol) (j : I) → length rest < t → item all_rules mid ≡ Ok (j, rest)
      → (k : ℕ) × (length rest ≤ k) × (separated t test item separator all_rules mid ≡ with_front (j ∷ []) (rest_of k test item separator rest))
  one_more zero mid rest j k h = absurd (omega arith)
  one_more (suc t) mid rest j k h = (t, omega arith, first_item t mid rest j h)

  rest_read : (t : ℕ) (here mid : List Symbol) → first_passes test here ≡ true → separator all_rules here ≡ Ok (tt, mid) → rest_of t test item separator here ≡ separated t test item separator all_rules mid
  rest_read t here mid f g = rw (f, g) refl

  pub turns_on : (n : ℕ) (ts : List Symbol) (front : List I) (here rest : List Symbol) (j : I) → Turned test item separator n ts front here → length rest < length here → first_passes test here ≡ true
      → preceded separator item all_rules here ≡ Ok (j, rest) → Turned test item separator n ts (front ++ j ∷ []) rest
  turns_on n ts front here rest j t m f h =
      let e = t.enough in
      let p = apart (separator all_rules here) j rest h in
      let s = one_more t.turns p.0 rest j (omega arith) p.2 in
      record {
        turns = s.0;
        enough = s.1;
        same = t.same ∙ ap (with_front front) (rest_read t.turns here p.0 f p.1 ∙ s.2) ∙ front_of_front front (j ∷ []) (rest_of s.0 test item separator rest);
      }

  item_fails : (t : ℕ) (mid : List Symbol) (e : Refusal) → item all_rules mid ≡ Err e → separated (suc t) test item separator all_rules mid ≡ Err e
  item_fails t mid e h = rw h refl

  passed : (e : Refusal) (o : Outcome (Unit {0})) (t : ℕ) → on_outcome o (λ _ r. item all_rules r) ≡ Err e → on_outcome o (λ _ r. separated (suc t) test item separator all_rules r) ≡ Err e
  passed e (Ok x) t h = item_fails t x.1 e h
  passed e (Err x) t h = let p : x ≡ e = cc h in ap Err p

  rest_refused : (t : ℕ) (here : List Symbol) (e : Refusal) → length here ≤ t → first_passes test here ≡ true → preceded separator item all_rules here ≡ Err e → rest_of t test item separator here ≡ Err e
  rest_refused zero [] e l f h = absurd (false≢true f)
  rest_refused zero (s ∷ ts) e l f h = absurd (omega arith)
  rest_refused (suc t) here e l f h = rw f (passed e (separator all_rules here) t h)

  err_front : (front : List I) (o : Outcome (List I)) (e : Refusal) → o ≡ Err e → with_front front o ≡ Err e
  err_front front o e h = rw h refl

  pub refused_there : (n : ℕ) (ts : List Symbol) (front : List I) (here : List Symbol) (e : Refusal) → Turned test item separator n ts front here → first_passes test here ≡ true
      → preceded separator item all_rules here ≡ Err e → separated n test item separator all_rules ts ≡ Err e
  refused_there n ts front here e t f h = t.same ∙ err_front front _ e (rest_refused t.turns here e t.enough f h)

  pub stops_there : (n : ℕ) (ts : List Symbol) (front : List I) (here : List Symbol) → Turned test item separator n ts front here → first_passes test here ≡ false
      → separated n test item separator all_rules ts ≡ Ok (front, here)
  stops_there n ts front here t f = t.same ∙ ap (with_front front) (rest_stops t.turns here f) ∙ ap (λ is. Ok (is, here)) (append-nil front)
    where
      rest_stops : (k : ℕ) (here : List Symbol) → first_passes test here ≡ false → rest_of k test item separator here ≡ Ok ([], here)
      rest_stops k here f = rw f refl

  pub item_refused : (n : ℕ) (ts : List Symbol) (e : Refusal) → item all_rules [] ≡ Err ([], None) → length ts ≤ n → item all_rules ts ≡ Err e → separated n test item separator all_rules ts ≡ Err e
  item_refused zero [] e none l h = let p : ◌≡◌ {A = Refusal} ([], None) e = cc (none, h) in ap Err p
  item_refused zero (s ∷ ts) e none l h = absurd (omega arith)
  item_refused (suc n) ts e none l h = rw h refl

module _ {I : Type 0} (test : Symbol → Bool) (item : ℕ → Reader I) (separator : Reader (Unit {0})) (ps : List Placed) where
  begun : (n : ℕ) (ts rest : List Symbol) (i : I) → length ts ≤ n → length rest < length ts → item n all_rules ts ≡ Ok (i, rest) → Turned test (item n) separator n ts (i ∷ []) rest
  begun zero ts rest i l k h = absurd (omega arith)
  begun (suc n) ts rest i l k h = record { turns = n; enough = omega arith; same = first_item test (item (suc n)) separator n ts rest i h }

  pub starts : (at after : ℕ) (i : I) → at < after → after ≤ length ps → ((n : ℕ) → length ps ≤ n → item n all_rules (symbols_from ps at) ≡ Ok (i, symbols_from ps after))
      → HasRead test item separator ps at (i ∷ []) after
  starts at after i k w h = record {
    within = w;
    passed = k;
    turned = λ n l. begun n (symbols_from ps at) (symbols_from ps after) i (let a = length_from ps at in omega arith)
        (let a = length_from ps at in let b = length_from ps after in omega arith) (h n l);
  }

  pub goes_on : (at : ℕ) (front : List I) (here after : ℕ) (j : I) → HasRead test item separator ps at front here → here < after → after ≤ length ps → true ≡ first_passes test (symbols_from ps here)
      → ((n : ℕ) → length ps ≤ n → preceded separator (item n) all_rules (symbols_from ps here) ≡ Ok (j, symbols_from ps after)) → HasRead test item separator ps at (front ++ j ∷ []) after
  goes_on at front here after j r k w f h = record {
    within = w;
    passed = (let p = r.passed in omega arith);
    turned = λ n l. turns_on test (item n) separator n (symbols_from ps at) front (symbols_from ps here) (symbols_from ps after) j (r.turned n l)
        (let a = length_from ps here in let b = length_from ps after in omega arith) (sym f) (h n l);
  }

  pub refuses_first : (at : ℕ) (e : CodeRefusal) → ((n : ℕ) → item n all_rules [] ≡ Err ([], None)) → ((n : ℕ) → length ps ≤ n → Fails ps e (item n all_rules (symbols_from ps at)))
      → (n : ℕ) → length ps ≤ n → Fails ps e (separated n test (item n) separator all_rules (symbols_from ps at))
  refuses_first at e none h n l =
      fails_on ps e _ _ (λ x k. item_refused test (item n) separator n (symbols_from ps at) x (none n) (let a = length_from ps at in omega arith) k) (h n l)

  pub refuses : (at : ℕ) (front : List I) (here : ℕ) (e : CodeRefusal) → HasRead test item separator ps at front here → true ≡ first_passes test (symbols_from ps here)
      → ((n : ℕ) → length ps ≤ n → Fails ps e (preceded separator (item n) all_rules (symbols_from ps here)))
      → (n : ℕ) → length ps ≤ n → Fails ps e (separated n test (item n) separator all_rules (symbols_from ps at))
  refuses at front here e r f h n l = fails_on ps e _ _ (λ x k. refused_there test (item n) separator n (symbols_from ps at) front (symbols_from ps here) x (r.turned n l) (sym f) k) (h n l)

  pub ends : (at : ℕ) (front : List I) (here : ℕ) → HasRead test item separator ps at front here → false ≡ first_passes test (symbols_from ps here)
      → (n : ℕ) → length ps ≤ n → separated n test (item n) separator all_rules (symbols_from ps at) ≡ Ok (front, symbols_from ps here)
  ends at front here r f n l = stops_there test (item n) separator n (symbols_from ps at) front (symbols_from ps here) (r.turned n l) (sym f)
