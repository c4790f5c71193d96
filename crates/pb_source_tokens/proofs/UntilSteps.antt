-- What a loop up to a closing sign owes: a turn of it is a step of the reader of repetition.
use Rattle.std.proofs.Common.{◌≡◌, ℕ, zero, suc, ◌-◌, ◌<◌, ◌≤◌, List, [], ◌∷◌, ◌++◌, drop, length, length-drop, Bool, true, false, refl, ap, sym, ◌∙◌, arith, None, Ok, Err}
use Rattle.std.proofs.lemmas.Bool.{false≢true}
use Rattle.std.proofs.lemmas.List.{length-map}
use Rattle.pb_source_tokens.specs.Symbols.{Symbol}
use Rattle.pb_source_tokens.specs.SymbolView.{symbol_of}
use Rattle.pb_source_tokens.specs.Language.{all_rules}
use Rattle.pb_source_tokens.specs.Readers.Forms.{Reader, Refusal, Outcome, on_outcome, first_passes, mapped, until}
use Rattle.pb_source_tokens.specs.Readers.Given.{symbols_from, Fails}
use Rattle.pb_source_tokens.specs.declared.symbol.Placed.{Placed}
use Rattle.pb_source_tokens.specs.declared.refusal.Refusal.{Refusal as CodeRefusal}
use Rattle.pb_source_tokens.specs.declared.refusal.Refusal.TheVariants as refusal

pub fails_on : {A B : Type 0} (ps : List Placed) (e : CodeRefusal) (r : Outcome A) (s : Outcome B) → ((x : Refusal) → r ≡ Err x → s ≡ Err x) → Fails ps e r → Fails ps e s
fails_on ps refusal.Memory r s f h = tt
fails_on ps (refusal.At at rule) r s f h = f (symbols_from ps at, rule) h

-- a value is mapped, and a refusal stays
pub mapped_fails : {A B : Type 0} (g : A → B) (ps : List Placed) (e : CodeRefusal) (o : Outcome A) → Fails ps e o → Fails ps e (on_outcome o (λ v rest. Ok (g v, rest)))
mapped_fails g ps e o h = fails_on ps e o _ (λ x k. on_err g o x k) h
  where
    on_err : {A B : Type 0} (g : A → B) (o : Outcome A) (x : Refusal) → o ≡ Err x → on_outcome o (λ v rest. Ok (g v, rest)) ≡ Err x
    on_err g o x k = rw k refl

pub mapped_reads : {A B : Type 0} (g : A → B) (o : Outcome A) (v : A) (rest : List Symbol) → o ≡ Ok (v, rest) → on_outcome o (λ v rest. Ok (g v, rest)) ≡ Ok (g v, rest)
mapped_reads g o v rest h = rw h refl

-- a value was mapped
pub before_map : {A B : Type 0} (g : A → B) (o : Outcome A) (w : B) (rest : List Symbol) → on_outcome o (λ v rest. Ok (g v, rest)) ≡ Ok (w, rest) → (v : A) × (o ≡ Ok (v, rest)) × (g v ≡ w)
before_map g (Err e) w rest h = absurd (cc h)
before_map {A} {B} g (Ok x) w rest h =
    let p : ◌≡◌ {A = B × List Symbol} (g x.0, x.1) (w, rest) = cc h in
    (x.0, ap (λ r. Ok (x.0, r)) (ap (λ y. y.1) p), ap (λ y. y.0) p)

refused_before : {A B : Type 0} (g : A → B) (o : Outcome A) (x : Refusal) → on_outcome o (λ v rest. Ok (g v, rest)) ≡ Err x → o ≡ Err x
refused_before g (Err e) x h = let p : e ≡ x = cc h in ap Err p
refused_before g (Ok y) x h = absurd (cc h)

pub fails_before : {A B C : Type 0} (g : A → B) (ps : List Placed) (e : CodeRefusal) (o : Outcome A) (s : Outcome C) → ((x : Refusal) → o ≡ Err x → s ≡ Err x)
    → Fails ps e (on_outcome o (λ v rest. Ok (g v, rest))) → Fails ps e s
fails_before g ps e o s f h = fails_on ps e _ s (λ x k. f x (refused_before g o x k)) h

pub length_from : (ps : List Placed) (at : ℕ) → length (symbols_from ps at) ≡ length ps - at
length_from ps at = length-map (drop at ps) (λ p. symbol_of p.symbol) ∙ length-drop at ps

-- some turns are left for what is left
pub record Turned {I : Type 0} (test : Symbol → Bool) (item : Reader I) (close : Reader (Unit {0})) (m : ℕ) (ts : List Symbol) (front : List I) (rest : List Symbol) : Type 0 where
  pub turns : ℕ
  pub enough : length rest ≤ turns
  pub same : until m test item close [] all_rules ts ≡ until turns test item close front all_rules rest

-- the items of front have been read, from one index up to another
pub record HasRead {I : Type 0} (test : Symbol → Bool) (item : ℕ → Reader I) (close : Reader (Unit {0})) (ps : List Placed) (at : ℕ) (front : List I) (here : ℕ) : Type 0 where
  pub within : here ≤ length ps
  pub passed : at ≤ here
  pub turned : (n : ℕ) → length ps ≤ n → Turned test (item n) close n (symbols_from ps at) front (symbols_from ps here)

module _ {I : Type 0} (test : Symbol → Bool) (item : ℕ → Reader I) (close : Reader (Unit {0})) (ps : List Placed) where
  pub starts : (at : ℕ) → at ≤ length ps → HasRead test item close ps at [] at
  starts at l = record { within = l; passed = omega arith; turned = λ n m. record { turns = n; enough = (let a = length_from ps at in omega arith); same = refl } }

  step : (n turns : ℕ) (front : List I) (ts rest : List Symbol) (i : I) → length ts ≤ turns → length rest < length ts → first_passes test ts ≡ false → item n all_rules ts ≡ Ok (i, rest)
      → (t : ℕ) × (length rest ≤ t) × (until turns test (item n) close front all_rules ts ≡ until t test (item n) close (front ++ i ∷ []) all_rules rest)
  step n zero front ts rest i l k f h = absurd (omega arith)
  step n (suc t) front ts rest i l k f h = (t, omega arith, rw (f, h) refl)

  turns_on : (n : ℕ) (ts : List Symbol) (front : List I) (here rest : List Symbol) (i : I) → Turned test (item n) close n ts front here → length rest < length here → first_passes test here ≡ false
      → item n all_rules here ≡ Ok (i, rest) → Turned test (item n) close n ts (front ++ i ∷ []) rest
  turns_on n ts front here rest i t k f h = let s = step n t.turns front here rest i t.enough k f h in record { turns = s.0; enough = s.1; same = t.same ∙ s.2 }

  pub goes_on : (at : ℕ) (front : List I) (here after : ℕ) (i : I) → HasRead test item close ps at front here → here < after → after ≤ length ps → false ≡ first_passes test (symbols_from ps here)
      → ((n : ℕ) → length ps ≤ n → item n all_rules (symbols_from ps here) ≡ Ok (i, symbols_from ps after)) → HasRead test item close ps at (front ++ i ∷ []) after
  goes_on at front here after i r k w f h = record {
    within = w;
    passed = (let p = r.passed in omega arith);
    turned = λ n l. turns_on n (symbols_from ps at) front (symbols_from ps here) (symbols_from ps after) i (r.turned n l)
        (let a = length_from ps here in let b = length_from ps after in omega arith) (sym f) (h n l);
  }

  fails_there : (n turns : ℕ) (front : List I) (ts : List Symbol) (e : Refusal) → item n all_rules [] ≡ Err ([], None) → length ts ≤ turns → first_passes test ts ≡ false
      → item n all_rules ts ≡ Err e → until turns test (item n) close front all_rules ts ≡ Err e
  fails_there n zero front [] e none l f h = let p : ◌≡◌ {A = Refusal} ([], None) e = cc (none, h) in ap Err p
  fails_there n zero front (s ∷ ts) e none l f h = absurd (omega arith)
  fails_there n (suc t) front ts e none l f h = rw (f, h) refl

  mapped_err : {A : Type 0} (g : List I → A) (o : Outcome (List I)) (e : Refusal) → o ≡ Err e → on_outcome o (λ v rest. Ok (g v, rest)) ≡ Err e
  mapped_err g o e h = rw h refl

  pub refuses : {A : Type 0} (g : List I → A) (at : ℕ) (front : List I) (here : ℕ) (e : CodeRefusal) → HasRead test item close ps at front here → false ≡ first_passes test (symbols_from ps here)
      → ((n : ℕ) → item n all_rules [] ≡ Err ([], None)) → ((n : ℕ) → length ps ≤ n → Fails ps e (item n all_rules (symbols_from ps here)))
      → (n : ℕ) → length ps ≤ n → Fails ps e (mapped g (until n test (item n) close []) all_rules (symbols_from ps at))
  refuses g at front here e r f none h n l =
      let t = r.turned n l in
      fails_on ps e _ _ (λ x k. mapped_err g _ x (t.same ∙ fails_there n t.turns front (symbols_from ps here) x (none n) t.enough (sym f) k)) (h n l)

  closes_there : (n turns : ℕ) (front : List I) (ts rest : List Symbol) (u : Unit {0}) → length ts ≤ turns → first_passes test ts ≡ true → close all_rules ts ≡ Ok (u, rest)
      → until turns test (item n) close front all_rules ts ≡ Ok (front, rest)
  closes_there n zero front [] rest u l f h = absurd (false≢true f)
  closes_there n zero front (s ∷ ts) rest u l f h = absurd (omega arith)
  closes_there n (suc t) front ts rest u l f h = rw (f, h) refl

  mapped_ok : {A : Type 0} (g : List I → A) (o : Outcome (List I)) (v : List I) (rest : List Symbol) → o ≡ Ok (v, rest) → on_outcome o (λ v rest. Ok (g v, rest)) ≡ Ok (g v, rest)
  mapped_ok g o v rest h = rw h refl

  pub ends : {A : Type 0} (g : List I → A) (at : ℕ) (front : List I) (here after : ℕ) → HasRead test item close ps at front here → true ≡ first_passes test (symbols_from ps here)
      → close all_rules (symbols_from ps here) ≡ Ok (tt, symbols_from ps after)
      → (n : ℕ) → length ps ≤ n → mapped g (until n test (item n) close []) all_rules (symbols_from ps at) ≡ Ok (g front, symbols_from ps after)
  ends g at front here after r f h n l =
      let t = r.turned n l in
      mapped_ok g _ front (symbols_from ps after) (t.same ∙ closes_there n t.turns front (symbols_from ps here) (symbols_from ps after) tt t.enough (sym f) h)
