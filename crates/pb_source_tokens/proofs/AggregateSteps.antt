-- What the loop over an aggregate owes: a turn of it is a step of the reader of closed brackets.
use Rattle.std.proofs.Common.{◌≡◌, ℕ, zero, suc, ◌<◌, ◌≤◌, List, [], ◌∷◌, length, refl, ap, ◌∙◌, sym, Option, Some, None, Ok, Err, arith}
use Rattle.pb_source_tokens.specs.declared.bracket.Bracket.{Bracket}
use Rattle.pb_source_tokens.specs.Symbols.{Symbol}
use Rattle.pb_source_tokens.specs.Language.{all_rules}
use Rattle.pb_source_tokens.specs.Readers.Phrases.{open_after, closed_reader}
use Rattle.pb_source_tokens.specs.Readers.Given.{symbols_from}
use Rattle.pb_source_tokens.specs.declared.symbol.Placed.{Placed}
use Rattle.pb_source_tokens.proofs.UntilSteps.{length_from}

-- enough steps are left for what is left
abbrev pub Opened : ℕ → List Bracket → List Symbol → List Bracket → List Symbol → Type 0
Opened n bs ts cs rest = (m : ℕ) × (length rest ≤ m) × (closed_reader n bs all_rules ts ≡ closed_reader m cs all_rules rest)

-- from one index to another the brackets that are open have changed so
pub record HasOpened (ps : List Placed) (at : ℕ) (bs : List Bracket) (here : ℕ) (cs : List Bracket) : Type 0 where
  pub within : here ≤ length ps
  pub passed : at ≤ here
  pub turned : (n : ℕ) → length ps ≤ n → Opened n bs (symbols_from ps at) cs (symbols_from ps here)

pub starts : (ps : List Placed) (at : ℕ) (bs : List Bracket) → at ≤ length ps → HasOpened ps at bs at bs
starts ps at bs l = record { within = l; passed = omega arith; turned = λ n m. (n, (let a = length_from ps at in omega arith), refl) }

step : (m : ℕ) (cs ds : List Bracket) (s : Symbol) (ts : List Symbol) → suc (length ts) ≤ m → open_after cs s ≡ Some ds
    → (k : ℕ) × (length ts ≤ k) × (closed_reader m cs all_rules (s ∷ ts) ≡ closed_reader k ds all_rules ts)
step zero cs ds s ts l h = absurd (omega arith)
step (suc m) [] ds s ts l h = absurd (cc h)
step (suc m) (c ∷ cs) ds s ts l h = (m, omega arith, rw h refl)

pub goes_on : (ps : List Placed) (at : ℕ) (bs : List Bracket) (here after : ℕ) (cs ds : List Bracket) (s : Symbol) → HasOpened ps at bs here cs → after ≡ suc here → here < length ps
    → symbols_from ps here ≡ s ∷ symbols_from ps after → open_after cs s ≡ Some ds → HasOpened ps at bs after ds
goes_on ps at bs here after cs ds s r e l h k = record {
  within = omega arith;
  passed = (let p = r.passed in omega arith);
  turned = λ n m.
      let t = r.turned n m in
      let more : suc (length (symbols_from ps after)) ≤ t.0 = (let i = ap length h in let j = t.1 in omega arith) in
      let x = step t.0 cs ds s (symbols_from ps after) more k in
      (x.0, x.1, t.2 ∙ ap (λ ts. closed_reader t.0 cs all_rules ts) h ∙ x.2);
}

mismatched : (m : ℕ) (cs : List Bracket) (s : Symbol) (ts : List Symbol) → suc (length ts) ≤ m → 0 < length cs → open_after cs s ≡ None
    → closed_reader m cs all_rules (s ∷ ts) ≡ Err (s ∷ ts, None)
mismatched zero cs s ts l f h = absurd (omega arith)
mismatched (suc m) [] s ts l f h = absurd (omega arith)
mismatched (suc m) (c ∷ cs) s ts l f h = rw h refl

pub refuses : (ps : List Placed) (at : ℕ) (bs : List Bracket) (here : ℕ) (cs : List Bracket) (s : Symbol) (ts : List Symbol) → HasOpened ps at bs here cs → 0 < length cs
    → symbols_from ps here ≡ s ∷ ts → open_after cs s ≡ None → (n : ℕ) → length ps ≤ n
    → closed_reader n bs all_rules (symbols_from ps at) ≡ Err (symbols_from ps here, None)
refuses ps at bs here cs s ts r f h k n l =
    let t = r.turned n l in
    let more : suc (length ts) ≤ t.0 = (let i = ap length h in let j = t.1 in omega arith) in
    t.2 ∙ ap (λ ts. closed_reader t.0 cs all_rules ts) h ∙ mismatched t.0 cs s ts more f k ∙ ap (λ ts. Err (ts, None)) (sym h)

left_open : (m : ℕ) (cs : List Bracket) → 0 < length cs → closed_reader m cs all_rules [] ≡ Err ([], None)
left_open zero [] f = absurd (omega arith)
left_open (suc m) [] f = absurd (omega arith)
left_open zero (c ∷ cs) f = refl
left_open (suc m) (c ∷ cs) f = refl

pub refuses_end : (ps : List Placed) (at : ℕ) (bs : List Bracket) (here : ℕ) (cs : List Bracket) → HasOpened ps at bs here cs → 0 < length cs → symbols_from ps here ≡ []
    → (n : ℕ) → length ps ≤ n → closed_reader n bs all_rules (symbols_from ps at) ≡ Err (symbols_from ps here, None)
refuses_end ps at bs here cs r f h n l =
    let t = r.turned n l in
    t.2 ∙ ap (λ ts. closed_reader t.0 cs all_rules ts) h ∙ left_open t.0 cs f ∙ ap (λ ts. Err (ts, None)) (sym h)

none_open : (m : ℕ) (ts : List Symbol) → closed_reader m [] all_rules ts ≡ Ok (tt, ts)
none_open zero ts = refl
none_open (suc m) ts = refl

pub ends : (ps : List Placed) (at : ℕ) (bs : List Bracket) (here : ℕ) (cs : List Bracket) → HasOpened ps at bs here cs → cs ≡ [] → (n : ℕ) → length ps ≤ n
    → closed_reader n bs all_rules (symbols_from ps at) ≡ Ok (tt, symbols_from ps here)
ends ps at bs here cs r e n l =
    let t = r.turned n l in
    t.2 ∙ ap (λ cs. closed_reader t.0 cs all_rules (symbols_from ps here)) e ∙ none_open t.0 (symbols_from ps here)
