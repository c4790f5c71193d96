-- What a loop up to the end owes: a turn of it is a step of the reader that goes to the end.
use Rattle.std.proofs.Common.{◌≡◌, ℕ, zero, suc, ◌<◌, ◌≤◌, List, [], ◌∷◌, ◌++◌, length, Bool, true, false, refl, ap, ◌∙◌, arith, Ok, Err}
use Rattle.std.specs.Prelude.{if◌then◌else◌}
use Rattle.pb_source_tokens.specs.declared.symbol.Placed.{Placed}
use Rattle.pb_source_tokens.specs.declared.refusal.Refusal.{Refusal as CodeRefusal}
use Rattle.pb_source_tokens.specs.Symbols.{Symbol}
use Rattle.pb_source_tokens.specs.Language.{all_rules}
use Rattle.pb_source_tokens.specs.Readers.Forms.{Reader, Refusal, to_end}
use Rattle.pb_source_tokens.specs.Readers.Given.{symbols_from, Fails}
use Rattle.pb_source_tokens.proofs.UntilSteps.{length_from, fails_on}

-- some turns are left for what is left
pub record TurnedOn {I : Type 0} (marks : I → Bool) (item : Bool → Reader I) (m : ℕ) (ts : List Symbol) (marked : Bool) (front : List I) (rest : List Symbol) : Type 0 where
  pub turns : ℕ
  pub enough : length rest ≤ turns
  pub same : to_end m marks item false [] all_rules ts ≡ to_end turns marks item marked front all_rules rest

-- the items of front have been read, from one index up to another, and whether one of them is marked
pub record HasReadOn {I : Type 0} (marks : I → Bool) (item : ℕ → Bool → Reader I) (ps : List Placed) (at : ℕ) (marked : Bool) (front : List I) (here : ℕ) : Type 0 where
  pub within : here ≤ length ps
  pub turned : (n : ℕ) → length ps ≤ n → TurnedOn marks (item n) n (symbols_from ps at) marked front (symbols_from ps here)

module _ {I : Type 0} (marks : I → Bool) (item : ℕ → Bool → Reader I) (ps : List Placed) where
  pub starts_on : (at : ℕ) → at ≤ length ps → HasReadOn marks item ps at false [] at
  starts_on at l = record { within = l; turned = λ n m. record { turns = n; enough = (let a = length_from ps at in omega arith); same = refl } }

  step : (n turns : ℕ) (marked : Bool) (front : List I) (ts rest : List Symbol) (i : I) → length ts ≤ turns → length rest < length ts → item n marked all_rules ts ≡ Ok (i, rest)
      → (t : ℕ) × (length rest ≤ t)
      × (to_end turns marks (item n) marked front all_rules ts ≡ to_end t marks (item n) (if marked then true else marks i) (front ++ i ∷ []) all_rules rest)
  step n turns marked front [] rest i l k h = absurd (omega arith)
  step n zero marked front (s ∷ ts) rest i l k h = absurd (omega arith)
  step n (suc t) marked front (s ∷ ts) rest i l k h = (t, omega arith, rw h refl)

  turns_on : (n : ℕ) (ts : List Symbol) (marked : Bool) (front : List I) (here rest : List Symbol) (i : I) → TurnedOn marks (item n) n ts marked front here → length rest < length here
      → item n marked all_rules here ≡ Ok (i, rest) → TurnedOn marks (item n) n ts (if marked then true else marks i) (front ++ i ∷ []) rest
  turns_on n ts marked front here rest i t k h = let s = step n t.turns marked front here rest i t.enough k h in record { turns = s.0; enough = s.1; same = t.same ∙ s.2 }

  pub goes_on_to_end : (at : ℕ) (marked : Bool) (front : List I) (here after : ℕ) (i : I) → HasReadOn marks item ps at marked front here → here < after → after ≤ length ps
      → ((n : ℕ) → length ps ≤ n → item n marked all_rules (symbols_from ps here) ≡ Ok (i, symbols_from ps after))
      → HasReadOn marks item ps at (if marked then true else marks i) (front ++ i ∷ []) after
  goes_on_to_end at marked front here after i r k w h = record {
    within = w;
    turned = λ n l. turns_on n (symbols_from ps at) marked front (symbols_from ps here) (symbols_from ps after) i (r.turned n l)
        (let a = length_from ps here in let b = length_from ps after in omega arith) (h n l);
  }

  fails_there : (n turns : ℕ) (marked : Bool) (front : List I) (ts : List Symbol) (e : Refusal) → length ts ≤ turns → 0 < length ts → item n marked all_rules ts ≡ Err e
      → to_end turns marks (item n) marked front all_rules ts ≡ Err e
  fails_there n turns marked front [] e l k h = absurd (omega arith)
  fails_there n zero marked front (s ∷ ts) e l k h = absurd (omega arith)
  fails_there n (suc t) marked front (s ∷ ts) e l k h = rw h refl

  pub refuses_on : (at : ℕ) (marked : Bool) (front : List I) (here : ℕ) (e : CodeRefusal) → HasReadOn marks item ps at marked front here → here < length ps
      → ((n : ℕ) → length ps ≤ n → Fails ps e (item n marked all_rules (symbols_from ps here)))
      → (n : ℕ) → length ps ≤ n → Fails ps e (to_end n marks (item n) false [] all_rules (symbols_from ps at))
  refuses_on at marked front here e r k h n l =
      let t = r.turned n l in
      fails_on ps e _ _ (λ x j. t.same ∙ fails_there n t.turns marked front (symbols_from ps here) x t.enough (let a = length_from ps here in omega arith) j) (h n l)

  none_behind : (here : ℕ) → length ps ≤ here → symbols_from ps here ≡ []
  none_behind here l = empty (symbols_from ps here) (let a = length_from ps here in omega arith)
    where
      empty : (ts : List Symbol) → length ts ≤ 0 → ts ≡ []
      empty [] l = refl
      empty (s ∷ ts) l = absurd (omega arith)

  ends_there : (n turns : ℕ) (marked : Bool) (front : List I) → to_end turns marks (item n) marked front all_rules [] ≡ Ok (front, [])
  ends_there n zero marked front = refl
  ends_there n (suc t) marked front = refl

  pub ends_on : (at : ℕ) (marked : Bool) (front : List I) (here : ℕ) → HasReadOn marks item ps at marked front here → length ps ≤ here
      → (n : ℕ) → length ps ≤ n → to_end n marks (item n) false [] all_rules (symbols_from ps at) ≡ Ok (front, [])
  ends_on at marked front here r k n l =
      let t = r.turned n l in
      t.same ∙ ap (λ ts. to_end t.turns marks (item n) marked front all_rules ts) (none_behind here k) ∙ ends_there n t.turns marked front
