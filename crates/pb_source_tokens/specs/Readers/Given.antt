-- What a function of the code that reads symbols gives.
use Rattle.std.specs.Prelude.{◌≡◌, ◌≤◌, ℕ, List, length, map, drop, Result, Ok, Err}
use Rattle.pb_source_tokens.specs.declared.symbol.Placed.{Placed}
use Rattle.pb_source_tokens.specs.declared.refusal.Refusal.{Refusal}
use Rattle.pb_source_tokens.specs.declared.refusal.Refusal.TheVariants as refusal
use Rattle.pb_source_tokens.specs.Symbols.{Symbol}
use Rattle.pb_source_tokens.specs.SymbolView.{symbol_of}
use Rattle.pb_source_tokens.specs.Language.{all_rules}
use Rattle.pb_source_tokens.specs.Readers.Forms.{Outcome, Reader}

-- the symbols from an index on
abbrev pub symbols_from : List Placed → ℕ → List Symbol
symbols_from ps at = map (λ p. symbol_of p.symbol) (drop at ps)

abbrev pub Fails : {A : Type 0} → List Placed → Refusal → Outcome A → Type 0
Fails ps refusal.Memory read = Unit {0}
Fails ps (refusal.At at rule) read = read ≡ Err (symbols_from ps at, rule)

-- What the code gives, by a value and the index after it, is what the reader gives, unless memory ran out.
abbrev pub Gives : {X A : Type 0} → List Placed → (X → A × ℕ) → Result X Refusal → Outcome A → Type 0
Gives ps view (Ok x) read = read ≡ Ok ((view x).0, symbols_from ps (view x).1)
Gives ps view (Err e) read = Fails ps e read

-- what the code gives of the symbols from an index on, by what it answers and the index after that
abbrev pub Reads : {X A : Type 0} → List Placed → ℕ → (X → A × ℕ) → Result X Refusal → Reader A → Type 0
Reads ps at view result reader = Gives ps view result (reader all_rules (symbols_from ps at))

-- the same of a reader that may take any number of steps, from the number of symbols on
abbrev pub ReadsInSteps : {X A : Type 0} → List Placed → ℕ → (X → A × ℕ) → Result X Refusal → (ℕ → Reader A) → Type 0
ReadsInSteps ps at view result reader = (n : ℕ) → length ps ≤ n → Reads ps at view result (reader n)
