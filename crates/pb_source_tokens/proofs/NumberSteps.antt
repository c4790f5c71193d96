-- What is read of a number word, by the integer as the code counts it.
use Rattle.std.proofs.Common.{◌≡◌, ℕ, ◌^◌, ◌<◌, ◌≤◌, min, nat_le, List, ◌∷◌, true, false, refl, ap, ◌∙◌, arith, Option, Some, None, Ok, Err, option_map}
use Rattle.std.proofs.lemmas.Bool.Decides.{nat_tests}
use Rattle.pb_source_tokens.specs.Symbols.{Symbol}
use Rattle.pb_source_tokens.specs.Language.{all_rules}
use Rattle.pb_source_tokens.specs.declared.rule.Rule.TheVariants.{NumbersFit}
use Rattle.pb_source_tokens.specs.Readers.Forms.{Outcome, on_verdict, by_rule, mapped, symbol, plain, or_unexpected, on_outcome}
use Rattle.pb_source_tokens.specs.Readers.Phrases.{integer_in, limited_reader}
use Rattle.pb_source_tokens.specs.Digits.{capped}

abbrev judged_as : ℕ → Symbol → List Symbol → Option ℕ → Outcome ℕ
judged_as limit s ts o = on_verdict s ts (by_rule NumbersFit true (option_map (λ n. (n, nat_le n limit)) o))

abbrev passed_as : Symbol → List Symbol → Option ℕ → Outcome (Unit {0})
passed_as s ts o = on_outcome (on_verdict s ts (or_unexpected o)) (λ v rest. Ok (tt, rest))

above : (limit n : ℕ) (s : Symbol) (ts : List Symbol) → limit < n → judged_as limit s ts (Some n) ≡ Err (s ∷ ts, Some NumbersFit)
above limit n s ts l = let f : nat_le n limit ≡ false = grind (arith, nat_tests) in rw f refl

within : (limit n : ℕ) (s : Symbol) (ts : List Symbol) → n ≤ limit → judged_as limit s ts (Some n) ≡ Ok (n, ts)
within limit n s ts l = let f : nat_le n limit ≡ true = grind (arith, nat_tests) in rw f refl

some : {x y : ℕ} → Some x ≡ Some y → x ≡ y
some h = cc h

pub limited_refused : (limit : ℕ) (s : Symbol) (ts : List Symbol) → option_map capped (integer_in s) ≡ None → limited_reader limit all_rules (s ∷ ts) ≡ Err (s ∷ ts, None)
unfolding limited_reader
limited_refused limit s ts h = by_integer (integer_in s) h
  where
    by_integer : (o : Option ℕ) → option_map capped o ≡ None → judged_as limit s ts o ≡ Err (s ∷ ts, None)
    by_integer None h = refl
    by_integer (Some n) h = absurd (cc h)

pub limited_above : (limit k : ℕ) (s : Symbol) (ts : List Symbol) → option_map capped (integer_in s) ≡ Some k → limit < k → limited_reader limit all_rules (s ∷ ts) ≡ Err (s ∷ ts, Some NumbersFit)
unfolding limited_reader
limited_above limit k s ts h l = by_integer (integer_in s) h
  where
    by_integer : (o : Option ℕ) → option_map capped o ≡ Some k → judged_as limit s ts o ≡ Err (s ∷ ts, Some NumbersFit)
    by_integer None h = absurd (cc h)
    by_integer (Some n) h = above limit n s ts (let e : min n (2 ^ 32) ≡ k = some h in omega arith)

pub limited_read : (limit k : ℕ) (s : Symbol) (ts : List Symbol) → option_map capped (integer_in s) ≡ Some k → k ≤ limit → limit < 2 ^ 32 → limited_reader limit all_rules (s ∷ ts) ≡ Ok (k, ts)
unfolding limited_reader
limited_read limit k s ts h l m = by_integer (integer_in s) h
  where
    by_integer : (o : Option ℕ) → option_map capped o ≡ Some k → judged_as limit s ts o ≡ Ok (k, ts)
    by_integer None h = absurd (cc h)
    by_integer (Some n) h =
        let e : min n (2 ^ 32) ≡ k = some h in
        let same : n ≡ k = omega arith in
        within limit n s ts (omega arith) ∙ ap (λ x. Ok (x, ts)) same

pub integer_refused : (s : Symbol) (ts : List Symbol) → option_map capped (integer_in s) ≡ None → mapped {B = Unit {0}} (λ _. tt) (symbol (plain integer_in)) all_rules (s ∷ ts) ≡ Err (s ∷ ts, None)
integer_refused s ts h = by_integer (integer_in s) h
  where
    by_integer : (o : Option ℕ) → option_map capped o ≡ None → passed_as s ts o ≡ Err (s ∷ ts, None)
    by_integer None h = refl
    by_integer (Some n) h = absurd (cc h)

pub integer_read : (k : ℕ) (s : Symbol) (ts : List Symbol) → option_map capped (integer_in s) ≡ Some k → mapped {B = Unit {0}} (λ _. tt) (symbol (plain integer_in)) all_rules (s ∷ ts) ≡ Ok (tt, ts)
integer_read k s ts h = by_integer (integer_in s) h
  where
    by_integer : (o : Option ℕ) → option_map capped o ≡ Some k → passed_as s ts o ≡ Ok (tt, ts)
    by_integer None h = absurd (cc h)
    by_integer (Some n) h = refl
