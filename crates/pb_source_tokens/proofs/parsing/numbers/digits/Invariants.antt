use Rattle.std.proofs.Common.{◌≡◌, ◌≤◌, ◌^◌, ℕ, drop}
use Rattle.std.specs.List.{list_all}
use Rattle.std.specs.Char.{is_digit}
use Rattle.std.specs.Str.Parse.{digits_value, digits_value_after}
use Rattle.pb_source_tokens.specs.Digits.{capped}
use Rattle.pb_source_tokens.proofs.parsing.numbers.digits.Given as goal

abbrev pub invariant-loop-byte : goal.invariant-loop-byte
invariant-loop-byte l = record {
  bound : l.value ≤ 2 ^ 32;
  exact : (n : ℕ) × (l.value ≡ capped n) × (digits_value l.base l.bytes ≡ digits_value_after l.base n (drop l.byte-index l.bytes));
  digits : list_all (λ c. is_digit c l.base) l.bytes ≡ list_all (λ c. is_digit c l.base) (drop l.byte-index l.bytes);
}
