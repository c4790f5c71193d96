-- What readers say of no symbols: they are refused, since something was expected.
use Rattle.std.proofs.Common.{◌≡◌, ℕ, zero, suc, [], refl, None, Err}
use Rattle.pb_source_tokens.specs.Language.{all_rules}
use Rattle.pb_source_tokens.specs.declared.grammar.Grammar.{Grammar}
use Rattle.pb_source_tokens.specs.declared.grammar.Grammar.TheVariants.{Strict, Lenient}
use Rattle.pb_source_tokens.specs.declared.parsing.ranges.Within.{Within}
use Rattle.pb_source_tokens.specs.declared.parsing.ranges.Within.TheVariants.{Message, Enum}
use Rattle.pb_source_tokens.specs.RangeView.{range_within}
use Rattle.pb_source_tokens.specs.Readers.Phrases.{part_reader, range_reader, limited_reader, signed_reader, name_reader, utf8_reader, optname_reader, assignment_reader, field_option_reader}

pub no_name : (n : ℕ) → name_reader all_rules [] ≡ Err ([], None)
unfolding name_reader
no_name n = refl

pub no_text : (n : ℕ) → utf8_reader all_rules [] ≡ Err ([], None)
unfolding utf8_reader
no_text n = refl

pub no_field_option : (g : Grammar) (n : ℕ) → field_option_reader g n all_rules [] ≡ Err ([], None)
unfolding field_option_reader
no_field_option g n = refl

pub no_part : (g : Grammar) (n : ℕ) → part_reader g n all_rules [] ≡ Err ([], None)
unfolding part_reader name_reader
no_part Strict n = refl
no_part (Lenient s) n = refl

pub no_assignment : (g : Grammar) (n : ℕ) → assignment_reader g n all_rules [] ≡ Err ([], None)
unfolding assignment_reader optname_reader part_reader name_reader
no_assignment Strict zero = refl
no_assignment Strict (suc n) = refl
no_assignment (Lenient s) zero = refl
no_assignment (Lenient s) (suc n) = refl

pub no_range : (within : Within) (n : ℕ) → range_within within all_rules [] ≡ Err ([], None)
unfolding range_reader limited_reader signed_reader
no_range Message n = refl
no_range Enum n = refl
