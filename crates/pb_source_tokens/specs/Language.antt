-- Languages of symbols, and the rules beside the grammar.
use Rattle.std.specs.Prelude.{◌≡◌, ℕ, List, [], ◌∷◌, ◌++◌, Bool, true, not, ◌==◌, Option, Some, None, ◌⊎◌}
use Rattle.pb_source_tokens.specs.Symbols.{Symbol}
use Rattle.pb_source_tokens.specs.declared.rule.Rule.{Rule}
use Rattle.pb_source_tokens.specs.declared.rule.Rule.TheVariants.{NumbersFit as numbers_fit, OptionsKnown as options_known, SyntaxFirst as syntax_first}
use Rattle.pb_source_tokens.specs.declared.rule.Rule.TheVariants.{NestsBounded as nests_bounded, TextsValid as texts_valid}
use Rattle.pb_source_tokens.specs.declared.fault.SourceCause.{SourceCause}
use Rattle.pb_source_tokens.specs.declared.fault.SourceCause.TheVariants as cause

abbrev pub Language : Type 1
Language = List Symbol → Type 0

infixr 20 ◌▸◌
-- one language's words, each followed by one of the other's
abbrev pub ◌▸◌ : Language → Language → Language
(R ▸ S) ts = (a : List Symbol) × (b : List Symbol) × R a × S b × (ts ≡ a ++ b)

infixr 15 ◌or◌
-- a word of one or of the other
abbrev pub ◌or◌ : Language → Language → Language
(R or S) ts = R ts ⊎ S ts

abbrev pub one : Symbol → Language
one s ts = ts ≡ s ∷ []

abbrev pub nothing : Language
nothing ts = ts ≡ []

-- Rules beside the plain grammar may be left out, one by one: then what breaks the rule is taken.

-- which rules hold
abbrev pub Rules : Type 0
Rules = Rule → Bool

abbrev pub all_rules : Rules
all_rules _ = true

abbrev number_of_rule : Rule → ℕ
number_of_rule numbers_fit = 0
number_of_rule options_known = 1
number_of_rule syntax_first = 2
number_of_rule nests_bounded = 3
number_of_rule texts_valid = 4

-- all rules but one
abbrev pub without : Rule → Rules
without r s = not (number_of_rule r == number_of_rule s)

-- what is reported of a breach
abbrev pub cause_of : Rule → SourceCause
cause_of numbers_fit = cause.NumberTooLarge
cause_of options_known = cause.CustomOption
cause_of syntax_first = cause.NotProto3
cause_of nests_bounded = cause.NestedTooDeep
cause_of texts_valid = cause.BadUtf8

-- what is reported where a rule is broken, or where a symbol was not expected
abbrev pub reported : Option Rule → SourceCause
reported None = cause.Unexpected
reported (Some r) = cause_of r

-- the symbols so far begin a word of the language
abbrev pub Begins : {A : Type 0} → (A → Language) → Language
Begins {A} R front = (v : A) × (more : List Symbol) × R v (front ++ more)
