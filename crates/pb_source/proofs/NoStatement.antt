-- What the readers of statements say of no symbols: they are refused, since a statement was expected.
use Rattle.std.proofs.Common.{◌≡◌, ℕ, [], refl, None, Err}
use Rattle.pb_source_tokens.specs.declared.grammar.Grammar.{Grammar}
use Rattle.pb_source_tokens.specs.Language.{all_rules}
use Rattle.pb_source.specs.Readers.Lines.{Nested, extension_reader, oneof_statement_reader, enum_statement_reader, method_statement_reader, service_statement_reader}

pub no_oneof_statement : (grammar : Grammar) → (n : ℕ) (nested : Nested) → oneof_statement_reader grammar n nested all_rules [] ≡ Err ([], None)
unfolding oneof_statement_reader
no_oneof_statement grammar n nested = refl

pub no_enum_statement : (grammar : Grammar) → (n : ℕ) → enum_statement_reader grammar n all_rules [] ≡ Err ([], None)
unfolding enum_statement_reader
no_enum_statement grammar n = refl

pub no_method_statement : (grammar : Grammar) → (n : ℕ) → method_statement_reader grammar n all_rules [] ≡ Err ([], None)
unfolding method_statement_reader
no_method_statement grammar n = refl

pub no_service_statement : (grammar : Grammar) → (n : ℕ) → service_statement_reader grammar n all_rules [] ≡ Err ([], None)
unfolding service_statement_reader
no_service_statement grammar n = refl

pub no_extension : (grammar : Grammar) → (n : ℕ) (nested : Nested) → extension_reader grammar n nested all_rules [] ≡ Err ([], None)
unfolding extension_reader
no_extension grammar n nested = refl
