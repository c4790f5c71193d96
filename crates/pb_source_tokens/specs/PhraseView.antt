-- Words and types as the code has them.
use Rattle.std.specs.Prelude.{ℕ, List, [], ◌∷◌, Option, None, map, string_bytes}
use Rattle.std.specs.Borrow.{Bor}
use Rattle.pb_declarations.specs.declared.decl.TypeCode.{TypeCode}
use Rattle.pb_source_tokens.specs.Phrases.{scalar_code}
use Rattle.pb_source_tokens.specs.Said.{TypeSaid, a_scalar, a_name}
use Rattle.pb_source_tokens.specs.declared.parsing.types.TypeSaid.{TypeSaid as CodeType}
use Rattle.pb_source_tokens.specs.declared.parsing.types.TypeSaid.TheVariants as type

abbrev pub words_view : List (Bor (List ℕ)) → List (List ℕ)
words_view = map (λ w. w.now)

-- the scalar whose word alone the words are
abbrev pub scalar_of_words : List (List ℕ) → Option TypeCode
scalar_of_words [] = None
scalar_of_words (w ∷ []) = scalar_code w
scalar_of_words (w ∷ v ∷ ws) = None

abbrev pub type_view : CodeType → TypeSaid
type_view (type.Scalar code) = a_scalar code
type_view (type.Named name) = a_name (string_bytes name)
