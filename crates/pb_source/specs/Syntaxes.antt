-- What sets the grammars apart.
use Prim.Native.String.{String}
use Rattle.std.specs.Prelude.{List, [], ◌∷◌, Bool, true, false, if◌then◌else◌}
use Rattle.pb_source_tokens.specs.declared.grammar.Grammar.{Grammar}
use Rattle.pb_source_tokens.specs.declared.grammar.Grammar.TheVariants.{Strict, Lenient}
use Rattle.pb_source_tokens.specs.declared.grammar.Syntax.TheVariants.{Proto2, Proto3}
use Rattle.pb_source.specs.declared.kind.Label.{Label}
use Rattle.pb_source.specs.declared.kind.Label.TheVariants.{Unlabelled, Optional}

abbrev pub is_lenient : Grammar → Bool
is_lenient Strict = false
is_lenient (Lenient s) = true

abbrev pub is_proto2 : Grammar → Bool
is_proto2 Strict = false
is_proto2 (Lenient Proto2) = true
is_proto2 (Lenient Proto3) = false

-- What the label `optional` says. In proto2 it is a label like others, and each singular field has presence.
abbrev pub optional_label : Grammar → Label
optional_label g = if is_proto2 g then Unlabelled else Optional

-- The words that begin no field's type after a label, or in a oneof: in proto2 `group` begins a group.
abbrev pub grouping : Grammar → List String
grouping g = if is_proto2 g then "group" ∷ [] else []
