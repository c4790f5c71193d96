-- What the rules come to that rest on what is declared beside a declaration.
use Rattle.std.specs.Prelude.{List, map}
use Rattle.std.specs.List.{enumerate_from}
use Rattle.pb_declarations.specs.Decls.{DeclaredEnum, MessageHead}
use Rattle.pb_link_names.specs.declared.marks.Marks.{Marks}
use Rattle.pb_link_names.specs.Declarations.{Item, a_field, a_oneof, a_value, is_named}
use Rattle.pb_link_names.specs.MarkRules.{number_is_free, is_not_reserved, is_oneof_right, ranges_are_right}

abbrev pub marks_of : Item → Marks
marks_of i = record {
  is_named = is_named i;
  number_is_free = number_is_free i;
  is_not_reserved = is_not_reserved i;
  is_oneof_right = is_oneof_right i;
  ranges_are_right = ranges_are_right i;
}

abbrev pub field_marks : MessageHead → List Marks
field_marks head = map (λ e. marks_of (a_field head e.0 e.1)) (enumerate_from 0 head.fields)

abbrev pub oneof_marks : MessageHead → List Marks
oneof_marks head = map (λ e. marks_of (a_oneof head e.0 e.1)) (enumerate_from 0 head.oneofs)

abbrev pub value_marks : DeclaredEnum → List Marks
value_marks e = map (λ v. marks_of (a_value e v.0 v.1)) (enumerate_from 0 e.values)
