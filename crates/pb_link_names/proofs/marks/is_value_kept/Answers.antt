use Rattle.std.proofs.Common.{◌≡◌, ◌∙◌, ap, map, rules}
use Rattle.std.specs.Prelude.{FitsSigned}
use Rattle.std.specs.Int.{w32}
use Rattle.std.specs.List.{list_any}
use Rattle.std.specs.Str.{bytes_eq}
use Rattle.std.proofs.lemmas.Int.{to_z-of_z}
use Rattle.pb_declarations.specs.Decls.{DeclaredEnum}
use Rattle.pb_link_names.specs.Reserved.{with_end_behind, ReservesInEnum}
use Rattle.pb_link_names.specs.MarkRules.{is_in_message_range, is_in_enum_range}
use Rattle.pb_link_names.proofs.ReservedLemmas.{enum_numbers, kept_by_name, lost_by_number}
use Rattle.pb_link_names.proofs.marks.is_value_kept.Goals as goal
use Rattle.pb_link_names.proofs.marks.is_value_kept.Goals.{After-has_number}

ranged : (c : After-has_number) (e : DeclaredEnum) → ReservesInEnum e c.args.reserved.now → c.has_number.result ≡ list_any (is_in_enum_range c.args.value.now.1) e.reserved
ranged c e has =
    let fits : FitsSigned w32 c.args.value.now.1 = search rules in
    let ranges = map with_end_behind e.reserved in
    c.has_number.ensures ranges e.reserved_names has ∙ ap (λ n. list_any (is_in_message_range n) ranges) (to_z-of_z w32 c.args.value.now.1 fits) ∙ enum_numbers c.args.value.now.1 e.reserved

pub returns-then-not-has_number : goal.returns-then-not-has_number
returns-then-not-has_number c = λ e i has.
    kept_by_name c.has_number.result c.has_name.result _ _ (ranged (goal.at.returns-then-not-has_number c).After-has_number e has) (c.has_name.ensures (map with_end_behind e.reserved) e.reserved_names has ∙ ap (λ n. list_any (bytes_eq n) e.reserved_names) c.as_str.ensures.value) c.if-not-has_number.true

pub returns-else-not-has_number : goal.returns-else-not-has_number
returns-else-not-has_number c = λ e i has.
    lost_by_number c.has_number.result _ _ (ranged (goal.at.returns-else-not-has_number c).After-has_number e has) c.if-not-has_number.false
