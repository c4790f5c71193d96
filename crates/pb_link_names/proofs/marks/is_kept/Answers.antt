use Rattle.std.proofs.Common.{◌≡◌, ◌∙◌, ap, rules}
use Rattle.std.specs.Prelude.{FitsSigned}
use Rattle.std.specs.Int.{w32}
use Rattle.std.specs.List.{list_any}
use Rattle.std.specs.Str.{bytes_eq}
use Rattle.std.proofs.lemmas.Int.{to_z-of_z}
use Rattle.pb_declarations.specs.Decls.{MessageHead}
use Rattle.pb_link_names.specs.Reserved.{ReservesInMessage}
use Rattle.pb_link_names.specs.MarkRules.{is_in_message_range}
use Rattle.pb_link_names.proofs.ReservedLemmas.{kept_by_name, lost_by_number}
use Rattle.pb_link_names.proofs.marks.is_kept.Goals as goal
use Rattle.pb_link_names.proofs.marks.is_kept.Goals.{After-has_number}

ranged : (c : After-has_number) (head : MessageHead) → ReservesInMessage head c.args.reserved.now → c.has_number.result ≡ list_any (is_in_message_range c.args.field.now.number) head.reserved
ranged c head has =
    let fits : FitsSigned w32 c.args.field.now.number = search rules in
    c.has_number.ensures head.reserved head.reserved_names has ∙ ap (λ n. list_any (is_in_message_range n) head.reserved) (to_z-of_z w32 c.args.field.now.number fits)

pub returns-then-not-has_number : goal.returns-then-not-has_number
returns-then-not-has_number c = λ head i has.
    kept_by_name c.has_number.result c.has_name.result _ _ (ranged (goal.at.returns-then-not-has_number c).After-has_number head has) (c.has_name.ensures head.reserved head.reserved_names has ∙ ap (λ n. list_any (bytes_eq n) head.reserved_names) c.as_str.ensures.value) c.if-not-has_number.true

pub returns-else-not-has_number : goal.returns-else-not-has_number
returns-else-not-has_number c = λ head i has.
    lost_by_number c.has_number.result _ _ (ranged (goal.at.returns-else-not-has_number c).After-has_number head has) c.if-not-has_number.false
