use Rattle.std.proofs.Common.{map, arith}
use Rattle.std.proofs.lemmas.List.{length-map}
use Rattle.pb_declarations.specs.View.{field_view}
use Rattle.pb_link_rules.proofs.MapLemmas.{not_two}
use Rattle.pb_link_rules.proofs.rules.maps.right_parts.Goals as goal

pub returns-in-len1 : goal.returns-in-len1
returns-in-len1 c = not_two (map field_view c.args.fields.now) c.args.is_first_plain c.args.is_second_plain (λ e. omega (arith, e, length-map c.args.fields.now field_view, c.in-len1.len_below))

pub returns-in-len3-up : goal.returns-in-len3-up
returns-in-len3-up c = not_two (map field_view c.args.fields.now) c.args.is_first_plain c.args.is_second_plain (λ e. omega (arith, e, length-map c.args.fields.now field_view, c.in-len3-up.len_at_least))
