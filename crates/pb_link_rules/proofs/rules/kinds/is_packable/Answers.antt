use Rattle.std.proofs.Common.{map, string_bytes, ap, ◌∙◌}
use Rattle.std.specs.List.{list_all}
use Rattle.pb_declarations.specs.View.{field_view}
use Rattle.pb_link_rules.specs.Rules.{passes, is_enum}
use Rattle.pb_link_rules.specs.Judging.{world_of}
use Rattle.pb_link_names.specs.View.{declaration_view}
use Rattle.pb_link_rules.proofs.JudgeLemmas.{packable_by_name, is_some-map}
use Rattle.pb_link_rules.proofs.rules.kinds.is_packable.Goals as goal

pub returns-in-None : goal.returns-in-None
returns-in-None c = λ fs s d e. let w = world_of fs (map declaration_view c.args.row.now) s in packable_by_name w d (field_view c.args.field.now) c.both.result c.is_some.result c.are_enums.result c.in-None.is c.both.ensures (c.is_some.ensures ∙ is_some-map string_bytes c.args.field.now.type_name) (c.are_enums.ensures fs s ∙ ap (list_all (passes w is_enum)) e)
