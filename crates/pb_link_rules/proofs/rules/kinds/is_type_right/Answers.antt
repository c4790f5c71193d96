use Rattle.std.proofs.Common.{Some, map, string_bytes, ap, ◌∙◌}
use Rattle.std.specs.List.{list_all}
use Rattle.pb_declarations.specs.View.{field_view}
use Rattle.pb_link_rules.specs.Rules.{passes, is_message, is_message_type, is_enum}
use Rattle.pb_link_rules.specs.Judging.{world_of}
use Rattle.pb_link_names.specs.View.{declaration_view}
use Rattle.pb_link_rules.proofs.JudgeLemmas.{message_by_name, enum_by_name, group_by_name, is_some-map}
use Rattle.pb_link_rules.proofs.rules.kinds.is_type_right.Goals as goal

pub returns-in-Message : goal.returns-in-Message
returns-in-Message c = λ fs s d two e. let w = world_of fs (map declaration_view c.args.row.now) s in message_by_name w d (field_view c.args.field.now) c.both-in-Message.result c.is_some-is_named.result c.are_messages.result (c.in-Some.is ∙ ap Some c.in-Message.is) c.both-in-Message.ensures (c.is_some-is_named.ensures ∙ is_some-map string_bytes c.args.field.now.type_name) (c.are_messages.ensures fs s ∙ ap (list_all (passes w is_message)) e)

pub returns-in-Enum : goal.returns-in-Enum
returns-in-Enum c = λ fs s d two e. let w = world_of fs (map declaration_view c.args.row.now) s in enum_by_name w d (field_view c.args.field.now) c.both-in-Enum.result c.is_some-is_named.result c.are_enums.result (c.in-Some.is ∙ ap Some c.in-Enum.is) c.both-in-Enum.ensures (c.is_some-is_named.ensures ∙ is_some-map string_bytes c.args.field.now.type_name) (c.are_enums.ensures fs s ∙ ap (list_all (passes w is_enum)) e)

pub returns-in-Group : goal.returns-in-Group
returns-in-Group c = λ fs s d two e.
    let w = world_of fs (map declaration_view c.args.row.now) s in
    group_by_name w d (field_view c.args.field.now) c.both-in-Group.result c.both.result c.args.proto2 c.is_some-is_named.result c.are_plain_messages.result (c.in-Some.is ∙ ap Some c.in-Group.is) c.both-in-Group.ensures two c.both.ensures (c.is_some-is_named.ensures ∙ is_some-map string_bytes c.args.field.now.type_name) (c.are_plain_messages.ensures fs s ∙ ap (list_all (passes w is_message_type)) e)
