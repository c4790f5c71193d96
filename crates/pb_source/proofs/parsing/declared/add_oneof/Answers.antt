use Rattle.std.proofs.Common.{◌++◌, map, ap, ◌∙◌}
use Rattle.pb_declarations.specs.View.{field_view}
use Rattle.pb_source.specs.Meaning.{fields_in, in_oneof}
use Rattle.pb_source.specs.StatementView.{member_view}
use Rattle.pb_source.proofs.PartSteps.{holds_oneof}
use Rattle.pb_source.proofs.parsing.declared.add_oneof.Goals as goal

pub returns : goal.returns
returns c = λ ss h.
    let p = c.args.message.now in
    let xs = map member_view c.args.members.items in
    holds_oneof p ss h c.add_members.new.fields c.add_members.new.messages xs c.push.new.self c.args.name
    (c.in_ok-add_members.ensures.fields ∙ ap (λ n. map field_view p.fields.items ++ map (in_oneof n) (fields_in xs)) (c.len.ensures ∙ p.oneofs.ok.0))
    c.in_ok-add_members.ensures.messages c.in_ok-push.ensures.items
