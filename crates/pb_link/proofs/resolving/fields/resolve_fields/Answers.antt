use Rattle.std.proofs.Common.{map, ap, ◌∙◌}
use Rattle.pb_declarations.specs.View.{field_view}
use Rattle.pb_link_names.specs.View.{declaration_view}
use Rattle.pb_link.specs.Resolving.{coming, first_type, field_read, behind_one}
use Rattle.pb_link.specs.Resolved.{field_of_type}
use Rattle.pb_link.proofs.ResolvingLemmas.{read_more, read_end, behind_more, behind_end}
use Rattle.pb_link.proofs.resolving.fields.resolve_fields.Goals as goal

pub loop-field-preserved : goal.loop-field-preserved
loop-field-preserved c =
    let ds = map declaration_view c.args.row.now in
    record {
      read = read_more (field_read ds) behind_one field_view field_view c.args.fields.now c.loop-field.field-index c.field-item.result c.loop-field.resolved.items c.push.new.self.items c.in_ok-made.made (coming c.loop-field.names) (coming c.next-came_to.new.self) _ c.loop-field-test.true c.field-item.is c.in_ok-push.ensures.items (c.in_ok-made.ensures ∙ ap (λ l. field_of_type (field_view c.field-item.result) (first_type ds l)) c.next-came_to.ensures.names) c.next-came_to.ensures.rest c.loop-field.invariant.read;
      behind = behind_more behind_one field_view c.args.fields.now c.loop-field.field-index c.field-item.result (coming c.loop-field.names) (coming c.next-came_to.new.self) _ c.loop-field-test.true c.field-item.is c.next-came_to.ensures.rest c.loop-field.invariant.behind;
    }

pub returns-clause-fields : goal.returns-clause-fields
returns-clause-fields c =
    let ds = map declaration_view c.args.row.now in
    read_end (field_read ds) behind_one field_view field_view c.args.fields.now c.loop-field.field-index c.loop-field.resolved.items (coming c.loop-field.names) _ c.loop-field-test.false c.loop-field.invariant.read

pub returns-clause-behind : goal.returns-clause-behind
returns-clause-behind c = behind_end behind_one field_view c.args.fields.now c.loop-field.field-index (coming c.loop-field.names) _ c.loop-field-test.false c.loop-field.invariant.behind
