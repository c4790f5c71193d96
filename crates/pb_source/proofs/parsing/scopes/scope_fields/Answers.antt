use Rattle.std.proofs.Common.{length-set, rules, arith, ◌∙◌}
use Rattle.pb_declarations.specs.View.{field_view}
use Rattle.pb_source.specs.Meaning.{scoped_field}
use Rattle.pb_source.proofs.ScopeSteps.{mapped_more, mapped_all}
use Rattle.pb_source.proofs.parsing.scopes.scope_fields.Goals as goal

pub loop-i-preserved : goal.loop-i-preserved
loop-i-preserved c =
    let i = c.loop-i.invariant in
    record {
      same_length = length-set _ _ _ ∙ i.same_length;
      mapped = mapped_more field_view (scoped_field c.args.scope.now) c.loop-i.fields.items c.loop-i.i c.index_mut.result.now c.scope_field.new.field (search rules) c.index_mut.ensures.value c.in_ok-scope_field.ensures ∙ i.mapped;
    }

pub returns : goal.returns
returns c =
    let i = c.loop-i.invariant in
    mapped_all field_view (scoped_field c.args.scope.now) c.loop-i.fields.items c.loop-i.i (omega arith) ∙ i.mapped
