use Rattle.std.proofs.Common.{◌≤◌, ◌+◌, map, sym, ap, ◌∙◌, arith, subst, ℕ}
use Rattle.std.proofs.lemmas.List.{map_push}
use Rattle.pb_schema.specs.View.{field_view as view_of_field}
use Rattle.pb_declarations.specs.View.{field_view}
use Rattle.pb_link.specs.ToDecls.{is_optional_view, declared_fields}
use Rattle.pb_link.proofs.DeclarableLemmas.{field_at}
use Rattle.pb_link.proofs.DeclaredLemmas.{fields_more, fields_end, at_most_one}
use Rattle.pb_link.proofs.declaring.fields.field_decls.Goals as goal

pub field_decl-requires-clause-field : goal.field_decl-requires-clause-field
field_decl-requires-clause-field c = field_at c.args.pool.now view_of_field c.args.fields.now c.loop-field.field-index c.field-item.result c.loop-field-test.true c.field-item.is c.requires.fields

pub loop-field-preserved : goal.loop-field-preserved
loop-field-preserved c =
    let one : c.behind-synthetic.result ≤ c.loop-field.synthetic + 1 = subst (λ (n : ℕ). n ≤ c.loop-field.synthetic + 1) (sym c.behind-synthetic.ensures) (at_most_one (is_optional_view c.args.proto2 (view_of_field c.field-item.result)) c.loop-field.synthetic) in
    let few = c.loop-field.invariant.few in
    record {
      few = omega (arith, one, few);
      so_far = fields_more c.args.proto2 c.args.pool.now c.args.scope.now view_of_field c.args.fields.now c.loop-field.field-index c.field-item.result c.loop-field.synthetic c.behind-synthetic.result (map field_view c.loop-field.decls.items) (map field_view c.push.new.self.items) (field_view c.in_ok-decl.decl) (declared_fields c.args.proto2 c.args.pool.now c.args.scope.now c.args.oneofs (map view_of_field c.args.fields.now))
          c.loop-field-test.true c.field-item.is c.in_ok-decl.ensures (ap (map field_view) c.in_ok-push.ensures.items ∙ map_push field_view c.loop-field.decls.items c.in_ok-decl.decl) c.behind-synthetic.ensures c.loop-field.invariant.so_far;
    }

pub returns : goal.returns
returns c = fields_end c.args.proto2 c.args.pool.now c.args.scope.now view_of_field c.args.fields.now c.loop-field.field-index c.loop-field.synthetic (map field_view c.loop-field.decls.items) (declared_fields c.args.proto2 c.args.pool.now c.args.scope.now c.args.oneofs (map view_of_field c.args.fields.now)) c.loop-field-test.false c.loop-field.invariant.so_far
