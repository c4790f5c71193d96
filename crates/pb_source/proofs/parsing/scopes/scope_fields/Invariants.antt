use Rattle.std.proofs.Common.{◌≡◌, length, map}
use Rattle.pb_declarations.specs.View.{field_view}
use Rattle.pb_source.specs.Meaning.{scoped_field}
use Rattle.pb_source.proofs.ScopeSteps.{mapped_from}
use Rattle.pb_source.proofs.parsing.scopes.scope_fields.Given as goal

abbrev pub invariant-loop-i : goal.invariant-loop-i
invariant-loop-i l = record {
  same_length : length l.fields.items ≡ length l.fn.fields.items;
  mapped : mapped_from field_view (scoped_field l.scope) l.fields.items l.i ≡ map (scoped_field l.scope) (map field_view l.fn.fields.items);
}
