use Rattle.std.proofs.Common.{◌≡◌, ◌++◌, map, drop}
use Rattle.pb_schema.specs.View.{field_view}
use Rattle.pb_declarations.specs.View.{field_view as declared_view}
use Rattle.pb_link.specs.Pools.{fields_read}
use Rattle.pb_link.proofs.pools.fields.fields_of.Given as goal

abbrev pub invariant-loop-index : goal.invariant-loop-index
invariant-loop-index l = map field_view l.types.items ++ fields_read l.proto2 l.tables l.names l.index (map declared_view (drop l.index l.fields)) ≡ fields_read l.proto2 l.tables l.names 0 (map declared_view l.fields)
