use Rattle.std.proofs.Common.{◌≡◌, ◌++◌, map, take}
use Rattle.std.specs.Prelude.{string_bytes}
use Rattle.pb_schema.specs.View.{field_view}
use Rattle.pb_link.specs.ToDecls.{synthetic_names}
use Rattle.pb_link.proofs.declaring.fields.add_synthetic.Given as goal

abbrev pub invariant-loop-field : goal.invariant-loop-field
invariant-loop-field l = map string_bytes l.oneofs.items ≡ map string_bytes l.initial.oneofs.items ++ synthetic_names l.proto2 (map field_view (take l.field-index l.fields))
