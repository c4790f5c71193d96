use Rattle.std.proofs.Common.{map, take}
use Rattle.pb_declarations.specs.View.{field_view}
use Rattle.pb_link_names.specs.Oneofs.{AreCounted}
use Rattle.pb_link_names.proofs.marks.oneofs.counted.Given as goal

abbrev pub invariant-loop-field : goal.invariant-loop-field
invariant-loop-field l = AreCounted (map field_view (take l.field-index l.fields)) l.oneofs l.members.items l.are_synthetic.items
