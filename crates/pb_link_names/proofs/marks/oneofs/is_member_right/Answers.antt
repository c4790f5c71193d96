use Rattle.pb_declarations.specs.View.{field_view}
use Rattle.pb_link_names.proofs.OneofCountLemmas.{right_without}
use Rattle.pb_link_names.proofs.marks.oneofs.is_member_right.Goals as goal

pub returns-in_default : goal.returns-in_default
returns-in_default c = λ head held. right_without head (field_view c.args.field.now) c.in_default.is
