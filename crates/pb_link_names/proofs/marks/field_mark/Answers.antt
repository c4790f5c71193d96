use Rattle.std.proofs.Common.{true}
use Rattle.pb_link_names.proofs.MarkLemmas.{mark_of}
use Rattle.pb_link_names.proofs.marks.field_mark.Goals as goal

pub returns : goal.returns
returns c = λ head i reserved oneofs first. λ j. mark_of true (first j) (c.is_kept.ensures head i reserved j) (c.is_member_right.ensures head oneofs j) true
