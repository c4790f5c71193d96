use Rattle.pb_link_names.proofs.OneofCountLemmas.{oneof_marked}
use Rattle.pb_link_names.proofs.marks.oneof_mark.Goals as goal

pub returns : goal.returns
returns c = λ head name held follows. oneof_marked head name c.args.oneofs.now.members.items c.args.oneofs.now.are_synthetic.items c.args.index c.index.result.now c.args.follows_synthetic c.is_oneof_right.result held c.requires.size c.index.ensures c.is_oneof_right.ensures follows
