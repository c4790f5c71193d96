use Rattle.pb_compat.proofs.ClimbLemmas.{compared_began}
use Rattle.pb_compat.proofs.comparing.compare.Goals as goal

pub returns-clause-began : goal.returns-clause-began
returns-clause-began c = compared_began c.args.old.now c.args.new.now (c.args.old_type.0, c.args.new_type.0) c.compare_pairs.result c.compare_pairs.ensures.compared
