use Rattle.pb_compat.proofs.ReportedLemmas.{each_read_unless_break, read_unless_break}
use Rattle.pb_compat.proofs.breaking.breaks_reading.Goals as goal

pub returns-clause-read : goal.returns-clause-read
returns-clause-read c old new m n a b are none = read_unless_break old new m n c.args.compared.now c.any_break.result c.any_break.ensures a b are none

pub returns-clause-each_read : goal.returns-clause-each_read
returns-clause-each_read c old new starts m n rules_old rules_new are there none =
    each_read_unless_break old new starts m n c.args.compared.now c.any_break.result c.any_break.ensures rules_old rules_new are there none
