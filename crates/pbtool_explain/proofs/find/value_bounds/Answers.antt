use Rattle.pbtool_explain.proofs.find.value_bounds.Goals as goal

pub returns-in-0 : goal.returns-in-0
returns-in-0 c = rw c.in-0.is c.number_end.ensures

pub returns-in-2 : goal.returns-in-2
returns-in-2 c = rw c.in-2.is c.bytes_bounds.ensures
