use Rattle.pbtool_explain.proofs.find.found_at.Goals as goal

pub returns-clause-value : goal.returns-clause-value
returns-clause-value c = rw c.rest_at.ensures at c.value_bounds-value.ensures
