use Rattle.pbtool_explain.proofs.steps.find_at.Goals as goal

pub returns : goal.returns
returns c = rw c.in_ok-at.was c.find_record.ensures
