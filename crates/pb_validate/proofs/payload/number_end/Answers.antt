use Rattle.pb_validate.proofs.payload.number_end.Goals as goal

pub returns-clause-ok : goal.returns-clause-ok
returns-clause-ok c = (_, c.in_ok-end.ensures.of_type, c.in_ok-end.ensures.ok)
