use Rattle.pb_validate.proofs.judging.record_end.Goals as goal

pub returns-clause-none : goal.returns-clause-none
returns-clause-none c = λ none payload q v. c.exact_end.ensures.none none q (payload, v)
