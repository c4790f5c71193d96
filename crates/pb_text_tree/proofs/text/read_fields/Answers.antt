use Rattle.std.proofs.lemmas.Result.{err_from_is_err_and}
use Rattle.pb_text_tree.proofs.TextLaws.{only_fields, no_fault, err_accepted, err_refused}
use Rattle.pb_text_tree.proofs.text.read_fields.Goals as goal

pub returns-in_err-fields-clause-accepted : goal.returns-in_err-fields-clause-accepted
returns-in_err-fields-clause-accepted c fs h =
    let p = err_from_is_err_and c.from_residual.result c.from_residual.ensures.1 in
    rw (p.1, p.2) (err_accepted _ _ _ fs c.in_err-fields.ensures.fault h)

pub returns-in_err-fields-clause-refused : goal.returns-in_err-fields-clause-refused
returns-in_err-fields-clause-refused c f h =
    let p = err_from_is_err_and c.from_residual.result c.from_residual.ensures.1 in
    rw (p.1, p.2) (err_refused _ _ _ f c.in_err-fields.ensures.fault h)

pub returns-clause-accepted : goal.returns-clause-accepted
returns-clause-accepted c fs h = only_fields _ _ _ fs c.in_ok-fields.ensures.fields h

pub returns-clause-refused : goal.returns-clause-refused
returns-clause-refused c f h = no_fault _ _ _ f c.in_ok-fields.ensures.fields h
