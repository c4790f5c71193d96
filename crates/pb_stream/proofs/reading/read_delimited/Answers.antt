use Rattle.std.proofs.lemmas.Result.{err_from_is_err_and}
use Rattle.pb_stream.proofs.reading.read_delimited.Goals as goal

pub returns-in_err-read_frame-clause-accepted : goal.returns-in_err-read_frame-clause-accepted
returns-in_err-read_frame-clause-accepted g c =
    let p = err_from_is_err_and c.from_residual.result c.from_residual.ensures.1 in
    rw (p.1, p.2) (c.in_err-read_frame.ensures.accepted)

pub returns-in_err-read_frame-clause-refused : goal.returns-in_err-read_frame-clause-refused
returns-in_err-read_frame-clause-refused g c =
    let p = err_from_is_err_and c.from_residual.result c.from_residual.ensures.1 in
    rw (p.1, p.2) (c.in_err-read_frame.ensures.refused)

pub returns-in-Some-clause-message : goal.returns-in-Some-clause-message
returns-in-Some-clause-message g c = rw c.in-Some.is at c.in_ok-read_frame.ensures.message

pub returns-in-Some-clause-accepted : goal.returns-in-Some-clause-accepted
returns-in-Some-clause-accepted g c = rw c.in-Some.is at c.in_ok-read_frame.ensures.accepted

pub returns-in-Some-clause-refused : goal.returns-in-Some-clause-refused
returns-in-Some-clause-refused g c = c.in_ok-read_frame.ensures.refused
