use Rattle.pb_stream.proofs.reader.DelimitedReader.next.Goals as goal

pub returns-in-Ok-Some-clause-message : goal.returns-in-Ok-Some-clause-message
returns-in-Ok-Some-clause-message g c = rw (← c.self.view_is) (rw c.in-Ok-Some.field-0-is at c.in-Ok-Some.ensures.message)

pub returns-in-Ok-Some-clause-accepted : goal.returns-in-Ok-Some-clause-accepted
returns-in-Ok-Some-clause-accepted g c =
    rw (← c.self.view_is) (λ open'. rw c.in-Ok-Some.field-0-is at c.in-Ok-Some.ensures.accepted)

pub returns-in-Ok-Some-clause-refused : goal.returns-in-Ok-Some-clause-refused
returns-in-Ok-Some-clause-refused g c = rw (← c.self.view_is) (λ open'. c.in-Ok-Some.ensures.refused)

pub returns-in-Ok-Some-clause-within : goal.returns-in-Ok-Some-clause-within
returns-in-Ok-Some-clause-within g c = rw (← c.self.view_is) (c.in-Ok-Some.ensures.within)

pub returns-in-Err-clause-accepted : goal.returns-in-Err-clause-accepted
returns-in-Err-clause-accepted g c = rw (← c.self.view_is) (λ open'. c.in-Err.ensures.accepted)

pub returns-in-Err-clause-refused : goal.returns-in-Err-clause-refused
returns-in-Err-clause-refused g c = rw (← c.self.view_is) (λ open'. c.in-Err.ensures.refused)

pub returns-in-Err-clause-within : goal.returns-in-Err-clause-within
returns-in-Err-clause-within g c = rw (← c.self.view_is) (c.in-Err.ensures.within)
