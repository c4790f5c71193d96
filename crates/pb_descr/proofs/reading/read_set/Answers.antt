use Rattle.pb_descr_message.proofs.JoinedSets.{same_files, not_both, one_told}
use Rattle.pb_descr.proofs.reading.read_set.Goals as goal

pub returns-in-Ok-Some-clause-accepted : goal.returns-in-Ok-Some-clause-accepted
returns-in-Ok-Some-clause-accepted c = λ files h. same_files (rw c.in-Ok-Some.field-0-is at c.in-Ok-Some.ensures) h

pub returns-in-Ok-Some-clause-fault : goal.returns-in-Ok-Some-clause-fault
returns-in-Ok-Some-clause-fault c = λ f told. absurd (not_both (rw c.in-Ok-Some.field-0-is at c.in-Ok-Some.ensures) told)

pub returns-in-Ok-Some-clause-cause : goal.returns-in-Ok-Some-clause-cause
returns-in-Ok-Some-clause-cause c = λ set i cause text told. absurd (one_told (rw c.in-Ok-Some.field-0-is at c.in-Ok-Some.ensures) set i cause text told)
