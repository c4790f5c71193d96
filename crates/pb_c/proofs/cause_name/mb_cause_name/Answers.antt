-- The name that was found is the one that is written.
use Rattle.pb_c.proofs.cause_name.mb_cause_name.Goals as goal

pub returns-in-Some-clause-named : goal.returns-in-Some-clause-named
returns-in-Some-clause-named c = λ done. (c.in-Some.found.now, c.in-Some.ensures.named, rw c.as_bytes.ensures.value at c.write_out.ensures)
