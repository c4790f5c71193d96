-- A message that the text is read as is the one that was read, and a fault of it the one that is reported, or memory ran out.
use Rattle.std.proofs.Common.{subst, sym}
use Rattle.pb_json_read.specs.Answers.{IsReadBy, IsRefusedBy}
use Rattle.pb_c_answers.proofs.JsonReading.{cause_answered, fault_answered}
use Rattle.pb_c_answers.proofs.json.reading.read_text.Goals as goal

pub returns-in-Ok-clause-accepted : goal.returns-in-Ok-clause-accepted
returns-in-Ok-clause-accepted c within v text =
    c.in-Ok.ensures.accepted v (subst (λ m. IsReadBy c.args.pool.now c.args.rules c.args.names.now m c.args.json.now v) (sym c.in-Some.ensures.found.0) text)

pub returns-in-Ok-clause-refused : goal.returns-in-Ok-clause-refused
returns-in-Ok-clause-refused c within e bad =
    c.in-Ok.ensures.refused e (subst (λ m. IsRefusedBy c.args.pool.now c.args.rules c.args.names.now m c.args.json.now e) (sym c.in-Some.ensures.found.0) bad)

pub returns-in-Err-clause-fault : goal.returns-in-Err-clause-fault
returns-in-Err-clause-fault c typed other =
    cause_answered c.in-Err.error c.report.result c.report.new.byte c.report.ensures.memory c.report.ensures.reported
    (IsRefusedBy c.args.pool.now c.args.rules c.args.names.now c.args.number c.args.json.now) (rw c.in-Some.ensures.found.0 at c.in-Err.ensures.fault) other

pub returns-in-Err-clause-accepted : goal.returns-in-Err-clause-accepted
returns-in-Err-clause-accepted c within v text =
    c.report.ensures.memory
    (c.in-Err.ensures.accepted v (subst (λ m. IsReadBy c.args.pool.now c.args.rules c.args.names.now m c.args.json.now v) (sym c.in-Some.ensures.found.0) text))

pub returns-in-Err-clause-refused : goal.returns-in-Err-clause-refused
returns-in-Err-clause-refused c within e bad =
    fault_answered c.in-Err.error c.report.result c.report.new.byte c.report.ensures.memory c.report.ensures.reported e
    (c.in-Err.ensures.refused e (subst (λ m. IsRefusedBy c.args.pool.now c.args.rules c.args.names.now m c.args.json.now e) (sym c.in-Some.ensures.found.0) bad))
