use Rattle.std.proofs.Common.{nat_lt, length, arith}
use Rattle.pb_wire.specs.Limits.{full}
use Rattle.pbtool_explain.proofs.FindLemmas.{first_whole, gives_some, none_whole, a_fault, nothing}
use Rattle.pbtool_explain.proofs.find.first_record.Goals as goal

pub returns-in-Some-Ok-clause-whole : goal.returns-in-Some-Ok-clause-whole
returns-in-Some-Ok-clause-whole c = λ at.
    let given = gives_some c.new.ensures.settled c.new.ensures.text c.new.ensures.fault in
    let first = c.in-Some-Ok.ensures.steps.first given.0 given.1 in
    let is = rw c.in-Some-Ok.field-0-is at first.1 in
    let whole = first_whole full.bytes (nat_lt full.bytes (length c.args.rest.now)) at c.new.ensures.begins given.1 is in
    let size = whole.2 in
    (whole.0, whole.1, omega (arith, size))

pub returns-in-Some-Err-clause-none : goal.returns-in-Some-Err-clause-none
returns-in-Some-Err-clause-none c = λ at w.
    let given = gives_some c.new.ensures.settled c.new.ensures.text c.new.ensures.fault in
    let first = c.in-Some-Err.ensures.steps.first given.0 given.1 in
    let small = w.small in
    none_whole full.bytes (nat_lt full.bytes (length c.args.rest.now)) at c.new.ensures.begins given.1
    (a_fault (rw c.in-Some-Err.field-0-is at first.1)) w (omega (arith, small))

pub returns-in-None-clause-none : goal.returns-in-None-clause-none
returns-in-None-clause-none c = λ at w.
    let given = gives_some c.new.ensures.settled c.new.ensures.text c.new.ensures.fault in
    let first = c.in-None.ensures.steps.first given.0 given.1 in
    let small = w.small in
    none_whole full.bytes (nat_lt full.bytes (length c.args.rest.now)) at c.new.ensures.begins given.1 (nothing first.0) w (omega (arith, small))
