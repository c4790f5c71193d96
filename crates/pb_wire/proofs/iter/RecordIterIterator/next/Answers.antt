use Rattle.std.proofs.Common.{arith}
use Rattle.pb_wire.specs.Fault.{fault as fault_with}
use Rattle.pb_wire.proofs.RecordIterSteps.{shown_number, none_left, limit_left, record_left, fault_left}
use Rattle.pb_wire.proofs.iter.RecordIterIterator.next.Goals as goal

pub returns-then-not-is_cut-clause-steps : goal.returns-then-not-is_cut-clause-steps
returns-then-not-is_cut-clause-steps c =
    rw (← c.self.view_is, c.if-not-is_cut.true)
    (record { first = λ items given. none_left c.self.inside.bytes.now c.self.inside.at c.self.inside.max_depth items c.if-self-end.true given; number = tt })

pub returns-then-self-end-clause-steps : goal.returns-then-self-end-clause-steps
returns-then-self-end-clause-steps c =
    rw (← c.self.view_is, c.if-not-is_cut.false, c.refused.ensures)
    (record { first = λ items given. limit_left c.self.inside.bytes.now c.self.inside.at c.self.inside.max_depth items c.if-self-end.true given; number = tt })

pub returns-in-Ok-clause-steps : goal.returns-in-Ok-clause-steps
returns-in-Ok-clause-steps c =
    rw (← c.self.view_is)
    (record { first = λ items given. record_left c.self.inside.bytes.now c.self.inside.is_cut c.self.inside.at c.in-Ok.after c.self.inside.max_depth _ items c.in-Ok.ensures.ok given; number = shown_number c.in-Ok.ensures.ok })

pub returns-in-Err-clause-steps : goal.returns-in-Err-clause-steps
returns-in-Err-clause-steps c =
    let found = c.in-Err.ensures.fault in
    let f = fault_with c.in-Err.fault.byte found.0 c.in-Err.fault.cause in
    rw (← c.self.view_is, c.fault_at_end.ensures found.0)
    (record {
      first = λ items given. fault_left c.self.inside.bytes.now c.self.inside.is_cut c.self.inside.at c.self.inside.max_depth f items
          (let within = c.self.invariant in let more = c.if-self-end.false in omega arith) found.1 given;
      number = tt;
    })
