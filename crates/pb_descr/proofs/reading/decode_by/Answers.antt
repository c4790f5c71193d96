use Rattle.std.proofs.Common.{sym, ◌∙◌, subst}
use Rattle.pb_wire.specs.Fault.{fault}
use Rattle.pb_wire.specs.Grammar.{HasFault}
use Rattle.pb_wire.specs.Limits.{full}
use Rattle.pb_schema.specs.Types.{Types}
use Rattle.pb_schema.specs.Context.{a_message, schema_of}
use Rattle.pb_value.specs.Derives.{Text}
use Rattle.pb_descr_message.specs.Pool.{the_set}
use Rattle.pb_descr.proofs.reading.decode_by.Goals as goal

pub returns-in-Ok-clause-accepted : goal.returns-in-Ok-clause-accepted
returns-in-Ok-clause-accepted c =
    λ set text. c.into_body.ensures ∙ c.in-Ok.ensures.accepted set (subst (λ (ts : Types). Text ts the_set full c.args.bytes.now set) (sym c.requires) text)

pub returns-in-Ok-clause-refused : goal.returns-in-Ok-clause-refused
returns-in-Ok-clause-refused c =
    λ f h. c.in-Ok.ensures.refused f (subst (λ (ts : Types). HasFault (schema_of ts) (a_message the_set) full c.args.bytes.now f) (sym c.requires) h)

pub returns-in-Err-Fault-clause-fault : goal.returns-in-Err-Fault-clause-fault
returns-in-Err-Fault-clause-fault c =
    subst (λ (ts : Types). HasFault (schema_of ts) (a_message the_set) full c.args.bytes.now (fault c.in-Err-Fault.byte c.in-Err-Fault.path.items c.in-Err-Fault.cause)) c.requires
    (rw c.in-Err-Fault.field-0-is at c.in-Err-Fault.ensures.fault)

pub returns-in-Err-Fault-clause-accepted : goal.returns-in-Err-Fault-clause-accepted
returns-in-Err-Fault-clause-accepted c =
    λ set text.
    let memory = c.in-Err-Fault.ensures.accepted set (subst (λ (ts : Types). Text ts the_set full c.args.bytes.now set) (sym c.requires) text) in
    let told = c.in-Err-Fault.field-0-is in
    absurd (cc)

pub returns-in-Err-Fault-clause-refused : goal.returns-in-Err-Fault-clause-refused
returns-in-Err-Fault-clause-refused c =
    λ f h. rw c.in-Err-Fault.field-0-is at (c.in-Err-Fault.ensures.refused f (subst (λ (ts : Types). HasFault (schema_of ts) (a_message the_set) full c.args.bytes.now f) (sym c.requires) h))
