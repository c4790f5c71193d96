-- The bytes within the limit are one piece.
use Rattle.std.proofs.Common.{◌≡◌, ◌+◌, [], length, arith, subst, sym}
use Rattle.std.proofs.lemmas.Result.{err_from_is_err_and, on_ok_weaker}
use Rattle.pb_wire.specs.Fault.{fault}
use Rattle.pb_wire.specs.declared.fault.Cause.TheVariants.{InputTooLarge}
use Rattle.pb_wire.specs.Grammar.{HasFault}
use Rattle.pb_schema.specs.Context.{a_message, schema_of}
use Rattle.pb_decode.specs.Reader.{state_view}
use Rattle.pb_decode.specs.Reader.Start.{starting}
use Rattle.pb_decode.proofs.ReaderLemmas.{if_fault_weaker}
use Rattle.pb_decode.proofs.OntoText.{whole_fault, front_reported, beyond_reported}
use Rattle.pb_decode.proofs.Outcomes.{fault_weaker}
use Rattle.pb_decode.proofs.onto.take_within.Goals as goal

pub returns-in_err-take_onward-clause-fault : goal.returns-in_err-take_onward-clause-fault
returns-in_err-take_onward-clause-fault c =
    let p = err_from_is_err_and c.from_residual.result c.from_residual.ensures.1 in
    rw (p.1, p.2)
    (if_fault_weaker c.in_err-take_onward.field-0.0 _ (HasFault (schema_of c.args.pool.now) (a_message c.args.message_type.0) c.args.limits c.args.bytes.now)
    (λ f reported. front_reported c.requires.took.0 c.max_bytes-most.result f c.max_bytes-most.ensures.same c.if-bytes-most.true reported) (c.in_err-take_onward.ensures.fault _ c.requires.took.1))

pub returns-then-bytes-most-clause-fault : goal.returns-then-bytes-most-clause-fault
returns-then-bytes-most-clause-fault c =
    if_fault_weaker c.too_large.result (λ f. f ≡ fault c.max_bytes-most.result [] InputTooLarge) (HasFault (schema_of c.args.pool.now) (a_message c.args.message_type.0) c.args.limits c.args.bytes.now)
    (λ f is.
    subst (HasFault (schema_of c.args.pool.now) (a_message c.args.message_type.0) c.args.limits c.args.bytes.now) (sym is)
    (beyond_reported c.max_bytes-most.result (state_view c.take_onward.new.reading.reader) c.take_onward.new.reading.held.items c.max_bytes-most.ensures.same c.if-bytes-most.true (c.in_ok-take_onward.ensures.took _ c.requires.took.1)))
    c.too_large.ensures

pub returns-clause-size : goal.returns-clause-size
returns-clause-size c = let same = c.max_bytes-most.ensures.same in on_ok_weaker c.take_onward-2.result (λ at. omega (arith, same)) c.take_onward-2.ensures.at

pub returns-clause-at : goal.returns-clause-at
returns-clause-at c =
    let was = c.requires.took.1.at in
    on_ok_weaker c.take_onward-2.result
    (λ (at : c.take_onward-2.new.reading.reader.at + length c.take_onward-2.new.reading.held.items ≡ c.args.reading.now.reader.at + length c.args.reading.now.held.items + length c.args.bytes.now). omega (arith, was, at))
    c.take_onward-2.ensures.at

pub returns-clause-took : goal.returns-clause-took
returns-clause-took c = λ base took. c.take_onward-2.ensures.took (starting c.args.message_type.0 c.args.limits.depth base _) took

pub returns-clause-fault : goal.returns-clause-fault
returns-clause-fault c =
    let same = c.max_bytes-most.ensures.same in
    fault_weaker c.take_onward-2.result _ (HasFault (schema_of c.args.pool.now) (a_message c.args.message_type.0) c.args.limits c.args.bytes.now) (λ f reported. whole_fault c.args.pool.now c.requires.took.0 f (omega (arith, same)) reported.bad)
    (c.take_onward-2.ensures.fault _ c.requires.took.1)
