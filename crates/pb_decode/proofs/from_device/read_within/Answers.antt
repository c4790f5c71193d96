-- What the input gives within the limit is read, and one byte more where there is one.
use Rattle.std.proofs.Common.{◌≡◌, [], arith, sym, subst}
use Rattle.std.specs.Prelude.{IfSome}
use Rattle.std.proofs.lemmas.Result.{err_from_is_err_and}
use Rattle.pb_decode.specs.Loops.{ReadsOn}
use Rattle.pb_wire.specs.Fault.{Fault, fault}
use Rattle.pb_wire.specs.declared.fault.Cause.TheVariants.{InputTooLarge}
use Rattle.pb_wire.specs.Grammar.{HasFault}
use Rattle.pb_schema.specs.Context.{a_message, schema_of}
use Rattle.pb_decode.proofs.DeviceLemmas.{reported_left, more_left, takes_more, reads_nothing, if_refused_weaker, if_fault_refused}
use Rattle.pb_decode.proofs.from_device.read_within.Goals as goal

pub returns-in_err-count-clause-fault : goal.returns-in_err-count-clause-fault
returns-in_err-count-clause-fault g c =
    let p = err_from_is_err_and c.from_residual.result c.from_residual.ensures.1 in
    rw (p.1, p.2)
    (if_refused_weaker c.in_err-count.field-0.0 _ (λ f. IfSome (g.I.Input.left c.args.input.now) (λ left. HasFault (schema_of c.args.pool.now) (a_message c.args.message_type.0) c.args.limits left f))
    (λ f reported. reported_left c.requires.took.0 (g.I.Input.left c.args.input.now) (g.I.Input.left c.read_pieces.new.input) c.max_bytes-most.result f c.max_bytes-most.ensures.same reported)
    (c.in_err-count.ensures.fault _ c.requires.took.1))

pub returns-in_err-more-clause-most : goal.returns-in_err-more-clause-most
returns-in_err-more-clause-most g c =
    let same = c.max_bytes-most.ensures.same in let count = c.in_ok-count.ensures.count in takes_more (g.I.Input.left c.has_byte.new.input) (omega (arith, same, count)) c.in_ok-count.ensures.read c.has_byte.ensures.most

pub returns-then-more-clause-fault : goal.returns-then-more-clause-fault
returns-then-more-clause-fault g c =
    let one = c.in_ok-more.ensures.some c.if-more.true in
    let count = c.in_ok-count.ensures.count in
    let all = c.if-count-most.false in
    let is : c.in_ok-count.count ≡ c.max_bytes-most.result = omega (arith, count, all) in
    if_fault_refused c.too_large.result (λ f. f ≡ fault c.max_bytes-most.result [] InputTooLarge) (λ f. IfSome (g.I.Input.left c.args.input.now) (λ left. HasFault (schema_of c.args.pool.now) (a_message c.args.message_type.0) c.args.limits left f))
    (λ f same.
    subst (λ (z : Fault). IfSome (g.I.Input.left c.args.input.now) (λ left. HasFault (schema_of c.args.pool.now) (a_message c.args.message_type.0) c.args.limits left z)) (sym same)
    (more_left c.requires.took.0 (g.I.Input.left c.args.input.now) (g.I.Input.left c.read_pieces.new.input) (g.I.Input.left c.has_byte.new.input) c.max_bytes-most.result one.0 c.max_bytes-most.ensures.same c.requires.took.1
    (subst (ReadsOn c.args.pool.now c.args.reading.now c.read_pieces.new.reading (g.I.Input.left c.args.input.now) (g.I.Input.left c.read_pieces.new.input)) is c.in_ok-count.ensures.read) one.2 one.1))
    c.too_large.ensures

pub returns-then-more-clause-most : goal.returns-then-more-clause-most
returns-then-more-clause-most g c =
    let same = c.max_bytes-most.ensures.same in let count = c.in_ok-count.ensures.count in takes_more (g.I.Input.left c.has_byte.new.input) (omega (arith, same, count)) c.in_ok-count.ensures.read c.has_byte.ensures.most

pub returns-clause-most : goal.returns-clause-most
returns-clause-most g c =
    let same = c.max_bytes-most.ensures.same in let count = c.in_ok-count.ensures.count in takes_more (g.I.Input.left c.has_byte.new.input) (omega (arith, same, count)) c.in_ok-count.ensures.read c.has_byte.ensures.most

pub returns-clause-read : goal.returns-clause-read
returns-clause-read g c =
    let same = c.max_bytes-most.ensures.same in
    let count = c.in_ok-count.ensures.count in
    (c.in_ok-count.count, omega (arith, same, count), reads_nothing (g.I.Input.left c.has_byte.new.input) c.in_ok-count.ensures.read (c.in_ok-more.ensures.none c.if-more.false).0)
