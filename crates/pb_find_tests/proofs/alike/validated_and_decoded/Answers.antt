use Rattle.pb_value.specs.Derives.{Text}
use Rattle.pb_decode.specs.Push.{IsFaultOf}
use Rattle.pb_find_tests.proofs.AlikeLemmas.{accepted_alike, decoded_alike, refused_alike}
use Rattle.pb_find_tests.proofs.alike.validated_and_decoded.Goals as goal

pub returns-clause-accepted : goal.returns-clause-accepted
returns-clause-accepted c =
    accepted_alike c.validate-validated.result c.decode-decoded.result (Text c.args.pool.now c.args.message_type.0 c.args.limits c.args.bytes.now) c.validate-validated.ensures.ok
    c.decode-decoded.ensures.accepted

pub returns-clause-refused : goal.returns-clause-refused
returns-clause-refused c =
    refused_alike c.validate-validated.result c.decode-decoded.result (IsFaultOf c.args.pool.now c.args.message_type.0 c.args.limits c.args.bytes.now) c.validate-validated.ensures.fault
    c.decode-decoded.ensures.refused

pub returns-clause-reported : goal.returns-clause-reported
returns-clause-reported c =
    refused_alike c.decode-decoded.result c.validate-validated.result (IsFaultOf c.args.pool.now c.args.message_type.0 c.args.limits c.args.bytes.now) c.decode-decoded.ensures.fault
    c.validate-validated.ensures.refused

pub returns-clause-decoded : goal.returns-clause-decoded
returns-clause-decoded c =
    decoded_alike c.validate-validated.result tt c.decode-decoded.result (Text c.args.pool.now c.args.message_type.0 c.args.limits c.args.bytes.now) c.decode-decoded.ensures.value
    c.validate-validated.ensures.accepted
