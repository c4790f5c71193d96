use Rattle.std.proofs.Common.{◌≡◌, subst}
use Rattle.pb_wire.specs.Reading.{IfRawFault}
use Rattle.pb_wire.specs.declared.fault.RawError.{RawError}
use Rattle.pb_decode.proofs.DecodeLemmas.{text_of}
use Rattle.pb_decode.proofs.validating.validate.Goals as goal

pub returns-in-Ok-clause-ok : goal.returns-in-Ok-clause-ok
returns-in-Ok-clause-ok c = text_of c.in-Ok.ensures.text

pub returns-in-Err-Fault-clause-refused : goal.returns-in-Err-Fault-clause-refused
returns-in-Err-Fault-clause-refused c = λ f bad.
    subst (λ (e : RawError). IfRawFault e (λ g. g ≡ f)) c.in-Err-Fault.field-0-is (c.in-Err-Fault.ensures.refused f bad)
