use Rattle.std.proofs.Common.{sym, subst, ◌∙◌}
use Rattle.pb_source_tokens.specs.declared.fault.SourceCause.TheVariants.{BadUtf8}
use Rattle.pb_source.specs.Source.{HasFaultIn}
use Rattle.pb_source.proofs.SourceLaws.{bad_utf8_only}
use Rattle.pb_source.proofs.source.text_of.Goals as goal

pub returns-then-source-gt-MAX_BYTES-clause-fault : goal.returns-then-source-gt-MAX_BYTES-clause-fault
returns-then-source-gt-MAX_BYTES-clause-fault c reading = HasFaultIn.too_large c.if-source-gt-MAX_BYTES.true

pub returns-in-Err-clause-fault : goal.returns-in-Err-clause-fault
returns-in-Err-clause-fault c reading =
    subst (λ place. HasFaultIn reading c.args.source.now place BadUtf8) (sym (c.valid_up_to.ensures ∙ c.in-Err.ensures.valid_len))
    (HasFaultIn.bad_utf8 c.if-source-gt-MAX_BYTES.false c.in-Err.ensures.cases.0)

pub returns-in-Err-clause-only_fault : goal.returns-in-Err-clause-only_fault
returns-in-Err-clause-only_fault c reading place cause h =
    let x = bad_utf8_only reading c.args.source.now c.if-source-gt-MAX_BYTES.false c.in-Err.ensures.cases.0 place cause h in
    (x.0 ∙ sym (c.valid_up_to.ensures ∙ c.in-Err.ensures.valid_len), x.1)
