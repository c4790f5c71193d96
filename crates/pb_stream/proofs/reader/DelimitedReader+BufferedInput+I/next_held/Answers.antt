use Rattle.std.proofs.Common.{arith}
use Rattle.pb_stream.proofs.HeldLemmas.{counts_first}
use Rattle.pb_stream.proofs.reader.DelimitedReader+BufferedInput+I.next_held.Goals as goal

pub returns-in-Ok-None-clause-accepted : goal.returns-in-Ok-None-clause-accepted
returns-in-Ok-None-clause-accepted g c =
    rw (← c.self.view_is) (λ open'. rw (c.in-Ok-None.field-0-is, c.held.ensures) at c.in-Ok-None.ensures.accepted)

pub returns-in-Ok-Some-clause-counted : goal.returns-in-Ok-Some-clause-counted
returns-in-Ok-Some-clause-counted g c = λ more.
    let fits = rw (c.in-Ok-Some.field-0-is, c.held.ensures) at c.in-Ok-Some.ensures.fits in
    rw (← c.self.view_is, c.advance.ensures.held)
    (counts_first c.self.inside.input.held c.in-Ok-Some.framed.size c.self.inside.taken c.saturating_add-self-inside.result more fits
    (omega (arith, c.saturating_add-self-inside.ensures)))

pub returns-in-Ok-Some-clause-accepted : goal.returns-in-Ok-Some-clause-accepted
returns-in-Ok-Some-clause-accepted g c =
    rw (← c.self.view_is) (λ open'. rw (c.in-Ok-Some.field-0-is, c.held.ensures) at c.in-Ok-Some.ensures.accepted)
