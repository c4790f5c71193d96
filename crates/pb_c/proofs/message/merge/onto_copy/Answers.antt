-- What the bytes make of the message is what was decoded onto it, and their fault is the one that is reported, or memory ran out.
use Rattle.std.proofs.Common.{◌≡◌, refl}
use Rattle.pb_c_answers.specs.Reporting.{Tells}
use Rattle.pb_c_answers.proofs.Making.{the_message}
use Rattle.pb_c_answers.proofs.Refusals.{of_bytes, the_fault_of}
use Rattle.pb_c.proofs.message.merge.onto_copy.Goals as goal

pub returns-in-Ok-clause-onto : goal.returns-in-Ok-clause-onto
returns-in-Ok-clause-onto c =
    let n = c.in-Ok.merged in let m = c.args.copy in let same = c.in-Ok.ensures.of_type in
    (n.body, c.in-Ok.ensures.value, the_message n m.pool m.kind n.body same.0 same.1 refl)

pub returns-in-Ok-clause-accepted : goal.returns-in-Ok-clause-accepted
returns-in-Ok-clause-accepted c w text =
    let n = c.in-Ok.merged in let m = c.args.copy in let same = c.in-Ok.ensures.of_type in
    the_message n m.pool m.kind w same.0 same.1 (c.in-Ok.ensures.accepted w text)

pub returns-in-Err-clause-refused : goal.returns-in-Err-clause-refused
returns-in-Err-clause-refused c f fault =
    the_fault_of c.in-Err.error f (λ g. (c.tell_error.result ≡ 13) × Tells g c.tell_error.new.fault c.args.path.now c.tell_error.new.path)
    (c.tell_error.result ≡ 14) (of_bytes c.in-Err.error (λ g. g ≡ f) (c.in-Err.ensures.refused f fault)) c.tell_error.ensures.told
