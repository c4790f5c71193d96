-- What is answered of a copy is answered of the message.
use Rattle.std.proofs.Common.{◌≡◌}
use Rattle.pb_c_answers.specs.Reporting.{Tells}
use Rattle.pb_c.proofs.Copies.{accepted_onto, refused_onto}
use Rattle.pb_c.proofs.message.merge.merged_with.Goals as goal

pub returns-in-Ok-clause-accepted : goal.returns-in-Ok-clause-accepted
returns-in-Ok-clause-accepted c =
    accepted_onto c.in-Ok.copy c.args.message.now c.args.limits c.args.bytes.now c.onto_copy.result c.in-Ok.ensures.same c.onto_copy.ensures.accepted

pub returns-in-Ok-clause-refused : goal.returns-in-Ok-clause-refused
returns-in-Ok-clause-refused c =
    refused_onto c.in-Ok.copy c.args.message.now c.args.limits c.args.bytes.now c.onto_copy.result c.in-Ok.ensures.same
    (λ f a. (a ≡ 13) × Tells f c.onto_copy.new.fault c.args.path.now c.onto_copy.new.path) c.onto_copy.ensures.refused
