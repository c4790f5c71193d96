-- What is right is answered, since there is one value or one fault.
use Rattle.std.proofs.Common.{◌≡◌}
use Rattle.pb_wire.specs.Grammar.{HasFault}
use Rattle.pb_wire.proofs.ExactLemmas.{text_not_both, one_text_fault}
use Rattle.pb_schema.specs.Context.{a_message, schema_of}
use Rattle.pb_value.specs.Data.{Message}
use Rattle.pb_value.specs.Derives.{Text}
use Rattle.pb_value.specs.Dynamic.{Dynamic}
use Rattle.pb_decode.proofs.DecodeLemmas.{some_text, same_value}
use Rattle.pb_decode.proofs.Outcomes.{accepted_left, refused_left}
use Rattle.pb_decode.proofs.from_device.decode_from.Goals as goal

pub returns-clause-accepted : goal.returns-clause-accepted
returns-clause-accepted g c =
    accepted_left (g.I.Input.left c.args.input.now) c.read_message.result (λ left (m : Dynamic). Text c.args.pool.now c.args.message_type.0 c.args.limits left m.body) (λ left (v : Message). Text c.args.pool.now c.args.message_type.0 c.args.limits left v)
    (λ left f. HasFault (schema_of c.args.pool.now) (a_message c.args.message_type.0) c.args.limits left f) (λ v (m : Dynamic). m.body ≡ v) c.read_message.ensures.value c.read_message.ensures.fault
    (λ left v m t u. same_value m.body v u t) (λ left v f t fails. text_not_both fails (some_text v t))

pub returns-clause-refused : goal.returns-clause-refused
returns-clause-refused g c =
    refused_left (g.I.Input.left c.args.input.now) c.read_message.result (λ left (m : Dynamic). Text c.args.pool.now c.args.message_type.0 c.args.limits left m.body) (λ left f. HasFault (schema_of c.args.pool.now) (a_message c.args.message_type.0) c.args.limits left f)
    c.read_message.ensures.value c.read_message.ensures.fault (λ left m f t fails. text_not_both fails (some_text m.body t)) (λ left f h bad other. one_text_fault bad other)
