-- The message that is held is the one that was decoded, or whose canonical bytes are held.
use Rattle.std.proofs.Common.{◌≡◌, ◌∙◌}
use Rattle.pb_wire.specs.Inside.{records_spelled}
use Rattle.pb_value.specs.Data.{Message}
use Rattle.pb_value.specs.Derives.{Text}
use Rattle.pb_value.specs.Value.{value}
use Rattle.pb_c_message.specs.Holds.{message_of}
use Rattle.pb_c.proofs.Copied.{either_way, held_text, ok_weaker}
use Rattle.pb_c_answers.proofs.Making.{the_message}
use Rattle.pb_c.proofs.message.decode.decode_message.Goals as goal

pub returns-in-Ok-boxed-clause-accepted : goal.returns-in-Ok-boxed-clause-accepted
returns-in-Ok-boxed-clause-accepted c within v text =
    let same : c.deref-2.result.now ≡ c.args.pool.now.value = cc in
    c.in-Ok-boxed.ensures.same
    ∙ the_message c.in-Ok.message c.args.pool.now.value c.args.number v (c.in-Ok.ensures.of_type.0 ∙ same) c.in-Ok.ensures.of_type.1
    (c.in-Ok.ensures.accepted (rw same within) v (rw same text))

pub returns-in-Err-clause-accepted : goal.returns-in-Err-clause-accepted
returns-in-Err-clause-accepted c within v text =
    let same : c.deref-2.result.now ≡ c.args.pool.now.value = cc in
    c.in-Err.ensures.accepted (rw same within) v (rw same text)

pub returns-in-Err-clause-refused : goal.returns-in-Err-clause-refused
returns-in-Err-clause-refused c within f fault =
    let same : c.deref-2.result.now ≡ c.args.pool.now.value = cc in
    c.in-Err.ensures.refused (rw same within) f (rw same fault)

-- of canonical bytes that are held the message is that which they encode
pub returns-then-is_known_canonical-clause-text : goal.returns-then-is_known_canonical-clause-text
returns-then-is_known_canonical-clause-text c =
    let same : c.deref.result.now ≡ c.args.pool.now.value = cc in let yes = c.if-is_known_canonical.true in
    let pool = c.args.pool.now.value in let m = c.args.number in let limits = c.args.limits in let b = c.args.bytes.now in
    let text = rw same at c.is_known_canonical.ensures.value yes in let is = rw same at c.is_known_canonical.ensures.canonical yes in
    ok_weaker c.bytes_copied.result (λ x. x.value ≡ message_of pool m (value pool m (records_spelled b)))
    (λ x. (v : Message) × Text pool m limits b v × (x.value ≡ message_of pool m v)) (λ x made. (text.0, text.1, held_text pool m limits b x.value text.0 is made text.1)) c.bytes_copied.ensures.value

pub returns-then-is_known_canonical-clause-accepted : goal.returns-then-is_known_canonical-clause-accepted
returns-then-is_known_canonical-clause-accepted c within v text =
    let same : c.deref.result.now ≡ c.args.pool.now.value = cc in let yes = c.if-is_known_canonical.true in
    let pool = c.args.pool.now.value in let m = c.args.number in let limits = c.args.limits in let b = c.args.bytes.now in
    let is = rw same at c.is_known_canonical.ensures.canonical yes in
    either_way c.bytes_copied.result (λ x. x.value ≡ message_of pool m v) (λ a. a ≡ 14)
    (ok_weaker c.bytes_copied.result (λ x. x.value ≡ message_of pool m (value pool m (records_spelled b))) (λ x. x.value ≡ message_of pool m v)
    (λ x made. held_text pool m limits b x.value v is made text) c.bytes_copied.ensures.value) c.bytes_copied.ensures.memory
