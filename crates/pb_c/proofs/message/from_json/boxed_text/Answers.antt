-- The message that is held is the one that was read.
use Rattle.std.proofs.Common.{◌≡◌, ◌∙◌, refl}
use Rattle.pb_c_answers.proofs.Making.{the_message}
use Rattle.pb_c.proofs.message.from_json.boxed_text.Goals as goal

pub returns-in-Ok-boxed-clause-read : goal.returns-in-Ok-boxed-clause-read
returns-in-Ok-boxed-clause-read c =
    let same : c.deref.result.now ≡ c.args.pool.now.value = cc in (
      c.in-Ok.message.body,
      rw same at c.in-Ok.ensures.read,
      c.in-Ok-boxed.ensures.same
          ∙ the_message c.in-Ok.message c.args.pool.now.value c.args.number c.in-Ok.message.body (c.in-Ok.ensures.of_type.0 ∙ same) c.in-Ok.ensures.of_type.1 refl,
    )

pub returns-in-Ok-boxed-clause-accepted : goal.returns-in-Ok-boxed-clause-accepted
returns-in-Ok-boxed-clause-accepted c within v text =
    let same : c.deref.result.now ≡ c.args.pool.now.value = cc in
    c.in-Ok-boxed.ensures.same
    ∙ the_message c.in-Ok.message c.args.pool.now.value c.args.number v (c.in-Ok.ensures.of_type.0 ∙ same) c.in-Ok.ensures.of_type.1
    (c.in-Ok.ensures.accepted (rw same within) v (rw same text))

pub returns-in-Ok-boxed-clause-refused : goal.returns-in-Ok-boxed-clause-refused
returns-in-Ok-boxed-clause-refused c within e bad =
    let same : c.deref.result.now ≡ c.args.pool.now.value = cc in
    c.in-Ok.ensures.refused (rw same within) e (rw same bad)

pub returns-in-Err-clause-fault : goal.returns-in-Err-clause-fault
returns-in-Err-clause-fault c typed other =
    let same : c.deref.result.now ≡ c.args.pool.now.value = cc in
    let bad = c.in-Err.ensures.fault typed other in
    (bad.0, rw same at bad.1, bad.2)

pub returns-in-Err-clause-accepted : goal.returns-in-Err-clause-accepted
returns-in-Err-clause-accepted c within v text =
    let same : c.deref.result.now ≡ c.args.pool.now.value = cc in
    c.in-Err.ensures.accepted (rw same within) v (rw same text)

pub returns-in-Err-clause-refused : goal.returns-in-Err-clause-refused
returns-in-Err-clause-refused c within f fault =
    let same : c.deref.result.now ≡ c.args.pool.now.value = cc in
    c.in-Err.ensures.refused (rw same within) f (rw same fault)
