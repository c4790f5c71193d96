use Rattle.std.proofs.Common.{inl, inr, subst}
use Rattle.pb_c.specs.Message.Listed.{IsListedAs}
use Rattle.pb_c_answers.proofs.Making.{the_message}
use Rattle.pb_c.proofs.listed.show_message.Goals as goal

pub returns-in-Ok-clause-accepted : goal.returns-in-Ok-clause-accepted
returns-in-Ok-clause-accepted c within v text =
    let same = the_message c.in-Ok.message c.args.input.pool.now c.args.input.type_number v c.in-Ok.ensures.of_type.0 c.in-Ok.ensures.of_type.1 (c.in-Ok.ensures.accepted within v text) in
    elim c.write_as.ensures.answers [
      | inl is ↦ inl (is, subst (λ d. IsListedAs c.args.form d c.args.out.now c.write_as.new.out c.write_as.new.size) same (c.write_as.ensures.written is))
      | inr is ↦ inr is
    ]

pub returns-in-Err-clause-accepted : goal.returns-in-Err-clause-accepted
returns-in-Err-clause-accepted c within v text = inr (c.in-Err.ensures.accepted within v text)
