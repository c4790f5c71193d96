-- What is answered is how the change ended.
use Rattle.std.proofs.Common.{refl, sym, subst}
use Rattle.pb_c_message.specs.Ends.{ends}
use Rattle.pb_c_message.proofs.OneEnd.{one_end}
use Rattle.pb_c.specs.Message.Changes.{IsChangeAnswer}
use Rattle.pb_c.proofs.ChangeAnswers.{changed, unchanged, is_answer}
use Rattle.pb_c.proofs.message.change.change_message.Goals as goal

pub returns-in-Ok-clause-changed : goal.returns-in-Ok-clause-changed
returns-in-Ok-clause-changed c =
    let given = c.args.strings.now in let place = c.args.place.now in
    changed (ends given place c.args.plain) (one_end given place c.args.plain) c.args.message.now 0 c.change.new.message refl c.in-Ok.ensures.ended

pub returns-in-Err-clause-changed : goal.returns-in-Err-clause-changed
returns-in-Err-clause-changed c =
    let given = c.args.strings.now in let place = c.args.place.now in
    unchanged (ends given place c.args.plain) (one_end given place c.args.plain) c.args.message.now c.unmade_answer.result c.in-Err.unchanged c.change.new.message
    c.unmade_answer.ensures c.in-Err.ensures.ended.0 c.in-Err.ensures.ended.1

pub returns-in-Err-clause-answers : goal.returns-in-Err-clause-answers
returns-in-Err-clause-answers c = subst IsChangeAnswer (sym c.unmade_answer.ensures) (is_answer c.in-Err.unchanged)
