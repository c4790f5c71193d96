-- What is reported is what was found.
use Rattle.std.proofs.Common.{◌≡◌, length, refl}
use Rattle.pb_place.specs.Ask.{laid_over}
use Rattle.pb_c_message.specs.Answers.{numbers_in}
use Rattle.pb_c.proofs.PlaceAnswers.{done, missed}
use Rattle.pb_c.proofs.message.fields.write_fields.Goals as goal

pub returns-in-Ok-clause-answered : goal.returns-in-Ok-clause-answered
returns-in-Ok-clause-answered c =
    let f = c.in-Ok.ensures.answer in
    done numbers_in c.args.keys.now c.args.place.now c.args.message.now 0 (λ ns. (c.fields_at.new.buffer ≡ laid_over ns c.args.numbers.now) × (c.in-Ok.found ≡ length ns)) f.0
    (rw c.view.ensures at f.1) (f.3, f.2) refl

pub returns-in-Err-clause-answered : goal.returns-in-Err-clause-answered
returns-in-Err-clause-answered c =
    missed numbers_in c.args.keys.now c.args.place.now c.args.message.now c.miss_number.result (λ ns. (c.fields_at.new.buffer ≡ laid_over ns c.args.numbers.now) × (c.args.count.now ≡ length ns))
    c.in-Err.miss (rw c.view.ensures at c.in-Err.ensures.answer) c.miss_number.ensures
