-- What is reported is what was found.
use Rattle.std.proofs.Common.{refl}
use Rattle.pb_c_message.specs.Answers.{bytes_in}
use Rattle.pb_c_answers.specs.Reporting.{IsLaid}
use Rattle.pb_c.proofs.PlaceAnswers.{done, missed}
use Rattle.pb_c.proofs.message.read.write_bytes.Goals as goal

pub returns-in-Ok-clause-answered : goal.returns-in-Ok-clause-answered
returns-in-Ok-clause-answered c =
    done bytes_in c.args.keys.now c.args.place.now c.args.message.now 0 (λ b. IsLaid b c.args.out.now c.write_out.new.out c.write_out.new.size) c.in-Ok.bytes.now (rw c.view.ensures at c.in-Ok.ensures)
    c.write_out.ensures refl

pub returns-in-Err-clause-answered : goal.returns-in-Err-clause-answered
returns-in-Err-clause-answered c =
    missed bytes_in c.args.keys.now c.args.place.now c.args.message.now c.miss_number.result (λ b. IsLaid b c.args.out.now c.args.out.now c.args.size.now) c.in-Err.miss (rw c.view.ensures at c.in-Err.ensures)
    c.miss_number.ensures
