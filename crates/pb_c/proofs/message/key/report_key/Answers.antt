-- What is reported is what was found.
use Rattle.std.proofs.Common.{refl, ap, ◌∙◌}
use Rattle.pb_value.specs.View.{key_view}
use Rattle.pb_place.specs.Ask.{key_in}
use Rattle.pb_c_answers.specs.Reporting.{laid_over}
use Rattle.pb_c.specs.Typed.Found.{Reports}
use Rattle.pb_c.proofs.PlaceAnswers.{done, missed}
use Rattle.pb_c.proofs.message.key.report_key.Goals as goal

pub returns-in-Ok-clause-answered : goal.returns-in-Ok-clause-answered
returns-in-Ok-clause-answered c =
    done (key_in c.args.index) c.args.keys.now c.args.place.now c.args.message.now 0 (λ x. Reports x c.key_value.result c.args.out.now c.lay_over.new.buffer) (key_view c.in-Ok.found.now)
    (rw c.view.ensures at c.in-Ok.ensures)
    (record { value = c.key_value.ensures; bytes = c.lay_over.ensures ∙ ap (λ b. laid_over b c.args.out.now) c.key_bytes.ensures }) refl

pub returns-in-Err-clause-answered : goal.returns-in-Err-clause-answered
returns-in-Err-clause-answered c =
    missed (key_in c.args.index) c.args.keys.now c.args.place.now c.args.message.now c.miss_number.result (λ x. Reports x c.args.key.now c.args.out.now c.args.out.now) c.in-Err.miss
    (rw c.view.ensures at c.in-Err.ensures) c.miss_number.ensures
