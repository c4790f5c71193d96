use Rattle.std.proofs.Common.{refl}
use Rattle.std.proofs.lemmas.Int.{to_z-of_z}
use mir.Syntax.{w64}
use mir.Val.{SFits}
use Rattle.pb_test_types.proofs.NumberLemmas.{if_any_err, integer_read, integer_refused}
use Rattle.pb_test_types.proofs.texts.i64_of.Goals as goal

pub returns-in_err-parse-clause-refused : goal.returns-in_err-parse-clause-refused
returns-in_err-parse-clause-refused c = if_any_err c.from_residual.result (integer_refused w64 64 c.args.word.now refl c.in_err-parse.ensures.value.0)

pub returns-clause-value : goal.returns-clause-value
returns-clause-value c =
    let read = c.in_ok-parse.ensures.value.0 in
    let fits : SFits w64 c.in_ok-parse.field-0 = rw (read.1) (read.0.1) in
    rw (to_z-of_z w64 c.in_ok-parse.field-0 fits) (integer_read w64 64 c.in_ok-parse.field-0 c.args.word.now refl read)
