use Rattle.pb_test_types.proofs.NumberLemmas.{if_any_err, natural_read, natural_refused}
use Rattle.pb_test_types.proofs.texts.u32_of.Goals as goal

pub returns-in_err-parse-clause-refused : goal.returns-in_err-parse-clause-refused
returns-in_err-parse-clause-refused c = if_any_err c.from_residual.result (natural_refused 32 c.args.word.now c.in_err-parse.ensures.value.0)

pub returns-clause-value : goal.returns-clause-value
returns-clause-value c = natural_read 32 c.in_ok-parse.field-0 c.args.word.now c.in_ok-parse.ensures.value.0
