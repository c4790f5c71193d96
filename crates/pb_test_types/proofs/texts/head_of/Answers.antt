use Rattle.pb_test_types.proofs.TextLemmas.{one_part, first_part, shorter_part}
use Rattle.pb_test_types.proofs.texts.head_of.Goals as goal

pub returns-in-Ok-clause-words : goal.returns-in-Ok-clause-words
returns-in-Ok-clause-words c = first_part c.args.separator c.args.row.now c.in-Ok.word.now c.in-Ok.more.now c.in-Ok.ensures.value

pub returns-in-Ok-clause-shorter : goal.returns-in-Ok-clause-shorter
returns-in-Ok-clause-shorter c = shorter_part c.args.separator c.args.row.now c.in-Ok.word.now c.in-Ok.more.now c.in-Ok.ensures.value

pub returns-in-Err-clause-words : goal.returns-in-Err-clause-words
returns-in-Err-clause-words c = one_part c.args.separator c.args.row.now c.in-Err.ensures.refused
