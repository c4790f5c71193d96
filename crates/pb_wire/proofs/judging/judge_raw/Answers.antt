use Rattle.pb_wire.specs.Schema.{blank}
use Rattle.pb_wire.proofs.JudgingLemmas.{text_accepted, fault_told}
use Rattle.pb_wire.proofs.judging.judge_raw.Goals as goal

pub returns-clause-accepted : goal.returns-clause-accepted
returns-clause-accepted c = λ text.
    text_accepted blank tt c.args.limits c.args.bytes.now c.judge_text.result c.judge_text.ensures.fault text

pub returns-clause-refused : goal.returns-clause-refused
returns-clause-refused c = λ f h.
    fault_told blank tt c.args.limits c.args.bytes.now c.judge_text.result c.judge_text.ensures.ok c.judge_text.ensures.fault f h
