use Rattle.std.proofs.Common.{ℕ, take, ap, ◌∙◌}
use Rattle.pb_json_text.proofs.FaultLaws.{answers_err, answers_of}
use Rattle.pb_json_text.proofs.text.read_value.Goals as goal

pub returns-in-Ok-clause-value : goal.returns-in-Ok-clause-value
returns-in-Ok-clause-value c =
    let x = c.in-Ok.ensures.cases in
    let answers = answers_of c.args.bytes.now c.in-Ok.input.now c.read_text.result x.0 x.1 c.read_text.ensures.ok c.read_text.ensures.fault in
    answers.value

pub returns-in-Ok-clause-fault : goal.returns-in-Ok-clause-fault
returns-in-Ok-clause-fault c =
    let x = c.in-Ok.ensures.cases in
    let answers = answers_of c.args.bytes.now c.in-Ok.input.now c.read_text.result x.0 x.1 c.read_text.ensures.ok c.read_text.ensures.fault in
    answers.reported

pub returns-in-Ok-clause-accepted : goal.returns-in-Ok-clause-accepted
returns-in-Ok-clause-accepted c v is =
    let x = c.in-Ok.ensures.cases in
    let answers = answers_of c.args.bytes.now c.in-Ok.input.now c.read_text.result x.0 x.1 c.read_text.ensures.ok c.read_text.ensures.fault in
    answers.accepted v is

pub returns-in-Ok-clause-refused : goal.returns-in-Ok-clause-refused
returns-in-Ok-clause-refused c n k h =
    let x = c.in-Ok.ensures.cases in
    let answers = answers_of c.args.bytes.now c.in-Ok.input.now c.read_text.result x.0 x.1 c.read_text.ensures.ok c.read_text.ensures.fault in
    answers.refused n k h

pub returns-in-Ok-from_utf8-clause-refused : goal.returns-in-Ok-from_utf8-clause-refused
returns-in-Ok-from_utf8-clause-refused c n k h =
    let b = c.args.bytes.now in
    let bad = c.in-Err.ensures.cases in
    let is = c.in-Err.ensures.valid_len in
    let short = bad.1.short in
    let x = c.in-Ok-from_utf8.ensures.cases in
    let answers = answers_err b c.fault_in.result (c.fault_in.ensures b (rw is at short) (x.0 ∙ ap (λ (m : ℕ). take m b) (c.valid_up_to-valid.ensures ∙ is))) in
    answers.refused n k h
