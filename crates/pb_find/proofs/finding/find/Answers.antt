use Rattle.std.proofs.Common.{◌∙◌, ap, refl}
use Rattle.pb_wire.proofs.ExactLemmas.{one_text_fault}
use Rattle.pb_value.specs.Data.{Message}
use Rattle.pb_decode.proofs.DecodeLemmas.{text_of}
use Rattle.pb_find.specs.ScalarAt.{scalar_at, message_of}
use Rattle.pb_find.proofs.FindLemmas.{same_value, no_fault}
use Rattle.pb_find.proofs.finding.find.Goals as goal

pub returns-in-Some-clause-accepted : goal.returns-in-Some-clause-accepted
returns-in-Some-clause-accepted c = λ v text.
    let it = c.in-Some.ensures.found in
    it.2 ∙ ap (λ (w : Message). scalar_at c.args.path.now (message_of c.args.pool.now c.args.message_type.0 w)) (same_value it.1 text)

pub returns-in-Some-clause-refused : goal.returns-in-Some-clause-refused
returns-in-Some-clause-refused c = λ f bad. let it = c.in-Some.ensures.found in absurd (no_fault it.1 bad)

pub unreachable-requires : goal.unreachable-requires
unreachable-requires c = let it = text_of c.in-Ok.ensures.text in c.in_default.ensures.none refl it.0 it.1

pub returns-in-Err-Fault-clause-accepted : goal.returns-in-Err-Fault-clause-accepted
returns-in-Err-Fault-clause-accepted c = λ v text. c.in_default.ensures.none refl v text

pub returns-in-Err-Fault-clause-refused : goal.returns-in-Err-Fault-clause-refused
returns-in-Err-Fault-clause-refused c = λ f bad. one_text_fault (rw c.in-Err-Fault.field-0-is at c.in-Err-Fault.ensures.fault) bad

pub returns-in-Err-Memory-clause-accepted : goal.returns-in-Err-Memory-clause-accepted
returns-in-Err-Memory-clause-accepted c = λ v text. c.in_default.ensures.none refl v text
