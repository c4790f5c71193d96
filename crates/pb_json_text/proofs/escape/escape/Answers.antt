use Rattle.std.proofs.Common.{◌∙◌, arith}
use Rattle.pb_json_text.specs.declared.fault.JsonCause.TheVariants as cause
use Rattle.std.specs.Prelude.{encode_utf8}
use Rattle.pb_json_text.specs.Loops.Machine.{in_string}
use Rattle.pb_json_text.specs.Loops.Escapes.{part_of}
use Rattle.pb_json_text.proofs.Steps.{part_at, character_at, refused_at, end_at, stop_is}
use Rattle.pb_json_text.proofs.escape.escape.Goals as goal

pub returns-in-Character-clause-ok : goal.returns-in-Character-clause-ok
returns-in-Character-clause-ok c s at t l k =
    c.digits.invariant.runs s at t l k
    ∙ character_at c.args.bytes.now c.digits.at c.digits.part (encode_utf8 c.in-Character.character) s at t l k c.digits-test.true c.in-Character.ensures

pub returns-in-Refused-clause-fault : goal.returns-in-Refused-clause-fault
returns-in-Refused-clause-fault c s at t l k =
    stop_is c.unexpected.result c.digits.at cause.UnexpectedByte _ c.unexpected.ensures.byte c.unexpected.ensures.cause
    (c.digits.invariant.runs s at t l k ∙ refused_at c.args.bytes.now c.digits.at c.digits.part s at t l k c.digits-test.true c.in-Refused.ensures)

pub digits-preserved : goal.digits-preserved
digits-preserved c =
    let e = c.in-Part.ensures in record {
      within = omega arith;
      passed = omega arith;
      part = e.1;
      runs = λ s at t v k. c.digits.invariant.runs s at t v k ∙ part_at c.args.bytes.now c.digits.at c.digits.part c.in-Part.next s at t v k c.digits-test.true e.0;
    }

pub returns-clause-fault : goal.returns-clause-fault
returns-clause-fault c s at t l k =
    stop_is c.end.result c.digits.at cause.UnexpectedEnd _ c.end.ensures.byte c.end.ensures.cause
    (c.digits.invariant.runs s at t l k ∙ end_at c.args.bytes.now c.digits.at (in_string (part_of c.digits.part) s at t l k) (let e = c.digits-test.false in omega arith))
