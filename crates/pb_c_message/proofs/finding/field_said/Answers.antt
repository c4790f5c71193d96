use Rattle.std.proofs.Common.{◌≡◌, arith}
use Rattle.std.proofs.lemmas.Bool.Decides.{nat_tests}
use Rattle.pb_c_message.proofs.Paths.{said_fields}
use Rattle.pb_c_message.proofs.finding.field_said.Goals as goal

pub returns-then-step-eq-FIELD : goal.returns-then-step-eq-FIELD
returns-then-step-eq-FIELD c =
    let is : c.args.step.kind ≡ 21 = grind (arith, nat_tests) in
    said_fields c.args.step c.uint32_said.result is c.uint32_said.ensures
