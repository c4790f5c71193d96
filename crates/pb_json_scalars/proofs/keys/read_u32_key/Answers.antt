use Rattle.std.proofs.Common.{arith}
use Rattle.pb_json_scalars.proofs.WorthLemmas.{narrowed}
use Rattle.pb_json_scalars.proofs.keys.read_u32_key.Goals as goal

pub returns-in_default-clause-all : goal.returns-in_default-clause-all
returns-in_default-clause-all c = λ n is small. c.in_default.ensures.all n is (omega arith)

pub returns-clause-all : goal.returns-clause-all
returns-clause-all c = λ n is small.
    narrowed c.narrowed.result c.in-Some.number n _ c.narrowed.ensures (c.in-Some.ensures.all n is (omega arith)) small
