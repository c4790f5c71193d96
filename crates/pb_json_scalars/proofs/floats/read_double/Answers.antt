use Rattle.std.specs.Float.{binary64}
use Rattle.pb_json_scalars.proofs.FloatLemmas.{float_found, float_read}
use Rattle.pb_json_scalars.proofs.floats.read_double.Goals as goal

pub returns-clause-read : goal.returns-clause-read
returns-clause-read c =
    float_read c.finite_double.result binary64 c.args.characters.now c.in-Some.number.is_negative c.in-Some.number.size c.to_float.result c.in-Some.ensures.found
    c.to_float.ensures c.finite_double.ensures

pub returns-clause-all : goal.returns-clause-all
returns-clause-all c = λ bits is.
    float_found c.finite_double.result binary64 c.args.characters.now c.in-Some.number.is_negative c.in-Some.number.size c.to_float.result bits
    c.in-Some.ensures.whole c.to_float.ensures c.finite_double.ensures is
