use Rattle.pb_json_scalars.proofs.WorthLemmas.{signed_found, signed_read}
use Rattle.pb_json_scalars.proofs.integers.read_i64.Goals as goal

pub returns-clause-read : goal.returns-clause-read
returns-clause-read c =
    signed_read c.whole_i64.result c.args.characters.now c.in-Some.number.is_negative c.in-Some.number.size c.in-Some.ensures.found c.whole_i64.ensures

pub returns-clause-all : goal.returns-clause-all
returns-clause-all c = λ z is fits.
    signed_found c.whole_i64.result c.args.characters.now c.in-Some.number.is_negative c.in-Some.number.size z c.in-Some.ensures.whole c.whole_i64.ensures is
    fits
