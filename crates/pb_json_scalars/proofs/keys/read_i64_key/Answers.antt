use Rattle.pb_json_scalars.proofs.KeyLemmas.{key_found, key_number, key_read}
use Rattle.pb_json_scalars.proofs.keys.read_i64_key.Goals as goal

pub returns-in_default-clause-all : goal.returns-in_default-clause-all
returns-in_default-clause-all c = λ z is fits. let n = key_number c.args.characters.now z is in absurd (c.in_default.ensures.whole n.0 n.1)

pub returns-clause-read : goal.returns-clause-read
returns-clause-read c =
    key_read c.to_i64.result c.args.characters.now c.in-Some.number.is_negative c.in-Some.number.size c.in-Some.ensures.found c.to_i64.ensures

pub returns-clause-all : goal.returns-clause-all
returns-clause-all c = λ z is fits.
    key_found c.to_i64.result c.args.characters.now c.in-Some.number.is_negative c.in-Some.number.size z c.in-Some.ensures.whole c.to_i64.ensures is fits
