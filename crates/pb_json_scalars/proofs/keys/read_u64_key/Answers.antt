use Rattle.std.specs.Prelude.{pos}
use Rattle.pb_json_scalars.proofs.KeyLemmas.{key_number, natural_key_found, natural_key_none, natural_key_read}
use Rattle.pb_json_scalars.proofs.keys.read_u64_key.Goals as goal

pub returns-in_default-clause-all : goal.returns-in_default-clause-all
returns-in_default-clause-all c = λ n is small. let m = key_number c.args.characters.now (pos n) is in absurd (c.in_default.ensures.whole m.0 m.1)

pub returns-in_err-to_u64-clause-all : goal.returns-in_err-to_u64-clause-all
returns-in_err-to_u64-clause-all c = λ n is small.
    absurd (natural_key_none c.args.characters.now c.in-Some.number.is_negative c.in-Some.number.size n c.in-Some.ensures.whole c.in_err-to_u64.ensures is
    small)

pub returns-clause-read : goal.returns-clause-read
returns-clause-read c =
    natural_key_read c.unsigned.result c.in_ok-to_u64.field-0 c.args.characters.now c.in-Some.number.is_negative c.in-Some.number.size
    c.in-Some.ensures.found c.in_ok-to_u64.ensures c.unsigned.ensures

pub returns-clause-all : goal.returns-clause-all
returns-clause-all c = λ n is small.
    natural_key_found c.unsigned.result c.in_ok-to_u64.field-0 c.args.characters.now c.in-Some.number.is_negative c.in-Some.number.size n
    c.in-Some.ensures.whole c.in_ok-to_u64.ensures.1 c.unsigned.ensures is
