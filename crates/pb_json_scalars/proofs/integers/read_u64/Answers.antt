use Rattle.pb_json_scalars.proofs.WorthLemmas.{unsigned_found, unsigned_none, unsigned_read}
use Rattle.pb_json_scalars.proofs.integers.read_u64.Goals as goal

pub returns-in_err-whole_u64-clause-all : goal.returns-in_err-whole_u64-clause-all
returns-in_err-whole_u64-clause-all c = λ n is small.
    absurd (unsigned_none c.args.characters.now c.in-Some.number.is_negative c.in-Some.number.size n c.in-Some.ensures.whole c.in_err-whole_u64.ensures is
    small)

pub returns-clause-read : goal.returns-clause-read
returns-clause-read c =
    unsigned_read c.unsigned.result c.in_ok-whole_u64.field-0 c.args.characters.now c.in-Some.number.is_negative c.in-Some.number.size
    c.in-Some.ensures.found c.in_ok-whole_u64.ensures c.unsigned.ensures

pub returns-clause-all : goal.returns-clause-all
returns-clause-all c = λ n is small.
    unsigned_found c.unsigned.result c.in_ok-whole_u64.field-0 c.args.characters.now c.in-Some.number.is_negative c.in-Some.number.size n
    c.in-Some.ensures.whole c.in_ok-whole_u64.ensures.1 c.unsigned.ensures is
