use Rattle.std.proofs.Common.{arith}
use Rattle.pb_text.proofs.NumberLemmas.{all_of}
use Rattle.pb_text.proofs.numbers.are_digits.Goals as goal

pub returns : goal.returns
returns c = λ yes. (all_of c.args.bytes.now c.digits_end-end.result (omega arith) c.digits_end-end.ensures.digits, omega arith)
