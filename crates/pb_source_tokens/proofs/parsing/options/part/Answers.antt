use Rattle.std.proofs.lemmas.Result.{err_from_is_err_and}
use Rattle.pb_source_tokens.specs.Readers.Phrases.{part_reader}
use Rattle.pb_source_tokens.proofs.parsing.options.part.Goals as goal

pub returns-in_err-word-in-Lenient-clause-read : goal.returns-in_err-word-in-Lenient-clause-read
unfolding part_reader
returns-in_err-word-in-Lenient-clause-read c =
    let p = err_from_is_err_and c.from_residual-in_err-word-in-Lenient.result c.from_residual-in_err-word-in-Lenient.ensures.1 in
    rw (p.1, p.2, c.in-Lenient.is) c.in_err-word-in-Lenient.ensures.read

pub returns-in_ok-word-in-Lenient-clause-read : goal.returns-in_ok-word-in-Lenient-clause-read
unfolding part_reader
returns-in_ok-word-in-Lenient-clause-read c = rw c.in-Lenient.is c.in_ok-word-in-Lenient.ensures.read
