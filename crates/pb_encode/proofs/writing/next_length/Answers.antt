use Rattle.pb_encode.proofs.WriteLemmas.{first_of}
use Rattle.pb_encode.proofs.writing.next_length.Goals as goal

pub returns-else-is_empty : goal.returns-else-is_empty
returns-else-is_empty c = λ n more e. first_of c.args.lengths.now n more e
