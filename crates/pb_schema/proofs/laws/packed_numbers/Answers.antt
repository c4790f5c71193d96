use Rattle.pb_schema.proofs.PackedLemmas.{numbers_back, numbers_whole}
use Rattle.pb_schema.proofs.laws.packed_numbers.Goals as goal

pub returns : goal.returns
returns c = record { only = numbers_back; whole = numbers_whole }
