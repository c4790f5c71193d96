use Rattle.pb_source.specs.declared.reading.Reading.TheVariants as reading
use Rattle.pb_source.proofs.OneSource.{one_file_in}
use Rattle.pb_source.proofs.laws.one_lenient_source.Goals as goal

pub returns : goal.returns
returns c = record { one = one_file_in reading.Lenient }
