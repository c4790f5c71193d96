use Rattle.pb_source.proofs.StrictFiles.{source_wider}
use Rattle.pb_source.proofs.laws.strict_is_lenient.Goals as goal

pub returns : goal.returns
returns c = source_wider
