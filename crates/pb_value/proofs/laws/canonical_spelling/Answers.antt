use Rattle.pb_value.proofs.CanonLemmas.{canon-spelled}
use Rattle.pb_value.proofs.laws.canonical_spelling.Goals as goal

pub returns : goal.returns
returns c = λ pool m v rules w small. canon-spelled pool m v rules w.parts small
