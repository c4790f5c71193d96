use Rattle.std.proofs.Common.{refl}
use Rattle.pbtool_explain.specs.Records.{some_bytes, no_length}
use Rattle.pbtool_explain.proofs.find.bytes_bounds.Goals as goal

pub returns-in-None : goal.returns-in-None
returns-in-None c = no_length refl (c.in-None.ensures.none c.args.at).1 refl refl

pub returns-in-Some : goal.returns-in-Some
returns-in-Some c = some_bytes refl (c.in-Some.ensures.found.2 c.args.at) refl c.checked_add.ensures
