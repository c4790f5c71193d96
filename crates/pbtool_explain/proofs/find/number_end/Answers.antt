use Rattle.std.proofs.Common.{refl}
use Rattle.pbtool_explain.specs.Records.{number, no_number}
use Rattle.pbtool_explain.proofs.find.number_end.Goals as goal

pub returns-in_err-size : goal.returns-in_err-size
returns-in_err-size c = rw c.from_residual.ensures (no_number refl (c.in_err-size.ensures.none c.args.at).1 refl refl)

pub returns : goal.returns
returns c = number refl (c.in_ok-size.ensures.found.2 c.args.at) refl refl
