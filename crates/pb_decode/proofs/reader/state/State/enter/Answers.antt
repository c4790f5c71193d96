-- The parent is pushed after the others.
use Rattle.std.proofs.Common.{ap, ◌∙◌}
use Rattle.pb_decode.specs.Reader.{parents_view}
use Rattle.pb_decode.proofs.LengthSteps.{parents_pushed}
use Rattle.pb_decode.proofs.reader.state.State.enter.Goals as goal

pub returns-clause-parents : goal.returns-clause-parents
returns-clause-parents c = ap parents_view c.in_ok-push.ensures.items ∙ parents_pushed c.args.self.now.parents.items c.args.parent
