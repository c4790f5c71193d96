-- A message keeps its pool and its type.
use Rattle.pb_c_message.proofs.OneEnd.{ended_type}
use Rattle.pb_c_message.specs.Steps.{steps_held}
use Rattle.pb_c_message.proofs.changing.change_there.Goals as goal

pub returns-in-Ok-clause-same_type : goal.returns-in-Ok-clause-same_type
returns-in-Ok-clause-same_type c =
    ended_type c.args.given.now (steps_held c.in-Ok.steps) c.args.change c.args.message.now c.change_at.new.message c.change_at.result c.change_at.ensures
