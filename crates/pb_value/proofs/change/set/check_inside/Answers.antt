use Rattle.pb_value.proofs.Edits.{nothing_in_value}
use Rattle.pb_value.proofs.change.set.check_inside.Goals as goal

pub returns-in_default : goal.returns-in_default
returns-in_default c = nothing_in_value c.args.pool.now c.args.kind c.args.value.now c.in_default.not-Message c.requires.of_kind c.requires.in_range
