use Rattle.pb_decode_parts.proofs.GroupSteps.{no_message}
use Rattle.pb_decode_parts.proofs.open.opening.message_slot.Goals as goal

pub returns-in_default-clause-none : goal.returns-in_default-clause-none
returns-in_default-clause-none c = no_message c.args.meant c.in_default.not-Message
