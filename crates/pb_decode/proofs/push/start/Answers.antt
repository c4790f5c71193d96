-- Nothing is read of no bytes.
use Rattle.std.proofs.Common.{refl}
use Rattle.pb_decode.specs.Reader.{state_view}
use Rattle.pb_decode.proofs.OntoText.{took_none}
use Rattle.pb_decode.proofs.push.start.Goals as goal

pub returns-clause-took : goal.returns-clause-took
returns-clause-took c = took_none c.args.pool.now c.args.message_type.0 c.args.limits (state_view c.begin_empty.result.reader) c.begin_empty.result.held.items c.begin_empty.ensures.took

pub returns-clause-waits : goal.returns-clause-waits
returns-clause-waits c = c.begin_empty.ensures.waits refl
