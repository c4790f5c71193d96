use Rattle.std.proofs.Common.{rules}
use Rattle.pb_value.specs.WellFormed.{IsWellFormed}
use Rattle.pbtool_command.proofs.Streams.{reads_frame}
use Rattle.pbtool_command.proofs.frames.next_message.Goals as goal

pub returns-in-Some-clause-reads : goal.returns-in-Some-clause-reads
returns-in-Some-clause-reads g c =
    let message = c.in-Some.message in
    let unread = c.in_ok-message.ensures.unread in
    let more = g.I.Input.left c.args.reader.now.input.input in
    let well : IsWellFormed message.pool message.kind message.body = search rules in
    let typed = rw c.in-Some.is at c.in_ok-message.ensures.of_type in
    let frame = rw c.in-Some.is at (c.in_ok-message.ensures.message more) in
    let counted = c.in_ok-message.ensures.counted more in (
      typed.0,
      typed.1,
      reads_frame message c.in_ok-message.ensures.same c.in_ok-message.ensures.goes_on (λ steady. rw unread steady) typed well (rw unread frame) (rw unread counted),
    )
