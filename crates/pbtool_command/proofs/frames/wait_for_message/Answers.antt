use Rattle.std.proofs.Common.{rules}
use Rattle.pb_value.specs.WellFormed.{IsWellFormed}
use Rattle.pbtool_command.proofs.Streams.{reads_frame}
use Rattle.pbtool_command.proofs.frames.wait_for_message.Goals as goal

pub returns-in-Ok-None-clause-reads : goal.returns-in-Ok-None-clause-reads
returns-in-Ok-None-clause-reads g c = rw c.in-Ok-None.field-0-is at c.in-Ok-None.ensures.end

pub returns-in-Ok-Some-clause-reads : goal.returns-in-Ok-Some-clause-reads
returns-in-Ok-Some-clause-reads g c =
    let well : IsWellFormed c.in-Ok-Some.message.pool c.in-Ok-Some.message.kind c.in-Ok-Some.message.body = search rules in
    let typed = rw c.in-Ok-Some.field-0-is at c.in-Ok-Some.ensures.of_type in
    let frame = rw c.in-Ok-Some.field-0-is at c.in-Ok-Some.ensures.message in (
      typed.0,
      typed.1,
      reads_frame c.in-Ok-Some.message c.in-Ok-Some.ensures.same c.in-Ok-Some.ensures.goes_on c.in-Ok-Some.ensures.stays typed well frame
          c.in-Ok-Some.ensures.counted,
    )
