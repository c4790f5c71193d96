use Rattle.std.proofs.Common.{◌-◌, Option, ap, inl, inr}
use Rattle.pb_value.specs.Dynamic.{Dynamic}
use Rattle.pbtool_command.proofs.Live.{puts_some_after}
use Rattle.pbtool_command.proofs.ReadFailures.{formless_counts, frame_counts}
use Rattle.pbtool_command.proofs.Streams.{lines_read}
use Rattle.pbtool_command.proofs.frames.put_next.Goals as goal

pub returns-in-Ok-None-clause-puts : goal.returns-in-Ok-None-clause-puts
returns-in-Ok-None-clause-puts g c = (rw c.in-Ok-None.field-0-is at c.in-Ok-None.ensures.reads, c.in-Ok-None.ensures.puts)

pub returns-in-Ok-clause-puts : goal.returns-in-Ok-clause-puts
returns-in-Ok-clause-puts g c =
    let read = rw c.in-Ok-Some.field-0-is at c.in-Ok-Some.ensures.reads in (
      c.in-Ok-Some.message.body,
      read.2,
      puts_some_after c.in-Ok-Some.ensures.puts
          (lines_read c.args.form c.args.reader.now c.next_message.new.reader c.in-Ok-Some.message c.args.index c.taken-offset.result _ (read.0, read.1)
          c.taken-offset.ensures (ap (λ n. n - c.taken-offset.result) c.taken.ensures) c.in-Ok.ensures.put),
    )

pub returns-in-Ok-Some-clause-puts : goal.returns-in-Ok-Some-clause-puts
returns-in-Ok-Some-clause-puts g c =
    let read = rw c.in-Ok-Some.field-0-is at c.in-Ok-Some.ensures.reads in
    let failed = c.in-Err-put_frame.ensures.failed in (
      inr (
        c.in-Ok-Some.message.body,
        read.2,
        (failed.0, (c.in-Err-put_frame.error, rw (read.0, read.1) at failed.1, c.formless.ensures)),
      ),
      rw (failed.2, failed.3) (c.in-Ok-Some.ensures.puts),
    )

pub returns-clause-puts : goal.returns-clause-puts
returns-clause-puts g c = (inl (c.in-Err.error, c.in-Err.ensures.reads, c.refusal_at.ensures), c.in-Err.ensures.puts)

pub returns-in-Ok-Some-clause-reads : goal.returns-in-Ok-Some-clause-reads
returns-in-Ok-Some-clause-reads g c =
    formless_counts _ _ c.args.index c.in-Err-put_frame.error c.formless.result c.in-Ok-Some.ensures.failures c.formless.ensures

pub returns-clause-reads : goal.returns-clause-reads
returns-clause-reads g c =
    frame_counts (Option Dynamic) _ _ c.args.index c.args.path c.in-Err.error c.refusal_at.result c.in-Err.ensures.failures c.refusal_at.ensures
