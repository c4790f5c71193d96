use Rattle.std.proofs.Common.{◌<◌, ◌^◌, refl, rules}
use Rattle.pb_value.specs.WellFormed.{IsWellFormed}
use Rattle.pb_input.specs.Buffered.{left_of}
use Rattle.pb_stream.specs.Next.{fault_of}
use Rattle.pb_json.specs.Answers.{IsRefused, refused_view}
use Rattle.pbtool_command.specs.FramesAnswer.{bad_bytes}
use Rattle.pbtool_command.proofs.PassedFrames.{going_after, turn_cut, turn_end, turn_failed, turn_formless, turn_refused, turn_shown, turn_stopped}
use Rattle.pbtool_files.specs.declared.report.Refusal.TheVariants as refusal
use Rattle.pbtool_command.proofs.ReadFailures.{memory_counts, none_failed, one_failed}
use Rattle.pbtool_command.proofs.all_frames.put_turn.Goals as goal

pub returns-in-Err-Device-clause-puts : goal.returns-in-Err-Device-clause-puts
returns-in-Err-Device-clause-puts g c = λ d a i h.
    turn_failed c.args.stream.now.path (going_after h c.take_frame.ensures.puts) (λ steady. c.in-Err-Device.ensures.steady steady (cc))

pub returns-in-Err-Memory-clause-puts : goal.returns-in-Err-Memory-clause-puts
returns-in-Err-Memory-clause-puts g c = λ d a i h. turn_stopped c.args.stream.now.path.now (going_after h c.take_frame.ensures.puts)

pub returns-in-Ok-End-clause-puts : goal.returns-in-Ok-End-clause-puts
returns-in-Ok-End-clause-puts g c = λ d a i h.
    turn_end c.args.stream.now.path.now (left_of g.I.Input.left c.take_frame.new.input) (going_after h c.take_frame.ensures.puts) (rw c.in-Ok-End.field-0-is at c.in-Ok-End.ensures.next)

pub returns-in-Ok-clause-puts : goal.returns-in-Ok-clause-puts
returns-in-Ok-clause-puts g c = λ d a i h.
    let message = c.in-Ok-Message.message in
    let well : IsWellFormed message.pool message.kind message.body = search rules in
    let range : c.args.progress.now.offset < 2 ^ 64 = search rules in
    turn_shown c.in-Ok-Message.size message _ (going_after h c.take_frame.ensures.puts) (rw c.in-Ok-Message.field-0-is at c.in-Ok-Message.ensures.next) well
    (rw c.in-Ok-Message.field-0-is at c.in-Ok-Message.ensures.of_type) c.in-Ok-Message.ensures.stays c.in-Ok.ensures.put range c.saturating_add-progress.ensures
    refl refl

pub returns-in-Ok-report_formless-clause-puts : goal.returns-in-Ok-report_formless-clause-puts
returns-in-Ok-report_formless-clause-puts g c = λ d a i h.
    let message = c.in-Ok-Message.message in
    let well : IsWellFormed message.pool message.kind message.body = search rules in
    let range : c.args.progress.now.offset < 2 ^ 64 = search rules in
    let failed = c.in-Err.ensures.failed in
    let done = c.in-Ok-report_formless.ensures in
    let reported = done.reported in
    let found : IsRefused message (refused_view reported.0) = rw reported.1 at failed.1 in
    rw (failed.2, failed.3)
    (turn_formless c.in-Ok-Message.size message (refused_view reported.0) _ (going_after h c.take_frame.ensures.puts) (rw c.in-Ok-Message.field-0-is at c.in-Ok-Message.ensures.next) well
    (rw c.in-Ok-Message.field-0-is at c.in-Ok-Message.ensures.of_type) failed.0 found c.in-Ok-Message.ensures.stays range done.offset done.refused reported.2)

pub returns-in-Ok-Message-clause-puts : goal.returns-in-Ok-Message-clause-puts
returns-in-Ok-Message-clause-puts g c = λ d a i h.
    let failed = c.in-Err.ensures.failed in
    rw (c.in-Err-report_formless.ensures.memory, failed.2, failed.3) (turn_stopped c.args.stream.now.path.now (going_after h c.take_frame.ensures.puts))

pub returns-in-Ok-report-clause-puts : goal.returns-in-Ok-report-clause-puts
returns-in-Ok-report-clause-puts g c = λ d a i h.
    let range : c.args.progress.now.offset < 2 ^ 64 = search rules in
    turn_refused c.in-Ok-Refused.size (bad_bytes (fault_of c.in-Ok-Refused.reason)) _ (going_after h c.take_frame.ensures.puts) (rw c.in-Ok-Refused.field-0-is at c.in-Ok-Refused.ensures.next) tt
    c.in-Ok-Refused.ensures.stays range c.in-Ok-report.ensures.offset c.in-Ok-report.ensures.refused c.in-Ok-report.ensures.reported

pub returns-in-Ok-Refused-clause-puts : goal.returns-in-Ok-Refused-clause-puts
returns-in-Ok-Refused-clause-puts g c = λ d a i h. rw c.in-Err-report.ensures.memory (turn_stopped c.args.stream.now.path.now (going_after h c.take_frame.ensures.puts))

pub returns-in-Ok-report-2-clause-puts : goal.returns-in-Ok-report-2-clause-puts
returns-in-Ok-report-2-clause-puts g c = λ d a i h.
    turn_cut c.args.stream.now.path.now (fault_of c.in-Ok-Cut.reason) _ (going_after h c.take_frame.ensures.puts) (rw c.in-Ok-Cut.field-0-is at c.in-Ok-Cut.ensures.next)
    c.in-Ok-report-2.ensures.refused c.in-Ok-report-2.ensures.reported

pub returns-clause-puts : goal.returns-clause-puts
returns-clause-puts g c = λ d a i h. rw c.in-Err-report-2.ensures.memory (turn_stopped c.args.stream.now.path.now (going_after h c.take_frame.ensures.puts))

pub returns-in-Err-Device-clause-reads : goal.returns-in-Err-Device-clause-reads
returns-in-Err-Device-clause-reads g c = one_failed _ _ (refusal.Device c.args.stream.now.path) (c.in-Err-Device.ensures.failed (cc)) refl

pub returns-in-Err-Memory-clause-reads : goal.returns-in-Err-Memory-clause-reads
returns-in-Err-Memory-clause-reads g c = none_failed _ _ refusal.Memory (c.in-Err-Memory.ensures.memory (cc)) refl

pub returns-in-Ok-Message-clause-reads : goal.returns-in-Ok-Message-clause-reads
returns-in-Ok-Message-clause-reads g c =
    memory_counts _ _ c.in-Err-report_formless.refusal c.in-Ok-Message.ensures.kept c.in-Err-report_formless.ensures.memory

pub returns-in-Ok-Refused-clause-reads : goal.returns-in-Ok-Refused-clause-reads
returns-in-Ok-Refused-clause-reads g c = memory_counts _ _ c.in-Err-report.refusal c.in-Ok-Refused.ensures.kept c.in-Err-report.ensures.memory

pub returns-clause-reads : goal.returns-clause-reads
returns-clause-reads g c = memory_counts _ _ c.in-Err-report-2.refusal c.in-Ok-Cut.ensures.kept c.in-Err-report-2.ensures.memory
