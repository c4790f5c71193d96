use Rattle.pbtool_command.proofs.PassedFrames.{reported_as}
use Rattle.pbtool_command.proofs.all_frames.Progress.report_formless.Goals as goal

pub returns-clause-reported : goal.returns-clause-reported
returns-clause-reported c = reported_as c.pass_over.result (λ same. (c.in-Refused.found, c.in-Refused.is, same)) c.pass_over.ensures.reported
