use Rattle.pb_compat_lines.specs.Verdict.{of_all}
use Rattle.pb_compat_lines.proofs.verdict.report.Goals as goal

pub returns-in_ok-report_all-in-None : goal.returns-in_ok-report_all-in-None
returns-in_ok-report_all-in-None c = rw c.in-None.is (of_all c.in_ok-report_all-in-None.ensures)

pub returns-in-Some : goal.returns-in-Some
returns-in-Some c = rw c.in-Some.is c.report_named.ensures
