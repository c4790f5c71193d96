use Rattle.std.proofs.Common.{inl, inr, sym}
use Rattle.pb_compat_lines.specs.Verdict.{of_types}
use Rattle.pb_compat_lines.proofs.verdict.report_named.Goals as goal

pub returns-in_default : goal.returns-in_default
returns-in_default c = inl (sym c.in_default.ensures.found)

pub returns-in_default-message_by_name : goal.returns-in_default-message_by_name
returns-in_default-message_by_name c = inr (sym c.in_default-message_by_name.ensures.found)

pub returns : goal.returns
returns c = of_types (sym c.in-Some.ensures.found) (sym c.in-Some-message_by_name.ensures.found) c.in_ok-report_types.ensures
