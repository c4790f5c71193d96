use Rattle.std.specs.Prelude.{option_map}
use Rattle.pb_compat_lines.proofs.VerdictLemmas.{new_judged}
use Rattle.pb_compat_lines.proofs.verdict.judge.Goals as goal

pub returns-in-New : goal.returns-in-New
returns-in-New c =
    rw c.in-New.is (new_judged c.args.old.now c.args.new.now (option_map (λ n. n.now) c.args.name) c.report.result c.report.ensures)

pub returns-in-Both : goal.returns-in-Both
returns-in-Both c = rw c.in-Both.is c.report_both.ensures
