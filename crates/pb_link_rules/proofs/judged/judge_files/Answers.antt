use Rattle.std.proofs.Common.{sym, ◌∙◌}
use Rattle.pb_link_rules.proofs.judged.judge_files.Goals as goal

pub returns-in-Ok-clause-judged : goal.returns-in-Ok-clause-judged
returns-in-Ok-clause-judged c =
    let n = c.in_ok-names.ensures in
    record { world = n.0; is_world = n.1; holds = c.in-Ok.ensures.held n.0 n.1; row = c.in_ok-row.ensures ∙ sym n.1.declared; imports = c.in_ok-imports.ensures.exact; names = n.2 }
