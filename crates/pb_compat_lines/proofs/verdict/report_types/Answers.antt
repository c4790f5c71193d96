use Rattle.pb_compat_lines.proofs.VerdictLemmas.{types_report}
use Rattle.pb_compat_lines.proofs.verdict.report_types.Goals as goal

pub returns : goal.returns
returns c =
    let lines = rw c.deref.ensures.value at c.in_ok-add_compared.ensures in
    let judged = rw c.deref-2.ensures.value at c.breaks_reading-breaks.ensures.exact in
    types_report c.args.prefix.now c.args.old.now c.args.new.now c.in_ok-compared.compared.items c.args.old_type.0 c.args.new_type.0 _ _ _ _ c.in_ok-compared.ensures.compared
    c.new-text.ensures.items lines c.in_ok-add_ok.ensures judged
