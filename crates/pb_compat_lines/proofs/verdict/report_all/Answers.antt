use Rattle.std.proofs.Common.{◌∙◌, ap₂}
use Rattle.std.specs.Prelude.{◌||◌}
use Rattle.pb_compat_lines.proofs.VerdictLemmas.{all_report}
use Rattle.pb_compat_lines.proofs.verdict.report_all.Goals as goal

pub returns : goal.returns
returns c =
    let lines = rw c.deref.ensures.value at c.in_ok-add_compared.ensures in
    let some = rw c.deref-2.ensures.value at c.breaks_reading.ensures.exact in
    all_report c.args.prefix.now c.args.old.now c.args.new.now c.in_ok-compared.compared.items _ _ _ _ _ c.in_ok-compared.ensures.compared c.new-text.ensures.items
    c.in_ok-lacks.ensures.added lines c.in_ok-add_ok.ensures (c.either-breaks.ensures ∙ ap₂ (λ a b. a || b) c.in_ok-lacks.ensures.lacks some)
