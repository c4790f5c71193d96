use Rattle.std.proofs.Common.{◌++◌, ◌∙◌, List, ℕ, sym, ap}
use Rattle.std.specs.Prelude.{is_none}
use Rattle.std.proofs.lemmas.List.{append-nil}
use Rattle.pb_compat_lines.proofs.LineLemmas.{lack_told, missing_added, nothing_missing}
use Rattle.pb_compat_lines.proofs.lines.add_if_missing.Goals as goal

pub returns-in-Some-clause-added : goal.returns-in-Some-clause-added
returns-in-Some-clause-added c =
    sym (append-nil c.args.text.now.items)
    ∙ ap (λ (l : List ℕ). c.args.text.now.items ++ l)
    (sym (nothing_missing c.args.prefix.now c.args.old.now c.args.new.now c.args.message.0 _ (sym c.in-Some.ensures.named)))

pub returns-in-Some-clause-lacks : goal.returns-in-Some-clause-lacks
returns-in-Some-clause-lacks c = ap is_none c.in-Some.ensures.named

pub returns-in-None-clause-added : goal.returns-in-None-clause-added
returns-in-None-clause-added c =
    missing_added c.args.prefix.now c.args.old.now c.args.new.now c.args.message.0 c.args.text.now.items c.add_missing_type.new.text.items
    c.add_missing_type.result (sym c.in-None.ensures.named) c.add_missing_type.ensures.added

pub returns-in-None-clause-lacks : goal.returns-in-None-clause-lacks
returns-in-None-clause-lacks c =
    lack_told c.args.old.now c.args.new.now c.args.message.0 c.add_missing_type.result (sym c.in-None.ensures.named) c.add_missing_type.ensures.lacks
