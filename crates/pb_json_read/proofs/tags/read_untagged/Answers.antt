use Rattle.std.proofs.Common.{ℕ, inr, ap, ◌∙◌}
use Rattle.std.specs.Prelude.{◌==◌}
use Rattle.pb_json_read.proofs.AnyLemmas.{untagged_refused}
use Rattle.pb_json_read.proofs.tags.read_untagged.Goals as goal

pub returns-else-is_empty : goal.returns-else-is_empty
returns-else-is_empty c =
    inr (untagged_refused c.args.members.now.items c.args.at c.is_empty.result c.bad_value.result
    (c.is_empty.ensures ∙ ap (λ (n : ℕ). n == 0) c.args.members.now.ok.0) c.if-is_empty.false c.bad_value.ensures)
