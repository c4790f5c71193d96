use Rattle.std.proofs.Common.{true, ◌||◌, ap, ◌∙◌}
use Rattle.pb_declarations.specs.View.{enum_view}
use Rattle.pb_link_names.proofs.MarkLemmas.{mark_of}
use Rattle.pb_link_names.proofs.marks.value_mark.Goals as goal

pub returns : goal.returns
returns c = λ i first. λ j. mark_of true ((c.either.ensures ∙ ap (λ b. c.args.entry.now.allow_alias || b) first) j) (c.is_value_kept.ensures (enum_view c.args.entry.now) i c.requires j) true true
