use Rattle.std.proofs.Common.{sym, ◌∙◌}
use Rattle.pb_decode_parts.proofs.AnswerLemmas.{one_level_less}
use Rattle.pb_decode_parts.proofs.open.opening.depth_left_in.Goals as goal

pub returns-in_default : goal.returns-in_default
returns-in_default c = c.saturating_sub.ensures ∙ sym (one_level_less c.args.slot c.args.depth_left c.in_default.not-Entry)
