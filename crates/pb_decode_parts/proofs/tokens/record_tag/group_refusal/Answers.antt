-- With no level left a group is too deep.
use Rattle.std.proofs.Common.{◌∙◌}
use Rattle.pb_decode_parts.proofs.GroupSteps.{group_too_deep}
use Rattle.pb_decode_parts.proofs.tokens.record_tag.group_refusal.Goals as goal

pub returns-then-depth_left-eq0-clause-refused : goal.returns-then-depth_left-eq0-clause-refused
returns-then-depth_left-eq0-clause-refused c = λ pool m depth levels number base p0 q u parents scope now s depth_left has. group_too_deep number s has (depth_left ∙ c.if-depth_left-eq0.true)
