use Rattle.pbtool_hints.proofs.LineLemmas.{one_more}
use Rattle.pbtool_hints.proofs.lines.push_line.Goals as goal

pub returns : goal.returns
returns c = one_more _ _ _ _ _ c.requires.before c.in_ok-whole.ensures c.as_slice.ensures.value c.extend_from_slice.ensures.items
