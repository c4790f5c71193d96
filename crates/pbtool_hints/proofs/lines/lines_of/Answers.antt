use Rattle.pbtool_hints.proofs.LineLemmas.{no_lines}
use Rattle.pbtool_hints.proofs.lines.lines_of.Goals as goal

pub loop-at-init : goal.loop-at-init
loop-at-init c = no_lines _ c.new-lines.ensures.items
