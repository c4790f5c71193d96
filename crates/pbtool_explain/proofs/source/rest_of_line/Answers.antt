use Rattle.std.proofs.Common.{◌∙◌, arith, sym}
use Rattle.pbtool_explain.proofs.LineLemmas.{line_cut}
use Rattle.pbtool_explain.proofs.source.rest_of_line.Goals as goal

pub returns-then-ends_line : goal.returns-then-ends_line
returns-then-ends_line c =
    line_cut c.args.rest.now c.loop-index.index _ (omega (arith, c.loop-index-test.true)) c.loop-index.invariant
    (sym c.ends_line.ensures ∙ c.if-ends_line.true)
