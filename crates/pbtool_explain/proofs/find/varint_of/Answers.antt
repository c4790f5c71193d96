use Rattle.pbtool_explain.proofs.FindLemmas.{not_scanned, reads_some}
use Rattle.pbtool_explain.proofs.find.varint_of.Goals as goal

pub returns-in-Whole-clause-found : goal.returns-in-Whole-clause-found
returns-in-Whole-clause-found c =
    let at_first = c.in-Whole.ensures 0 in
    (reads_some 0 c.in-Whole.size c.in-Whole.number c.args.rest.now at_first.1, at_first.0, λ at. (c.in-Whole.ensures at).1)

pub returns-in-Short : goal.returns-in-Short
returns-in-Short c = record { found = tt; none = λ at. not_scanned _ _ c.in-Short.is (c.scan_varint.ensures at) }
