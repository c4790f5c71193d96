use Rattle.pb_wire.proofs.Tokens.{one_reads}
use Rattle.pbtool_explain.proofs.FindLemmas.{no_varint}
use Rattle.pbtool_explain.proofs.find.varint_size.Goals as goal

pub returns-in-Some : goal.returns-in-Some
returns-in-Some c = λ at n q reads. (one_reads reads (c.in-Some.ensures.found.2 at)).1

pub returns-in-None : goal.returns-in-None
returns-in-None c = λ at n q reads. no_varint at n 0 q c.args.rest.now (c.in-None.ensures.none at) reads
