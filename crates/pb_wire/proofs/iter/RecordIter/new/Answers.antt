use Rattle.std.proofs.Common.{rules}
use Rattle.std.proofs.lemmas.List.Elements.{All-from_get_or}
use Rattle.pb_wire.specs.Ranges.{IsByte}
use Rattle.pb_wire.specs.Schema.{blank}
use Rattle.pb_wire.proofs.ExactLemmas.{exactly}
use Rattle.pb_wire.proofs.RecordIterStart.{start-min, text_given, fault_given}
use Rattle.pb_wire.proofs.iter.RecordIter.new.Goals as goal

pub returns-clause-begins : goal.returns-clause-begins
returns-clause-begins c = rw (c.min-end.ensures, c.max_bytes.ensures.same, c.max_depth.ensures.same) (start-min c.args.limits c.args.bytes.now)

pub returns-clause-text : goal.returns-clause-text
returns-clause-text c = λ rs t.
    let given = text_given c.args.limits c.args.bytes.now rs t in
    (given.0, given.1, rw (c.min-end.ensures, c.max_bytes.ensures.same, c.max_depth.ensures.same, start-min c.args.limits c.args.bytes.now) given.2)

pub returns-clause-fault : goal.returns-clause-fault
returns-clause-fault c = λ f h.
    let given = fault_given c.args.limits c.args.bytes.now f h in
    (given.0, given.1, rw (c.min-end.ensures, c.max_bytes.ensures.same, c.max_depth.ensures.same, start-min c.args.limits c.args.bytes.now) given.2)

pub returns-clause-settled : goal.returns-clause-settled
returns-clause-settled c =
    exactly blank tt c.args.limits c.args.bytes.now
    (All-from_get_or IsByte c.args.bytes.now 0 (λ i h. let fits = c.type_inv.bytes i in search (rules, fits)))
