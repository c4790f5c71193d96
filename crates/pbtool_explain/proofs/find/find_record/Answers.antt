use Rattle.std.proofs.Common.{[], refl, arith}
use Rattle.pb_wire.proofs.ReadingLemmas.{front_none}
use Rattle.pbtool_explain.proofs.find.find_record.Goals as goal

pub records-init : goal.records-init
records-init c = (omega arith, ([], record { front = front_none 100 c.args.bytes.now c.args.start; counted = refl }))

pub records-smaller : goal.records-smaller
records-smaller c =
    let on = c.in-Past.ensures c.args.start c.records.invariant.1.0 c.records.invariant.1.1 in
    let after = on.2 in let within = on.3 in omega (arith, after, within)

pub records-preserved : goal.records-preserved
records-preserved c =
    let on = c.in-Past.ensures c.args.start c.records.invariant.1.0 c.records.invariant.1.1 in (on.4, (on.0, on.1))
