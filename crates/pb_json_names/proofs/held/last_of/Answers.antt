use Rattle.std.proofs.Common.{rules}
use Rattle.pb_json_names.proofs.HeldLemmas.{last_or}
use Rattle.pb_json_names.proofs.held.last_of.Goals as goal

pub loop-record-preserved : goal.loop-record-preserved
loop-record-preserved c =
    let more = last_or (λ s. s.now) c.args.number c.args.records.now c.loop-record.record-index c.record-item.result c.bytes_if.result c.loop-record.last
    c.loop-record-test.true c.record-item.is c.bytes_if.ensures c.loop-record.invariant in
    search (rules, more)
