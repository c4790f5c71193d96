use Rattle.std.proofs.Common.{arith, ◌<◌}
use Rattle.pb_validate.proofs.VarintRuns.{begun_after_eight}
use Rattle.pb_validate.proofs.varints.begun_after_word.Goals as goal

pub returns : goal.returns
returns c =
    let flags = c.last_bytes-last.ensures in
    let some : 0 < c.last_bytes-last.result = omega (arith, c.if-last-eq0.false) in
    let first = flags.lowest some in
    let last = flags.highest some in
    begun_after_eight c.args.bytes.now c.args.at c.args.begun _ _ c.requires.within c.requires.begun (omega (arith, c.if-begun-last-gt9.false)) first.0 first.1 last.0 last.1
