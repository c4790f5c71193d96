use Rattle.pb_wire.proofs.ScanLemmas.{varint_whole, varint_cut, varint_refused}
use Rattle.pb_wire.proofs.scan.scan_varint.Goals as goal

pub returns-in-Ok : goal.returns-in-Ok
returns-in-Ok c = λ at.
    varint_whole at c.args.left c.args.bytes.now c.before_end-size.result c.in-Ok.taken c.in-Ok.number (c.before_end-size.ensures.window at)
    c.before_end-size.ensures.within c.in-Ok.ensures.within c.in-Ok.ensures.found

pub returns-in-Truncated : goal.returns-in-Truncated
returns-in-Truncated c = λ at.
    varint_cut at c.args.left c.args.bytes.now c.before_end-size.result c.in-Err.fault.byte c.cut_after.result (c.before_end-size.ensures.window at)
    c.before_end-size.ensures.within (rw c.in-Truncated.is at c.in-Err.ensures.fault) c.cut_after.ensures.past c.cut_after.ensures.short

pub returns-in_default : goal.returns-in_default
returns-in_default c = λ at.
    varint_refused at c.args.left c.args.bytes.now c.before_end-size.result c.in-Err.fault.byte c.in-Err.fault.cause (c.before_end-size.ensures.window at)
    c.in-Err.ensures.fault c.in_default.not-Truncated
