use Rattle.std.proofs.Common.{arith, ap}
use Rattle.std.proofs.lemmas.Result.{err_from_is_err_and}
use Rattle.pb_wire.specs.WireType.{code_of}
use Rattle.pb_wire.proofs.RecordIterLemmas.{varint_read, fixed64_read, fixed32_read, len_read, varint_fault, fixed64_fault, fixed32_fault, len_fault}
use Rattle.pb_wire.proofs.iter.value_end.Goals as goal

pub returns-in_err-varint_at-in-Varint-clause-fault : goal.returns-in_err-varint_at-in-Varint-clause-fault
returns-in_err-varint_at-in-Varint-clause-fault c =
    let p = err_from_is_err_and c.from_residual.result c.from_residual.ensures.1 in
    rw (p.1, p.2) (varint_fault _ _ _ (ap code_of c.in-Varint.is) c.in_err-varint_at-in-Varint.ensures.fault)

pub returns-in_err-u64_at-in-I64-clause-fault : goal.returns-in_err-u64_at-in-I64-clause-fault
returns-in_err-u64_at-in-I64-clause-fault c =
    let p = err_from_is_err_and c.from_residual-in_err-u64_at-in-I64.result c.from_residual-in_err-u64_at-in-I64.ensures.1 in
    rw (p.1, p.2) (fixed64_fault _ _ _ (ap code_of c.in-I64.is) c.in_err-u64_at-in-I64.ensures.fault)

pub returns-in_err-bytes_at-in-Len-clause-fault : goal.returns-in_err-bytes_at-in-Len-clause-fault
returns-in_err-bytes_at-in-Len-clause-fault c =
    let p = err_from_is_err_and c.from_residual-in_err-bytes_at-in-Len.result c.from_residual-in_err-bytes_at-in-Len.ensures.1 in
    rw (p.1, p.2) (len_fault _ _ _ (ap code_of c.in-Len.is) c.in_err-bytes_at-in-Len.ensures.fault)

pub returns-in_err-u32_at-in-I32-clause-fault : goal.returns-in_err-u32_at-in-I32-clause-fault
returns-in_err-u32_at-in-I32-clause-fault c =
    let p = err_from_is_err_and c.from_residual-in_err-u32_at-in-I32.result c.from_residual-in_err-u32_at-in-I32.ensures.1 in
    rw (p.1, p.2) (fixed32_fault _ _ _ (ap code_of c.in-I32.is) c.in_err-u32_at-in-I32.ensures.fault)

pub returns-in_ok-varint_at-in-Varint-clause-ok : goal.returns-in_ok-varint_at-in-Varint-clause-ok
returns-in_ok-varint_at-in-Varint-clause-ok c = λ depth_left k. rw c.in-Varint.is (_, varint_read depth_left k _ _ _ (omega arith) c.in_ok-varint_at-in-Varint.ensures.ok)

pub returns-in_ok-u64_at-in-I64-clause-ok : goal.returns-in_ok-u64_at-in-I64-clause-ok
returns-in_ok-u64_at-in-I64-clause-ok c = λ depth_left k. rw c.in-I64.is (_, fixed64_read depth_left k _ _ _ (omega arith) c.in_ok-u64_at-in-I64.ensures.ok)

pub returns-in_ok-bytes_at-in-Len-clause-ok : goal.returns-in_ok-bytes_at-in-Len-clause-ok
returns-in_ok-bytes_at-in-Len-clause-ok c = λ depth_left k. rw c.in-Len.is (_, len_read depth_left k _ _ _ (c.in_ok-bytes_at-in-Len.ensures.ok k))

pub returns-in_ok-u32_at-in-I32-clause-ok : goal.returns-in_ok-u32_at-in-I32-clause-ok
returns-in_ok-u32_at-in-I32-clause-ok c = λ depth_left k. rw c.in-I32.is (_, fixed32_read depth_left k _ _ _ (omega arith) c.in_ok-u32_at-in-I32.ensures.ok)
