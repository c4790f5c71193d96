use Rattle.std.proofs.Common.{◌≡◌, ◌-◌, suc, [], ◌∷◌, arith, refl, ap}
use Rattle.std.proofs.lemmas.Result.{err_from_is_err_and}
use Rattle.pb_wire.specs.WireType.{code_of}
use Rattle.pb_wire.specs.Fault.{step}
use Rattle.pb_wire.specs.Grammar.{RecordFault}
use Rattle.pb_wire.proofs.RecordIterLemmas.{varint_read, fixed64_read, fixed32_read, len_read, varint_fault, fixed64_fault, fixed32_fault, len_fault, fault_of_value, fault_of_group, shows_record, shows_group, moved_bytes}
use Rattle.pb_wire.proofs.iter.record_at.Goals as goal

pub returns-in_err-number-clause-fault : goal.returns-in_err-number-clause-fault
returns-in_err-number-clause-fault c =
    let p = err_from_is_err_and c.from_residual.result c.from_residual.ensures.1 in
    rw (p.1, p.2) ([], RecordFault.tag c.in_err-number.ensures.fault)

pub returns-in_err-n-in-Varint-clause-fault : goal.returns-in_err-n-in-Varint-clause-fault
returns-in_err-n-in-Varint-clause-fault c =
    let p = err_from_is_err_and c.from_residual-in_err-n-in-Varint.result c.from_residual-in_err-n-in-Varint.ensures.1 in
    rw (p.1, p.2)
    (fault_of_value c.args.max_depth _ c.in_ok-number.number _ _ _ c.in_ok-number.ensures.ok
    (varint_fault _ _ _ (ap code_of c.in-Varint.is) c.in_err-n-in-Varint.ensures.fault))

pub returns-in_err-n-in-I64-clause-fault : goal.returns-in_err-n-in-I64-clause-fault
returns-in_err-n-in-I64-clause-fault c =
    let p = err_from_is_err_and c.from_residual-in_err-n-in-I64.result c.from_residual-in_err-n-in-I64.ensures.1 in
    rw (p.1, p.2)
    (fault_of_value c.args.max_depth _ c.in_ok-number.number _ _ _ c.in_ok-number.ensures.ok
    (fixed64_fault _ _ _ (ap code_of c.in-I64.is) c.in_err-n-in-I64.ensures.fault))

pub returns-in_err-payload-in-Len-clause-fault : goal.returns-in_err-payload-in-Len-clause-fault
returns-in_err-payload-in-Len-clause-fault c =
    let p = err_from_is_err_and c.from_residual-in_err-payload-in-Len.result c.from_residual-in_err-payload-in-Len.ensures.1 in
    rw (p.1, p.2)
    (fault_of_value c.args.max_depth _ c.in_ok-number.number _ _ _ c.in_ok-number.ensures.ok
    (len_fault _ _ _ (ap code_of c.in-Len.is) c.in_err-payload-in-Len.ensures.fault))

pub returns-in_err-n-in-I32-clause-fault : goal.returns-in_err-n-in-I32-clause-fault
returns-in_err-n-in-I32-clause-fault c =
    let p = err_from_is_err_and c.from_residual-in_err-n-in-I32.result c.from_residual-in_err-n-in-I32.ensures.1 in
    rw (p.1, p.2)
    (fault_of_value c.args.max_depth _ c.in_ok-number.number _ _ _ c.in_ok-number.ensures.ok
    (fixed32_fault _ _ _ (ap code_of c.in-I32.is) c.in_err-n-in-I32.ensures.fault))

pub returns-then-max_depth-eq0-clause-fault : goal.returns-then-max_depth-eq0-clause-fault
returns-then-max_depth-eq0-clause-fault c =
    rw c.refused.ensures
    (step c.in_ok-number.number [] ∷ [], RecordFault.group_too_deep (rw c.in-StartGroup.is at c.in_ok-number.ensures.ok) c.if-max_depth-eq0.true refl)

pub returns-in_err-end-in-StartGroup-clause-fault : goal.returns-in_err-end-in-StartGroup-clause-fault
returns-in_err-end-in-StartGroup-clause-fault c =
    let p = err_from_is_err_and c.from_residual-in_err-end-in-StartGroup.result c.from_residual-in_err-end-in-StartGroup.ensures.1 in
    rw (p.1, p.2)
    (fault_of_group c.args.max_depth c.in_ok-number.number _ _ _ (omega arith) (rw c.in-StartGroup.is at c.in_ok-number.ensures.ok)
    c.in_err-end-in-StartGroup.ensures.fault)

pub returns-in_ok-n-in-Varint-clause-ok : goal.returns-in_ok-n-in-Varint-clause-ok
returns-in_ok-n-in-Varint-clause-ok c = shows_record _ _ (rw c.in-Varint.is at c.in_ok-number.ensures.ok) (varint_read _ _ _ _ _ (omega arith) c.in_ok-n-in-Varint.ensures.ok) refl

pub returns-in_ok-n-in-I64-clause-ok : goal.returns-in_ok-n-in-I64-clause-ok
returns-in_ok-n-in-I64-clause-ok c = shows_record _ _ (rw c.in-I64.is at c.in_ok-number.ensures.ok) (fixed64_read _ _ _ _ _ (omega arith) c.in_ok-n-in-I64.ensures.ok) refl

pub returns-in_ok-payload-in-Len-clause-ok : goal.returns-in_ok-payload-in-Len-clause-ok
returns-in_ok-payload-in-Len-clause-ok c = shows_record _ _ (rw c.in-Len.is at c.in_ok-number.ensures.ok) (len_read _ _ _ _ _ (c.in_ok-payload-in-Len.ensures.ok c.in_ok-number.number)) refl

pub returns-in_ok-n-in-I32-clause-ok : goal.returns-in_ok-n-in-I32-clause-ok
returns-in_ok-n-in-I32-clause-ok c = shows_record _ _ (rw c.in-I32.is at c.in_ok-number.ensures.ok) (fixed32_read _ _ _ _ _ (omega arith) c.in_ok-n-in-I32.ensures.ok) refl

pub returns-in_ok-end-in-StartGroup-clause-ok : goal.returns-in_ok-end-in-StartGroup-clause-ok
returns-in_ok-end-in-StartGroup-clause-ok c =
    let found = c.in_ok-end-in-StartGroup.ensures.ok in
    let level : c.args.max_depth ≡ suc (c.args.max_depth - 1) = omega arith in
    shows_group c.args.max_depth (c.args.max_depth - 1) c.in_ok-number.number _ _ _ _ found.0 _ level
    (rw c.in-StartGroup.is at c.in_ok-number.ensures.ok) found.1 found.2 (moved_bytes _ _ _ _ found.1.spelled.2)
