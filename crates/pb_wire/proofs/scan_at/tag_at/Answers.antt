-- A whole varint is a tag or is refused as one, and the end of a group is one of the group that is open.
use Rattle.std.proofs.Common.{ℕ, subst}
use Rattle.pb_wire.specs.Fault.{HasTag}
use Rattle.pb_wire.specs.Scan.{here}
use Rattle.pb_wire.proofs.scan_at.tag_at.Goals as goal

pub returns-in-Err-clause-fault : goal.returns-in-Err-clause-fault
returns-in-Err-clause-fault c = rw c.refused.ensures (c.in-Err.ensures.refused _ _ c.args.innermost c.in_ok-tag.ensures.ok)

pub returns-in_default-clause-ok : goal.returns-in_default-clause-ok
returns-in_default-clause-ok c = c.in-Ok.ensures.whole _ _ c.in_ok-tag.ensures.ok

pub returns-else-tag-eq4-clause-ok : goal.returns-else-tag-eq4-clause-ok
returns-else-tag-eq4-clause-ok c = c.in-Ok.ensures.whole _ _ c.in_ok-tag.ensures.ok

pub returns-in-Err-group_end-clause-fault : goal.returns-in-Err-group_end-clause-fault
returns-in-Err-group_end-clause-fault c =
    let from = here c.args.bytes.now c.args.at c.args.to in
    let after = here c.args.bytes.now c.in_ok-tag.end c.args.to in
    let ends : HasTag from c.in-Ok.tag.number 4 after = subst (λ (w : ℕ). HasTag from c.in-Ok.tag.number w after) c.if-tag-eq4.true (c.in-Ok.ensures.whole _ _ c.in_ok-tag.ensures.ok) in
    rw c.refused-in-Err-group_end.ensures (c.in-Err-group_end.ensures.refused from after ends)
