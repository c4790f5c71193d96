-- A length at the front of a slice is one at its index.
use Rattle.std.proofs.Common.{arith}
use Rattle.pb_wire.specs.Fault.{Fault, Place, HasLength, LengthFault}
use Rattle.pb_wire.specs.Scan.{here, TellsLength}
use Rattle.pb_wire.specs.declared.scan.Scanned.TheVariants as scanned
use Rattle.pb_wire.proofs.HereLemmas.{at_here, after_here, cut_here, moved_by}
use Rattle.pb_wire.proofs.scan_at.length_at.Goals as goal

pub overflow_add-result : goal.overflow_add-result
overflow_add-result c =
    let told = at_here (TellsLength) c.args.bytes.now c.args.at c.left_after.result c.args.to (scanned.Whole c.in-Whole.length c.in-Whole.size) c.left_after.ensures (c.in-Whole.ensures c.args.at) in
    let moved = moved_by c.args.bytes.now c.args.at c.in-Whole.size c.in-Whole.length c.args.to c.requires told.0 told.1.length_is in
    omega (arith, moved.1)

pub returns-in-Whole-clause-within : goal.returns-in-Whole-clause-within
returns-in-Whole-clause-within c =
    let told = at_here (TellsLength) c.args.bytes.now c.args.at c.left_after.result c.args.to (scanned.Whole c.in-Whole.length c.in-Whole.size) c.left_after.ensures (c.in-Whole.ensures c.args.at) in
    let moved = moved_by c.args.bytes.now c.args.at c.in-Whole.size c.in-Whole.length c.args.to c.requires told.0 told.1.length_is in
    (moved.0, moved.1, told.1.small)

pub returns-in-Whole-clause-ok : goal.returns-in-Whole-clause-ok
returns-in-Whole-clause-ok c =
    let told = at_here (TellsLength) c.args.bytes.now c.args.at c.left_after.result c.args.to (scanned.Whole c.in-Whole.length c.in-Whole.size) c.left_after.ensures (c.in-Whole.ensures c.args.at) in
    after_here (λ (q : Place). HasLength (here c.args.bytes.now c.args.at c.args.to) c.in-Whole.length q) c.args.bytes.now c.args.at c.in-Whole.size c.args.to told.1

pub returns-in-Short-clause-fault : goal.returns-in-Short-clause-fault
returns-in-Short-clause-fault c =
    rw c.refused.ensures (cut_here (λ (f : Fault). LengthFault (here c.args.bytes.now c.args.at c.args.to) f) c.args.bytes.now c.args.at c.args.to c.requires
    (at_here (TellsLength) c.args.bytes.now c.args.at c.left_after.result c.args.to scanned.Short c.left_after.ensures (c.in-Short.ensures c.args.at)))

pub returns-in-Fault-clause-fault : goal.returns-in-Fault-clause-fault
returns-in-Fault-clause-fault c =
    rw c.refused-in-Fault.ensures ((at_here (TellsLength) c.args.bytes.now c.args.at c.left_after.result c.args.to (scanned.Fault c.in-Fault.cause) c.left_after.ensures (c.in-Fault.ensures c.args.at)).1)
