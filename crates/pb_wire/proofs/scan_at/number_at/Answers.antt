-- A number at the front of a slice is one at its index.
use Rattle.std.proofs.Common.{arith}
use Rattle.pb_wire.specs.Fault.{Fault, Place}
use Rattle.pb_wire.specs.Scan.{here, number_view, Follows, NumberFault, TellsNumber}
use Rattle.pb_wire.specs.declared.scan.Scanned.TheVariants as scanned
use Rattle.pb_wire.proofs.HereLemmas.{at_here, after_here, cut_here, moved_by_number}
use Rattle.pb_wire.proofs.scan_at.number_at.Goals as goal

pub overflow_add-result : goal.overflow_add-result
overflow_add-result c =
    let told = at_here (TellsNumber c.args.code) c.args.bytes.now c.args.at c.left_after.result c.args.to (scanned.Whole c.in-Whole.number c.in-Whole.size) c.left_after.ensures (c.in-Whole.ensures c.args.at) in
    let moved = moved_by_number c.args.bytes.now c.args.at c.in-Whole.size c.in-Whole.number c.args.to c.requires.at_in_bounds told.0 told.1.1 in
    omega (arith, moved.1)

pub returns-in-Whole-clause-within : goal.returns-in-Whole-clause-within
returns-in-Whole-clause-within c =
    let told = at_here (TellsNumber c.args.code) c.args.bytes.now c.args.at c.left_after.result c.args.to (scanned.Whole c.in-Whole.number c.in-Whole.size) c.left_after.ensures (c.in-Whole.ensures c.args.at) in
    let moved = moved_by_number c.args.bytes.now c.args.at c.in-Whole.size c.in-Whole.number c.args.to c.requires.at_in_bounds told.0 told.1.1 in
    moved

pub returns-in-Whole-clause-ok : goal.returns-in-Whole-clause-ok
returns-in-Whole-clause-ok c =
    let told = at_here (TellsNumber c.args.code) c.args.bytes.now c.args.at c.left_after.result c.args.to (scanned.Whole c.in-Whole.number c.in-Whole.size) c.left_after.ensures (c.in-Whole.ensures c.args.at) in
    after_here (λ (q : Place). Follows (here c.args.bytes.now c.args.at c.args.to) (number_view c.in-Whole.number) q) c.args.bytes.now c.args.at c.in-Whole.size c.args.to told.1.1

pub returns-in-Short-clause-fault : goal.returns-in-Short-clause-fault
returns-in-Short-clause-fault c =
    rw c.refused.ensures (cut_here (λ (f : Fault). NumberFault c.args.code (here c.args.bytes.now c.args.at c.args.to) f) c.args.bytes.now c.args.at c.args.to c.requires.at_in_bounds
    (at_here (TellsNumber c.args.code) c.args.bytes.now c.args.at c.left_after.result c.args.to scanned.Short c.left_after.ensures (c.in-Short.ensures c.args.at)))

pub returns-in-Fault-clause-fault : goal.returns-in-Fault-clause-fault
returns-in-Fault-clause-fault c =
    rw c.refused-in-Fault.ensures ((at_here (TellsNumber c.args.code) c.args.bytes.now c.args.at c.left_after.result c.args.to (scanned.Fault c.in-Fault.cause) c.left_after.ensures (c.in-Fault.ensures c.args.at)).1)

pub returns-in-Whole-clause-of_type : goal.returns-in-Whole-clause-of_type
returns-in-Whole-clause-of_type c = (at_here (TellsNumber c.args.code) c.args.bytes.now c.args.at c.left_after.result c.args.to (scanned.Whole c.in-Whole.number c.in-Whole.size) c.left_after.ensures (c.in-Whole.ensures c.args.at)).1.0
