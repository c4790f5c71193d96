use Rattle.std.proofs.Common.{[], Some, ◌+◌}
use Rattle.pb_wire.specs.Sound.{no_elements}
use Rattle.pb_wire.proofs.Places.{moves_nothing}
use Rattle.pb_wire.specs.Scan.{here}
use Rattle.pb_validate.proofs.HereLemmas.{elements_more}
use Rattle.pb_validate.proofs.payload.elements_end.Goals as goal

pub loop-at-init : goal.loop-at-init
loop-at-init c =
    (c.requires.start_in_bounds, [], no_elements, moves_nothing (here c.args.bytes.now c.args.start (Some (c.args.start + c.args.size))))

pub loop-at-preserved : goal.loop-at-preserved
loop-at-preserved c =
    let more = elements_more c.loop-at.invariant.1 c.loop-at.invariant.2 c.loop-at.invariant.3 c.in_ok-at.ensures.ok in
    (c.in_ok-at.ensures.within.1, more.0, more.1, more.2)
