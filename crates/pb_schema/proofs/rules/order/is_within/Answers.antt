use Rattle.std.proofs.Common.{sym, map, arith}
use Rattle.pb_schema.specs.View.{message_view}
use Rattle.pb_schema.proofs.OrderLemmas.{iff_trans, iff_sym, within_parent, within_end}
use Rattle.pb_schema.proofs.rules.order.is_within.Goals as goal

pub loop-at-preserved : goal.loop-at-preserved
loop-at-preserved c =
    let earlier = c.requires c.loop-at.at c.in-Some.parent.0 (omega (arith, c.loop-at.invariant.0)) (sym c.in-Some.ensures) in
    (omega (arith, earlier, c.loop-at.invariant.0), iff_trans c.loop-at.invariant.1 (within_parent (map message_view c.args.messages.now) c.in-Some.parent.0 c.args.outer c.loop-at.at (sym c.in-Some.ensures) c.loop-at-test.true))

pub returns : goal.returns
returns c =
    iff_trans (within_end (map message_view c.args.messages.now) _ c.args.outer c.loop-at.at c.requires (omega (arith, c.loop-at.invariant.0)) c.loop-at-test.false) (iff_sym c.loop-at.invariant.1)
