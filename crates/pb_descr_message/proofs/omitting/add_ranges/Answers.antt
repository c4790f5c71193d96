use Rattle.std.proofs.Common.{map}
use Rattle.pb_value.specs.View.{value_view}
use Rattle.pb_descr_message.specs.Omitted.{omitted_view, range_parts}
use Rattle.pb_descr_message.proofs.OmittedLemmas.{element, gathered_more}
use Rattle.pb_descr_message.proofs.omitting.add_ranges.Goals as goal

pub loop-range-preserved : goal.loop-range-preserved
loop-range-preserved c =
    let there = element c.args.ranges.now c.loop-range._range-index c.loop-range-test.true in
    gathered_more value_view (range_parts c.args.file c.args.name.now) c.args.ranges.now c.loop-range._range-index there.0 (map omitted_view c.args.omitted.now.items) (map omitted_view c.loop-range.omitted.items) (map omitted_view c.add_part.new.omitted.items)
    c.loop-range-test.true there.1 c.loop-range.invariant c.in_ok-add_part.ensures
