use Rattle.std.proofs.Common.{◌≡◌, ◌++◌, flat_map, map, take}
use Rattle.pb_value.specs.View.{value_view}
use Rattle.pb_descr_message.specs.Omitted.{omitted_view, range_parts}
use Rattle.pb_descr_message.proofs.omitting.add_ranges.Given as goal

abbrev pub invariant-loop-range : goal.invariant-loop-range
invariant-loop-range l =
    map omitted_view l.omitted.items ≡ map omitted_view l.initial.omitted.items ++ flat_map (range_parts l.file l.name) (map value_view (take l._range-index l.ranges))
