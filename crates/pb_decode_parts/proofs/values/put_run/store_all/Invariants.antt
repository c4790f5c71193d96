use Rattle.std.proofs.Common.{◌≡◌, map}
use Rattle.std.specs.Vec.Iter.{into_iter_items}
use Rattle.pb_value.specs.Data.{fields_of}
use Rattle.pb_value.specs.Change.{push_each, with_fields}
use Rattle.pb_value.specs.View.{body_view, value_view}
use Rattle.pb_decode_parts.proofs.values.put_run.store_all.Given as goal

abbrev pub invariant-loop-value : goal.invariant-loop-value
invariant-loop-value l =
    with_fields (body_view l.message) (push_each l.number (map value_view (into_iter_items l.value-iterator)) (fields_of (body_view l.message)))
    ≡ with_fields (body_view l.fn.message) (push_each l.number (map value_view l.fn.values.items) (fields_of (body_view l.fn.message)))
