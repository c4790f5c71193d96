use Rattle.std.proofs.Common.{◌≡◌}
use Rattle.std.specs.Vec.Iter.{into_iter_items}
use Rattle.pb_value.specs.KeyOrder.{map_key_cmp}
use Rattle.pb_decode_parts.specs.Close.Mapped.{insert_in_turn}
use Rattle.pb_decode_parts.proofs.values.put_entries.insert_each.Given as goal

abbrev pub invariant-loop-key : goal.invariant-loop-key
invariant-loop-key l = insert_in_turn map_key_cmp (into_iter_items l.key-iterator) l.map.entries ≡ insert_in_turn map_key_cmp l.fn.entries.items l.fn.map.entries
