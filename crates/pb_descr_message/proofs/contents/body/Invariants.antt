use Rattle.std.proofs.Common.{◌≡◌, ◌++◌, map}
use Rattle.std.specs.Array.Iter.{array_into_iter_items}
use Rattle.pb_value.specs.View.{fields_view}
use Rattle.pb_descr_message.specs.Contents.{entry_view}
use Rattle.pb_descr_message.specs.Writing.{fields_with}
use Rattle.pb_descr_message.proofs.contents.body.Given as goal

abbrev pub invariant-loop-number : goal.invariant-loop-number
invariant-loop-number g l = record {
  split : l.yielded ++ array_into_iter_items l.number-iterator ≡ l.fn.contents;
  written : fields_view l.fields.entries ≡ fields_with (map entry_view l.yielded);
}
